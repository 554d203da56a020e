-- By the number in bits 23..18.
use borrow.Author.Tests.{ne_eqb}
use mathlib.Core.Path.{sym, ◌∙◌}
use native.Mathlib.Omega.{arith}
use Rattle.isa.specs.declared.Format.TheVariants.{Still}
use Rattle.isa.proofs.Arms.{as_way}
use Rattle.isa.proofs.control.still.Goals as goal

pub returns-in-1 : goal.returns-in-1
returns-in-1 c = as_way _ Still _ c.requires (rw (sym c.bits.ensures ∙ c.in-1.is))

pub returns-in-2 : goal.returns-in-2
returns-in-2 c = as_way _ Still _ c.requires (rw (sym c.bits.ensures ∙ c.in-2.is, c.bits-in-2.ensures))

pub returns-in-3 : goal.returns-in-3
returns-in-3 c = as_way _ Still _ c.requires (rw (sym c.bits.ensures ∙ c.in-3.is))

pub returns-in_default : goal.returns-in_default
returns-in_default c =
    as_way _ Still _ c.requires
    (rw (
      ← c.bits.ensures,
      ne_eqb c.bits.result 1 (λ e. omega arith),
      ne_eqb c.bits.result 2 (λ e. omega arith),
      ne_eqb c.bits.result 3 (λ e. omega arith),
    ))
