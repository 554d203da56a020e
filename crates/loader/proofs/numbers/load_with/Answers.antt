use mathlib.Core.Path.{sym, ◌∙◌}
use Rattle.std.proofs.Common.{rules}
use Rattle.tables.proofs.Bounds.{bounds}
use Rattle.loader.specs.Load.{loaded_with}
use Rattle.loader.proofs.numbers.load_with.Goals as goal

pub returns-then-breaks : goal.returns-then-breaks
unfolding loaded_with
returns-then-breaks c = rw (sym c.breaks.ensures ∙ c.if-breaks.true)

pub tested-requires : goal.tested-requires
tested-requires c =
    let passes = sym c.breaks.ensures ∙ c.if-breaks.false in
    record { bounds = rw c.read.ensures (bounds _ passes); program_value = c.requires c.in_ok-sizes.was }

pub returns-in_err-sizes : goal.returns-in_err-sizes
unfolding loaded_with
returns-in_err-sizes c = rw (sym c.breaks.ensures ∙ c.if-breaks.false, c.in_err-sizes.was) (search rules)

pub returns : goal.returns
unfolding loaded_with
returns c =
    rw (sym c.breaks.ensures ∙ c.if-breaks.false, c.in_ok-sizes.was, ← c.read.ensures) c.tested.ensures
