-- By the form: 40 to 49 write a branch register; 0, stores and control none; the others a general register.
use native.Mathlib.Omega.{arith}
use mathlib.Core.Path.{◌≡◌, sym, ◌∙◌}
use mathlib.Core.Logic.{inl, inr}
use mathlib.Core.Bool.{false}
use Rattle.isa.specs.Syllable.{opcode, within}
use Rattle.isa.proofs.Formats.{within_range}
use Rattle.isa.proofs.Written.{to_branch, to_general, to_none}
use Rattle.isa.proofs.decode.written.Goals as goal
use Rattle.isa.proofs.decode.written.Goals.{Else-within}

-- not 40 to 49
other : (c : Else-within) → within 40 49 (opcode c.args.s) ≡ false
other c = rw c.opcode-o.ensures at (sym c.within.ensures ∙ c.if-within.false)

pub returns-then-within : goal.returns-then-within
returns-then-within c =
    c.branch_at.ensures ∙ sym (to_branch c.args.c c.args.s (within_range 40 49 _ (rw c.opcode-o.ensures at (sym c.within.ensures ∙ c.if-within.true))))

pub returns-then-o-eq0 : goal.returns-then-o-eq0
returns-then-o-eq0 c = sym (to_none c.args.c c.args.s (inl (sym c.opcode-o.ensures ∙ c.if-o-eq0.true)))

pub returns-then-o-le56 : goal.returns-then-o-le56
returns-then-o-le56 c =
    c.general_at.ensures ∙ sym (to_general c.args.c c.args.s (omega (arith, c.opcode-o.ensures)) (other (goal.at.returns-then-o-le56 c).Else-within) (inl (omega (arith, c.opcode-o.ensures))))

pub returns-then-o-eq60 : goal.returns-then-o-eq60
returns-then-o-eq60 c =
    c.general_at-then-o-eq60.ensures ∙ sym (to_general c.args.c c.args.s (omega (arith, c.opcode-o.ensures)) (other (goal.at.returns-then-o-eq60 c).Else-within) (inr (sym c.opcode-o.ensures ∙ c.if-o-eq60.true)))

pub returns-else-o-eq60 : goal.returns-else-o-eq60
returns-else-o-eq60 c =
    sym (to_none c.args.c c.args.s (inr (omega (arith, c.opcode-o.ensures), λ k. c.if-o-eq60.false (c.opcode-o.ensures ∙ k))))
