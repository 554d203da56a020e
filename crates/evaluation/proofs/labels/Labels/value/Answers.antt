use mathlib.Core.Path.{◌≡◌, sym, ap, ◌∙◌}
use Prim.Native.Nat.{◌+◌, ◌-◌}
use native.Mathlib.Omega.{arith}
use Rattle.std.proofs.Common.{rules}
use Rattle.std.specs.Prelude.{None, Ok}
use Rattle.values.specs.Values.{half}
use Rattle.values.proofs.Range.{within_is, within_high}
use Rattle.evaluation.proofs.Seeking.{label_value}
use Rattle.evaluation.proofs.labels.Labels.value.Goals as goal

pub returns-then-g : goal.returns-then-g
returns-then-g c =
    let e : half + c.in-Some.g.value ≡ c.in-Some.g.value + half - 0 = omega arith in
    ap Ok e ∙ sym (label_value c.args.self.now.text.now c.args.name.now c.find.ensures c.in-Some.is ∙ within_is c.in-Some.g.value 0 (omega arith) (omega arith))

pub returns-in_default : goal.returns-in_default
returns-in_default c =
    sym (label_value c.args.self.now.text.now c.args.name.now {r = None} c.find.ensures (search rules))

pub returns-else-g : goal.returns-else-g
returns-else-g c =
    sym (label_value c.args.self.now.text.now c.args.name.now c.find.ensures c.in-Some.is ∙ within_high c.in-Some.g.value 0 (omega arith))
