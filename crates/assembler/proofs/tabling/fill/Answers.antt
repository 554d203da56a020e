use mathlib.Core.Path.{sym, ap, subst, ◌∙◌}
use mathlib.Core.List.{List, ◌++◌}
use Prim.Native.Nat.{ℕ, ◌<◌}
use native.Mathlib.Omega.{arith}
use lib.ListN.{length}
use Rattle.std.proofs.Common.{rules}
use Rattle.source.specs.Walk.{refused}
use Rattle.source.specs.Seek.{name_in, walk_of}
use Rattle.source.proofs.Places.{step_here}
use Rattle.evaluation.proofs.Tables.{as_many}
use Rattle.assembler.specs.Passes.{hashed, noted}
use Rattle.assembler.proofs.Tables.{Upto, upto_end, upto_more}
use Rattle.assembler.proofs.tabling.fill.Goals as goal

pub note-requires : goal.note-requires
note-requires c =
    let few : length c.loop-place.known.items < 4096 = search rules in
    let e = as_many c.args.text.now c.loop-place.hashes.items c.loop-place.known.items c.loop-place.invariant.1.sound in
    (omega (arith, e), few)

pub loop-place-preserved : goal.loop-place-preserved
loop-place-preserved c =
    let i = c.loop-place.invariant in
    let g = c.in-Some.ensures.steps in
    let u = subst (λ (x : List ℕ). Upto x c.loop-place.hashes.items c.loop-place.known.items c.loop-place.place-iterator.next c.loop-place.w) (sym i.0) i.1 in
    let r = ap (refused (walk_of c.loop-place.w)) (sym g.heard) ∙ (sym (c.is_refused.ensures c.in-Some.l.bytes.now) ∙ c.if-is_refused.false) in
    let e = step_here g c.step-w.result c.loop-place.w c.step-w.ensures.0 in
    let hashes = c.loop-place.hashes.items ++ hashed (name_in c.in-Some.l.bytes.now c.in-Some.l.line.label) in
    let known = c.loop-place.known.items ++ noted (name_in c.in-Some.l.bytes.now c.in-Some.l.line.label) c.in-Some.place c.loop-place.w.count in
    (g.text ∙ i.0, rw (c.note.ensures.0, c.note.ensures.1) (subst (λ (x : List ℕ). Upto x hashes known c.next.new.self.next c.step-w.result) i.0 (upto_more g u r e c.step-w.ensures.2 c.step-w.ensures.3)))

pub returns : goal.returns
returns c = upto_end c.loop-place.invariant.1 c.in-None.ensures.steps
