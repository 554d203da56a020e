-- The loop's invariant: the list holds some late results, and those of the syllables that are left make all; at most two are of each syllable.
use mathlib.Core.Path.{◌≡◌, refl, ◌∙◌}
use mathlib.Core.List.{List, [], ◌∷◌, ◌++◌, append-nil}
use Prim.Native.Nat.{suc}
use native.Mathlib.Omega.{arith}
use lib.ListN.{length}
use Rattle.word.specs.Bytes.{words}
use Rattle.isa.specs.Touch.{delay_of}
use Rattle.isa.specs.Walk.{spots_left}
use Rattle.isa.specs.declared.Spot.{Spot}
use Rattle.isa.proofs.Instructions.{spots_length}
use Rattle.schedule.specs.Late.{made}
use Rattle.schedule.specs.Stamps.{Registers}
use Rattle.schedule.proofs.Laid.{few_all, few_here, few_left, names_here}
use Rattle.schedule.proofs.Keeping.{none_kept, dests_on}
use Rattle.schedule.proofs.late.late_results.Goals as goal
use Rattle.schedule.proofs.late.late_results.Goals.{After-operation-o}

pub loop-x-init : goal.loop-x-init
loop-x-init c =
    rw (c.into_iter-x-iterator.ensures.into_iter_gives, c.spots-x-items.ensures, c.clear.ensures)
    (few_all c.requires.decodable, omega (arith, c.requires.decodable.short, spots_length (words c.args.stretch.now)), [], none_kept, refl)

pub operation-o-requires : goal.operation-o-requires
operation-o-requires c = few_here c.loop-x.invariant.0 c.in-Some.ensures.steps

named : (c : After-operation-o) → Registers c.operation-o.result
named c = names_here c.loop-x.invariant.0 c.in-Some.ensures.steps c.operation-o.ensures

fewer : (xs ys : List Spot) (x : Spot) → xs ≡ x ∷ ys → length xs ≡ suc (length ys)
fewer xs ys x e = rw e

pub keep-requires-clause-register_bound : goal.keep-requires-clause-register_bound
keep-requires-clause-register_bound c = (named (goal.at.keep-requires-clause-register_bound c).After-operation-o).t

pub keep-requires-clause-count_bound : goal.keep-requires-clause-count_bound
keep-requires-clause-count_bound c = omega (arith, c.loop-x.invariant.1, fewer _ _ _ c.in-Some.ensures.steps)

pub keep-requires-in-loop-x-clause-register_bound : goal.keep-requires-in-loop-x-clause-register_bound
keep-requires-in-loop-x-clause-register_bound c = (named (goal.at.keep-requires-in-loop-x-clause-register_bound c).After-operation-o).carry

pub keep-requires-in-loop-x-clause-count_bound : goal.keep-requires-in-loop-x-clause-count_bound
keep-requires-in-loop-x-clause-count_bound c = omega (arith, c.loop-x.invariant.1, fewer _ _ _ c.in-Some.ensures.steps)

pub loop-x-preserved : goal.loop-x-preserved
loop-x-preserved c =
    let o = c.operation-o.result in
    let d = c.args.d in
    let es = c.loop-x.invariant.2 in (
      few_left c.loop-x.invariant.0 c.in-Some.ensures.steps,
      omega (arith, c.loop-x.invariant.1, fewer _ _ _ c.in-Some.ensures.steps),
      (es ++ made o.t (delay_of d o.opcode o.t)) ++ made o.carry (delay_of d o.opcode o.carry),
      c.keep-in-loop-x.ensures.late_of _ (c.keep.ensures.late_of es c.loop-x.invariant.3),
      dests_on d es c.in-Some.x (spots_left c.next.new.self) c.operation-o.ensures ∙ rw c.in-Some.ensures.steps at c.loop-x.invariant.4,
    )

pub returns : goal.returns
returns c = rw (← rw (c.in-None.ensures.steps.0, append-nil) at c.loop-x.invariant.4) c.loop-x.invariant.3
