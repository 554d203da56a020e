use mathlib.Core.Path.{◌≡◌, ap, ◌∙◌}
use Prim.Native.Nat.{◌+◌, ◌<◌}
use native.Mathlib.Omega.{arith}
use lib.ListN.{length, length-append}
use Rattle.std.specs.Iterator.Adapters.{take_source, take_count}
use Rattle.std.specs.Slice.Iter.{chunks_exact_rest, chunks_exact_size}
use Rattle.assembly.proofs.Rows.{put_more, put_all}
use Rattle.assembly.proofs.printing.syllables.Goals as goal

pub loop-syllable-preserved : goal.loop-syllable-preserved
loop-syllable-preserved c =
    let s = c.in-Some.ensures.steps in
    let rest = chunks_exact_rest (take_source c.next.new.self) in
    let four : length c.in-Some.syllable.now ≡ 4 = s.0.1.1 ∙ c.loop-syllable.invariant.2 in
    let size : chunks_exact_size (take_source c.next.new.self) ≡ 4 = s.0.0 ∙ c.loop-syllable.invariant.2 in
    let l : length (chunks_exact_rest (take_source c.loop-syllable.syllable-iterator)) ≡ 4 + length rest =
    omega (arith, ap length s.0.1.0, length-append c.in-Some.syllable.now rest) in
    (omega arith, tt, size, omega arith, put_more c.in-Some.syllable.now c.loop-syllable.invariant.4 s.0.1.0 four s.1 c.word_at-s.ensures c.behind.ensures c.push_field.ensures.is)

pub returns-clause-is : goal.returns-clause-is
returns-clause-is c =
    put_all c.loop-syllable.invariant.4 (λ (h : 0 < take_count c.loop-syllable.syllable-iterator). rw c.loop-syllable.invariant.2 at (c.in-None.ensures.steps h).1.0)
