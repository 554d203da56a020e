use mathlib.Core.Path.{◌≡◌}
use Prim.Native.Nat.{◌+◌, ◌*◌, ◌≤◌}
use lib.ListN.{length, take}
use Rattle.std.specs.Iterator.Adapters.{take_source, take_count}
use Rattle.std.specs.Slice.Iter.{chunks_exact_rest, chunks_exact_size}
use Rattle.word.specs.Bytes.{words}
use Rattle.assembly.specs.Printed.{syllable_rows}
use Rattle.assembly.proofs.Rows.{Put}
use Rattle.assembly.proofs.printing.syllables.Given as goal

abbrev pub invariant-loop-syllable : goal.invariant-loop-syllable
invariant-loop-syllable l =
    (goal.iterator-loop-syllable).can_next l.syllable-iterator × (goal.iterator-loop-syllable).is_finite l.syllable-iterator
    × (chunks_exact_size (take_source l.syllable-iterator) ≡ 4)
    × (length l.out.items * 4 + length (chunks_exact_rest (take_source l.syllable-iterator)) * 9 ≤ 147456)
    × Put (syllable_rows (take l.count (words l.program))) l.out.items (take_count l.syllable-iterator) (chunks_exact_rest (take_source l.syllable-iterator))
