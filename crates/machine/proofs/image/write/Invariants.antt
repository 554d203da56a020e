-- The invariant: the registers so far are put after the place.
use Rattle.std.proofs.Common.{◌≡◌, length, take}
use Rattle.std.proofs.lemmas.List.Edits.{sets}
use Rattle.word.specs.Bytes.{put_word}
use Rattle.machine.specs.Image.{image_offset, register_bytes}
use Rattle.machine.specs.State.{registers_of}
use Rattle.machine.proofs.image.write.Given as goal

abbrev pub invariant-loop-r : goal.invariant-loop-r
invariant-loop-r l =
    (length l.image ≡ 2888)
    × (l.image ≡ sets (put_word 0 l.s.place.0 l.fn.image) (image_offset 0) (register_bytes (take l.r (registers_of l.s))))
