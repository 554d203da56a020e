-- The bytes from a start to the following place are within the program, and have the instruction's syllables.
use mathlib.Core.Path.{◌≡◌, sym}
use mathlib.Core.Bool.{true}
use mathlib.Core.List.{List}
use Prim.Native.Nat.{ℕ, ◌-◌, ◌*◌, ◌≤◌, ◌<◌}
use native.Mathlib.Omega.{arith}
use lib.ListN.{length, take, drop}
use Rattle.word.specs.Bytes.{words}
use Rattle.word.proofs.Bytes.{words_length, words_part}
use Rattle.isa.specs.Program.{spots, is_start, instruction_at, following}
use Rattle.isa.proofs.Instructions.{start_inside, following_within, instruction_syllables}
use Rattle.isa.proofs.stretch.cut.Goals as goal
use Rattle.isa.proofs.stretch.cut.Goals.{Start}

within : (c : Start) → following (words c.args.program.now) c.args.at.0 * 4 ≤ length c.args.program.now
within c =
    let p = words c.args.program.now in
    omega (arith, words_length c.args.program.now, following_within p c.args.at.0 (start_inside p c.args.at.0 c.requires))

part : (l : List ℕ) (i n : ℕ) → is_start (words l) i ≡ true → n ≡ following (words l) i
    → spots (words (take (n * 4 - i * 4) (drop (i * 4) l))) ≡ instruction_at (words l) i
part l i n h e =
    let q : n * 4 - i * 4 ≡ (n - i) * 4 = omega arith in
    rw (q, words_part (n - i) i l, e) (sym (instruction_syllables (words l) i h))

inside : (c : Start) → c.args.at.0 < length (words c.args.program.now)
inside c = start_inside (words c.args.program.now) c.args.at.0 c.requires

pub returns : goal.returns
returns c =
    part c.args.program.now c.args.at.0 _ c.requires c.following-e.ensures

pub overflow_mul-a : goal.overflow_mul-a
overflow_mul-a c = omega (arith, words_length c.args.program.now, inside (goal.at.overflow_mul-a c).Start)

pub following-e-requires : goal.following-e-requires
following-e-requires c = inside (goal.at.following-e-requires c).Start

pub overflow_mul-e : goal.overflow_mul-e
overflow_mul-e c = omega (arith, c.following-e.ensures, within (goal.at.overflow_mul-e c).Start)

pub slice_bounds-result-end : goal.slice_bounds-result-end
slice_bounds-result-end c = omega (arith, c.following-e.ensures, within (goal.at.slice_bounds-result-end c).Start)
