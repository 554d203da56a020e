-- Document 01's checked values, by computing. Only the files of examples open an operation's text.
use mathlib.Core.Path.{◌≡◌, refl, ap, ◌∙◌}
use mathlib.Core.Bool.{false}
use mathlib.Core.List.{◌++◌}
use Prim.Native.Nat.{ℕ}
use native.Mathlib.Omega.{arith}
use lib.ListN.{replicate}
use Rattle.word.specs.Bytes.{words, word_at}
use Rattle.vliw.specs.Cell.{still}
use Rattle.ops.specs.Value.{value, carry}
use Rattle.isa.specs.Syllable.{format_of}
use Rattle.isa.specs.Control.{way_of}
use Rattle.isa.specs.Decode.{decode}
use Rattle.tables.specs.Table.{bad_table, table_of}
use Rattle.zero.specs.Zero.{bad_bits}
use Rattle.refusals.specs.Broken.{no_end_at, bad_bits_at, bad_cluster_at, too_wide_at, two_writes_at, bad_control_at}
use Rattle.loader.specs.Load.{tested_by, loaded_with}
use Rattle.machine.specs.Instruction.{acts}
use Rattle.machine.specs.Image.{image_offset, cells_from, registers_in, image_of}
use Rattle.machine.specs.Valid.{bad_state}
use Rattle.call.specs.Run.{Call, Outcome, ran_of}
use Rattle.demands.proofs.Taken.{Taken, left_by, taken_runs}
use Rattle.samples.specs.Wrong.{room}
use Rattle.samples.specs.Checked.{swapping, left_in, Checked}
use Rattle.samples.proofs.Left.{zero_cells}
use Rattle.samples.proofs.Examples.{two_on, three_on}

-- the swap loads and its state is valid, so what it leaves is the machine's image: nothing of it is computed but the two registers
swap : Call
swap = swapping 0x33333333 0x44444444

given : registers_in swap.state ≡ cells_from swap.state 0 5 ++ replicate 283 still
unfolding swap registers_in
given = ap (λ l. cells_from swap.state 0 5 ++ l) (zero_cells swap.state 54 2834 refl 5 283 (omega arith))

valid : bad_state (words swap.program) swap.state ≡ false
unfolding swap bad_state
valid = rw given

taken : Taken swap
unfolding swap loaded_with tested_by no_end_at bad_bits_at bad_cluster_at too_wide_at two_writes_at bad_control_at bad_table table_of bad_bits way_of format_of decode
taken = record { good = refl; valid = valid }

left : (r : ℕ) → left_in r ≡ word_at (image_offset r) (left_by (ran_of swap) room).state
unfolding swap
left r = ap (λ (o : Outcome). word_at (image_offset r) o.state) (taken_runs swap taken)

swapped : (let image = (left_by (ran_of swap) room).state in (word_at (image_offset 3) image ≡ 0x44444444) × (word_at (image_offset 4) image ≡ 0x33333333))
unfolding swap value acts registers_in image_of format_of decode table_of
swapped = (refl, refl)

pub checked : Checked
unfolding value carry
checked =
    record {
      add = refl;
      sub = refl;
      andc = refl;
      mpyll = refl;
      mpylhu = refl;
      shr = refl;
      shl = refl;
      addcg = (refl, refl);
      sh4add = refl;
      maxu = refl;
      swap = (left 3 ∙ swapped.0, left 4 ∙ swapped.1);
      two_on = two_on;
      three_on = three_on;
    }
