-- The example of demand 3: it passes, and what it leaves is computed with no landing bytes; for all others demand 3 says the same.
use mathlib.Core.Path.{◌≡◌, refl, sym, ap, ◌∙◌}
use mathlib.Core.Bool.{false, false≢true}
use mathlib.Core.List.Memᴰ
use mathlib.Core.List.{List, [], ◌∷◌}
use Prim.Native.Nat.{ℕ, zero, suc}
use native.Mathlib.Omega.{arith}
use lib.ListN.{get_or, get_or-map}
use Rattle.std.specs.Prelude.{Ok}
use Rattle.word.specs.Bytes.{AreBytes, words}
use Rattle.word.proofs.Bytes.{are_bytes_take}
use Rattle.vliw.specs.Run.{Ran, number_of}
use Rattle.vliw.specs.declared.Ending.{Ending}
use Rattle.vliw.specs.declared.Ending.TheVariants.{Stopped, Faulted}
use Rattle.vliw.specs.declared.Fault.TheVariants.{OutOfBounds}
use Rattle.vliw.specs.Cell.{still, at, landed}
use Rattle.vliw.specs.Machine.{Situation}
use Rattle.ops.specs.Value.{value, carry, address, loaded, stored}
use Rattle.isa.specs.Syllable.{format_of}
use Rattle.isa.specs.Control.{way_of}
use Rattle.isa.specs.Decode.{decode}
use Rattle.isa.specs.declared.Delays.{Delays}
use Rattle.tables.specs.Table.{bad_table, table_of}
use Rattle.zero.specs.Zero.{bad_bits}
use Rattle.refusals.specs.Broken.{no_end_at, bad_bits_at, bad_cluster_at, too_wide_at, two_writes_at, bad_control_at}
use Rattle.loader.specs.Load.{tested_by, loaded_with, loaded_of}
use Rattle.loader.specs.Answer.{answer, answered, room_with}
use Rattle.schedule.specs.Rule.{Says}
use Rattle.machine.specs.Link.{Memory, Change}
use Rattle.machine.specs.Instruction.{acts}
use Rattle.machine.specs.Image.{registers_in}
use Rattle.machine.specs.Valid.{bad_state}
use Rattle.call.specs.Run.{Outcome, ran_of, run_outcome}
use Rattle.demands.specs.Calls.{Lent}
use Rattle.demands.specs.Demand3.{Passes, NothingInFlight, Alike}
use Rattle.demands.proofs.Taken.{found, Taken, taken_fits, taken_by}
use Rattle.demands.proofs.Demand3.{demand_3}
use Rattle.samples.specs.Wrong.{room}
use Rattle.samples.specs.WrongRun.{zeros}
use Rattle.samples.specs.Clusters.{table, program, word, longer, call, Leaves, Beyond, Clusters}
use Rattle.samples.proofs.Examples.{soon}
use Rattle.samples.proofs.Left.{zero_image, all_same, zeros_valid, zeros_bytes, number_left, room_left, memory_left, register_left}

abbrev delays : Delays
delays = (table_of table).delays

-- ---- it loads, and passes the check

good : (loaded_of table program room ≡ Ok tt) × (found (call longer []) ≡ Ok tt)
unfolding loaded_with tested_by no_end_at bad_bits_at bad_cluster_at too_wide_at two_writes_at bad_control_at bad_table table_of bad_bits way_of format_of decode
good = (refl, refl)

clean : Says delays (words program) (Ok tt)
unfolding format_of decode table_of
clean zero q t = Memᴰ.not-nil (soon delays (words program) t)
clean (suc zero) q t = Memᴰ.not-nil (soon delays (words program) t)
clean (suc (suc zero)) q t = Memᴰ.not-nil (soon delays (words program) t)
clean (suc (suc (suc zero))) q t = Memᴰ.not-nil (soon delays (words program) t)
clean (suc (suc (suc (suc zero)))) q t = false≢true t.producer
clean (suc (suc (suc (suc (suc zero))))) q t = Memᴰ.not-nil (soon delays (words program) t)
clean (suc (suc (suc (suc (suc (suc zero)))))) q t = Memᴰ.not-nil (soon delays (words program) t)
clean (suc (suc (suc (suc (suc (suc (suc zero))))))) q t = false≢true t.producer
clean (suc (suc (suc (suc (suc (suc (suc (suc zero)))))))) q t = Memᴰ.not-nil (soon delays (words program) t)
clean (suc (suc (suc (suc (suc (suc (suc (suc (suc zero))))))))) q t = Memᴰ.not-nil (soon delays (words program) t)
clean (suc (suc (suc (suc (suc (suc (suc (suc (suc (suc zero)))))))))) q t = false≢true t.producer
clean (suc (suc (suc (suc (suc (suc (suc (suc (suc (suc (suc zero))))))))))) q t = Memᴰ.not-nil (soon delays (words program) t)
clean (suc (suc (suc (suc (suc (suc (suc (suc (suc (suc (suc (suc p)))))))))))) q t = false≢true t.producer

passes : Passes table program
passes = record {
  room = room;
  left = answered (answer 0 0 0) room;
  checks = (answer 0 0 0, rw good.0 (Ok tt, clean, refl), refl);
  clean = refl;
}

-- ---- it starts at rest

valid : bad_state (words program) zeros ≡ false
valid = zeros_valid (words program) refl

quiet : NothingInFlight zeros
quiet r = rw (zero_image, all_same still 288 r)

longer_bytes : AreBytes longer
longer_bytes zero = omega arith
longer_bytes (suc zero) = omega arith
longer_bytes (suc (suc zero)) = omega arith
longer_bytes (suc (suc (suc zero))) = omega arith
longer_bytes (suc (suc (suc (suc zero)))) = omega arith
longer_bytes (suc (suc (suc (suc (suc i))))) = omega arith

word_bytes : AreBytes word
word_bytes i = are_bytes_take 4 longer longer_bytes i

lent : (memory : List ℕ) → AreBytes memory → Lent (call memory [])
lent memory h = record { state = zeros_bytes; memory = h }

taken_longer : Taken (call longer [])
taken_longer = record { good = good.1; valid = valid }

taken_word : Taken (call word [])
taken_word =
    let f = taken_fits taken_longer in
    taken_by (call longer []) (call word []) taken_longer refl refl
    (record { program = f.program; few = f.few; memory = omega arith; state = f.state; room = f.room }) valid

-- ---- it runs

-- how it ended, count and place, memory, register 3 and register 4 of cluster 1
record Ends (e : Ending) (n i : ℕ) (m : List ℕ) (x y : ℕ) (r : Ran (Situation Memory Change)) : Type 0 where
  ending : r.ending ≡ e
  count : r.count ≡ n
  place : r.state.place ≡ i
  memory : r.state.memory.bytes ≡ m
  product : landed (at r.state.registers 3) ≡ x
  square : landed (at r.state.registers 68) ≡ y

stopped : Ends Stopped 7 11 (0 ∷ 0 ∷ 0 ∷ 7 ∷ 42 ∷ []) 42 9 (ran_of (call longer []))
unfolding acts format_of decode table_of value carry address loaded stored
stopped = rw zero_image (record { ending = refl; count = refl; place = refl; memory = refl; product = refl; square = refl })

faulted : Ends (Faulted OutOfBounds) 6 9 word 42 0 (ran_of (call word []))
unfolding acts format_of decode table_of value carry address loaded stored
faulted = rw zero_image (record { ending = refl; count = refl; place = refl; memory = refl; product = refl; square = refl })

unlent : Leaves (run_outcome (call longer []))
unfolding room_with
unlent =
    let c = call longer [] in
    let t = taken_longer in
    let l = lent longer longer_bytes in
    record {
      number = number_left c t ∙ ap number_of stopped.ending;
      room = room_left c t ∙ λ j. room_with (answer (number_of (stopped.ending j)) (stopped.count j) (stopped.place j)) room;
      memory = memory_left c t ∙ stopped.memory;
      product = ap landed (register_left c t l 3) ∙ stopped.product;
      square = ap landed (register_left c t l 68) ∙ stopped.square;
    }

beyond : Beyond (run_outcome (call word []))
unfolding room_with
beyond =
    let c = call word [] in
    let t = taken_word in
    record {
      number = number_left c t ∙ ap number_of faulted.ending;
      room = room_left c t ∙ λ j. room_with (answer (number_of (faulted.ending j)) (faulted.count j) (faulted.place j)) room;
      memory = memory_left c t ∙ faulted.memory;
      square = ap landed (register_left c t (lent word word_bytes) 68) ∙ faulted.square;
    }

-- a call that is like one leaves the same
module _ {a b : Outcome} (e : Alike a b) where
  landed_same : (r : ℕ) → landed (at (registers_in b.state) r) ≡ landed (at (registers_in a.state) r)
  landed_same r =
      sym (get_or-map landed (registers_in b.state) r still)
      ∙ ap (λ (l : List ℕ). get_or l r 0) (sym e.registers) ∙ get_or-map landed (registers_in a.state) r still

  leaves_same : Leaves a → Leaves b
  leaves_same h = record {
    number = sym e.number ∙ h.number;
    room = sym e.room ∙ h.room;
    memory = sym e.memory ∙ h.memory;
    product = landed_same 3 ∙ h.product;
    square = landed_same 68 ∙ h.square;
  }

pub clusters : Clusters
clusters = record {
  passes = passes;
  valid = valid;
  quiet = quiet;
  leaves = λ landing. leaves_same (demand_3.alike (call longer []) (lent longer longer_bytes) passes quiet landing) unlent;
  beyond = beyond;
}
