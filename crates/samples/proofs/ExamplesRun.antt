-- The runs that break the promise of run: what the promise says at each named input, by computing.
use mathlib.Core.Path.{◌≡◌, refl, sym, ap, ◌∙◌}
use mathlib.Core.Bool.{true}
use mathlib.Core.List.{List, [], ◌∷◌}
use Prim.Native.Nat.{ℕ}
use native.Mathlib.Omega.{arith}
use lib.ListN.{replicate}
use Rattle.std.specs.Prelude.{Ok}
use Rattle.word.specs.Bytes.{words, word_at}
use Rattle.vliw.specs.Run.{Ran, number_of, run}
use Rattle.vliw.specs.declared.Ending.TheVariants.{Stopped}
use Rattle.vliw.specs.Cell.{Registers, still, at}
use Rattle.vliw.specs.Machine.{Situation, in_order, step}
use Rattle.ops.specs.Value.{value}
use Rattle.isa.specs.Syllable.{format_of}
use Rattle.isa.specs.Control.{way_of}
use Rattle.isa.specs.Decode.{decode}
use Rattle.isa.specs.Program.{is_start}
use Rattle.isa.specs.Touch.{every_register}
use Rattle.tables.specs.Table.{bad_table, table_of}
use Rattle.zero.specs.Zero.{bad_bits}
use Rattle.refusals.specs.Broken.{no_end_at, bad_bits_at, bad_cluster_at, too_wide_at, two_writes_at, bad_control_at}
use Rattle.loader.specs.Load.{tested_by, loaded_with}
use Rattle.loader.specs.Answer.{answer, room_with}
use Rattle.machine.specs.Link.{Memory, Change, memory_of, change}
use Rattle.machine.specs.Instruction.{acts, instruction_of}
use Rattle.machine.specs.Image.{place_in, registers_in, link_in}
use Rattle.call.specs.Run.{Outcome, run_outcome}
use Rattle.demands.specs.Calls.{Lent, with_limit}
use Rattle.demands.proofs.Taken.{found, Taken}
use Rattle.samples.specs.Wrong.{table, program, room}
use Rattle.samples.specs.WrongRun.{zeros, calling, example, adding, comparing, visiting, invents_count, Runs, WrongRun}
use Rattle.samples.proofs.Left.{zero_image, zero_link, zeros_valid, zeros_bytes, number_left, room_left, place_left, link_left, register_left}
use Rattle.samples.proofs.Wrongs.{never_same}

-- ---- the calls are taken

good : (found (example 16) ≡ Ok tt) × (found adding ≡ Ok tt) × (found (comparing []) ≡ Ok tt) × (found visiting ≡ Ok tt)
unfolding loaded_with tested_by no_end_at bad_bits_at bad_cluster_at too_wide_at two_writes_at bad_control_at bad_table table_of bad_bits way_of format_of decode
good = (refl, refl, refl, refl)

taken : (p landing : List ℕ) (n : ℕ) → found (calling p landing n) ≡ Ok tt → is_start (words p) (place_in zeros) ≡ true → Taken (calling p landing n)
taken p landing n e start = record { good = e; valid = zeros_valid (words p) start }

taken_example : (n : ℕ) → Taken (example n)
taken_example n = taken program [] n good.0 refl

-- ---- what they leave

-- the value of a register
held : ℕ → Outcome → ℕ
held r o = (at (registers_in o.state) r).value

module _ (p landing : List ℕ) (n : ℕ) where
  abbrev ran_from : Registers → Ran (Situation Memory Change)
  ran_from l =
      run (step change (instruction_of (table_of table).delays (words p))) n
      (record { place = place_in zeros; registers = l; memory = memory_of [] (link_in zeros); landing = landing; orders = in_order })

  abbrev ran : Ran (Situation Memory Change)
  ran = ran_from (replicate 288 still)

  module _ (t : Taken (calling p landing n)) where
    number_is : (run_outcome (calling p landing n)).result ≡ number_of ran.ending
    number_is = number_left (calling p landing n) t ∙ ap (λ l. number_of (ran_from l).ending) zero_image

    count_is : word_at 4 (run_outcome (calling p landing n)).room ≡ word_at 4 (room_with (answer (number_of ran.ending) ran.count ran.state.place) room)
    count_is =
        ap (word_at 4) (room_left (calling p landing n) t)
        ∙ ap (λ l. let r = ran_from l in word_at 4 (room_with (answer (number_of r.ending) r.count r.state.place) room)) zero_image

    held_is : (r : ℕ) → held r (run_outcome (calling p landing n)) ≡ (at ran.state.registers r).value
    unfolding held
    held_is r =
        ap (λ x. x.value) (register_left (calling p landing n) t (record { state = zeros_bytes; memory = λ i. omega arith }) r)
        ∙ ap (λ l. (at (ran_from l).state.registers r).value) zero_image

-- document 01's example: it stops after one instruction, with 5 in register 3; n = 0 pauses where it was
whole : (let r = ran program [] 16 in (r.ending ≡ Stopped) × (r.count ≡ 1) × ((at r.state.registers 3).value ≡ 5))
unfolding value acts format_of decode table_of
whole = (refl, refl, refl)

-- after the first of two instructions the second has not been
first : ((at (ran adding.program [] 1).state.registers 4).value ≡ 0) × ((at (ran adding.program [] 4294967295).state.registers 4).value ≡ 6)
unfolding value acts format_of decode table_of
first = (refl, refl)

added : (n : ℕ) → held 4 (run_outcome (with_limit n adding)) ≡ (at (ran adding.program [] n).state.registers 4).value
added n = held_is adding.program [] n (taken adding.program [] n good.1 refl) 4

-- the branch register has its value at once, or waits for it
abbrev comparison : List ℕ
comparison = (comparing []).program

compared : ((at (ran comparison (0 ∷ []) 1).state.registers 256).value ≡ 1) × ((at (ran comparison [] 1).state.registers 256).value ≡ 0)
unfolding value acts format_of decode table_of
compared = (refl, refl)

branched : (landing : List ℕ) → held 256 (run_outcome (comparing landing)) ≡ (at (ran comparison landing 1).state.registers 256).value
branched landing = held_is comparison landing 1 (taken comparison landing 1 good.2 refl) 256

-- a call sets the link to 1, and a return goes there
visited : (let s = (ran visiting.program [] 2).state in (s.memory.link ≡ 1) × (s.place ≡ 1))
unfolding acts format_of decode table_of every_register way_of
visited = (refl, refl)

lent : Lent visiting
lent = record { state = zeros_bytes; memory = λ i. omega arith }

taken_visiting : Taken visiting
taken_visiting = taken visiting.program [] 2 good.3 refl

linked : link_in (run_outcome visiting).state ≡ 1
linked = link_left visiting taken_visiting lent ∙ ap (λ l. (ran_from visiting.program [] 2 l).state.memory.link) zero_image ∙ visited.0

returned : place_in (run_outcome visiting).state ≡ 1
returned = place_left visiting taken_visiting lent ∙ ap (λ l. (ran_from visiting.program [] 2 l).state.place) zero_image ∙ visited.1

-- the count in the room
counted : Outcome → ℕ
counted o = word_at 4 o.room

one : counted (run_outcome (example 16)) ≡ 1
unfolding counted room_with
one = count_is program [] 16 (taken_example 16) ∙ ap (λ n. word_at 4 (room_with (answer 0 n 0) room)) whole.1

invented : counted (invents_count (example 16)) ≡ 16
unfolding counted room_with
invented = refl

-- ---- the promise, at document 01's example

stops : (o : Outcome) → Runs (example 16) o → o.result ≡ 255
stops o e = ap (λ x. x.result) e ∙ number_is program [] 16 (taken_example 16) ∙ ap number_of whole.0

pauses : (o : Outcome) → Runs (example 0) o → o.result ≡ 0
pauses o e = ap (λ x. x.result) e ∙ number_is program [] 0 (taken_example 0)

five : (o : Outcome) → Runs (example 16) o → held 3 o ≡ 5
five o e = ap (held 3) e ∙ held_is program [] 16 (taken_example 16) 3 ∙ whole.2

none : (o : Outcome) → Runs (example 0) o → held 3 o ≡ 0
none o e = ap (held 3) e ∙ held_is program [] 0 (taken_example 0) 3

pub wrong_run : WrongRun
unfolding held
wrong_run =
    record {
      refusing = λ f h b. omega (arith, (h (example 16)).1, stops (f (example 16)) b);
      nothing = λ f h b.
          let e : (at (registers_in zeros) 3).value ≡ 5 = rw (h (example 16)) at (five (f (example 16)) b) in
          let z : (at (registers_in zeros) 3).value ≡ 0 = rw zero_image refl in
          omega arith;
      same = never_same Runs (λ o. o.result) (example 16) (example 0) 255 0 (λ e. omega arith) stops pauses;
      fixed = λ f s h.
          never_same Runs (held 3) (example 16) (example 0) 5 0 (λ e. omega arith) five none f (at (registers_in s) 3).value
          (λ c. ap (λ (image : List ℕ). (at (registers_in image) 3).value) (h c));
      at_once = λ e. let h : ◌≡◌ {A = ℕ} 6 0 = sym (added 4294967295 ∙ first.1) ∙ ap (held 4) e ∙ added 1 ∙ first.0 in omega arith;
      invented = λ e. let h : ◌≡◌ {A = ℕ} 16 1 = sym invented ∙ ap counted e ∙ one in omega arith;
      unlinked = λ f h e.
          let k : ◌≡◌ {A = ℕ} 0 1 = sym zero_link ∙ sym (h visiting) ∙ ap (λ o. link_in o.state) e ∙ linked in
          omega arith;
      unreturned = λ o h e. let k : ◌≡◌ {A = ℕ} 3 1 = sym h ∙ ap (λ o. place_in o.state) e ∙ returned in omega arith;
      unlanded = λ e.
          let h : ◌≡◌ {A = ℕ} 0 1 = sym (branched [] ∙ compared.1) ∙ ap (held 256) e ∙ branched (0 ∷ []) ∙ compared.0 in
          omega arith;
    }
