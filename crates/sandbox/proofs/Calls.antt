-- Laws of a call of run: what it comes to where its program loads.
use mathlib.Core.Path.{◌≡◌, sym, ◌∙◌, ap}
use mathlib.Core.Bool.{true, false}
use mathlib.Core.List.{List}
use Prim.Native.Nat.{ℕ}
use Rattle.std.specs.Prelude.{Ok}
use Rattle.word.specs.Lists.{any_below}
use Rattle.word.specs.Bytes.{words}
use Rattle.vliw.specs.Run.{Ran, run}
use Rattle.vliw.specs.Cell.{Registers, at}
use Rattle.vliw.specs.Machine.{Situation, in_order, step}
use Rattle.isa.specs.declared.Table.{Table}
use Rattle.isa.specs.Program.{is_start}
use Rattle.tables.specs.Table.{table_of}
use Rattle.loader.specs.Load.{Loaded, loaded_with}
use Rattle.loader.specs.Answer.{room_with}
use Rattle.loader.specs.declared.Answer.{Answer}
use Rattle.machine.specs.Link.{Memory, Change, memory_of, change}
use Rattle.machine.specs.Instruction.{instruction_of}
use Rattle.machine.specs.Image.{place_in, registers_in, link_in, image_of}
use Rattle.machine.specs.State.{registers_of}
use Rattle.machine.specs.Valid.{bad_register, bad_state}
use Rattle.call.specs.Reply.{reply_answer}
use Rattle.call.specs.Run.{Call, Outcome, Done, ran_of, refused, ended, done_by, sizes_of, done_of, run_outcome}
use Rattle.call.specs.declared.Unrun.TheVariants.{BadState}
use Rattle.run.specs.Loop.{Returned}
use Rattle.run.specs.declared.Left.{Left}

module _ (c : Call) where
  pub not_a_start : is_start (words c.program) (place_in c.state) ≡ false → done_by (Ok tt) c ≡ refused BadState c
  unfolding bad_state
  not_a_start e = rw e

  module _ (start : is_start (words c.program) (place_in c.state) ≡ true) where
    pub not_valid_lem : any_below (λ r. bad_register r (at (registers_in c.state) r)) 288 ≡ true → done_by (Ok tt) c ≡ refused BadState c
    unfolding bad_state
    not_valid_lem e = rw (start, e)

    pub valid_ends : any_below (λ r. bad_register r (at (registers_in c.state) r)) 288 ≡ false → done_by (Ok tt) c ≡ ended (ran_of c)
    unfolding bad_state
    valid_ends e = rw (start, e)

  module _ (found : Loaded) (e : found ≡ loaded_with (sizes_of c.program c.memory c.state c.room) c.table c.program) where
    pub done_by_lem : done_by found c ≡ done_of c
    unfolding done_of
    done_by_lem = ap (λ (l : Loaded). done_by l c) e

-- the answer of what a call comes to, given
pub answered_run : (c : Call) {d : Done} {a : Answer} {room : List ℕ} → d ≡ done_of c → a ≡ reply_answer d.reply → room ≡ room_with a c.room
    → (let o : Outcome = record { result = a.number; state = d.state; memory = d.memory; room = room } in o ≡ run_outcome c)
answered_run c {d} {a} done answer given =
    ap (λ (r : List ℕ). let o : Outcome = record { result = a.number; state = d.state; memory = d.memory; room = r } in o) given
    ∙ ap (λ (b : Answer). let o : Outcome = record { result = b.number; state = d.state; memory = d.memory; room = room_with b c.room } in o) answer
    ∙ ap (λ (x : Done). let b = reply_answer x.reply in let o : Outcome = record { result = b.number; state = x.state; memory = x.memory; room = room_with b c.room } in o) done

-- what a run returned, from the table and the state as they were read
pub returned_of : (c : Call) {t : Table} {place link : ℕ} {l : Registers} {r : Left} {m : List ℕ} → t ≡ table_of c.table → place ≡ place_in c.state → l ≡ registers_in c.state → link ≡ link_in c.state
    → Returned (run (step change (instruction_of t.delays (words c.program))) c.n (record { place = place; registers = l; memory = memory_of c.memory link; landing = c.landing; orders = in_order })) r m
    → Returned (ran_of c) r m
returned_of c p q e k h = rw (p, q, e, k) at h

-- what a run returned, with its state written
pub returned_ends : {o : Ran (Situation Memory Change)} {r : Left} {m image : List ℕ} → Returned o r m
    → image ≡ image_of r.state.place.0 (registers_of r.state) r.state.link.0
    → (let d : Done = record { reply = Ok (record { ending = r.ending; count = r.count; place = r.state.place }); state = image; memory = m } in d ≡ ended o)
returned_ends r e =
    λ i.
    record {
      reply = Ok (record { ending = sym r.ending i; count = record { 0 = sym r.count i }; place = record { 0 = sym r.place i } });
      state = (e ∙ λ j. image_of (sym r.place j) (sym r.registers j) (sym r.link j)) i;
      memory = sym r.memory i;
    }
