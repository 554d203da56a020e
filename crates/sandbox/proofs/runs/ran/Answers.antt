-- The state is read, tested, run and written.
use mathlib.Core.Path.{◌≡◌, sym, ◌∙◌}
use mathlib.Core.Bool.{Bool, true, false}
use mathlib.Core.List.{List}
use Prim.Native.Nat.{ℕ, ◌^◌, ◌≤◌, ◌<◌}
use lib.ListN.{length}
use native.Mathlib.Omega.{arith}
use mir.Syntax.{w32}
use mir.Val.{Fits}
use Rattle.word.specs.Bytes.{AreBytes, words}
use Rattle.word.specs.Lists.{any_below}
use Rattle.vliw.specs.Cell.{at}
use Rattle.isa.specs.Program.{is_start}
use Rattle.tables.specs.Table.{table_of}
use Rattle.isa.specs.declared.Table.{Table}
use Rattle.tables.specs.Bounds.{Bounds}
use Rattle.loader.specs.Passed.{Passed}
use Rattle.machine.specs.Image.{place_in, registers_in, link_in}
use Rattle.call.specs.Run.{Call}
use Rattle.turn.specs.Turn.{Runs}
use Rattle.machine.specs.State.{registers_of}
use Rattle.machine.specs.declared.State.{State}
use Rattle.machine.specs.Valid.{bad_register}
use Rattle.machine.proofs.Images.{link_small}
use Rattle.call.proofs.Fits.{start_small, few_syllables}
use Rattle.sandbox.proofs.Ready.{runs}
use Rattle.sandbox.proofs.Calls.{not_a_start, not_valid_lem, valid_ends, returned_of, returned_ends}
use Rattle.sandbox.proofs.runs.ran.Goals as goal

-- the arguments, and the place and the registers of the state as it was read
pub returns-then-not-is_start : goal.returns-then-not-is_start
returns-then-not-is_start c = λ room.
    let h : is_start (words c.args.program.now) (place_in c.args.state.now) ≡ false =
    rw (← c.read-s.ensures.place_value.0) (sym c.is_start.ensures ∙ c.if-not-is_start.true) in
    let k : Call = record {
      table = c.args.table.now;
      program = c.args.program.now;
      state = c.args.state.now;
      memory = c.args.memory.now;
      landing = c.args.landing.now;
      n = c.args.n;
      room = room;
    } in
    sym (not_a_start k h)

pub returns-then-bad_registers : goal.returns-then-bad_registers
returns-then-bad_registers c = λ room.
    let h : is_start (words c.args.program.now) (place_in c.args.state.now) ≡ true =
    rw (← c.read-s.ensures.place_value.0) (sym c.is_start.ensures ∙ c.if-not-is_start.false) in
    let v : any_below (λ r. bad_register r (at (registers_in c.args.state.now) r)) 288 ≡ true =
    rw (← c.read-s.ensures.place_value.1) (sym c.bad_registers.ensures ∙ c.if-bad_registers.true) in
    let k : Call = record {
      table = c.args.table.now;
      program = c.args.program.now;
      state = c.args.state.now;
      memory = c.args.memory.now;
      landing = c.args.landing.now;
      n = c.args.n;
      room = room;
    } in
    sym (not_valid_lem k h v)

-- what loading gives the run, of the table as it was read
ready : (table program : List ℕ) {t : Table} → t ≡ table_of table → Bounds (table_of table) × Passed (table_of table) (words program) → length program ≤ 16384 → Runs t.delays (words program)
ready table program e p few = rw e (runs p.1 p.0 (few_syllables program few))

unbroken : (s : State) {b : Bool} → b ≡ any_below (λ r. bad_register r (at (registers_of s) r)) 288 → b ≡ false
    → any_below (λ r. bad_register r (at (registers_of s) r)) 288 ≡ false
unbroken s told left = sym told ∙ left

-- the link is read from four bytes
link-word : (image : List ℕ) → AreBytes image → {k : ℕ} → k ≡ link_in image → k < 2 ^ 32
link-word image h e = rw e (link_small image h)

-- by itself: beside all that is known at the call it is dear
below : {n : ℕ} → Fits w32 n → n < 4294967296
below h = omega arith

pub run-r-requires-clause-runs : goal.run-r-requires-clause-runs
run-r-requires-clause-runs c = ready c.args.table.now c.args.program.now c.read.ensures c.requires.bounds c.requires.program_len_bound.0

pub run-r-requires-clause-n_bound : goal.run-r-requires-clause-n_bound
run-r-requires-clause-n_bound c = (below c.ranges.n, link-word c.args.state.now (λ j. (c.slice_known-1.given j).fits) c.read-s.ensures.place_value.2)

pub write-requires-clause-place_bound : goal.write-requires-clause-place_bound
write-requires-clause-place_bound c = (start_small c.args.program.now _ c.requires.program_len_bound.0 c.run-r.ensures.start.0, c.run-r.ensures.start.1)

pub returns : goal.returns
returns c = λ room.
    let h : is_start (words c.args.program.now) (place_in c.args.state.now) ≡ true =
    rw (← c.read-s.ensures.place_value.0) (sym c.is_start.ensures ∙ c.if-not-is_start.false) in
    let v : any_below (λ r. bad_register r (at (registers_in c.args.state.now) r)) 288 ≡ false =
    rw (← c.read-s.ensures.place_value.1) (sym c.bad_registers.ensures ∙ c.if-bad_registers.false) in
    let k : Call = record {
      table = c.args.table.now;
      program = c.args.program.now;
      state = c.args.state.now;
      memory = c.args.memory.now;
      landing = c.args.landing.now;
      n = c.args.n;
      room = room;
    } in
    returned_ends (returned_of k c.read.ensures c.read-s.ensures.place_value.0 c.read-s.ensures.place_value.1 c.read-s.ensures.place_value.2 c.run-r.ensures.is) c.write.ensures ∙ sym (valid_ends k h v)
