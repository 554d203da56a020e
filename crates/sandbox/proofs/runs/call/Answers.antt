-- What loading gives the run, and what it refuses.
use mathlib.Core.Path.{◌≡◌, sym, ap, ◌∙◌}
use mathlib.Core.List.{List}
use Prim.Native.Nat.{ℕ, ◌≤◌}
use lib.ListN.{length}
use Rattle.std.specs.Prelude.{Ok, Err, IsErrAnd}
use Rattle.word.specs.Bytes.{words}
use Rattle.tables.specs.Table.{table_of}
use Rattle.tables.specs.Bounds.{Bounds}
use Rattle.tables.proofs.Bounds.{bounds}
use Rattle.loader.specs.Load.{loaded_with}
use Rattle.loader.specs.Passed.{Passed}
use Rattle.loader.proofs.Refusals.{passed, accepted}
use Rattle.call.specs.Reply.{Reply}
use Rattle.call.specs.declared.Unrun.{Unrun}
use Rattle.call.specs.declared.Unrun.TheVariants.{Refused}
use Rattle.call.specs.Run.{Call, sizes_of}
use Rattle.call.proofs.Fits.{fits}
use Rattle.sandbox.proofs.Calls.{done_by_lem}
use Rattle.sandbox.proofs.runs.call.Goals as goal

-- the reply that `?` makes of a refusal
converted : {u : Unrun} (r : Reply) → IsErrAnd r (λ (v : Unrun). v ≡ u) → r ≡ Err u
converted (Err v) h = ap Err h
converted (Ok e) h = absurd h

-- what loading gives the run
ready : (table program memory state room : List ℕ) → loaded_with (sizes_of program memory state room) table program ≡ Ok tt
    → (Bounds (table_of table) × Passed (table_of table) (words program)) × ((length program ≤ 16384) × (length state ≡ 2888))
ready table program memory state room good =
    let a = accepted _ table program good in
    let f = fits program memory state room a.sized in
    ((bounds table a.limits, passed (table_of table) (words program) a.tested), (f.few, f.state))

pub ran-requires-clause-bounds : goal.ran-requires-clause-bounds
ran-requires-clause-bounds c =
    (ready c.args.table.now c.args.program.now c.args.memory.now c.args.state.now c.args.room.now (rw c.sizes.ensures at (sym c.in_ok-load_with.ensures))).0

pub ran-requires-clause-program_len_bound : goal.ran-requires-clause-program_len_bound
ran-requires-clause-program_len_bound c =
    (ready c.args.table.now c.args.program.now c.args.memory.now c.args.state.now c.args.room.now (rw c.sizes.ensures at (sym c.in_ok-load_with.ensures))).1

pub returns-in_err-load_with : goal.returns-in_err-load_with
returns-in_err-load_with c =
    let k : Call = record {
      table = c.args.table.now;
      program = c.args.program.now;
      state = c.args.state.now;
      memory = c.args.memory.now;
      landing = c.args.landing.now;
      n = c.args.n;
      room = c.args.room.now;
    } in
    let is : c.from_residual.result ≡ Err (Refused c.in_err-load_with.field-0.0) = converted c.from_residual.result c.from_residual.ensures.1 in
    rw is (done_by_lem k (Err c.in_err-load_with.field-0.0) (rw (← c.sizes.ensures) c.in_err-load_with.ensures))

pub returns : goal.returns
returns c =
    let k : Call = record {
      table = c.args.table.now;
      program = c.args.program.now;
      state = c.args.state.now;
      memory = c.args.memory.now;
      landing = c.args.landing.now;
      n = c.args.n;
      room = c.args.room.now;
    } in
    c.ran.ensures c.args.room.now
    ∙ done_by_lem k (Ok tt) (rw (← c.sizes.ensures) c.in_ok-load_with.ensures)
