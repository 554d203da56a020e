use mathlib.Core.Path.{◌≡◌, sym}
use mathlib.Core.List.{List}
use Prim.Native.Nat.{ℕ}
use Rattle.std.specs.Prelude.{Ok}
use Rattle.word.specs.Bytes.{words}
use Rattle.isa.specs.declared.Table.{Table}
use Rattle.tables.specs.Table.{table_of}
use Rattle.tables.specs.Bounds.{Bounds}
use Rattle.tables.proofs.Bounds.{bounds}
use Rattle.loader.specs.Load.{loaded_of}
use Rattle.loader.specs.Passed.{Passed}
use Rattle.loader.proofs.Refusals.{passed, accepted}
use Rattle.sandbox.proofs.checked.Goals as goal

-- what loading gives the check, of the table as it was read
ready : (table program room : List ℕ) {t : Table} → t ≡ table_of table → loaded_of table program room ≡ Ok tt → Bounds t × Passed t (words program)
ready table program room e good =
    let a = accepted _ table program good in
    rw e (bounds table a.limits, passed (table_of table) (words program) a.tested)

pub check-requires-clause-bounds : goal.check-requires-clause-bounds
check-requires-clause-bounds c = (ready c.args.table.now c.args.program.now c.args.room.now c.read.ensures (sym c.in-Ok.ensures)).0

pub check-requires-clause-passed : goal.check-requires-clause-passed
check-requires-clause-passed c = (ready c.args.table.now c.args.program.now c.args.room.now c.read.ensures (sym c.in-Ok.ensures)).1
