-- The registers are a local, lent to the loop: the state is entered, run and left.
use mathlib.Core.Path.{refl, ◌∙◌, ap}
use Rattle.isa.specs.declared.Place.{Place}
use Rattle.machine.specs.State.{registers_of}
use Rattle.ticks.proofs.Latest.{latest_frees}
use Rattle.ticks.proofs.Cells.{fits_of}
use Rattle.run.specs.declared.Left.{Left}
use Rattle.run.proofs.Endings.{zero_idle, left_bank, returned}
use Rattle.run.proofs.run.Goals as goal

pub enter-requires-clause-by_index : goal.enter-requires-clause-by_index
enter-requires-clause-by_index c = fits_of (registers_of c.args.s) c.requires.r_value

pub run_all-r-requires-clause-running : goal.run_all-r-requires-clause-running
run_all-r-requires-clause-running c = record {
  bank = c.enter.ensures.bank;
  freed = rw c.free_from.ensures (latest_frees 0 c.enter.new.self.all);
  linked = c.is_start.ensures;
  low = c.requires.n_bound.1;
  start = c.requires.place_value;
  idle = rw c.enter.ensures.is (zero_idle (registers_of c.args.s) c.requires.r_value);
}

pub leave-requires : goal.leave-requires
leave-requires c =
    rw c.left_at-t.ensures (left_bank c.run_all-r.ensures.bank c.run_all-r.result.ending)

pub returns-clause-is : goal.returns-clause-is
returns-clause-is c =
    let place = ap (λ (q : Place). q.0) c.leave.ensures.at.0 in
    let link = ap (λ (q : Place). q.0) c.leave.ensures.at.1 in
    let left : Left = record { ending = c.run_all-r.result.ending; count = c.run_all-r.result.count; state = c.leave.result } in
    returned {x = left} c.enter.ensures.is c.run_all-r.ensures c.leave.ensures.sized refl refl place link (c.leave.ensures.is ∙ rw c.left_at-t.ensures)
