-- Demand 3: settled, every run of the machine is the plain machine's, and none ends at a register in flight.
use mathlib.Core.Path.{ap}
use mathlib.Core.Logic.{◌≢◌}
use native.Mathlib.Omega.{arith}
use Rattle.vliw.specs.declared.Ending.TheVariants.{Faulted}
use Rattle.vliw.specs.declared.Fault.TheVariants.{InFlight}
use Rattle.vliw.specs.Run.{number_of}
use Rattle.vliw.specs.Machine.{step}
use Rattle.vliw.specs.Plain.{step_plain}
use Rattle.vliw.specs.Demand3.{AnyDemand3, settled}
use Rattle.vliw.proofs.Runs.{run_ends, run_view}
use Rattle.vliw.proofs.Flight.{Fine, keeps}
use Rattle.vliw.proofs.Settle.{square}

pub demand_3 : (Memory Store : Type 0) → AnyDemand3 Memory Store
demand_3 Memory Store store program starts loaded scheduled s q n =
    let kept = keeps loaded scheduled in
    record {
      same =
          run_view (Fine program starts) (λ e t. e ≢ Faulted InFlight) (step store program) kept
          (step_plain store program) settled (square loaded scheduled) n s fine;
      unfaulted = run_ends (Fine program starts) (λ e t. e ≢ Faulted InFlight) (step store program) kept (λ t h e. omega (arith, ap number_of e)) n s fine;
    }
  where
    -- nothing is in flight at the start
    fine : Fine program starts s
    fine =
        record {
          place = q.place;
          cells = λ r. record { low = q.valid r; flying = λ h. absurd (omega (arith, q.quiet r)) };
          orders = q.orders;
        }
