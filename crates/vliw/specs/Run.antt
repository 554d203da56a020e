-- A machine as a step function, and its run of at most n steps: how it ended, the count and the state it ends in.
use Rattle.std.specs.Prelude.{ℕ, zero, suc}
use Rattle.vliw.specs.declared.Ending.{Ending}
use Rattle.vliw.specs.declared.Ending.TheVariants.{Paused, Stopped, Faulted}
use Rattle.vliw.specs.declared.Fault.TheVariants.{InFlight, Misaligned, OutOfBounds, StoresClash, BadLink}

-- the number of each ending, document 01's and order 1's; the only definition of them
abbrev pub number_of : Ending → ℕ
number_of Paused = 0
number_of Stopped = 255
number_of (Faulted InFlight) = 11
number_of (Faulted Misaligned) = 12
number_of (Faulted OutOfBounds) = 13
number_of (Faulted StoresClash) = 14
number_of (Faulted BadLink) = 17

pub data Step (S : Type 0) : Type 0 where
  ends : Ending → S → Step S  -- the run ends so, in this state
  next : S → Step S  -- one instruction was executed

pub record Ran (S : Type 0) : Type 0 where
  pub ending : Ending
  pub count : ℕ
  pub state : S

module _ {S : Type 0} where
  abbrev pub counted : Ran S → Ran S
  counted r = record { ending = r.ending; count = suc r.count; state = r.state }

  abbrev pub onward : Step S → (S → Ran S) → Ran S
  onward (ends e s) more = record { ending = e; count = 0; state = s }
  onward (next s) more = counted (more s)

  -- paused after n instructions, or at the first step that ends the run
  abbrev pub run : (S → Step S) → ℕ → S → Ran S
  run step zero s = record { ending = Paused; count = 0; state = s }
  run step (suc n) s = onward (step s) (λ t. run step n t)

-- what a view of the state makes of a step and of a run
module _ {S T : Type 0} (view : S → T) where
  abbrev pub view_step : Step S → Step T
  view_step (ends e s) = ends e (view s)
  view_step (next s) = next (view s)

  abbrev pub view_ran : Ran S → Ran T
  view_ran r = record { ending = r.ending; count = r.count; state = view r.state }
