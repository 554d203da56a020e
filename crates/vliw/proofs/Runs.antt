-- Laws of runs, for every machine: what each step keeps, the run keeps.
use mathlib.Core.Path.{◌≡◌, refl, ap}
use Prim.Native.Nat.{ℕ, zero, suc}
use Rattle.vliw.specs.declared.Ending.{Ending}
use Rattle.vliw.specs.declared.Ending.TheVariants.{Paused}
use Rattle.vliw.specs.Run.{Step, ends, next, counted, onward, run, view_step, view_ran}

module _ {S : Type 0} (Holds : S → Type 0) (Ended : Ending → S → Type 0) where
  -- what holds where the run goes on, and where it ends
  abbrev pub Keeps : Step S → Type 0
  Keeps (ends e s) = Ended e s
  Keeps (next s) = Holds s

  module _ (step : S → Step S) (keeps : (s : S) → Holds s → Keeps (step s)) where
    pub run_ends : ((s : S) → Holds s → Ended Paused s) → (n : ℕ) (s : S) → Holds s → let r = run step n s in Ended r.ending r.state
    run_ends paused zero s h = paused s h
    run_ends paused (suc n) s h = by (run_ends paused n) (step s) (keeps s h)
      where
        by : ((t : S) → Holds t → let r = run step n t in Ended r.ending r.state) → (a : Step S) → Keeps a
            → let r = onward a (λ t. run step n t) in Ended r.ending r.state
        by more (ends e t) kept = kept
        by more (next t) kept = more t kept

    -- a view that takes a step of one machine to a step of another takes runs to runs
    module _ {T : Type 0} (other : T → Step T) (view : S → T) (square : (s : S) → Holds s → view_step view (step s) ≡ other (view s)) where
      pub run_view : (n : ℕ) (s : S) → Holds s → view_ran view (run step n s) ≡ run other n (view s)
      run_view zero s h = refl
      run_view (suc n) s h = rw (← square s h) (by (run_view n) (step s) (keeps s h))
        where
          by : ((t : S) → Holds t → view_ran view (run step n t) ≡ run other n (view t)) → (a : Step S) → Keeps a
              → view_ran view (onward a (λ t. run step n t)) ≡ onward (view_step view a) (λ t. run other n t)
          by more (ends e t) kept = refl
          by more (next t) kept = ap counted (more t kept)
