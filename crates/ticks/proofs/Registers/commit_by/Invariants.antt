-- The invariant: putting the results that are left over the registers now is putting all of them over those at the start.
use Rattle.std.proofs.Common.{◌≡◌, ℕ, List, drop}
use Rattle.ticks.specs.Ticks.{views, Bank, Freed, dests_in, Clear, Chosen}
use Rattle.ticks.proofs.Results.{put_from}
use Rattle.ticks.proofs.Registers.commit_by.Given as goal

abbrev pub invariant-loop-k : goal.invariant-loop-k
invariant-loop-k g l =
    Bank l.t.0 l.self.all × Freed l.t.0 l.until.0 l.self.all × Clear l.t.0 l.self.all (dests_in (drop l.k l.results))
    × ((bs : List ℕ) → Chosen (goal.F-post g l.landing) l.results bs
    → put_from l.results bs l.k (views l.t.0 l.self.all) ≡ put_from l.results bs 0 (views l.t.0 l.fn.self.all))
