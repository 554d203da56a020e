-- What a search by the place finds, where places ascend.
use mathlib.Core.Path.{◌≡◌, sym}
use mathlib.Core.Logic.{⊎_elim}
use mathlib.Core.List.{List}
use Prim.Native.Nat.{ℕ, ◌≤◌}
use native.Mathlib.Nat.{eq-or-lt_of_le}
use native.Mathlib.Omega.{arith}
use lib.ListN.{length}
use Rattle.std.proofs.Common.{Result, Ok, Err, IfOk, IfErr}
use Rattle.std.specs.List.Sorted.{IsSearchInRange, IsBinarySearchResult, IsNonDecreasingBy}
use Rattle.std.specs.Ordering.{nat_cmp, ordering_index}
use Rattle.std.proofs.lemmas.Cmp.{ranked}
use Rattle.std.proofs.lemmas.List.Sorted.{IsNonDecreasingBy-from_default}
use Rattle.std.proofs.lemmas.Bool.Decides.{nat_tests}
use Rattle.reach.specs.declared.Near.{Near}
use Rattle.reach.specs.Near.{nowhere, place_at, Ascending, Stands, Gap}

module _ (r : List Near) (up : Ascending r) (q : ℕ) where
  -- the comparisons with q rise along the list, as a binary search asks
  rising : IsNonDecreasingBy (λ (x : Near). ordering_index (nat_cmp x.place.0 q)) r
  rising = IsNonDecreasingBy-from_default (λ (x : Near). ordering_index (nat_cmp x.place.0 q)) r nowhere (λ i j le within.
      let grows : place_at r i ≤ place_at r j = ⊎_elim (λ (e : i ≡ j). rw e (omega arith)) (λ l. omega (arith, up i j l within)) (eq-or-lt_of_le le) in
      grind (arith, nat_tests))

  pub searched : (o : Result ℕ ℕ) → IsSearchInRange o (length r) → IsBinarySearchResult (λ (x : Near). nat_cmp x.place.0 q) r o
      → record { found : IfOk o (Stands r q); absent : IfErr o (Gap r q) }
  searched (Ok at) within equal = record { found = record { within = within; here = ranked _ q _ (sym (equal nowhere)) }; absent = tt }
  searched (Err at) within parted = record {
    found = tt;
    absent = record {
      within = within;
      low = λ j l. ranked _ q _ (sym ((parted rising).0 j nowhere (omega arith) l));
      high = λ j l b. ranked _ q _ (sym ((parted rising).1 j nowhere l b));
    };
  }
