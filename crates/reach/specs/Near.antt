-- Private to the search, nobody has to believe it: what a producer reaches as the search keeps it: places in ascending order, each with a number of nexts that leads there.
use Rattle.std.specs.Prelude.{◌≡◌, ◌⊎◌, ℕ, ◌+◌, ◌≤◌, ◌<◌, length, get_or}
use mathlib.Core.List.{List, Memᴰ}
use Rattle.vliw.specs.Schedule.{Reach}
use Rattle.isa.specs.Control.{place}
use Rattle.reach.specs.declared.Near.{Near}

-- past the end
abbrev pub nowhere : Near
nowhere = record { place = place 0; steps = 0 }

module _ (r : List Near) where
  abbrev pub place_at : ℕ → ℕ
  place_at i = (get_or r i nowhere).place.0

  abbrev pub steps_at : ℕ → ℕ
  steps_at i = (get_or r i nowhere).steps

  abbrev pub Ascending : Type 0
  Ascending = (i j : ℕ) → i < j → j < length r → place_at i < place_at j

  -- place q stands at an index
  pub record Stands (q i : ℕ) : Type 0 where
    pub within : i < length r
    pub here : place_at i ≡ q

  -- place q would go to an index: lower places stand below it, and higher ones from there
  pub record Gap (q i : ℕ) : Type 0 where
    pub within : i ≤ length r
    pub low : (j : ℕ) → j < i → place_at j < q
    pub high : (j : ℕ) → i ≤ j → j < length r → q < place_at j

  -- in ascending order, at most k nexts away
  pub record Ordered (k : ℕ) : Type 0 where
    pub few : length r ≤ 256
    pub ascending : Ascending
    pub low : (i : ℕ) → i < length r → steps_at i ≤ k

  -- place q is there, with at most k nexts
  abbrev pub Has : ℕ → ℕ → Type 0
  Has q k = (i : ℕ) × (i < length r) × (place_at i ≡ q) × (steps_at i ≤ k)

-- s is r with the places ts put in, k nexts away; none goes to a lower index
pub record Joined (ts : List ℕ) (k : ℕ) (r s : List Near) : Type 0 where
  pub ordered : Ordered s k
  pub most : length s ≤ length r + length ts
  pub each : (j : ℕ) → j < length s
      → (Memᴰ (place_at s j) ts × (steps_at s j ≡ k)) ⊎ ((i : ℕ) × (i ≤ j) × (i < length r) × (place_at r i ≡ place_at s j) × (steps_at r i ≡ steps_at s j))
  pub kept : {q n : ℕ} → Has r q n → Has s q n
  pub has : {t : ℕ} → Memᴰ t ts → Has s t k

-- what p reaches by 1 .. most nexts
pub record Reaches (nexts : ℕ → List ℕ) (p most : ℕ) (r : List Near) : Type 0 where
  pub ordered : Ordered r most
  pub sound : (i : ℕ) → i < length r → (1 ≤ steps_at r i) × Reach nexts p (steps_at r i) (place_at r i)
  pub complete : (k q : ℕ) → 1 ≤ k → k ≤ most → Reach nexts p k q → Has r q k
