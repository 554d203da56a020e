-- Private to the search, nobody has to believe it: the late results of a producer as the search keeps them.
use Rattle.std.specs.Prelude.{◌≡◌, ℕ, ◌≤◌, ◌<◌, eqb, length, get_or}
use mathlib.Core.List.{List, [], ◌∷◌, Memᴰ}
use Rattle.word.specs.Choice.{pick}
use Rattle.vliw.specs.Machine.{Dest}
use Rattle.schedule.specs.declared.late.Late.{Late}

abbrev pub dest : Late → Dest
dest x = record { reg = x.register; delay = x.delay }

abbrev pub late_at : List Late → ℕ → Dest
late_at late i = dest (get_or late i (record { register = 0; delay = 0 }))

-- those of a list that take longer than one instruction
pub record LateOf (es : List Dest) (late : List Late) : Type 0 where
  pub few : length late ≤ 64
  pub some : (i : ℕ) → i < length late → (late_at late i).reg ≡ 0 → ⊥
  pub below : (i : ℕ) → i < length late → (late_at late i).reg < 288
  pub sound : (i : ℕ) → i < length late → Memᴰ (late_at late i) es
  pub complete : {e : Dest} → Memᴰ e es → 1 < e.delay → (i : ℕ) × (i < length late) × (late_at late i ≡ e)
  pub most : (i : ℕ) → i < length late → (late_at late i).delay ≤ 8

-- what is made in a register: a destination in register 0 is no result
abbrev pub made : ℕ → ℕ → List Dest
made register delay = pick (eqb register 0) [] (record { reg = register; delay = delay } ∷ [])
