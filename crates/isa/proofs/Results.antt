-- What the destinations of operations have, register 0 left out, their results have.
use mathlib.Core.Path.{refl}
use mathlib.Core.Logic.{◌≢◌, ⊎_elim}
use mathlib.Core.List.Memᴰ
use mathlib.Core.List.{List, [], ◌∷◌, Memᴰ}
use Prim.Native.Nat.{ℕ}
use lib.Dec.{eqb}
use borrow.Author.Tests.{eqb-false}
use Rattle.word.proofs.Choice.{by_test}
use Rattle.vliw.specs.Machine.{Dest}
use Rattle.isa.specs.Touch.{Result, result_in, results, dests}
use Rattle.isa.specs.declared.Op.{Op}
use Rattle.isa.specs.declared.Delays.{Delays}

module _ (P : ℕ → Type 0) where
  result_has : (r c : ℕ) (more : List Result) → (r ≢ 0 → P r) → ((x : Result) → Memᴰ x more → P x.register)
      → (x : Result) → Memᴰ x (result_in r c more) → P x.register
  result_has r c more h rest x =
      ⊎_elim
      (λ t. rw t (rest x))
      (λ t. rw t (λ m. ⊎_elim (λ q. rw q (h (eqb-false r 0 t))) (rest x) (Memᴰ.cases_cons m)))
      (by_test (eqb r 0))

  results_have : (os : List Op) → ((o : Op) → Memᴰ o os → (o.t ≢ 0 → P o.t) × (o.carry ≢ 0 → P o.carry))
      → (x : Result) → Memᴰ x (results os) → P x.register
  results_have [] h x m = absurd (Memᴰ.not-nil m)
  results_have (o ∷ os) h x m =
      let (t, c) = h o (Memᴰ.head refl) in
      result_has o.t o.opcode _ t (result_has o.carry o.opcode _ c (results_have os (λ p i. h p (Memᴰ.tail i)))) x m

  pub dests_have : (os : List Op) → ((o : Op) → Memᴰ o os → (o.t ≢ 0 → P o.t) × (o.carry ≢ 0 → P o.carry))
      → (d : Delays) (e : Dest) → Memᴰ e (dests d os) → P e.reg
  dests_have os h d e m = let (r, i, q) = Memᴰ.of_map _ (results os) m in rw (← q) (results_have os h r i)
