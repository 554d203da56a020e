-- Laws of whether a register is busy.
use mathlib.Core.Path.{◌≡◌, ◌∙◌, sym}
use mathlib.Core.Bool.{Bool, true, false}
use mathlib.Core.List.{List}
use Prim.Native.Nat.{ℕ, ◌≤◌, ◌<◌}
use native.Mathlib.Omega.{arith}
use lib.Dec.{ltb}
use lib.ListN.{length, get_or}
use borrow.Author.Tests.{ltb-true}
use Rattle.std.specs.List.{list_any}
use Rattle.word.specs.Lists.{any_below}
use Rattle.word.proofs.Choice.{is_false, bool_same}
use Rattle.word.proofs.Lists.{any_true, any_below_true, any_below_some, any_below_none}
use Rattle.memory.proofs.Accesses.{any_is}
use Rattle.ticks.specs.declared.Register.{Register}
use Rattle.ticks.specs.Ticks.{blank, register_at, Freed}
use Rattle.std.proofs.lemmas.List.Folds.{list_any_at}

abbrev pub busy_at : ℕ → List Register → ℕ → Bool
busy_at t rs r = ltb t (register_at rs r).ready

any_at : {A : Type 0} (f : A → Bool) (xs : List A) (d : A) → list_any f xs ≡ true → (k : ℕ) × (k < length xs) × (f (get_or xs k d) ≡ true)
any_at f xs d e = any_true f xs d (sym (any_is f xs) ∙ e)

pub busy_any : (t : ℕ) (rs : List Register) → length rs ≡ 288 → list_any (λ (r : Register). ltb t r.ready) rs ≡ any_below (busy_at t rs) 288
busy_any t rs n =
    let f : Register → Bool = λ r. ltb t r.ready in
    bool_same (list_any f rs) (any_below (busy_at t rs) 288)
    (λ e. let a = any_at f rs blank e in any_below_some (busy_at t rs) 288 a.0 (omega (arith, a.1)) a.2)
    (λ e. let a = any_below_true (busy_at t rs) 288 e in list_any_at f rs a.0 blank (omega (arith, a.1)) a.2)

pub busy_none : (t free : ℕ) (rs : List Register) → Freed t free rs → free ≤ t → any_below (busy_at t rs) 288 ≡ false
busy_none t free rs freed h =
    any_below_none (busy_at t rs) 288
    (λ q l. is_false (busy_at t rs q) (λ e. let b = ltb-true t (register_at rs q).ready e in omega (arith, freed q b)))
