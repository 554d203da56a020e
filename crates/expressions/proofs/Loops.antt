-- Any number of an operator and an item: what the loop finds, for any operator and any item. The fuel is gone after this file.
use mathlib.Core.Path.{◌≡◌, refl, subst, ap, ◌∙◌}
use mathlib.Core.List.{List, [], ◌∷◌}
use mathlib.Core.Option.{Option, none, some}
use Prim.Native.Nat.{ℕ, zero, suc, ◌≤◌}
use native.Mathlib.Omega.{arith}
use lib.ListN.{length}
use Rattle.tokens.specs.Tokens.{Token}
use Rattle.expressions.specs.Grammar.{first}
use Rattle.expressions.specs.Reader.{Got, got, map_got, more_at, more_of, many_of}
use Rattle.expressions.proofs.Got.{got_same, then_got, then_is, then_same, map_got_lem, Shrinks}

module _ {O A B : Type 0} (operator : Token → Option O) (empty : B) (more : O → A → B → B) (item : List Token → Got A) where
  at_same : (o : Option O) (t : Token) (ts : List Token) (k l : List Token → Got B) → Shrinks item → ((rest : List Token) → length rest ≤ length ts → k rest ≡ l rest)
      → more_at operator empty more item o t ts k ≡ more_at operator empty more item o t ts l
  at_same none t ts k l sh h = refl
  at_same (some o) t ts k l sh h = then_same (item ts) _ _ (λ a rest e. ap (map_got (more o a)) (h rest (sh ts rest a e)))

  enough : Shrinks item → (n m : ℕ) (ts : List Token) → length ts ≤ n → length ts ≤ m → more_of operator empty more item n ts ≡ more_of operator empty more item m ts
  unfolding more_of
  enough sh zero zero ts p q = refl
  enough sh zero (suc m) [] p q = refl
  enough sh zero (suc m) (t ∷ ts) p q = absurd (omega arith)
  enough sh (suc n) zero [] p q = refl
  enough sh (suc n) zero (t ∷ ts) p q = absurd (omega arith)
  enough sh (suc n) (suc m) [] p q = refl
  enough sh (suc n) (suc m) (t ∷ ts) p q =
      at_same (operator t) t ts _ _ sh (λ rest h. enough sh n m rest (omega arith) (omega arith))

  -- the loop's one turn
  pub many_cons : Shrinks item → (t : Token) (ts : List Token) → many_of operator empty more item (t ∷ ts) ≡ more_at operator empty more item (operator t) t ts (many_of operator empty more item)
  unfolding more_of
  many_cons sh t ts = at_same (operator t) t ts _ _ sh (λ rest h. enough sh (length ts) (length rest) rest h (omega arith))

  pub many_none : (rest : List Token) → first operator rest ≡ none → many_of operator empty more item rest ≡ got empty rest
  unfolding more_of
  many_none [] e = refl
  many_none (t ∷ ts) e = ap (λ o. more_at operator empty more item o t ts (more_of operator empty more item (length ts))) e

  pub many_more : Shrinks item → {o : O} {a : A} {x : B} (t : Token) {ts mid rest : List Token} → operator t ≡ some o → item ts ≡ got a mid
      → many_of operator empty more item mid ≡ got x rest → many_of operator empty more item (t ∷ ts) ≡ got (more o a x) rest
  many_more sh {o} {a} t {ts} e f g =
      many_cons sh t ts ∙ (ap (λ p. more_at operator empty more item p t ts (many_of operator empty more item)) e ∙ then_is _ f (ap (map_got (more o a)) g))

  -- whatever holds of nothing and is kept by one more holds of what the loop finds
  module _ (P : A → List Token → List Token → Type 0) (Q : B → List Token → List Token → Type 0)
      (each : (ts rest : List Token) (a : A) → item ts ≡ got a rest → P a ts rest)
      (short : (ts rest : List Token) (a : A) → P a ts rest → length rest ≤ length ts)
      (end : (rest : List Token) → first operator rest ≡ none → Q empty rest rest)
      (step : (o : O) (a : A) (x : B) (t : Token) (ts mid rest : List Token) → operator t ≡ some o → P a ts mid → Q x mid rest → Q (more o a x) (t ∷ ts) rest) where
    nothing : (ts : List Token) {x : B} {rest : List Token} → first operator ts ≡ none → got empty ts ≡ got x rest → Q x ts rest
    nothing ts {x} {rest} f e = subst (λ b. Q b ts rest) (got_same e).0 (subst (λ r. Q empty ts r) (got_same e).1 (end ts f))

    turn : (n : ℕ) (o : Option O) (t : Token) (ts : List Token) {x : B} {rest : List Token} → operator t ≡ o → length ts ≤ n
        → ((mid : List Token) (y : B) (r : List Token) → length mid ≤ n → more_of operator empty more item n mid ≡ got y r → Q y mid r)
        → more_at operator empty more item o t ts (more_of operator empty more item n) ≡ got x rest → Q x (t ∷ ts) rest
    turn n none t ts p q again e = nothing (t ∷ ts) p e
    turn n (some o) t ts {x} {rest} p q again e =
        let a = then_got (item ts) _ e in
        let y = map_got_lem _ (more_of operator empty more item n a.1) a.3 in
        let h = each ts a.1 a.0 a.2 in
        let l = short ts a.1 a.0 h in
        subst (λ b. Q b (t ∷ ts) rest) y.2 (step o a.0 y.0 t ts a.1 rest p h (again a.1 y.0 rest (omega arith) y.1))

    from_fuel : (n : ℕ) (ts : List Token) (x : B) (rest : List Token) → length ts ≤ n → more_of operator empty more item n ts ≡ got x rest → Q x ts rest
    unfolding more_of
    from_fuel zero [] x rest p e = nothing [] refl e
    from_fuel zero (t ∷ ts) x rest p e = absurd (omega arith)
    from_fuel (suc n) [] x rest p e = nothing [] refl e
    from_fuel (suc n) (t ∷ ts) x rest p e = turn n (operator t) t ts refl (omega arith) (λ mid y r l f. from_fuel n mid y r l f) e

    pub many_sound : (ts rest : List Token) (x : B) → many_of operator empty more item ts ≡ got x rest → Q x ts rest
    many_sound ts rest x e = from_fuel (length ts) ts x rest (omega arith) e
