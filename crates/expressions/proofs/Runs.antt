-- A loop that works out its value as it goes, for any operator and any item: a step of the loop is a step of the value.
use mathlib.Core.Path.{◌≡◌, refl, ap, ◌∙◌}
use mathlib.Core.List.{List, ◌∷◌}
use mathlib.Core.Option.{Option, none, some}
use Rattle.tokens.specs.Tokens.{Token}
use Rattle.expressions.specs.Grammar.{first}
use Rattle.expressions.specs.Reader.{Got, bad, got, and_then, map_got, more_at, many_of}
use Rattle.expressions.proofs.Got.{then_is, map_got_lem, map_bad, map_two, Shrinks}
use Rattle.expressions.proofs.Loops.{many_cons, many_none}

module _ {O A B X : Type 0} (operator : Token → Option O) (empty : B) (more : O → A → B → B) (item : List Token → Got A) (shrinks : Shrinks item)
    (valueA : A → X) (valueB : B → X → X) (apply : O → X → X → X)
    (at-empty : (v : X) → valueB empty v ≡ v) (at_more : (o : O) (a : A) (x : B) (v : X) → valueB (more o a x) v ≡ valueB x (apply o v (valueA a))) where
  abbrev pub run : X → List Token → Got X
  run v ts = map_got (λ x. valueB x v) (many_of operator empty more item ts)

  pub run_end : (v : X) (ts : List Token) → first operator ts ≡ none → run v ts ≡ got v ts
  run_end v ts e = ap (map_got (λ x. valueB x v)) (many_none operator empty more item ts e) ∙ ap (λ w. got w ts) (at-empty v)

  turn : {o : O} (t : Token) (ts : List Token) → operator t ≡ some o
      → many_of operator empty more item (t ∷ ts) ≡ and_then (item ts) (λ a rest. map_got (more o a) (many_of operator empty more item rest))
  turn t ts e = many_cons operator empty more item shrinks t ts ∙ ap (λ p. more_at operator empty more item p t ts (many_of operator empty more item)) e

  pub run_step : {o : O} {w : X} {mid : List Token} (v : X) (t : Token) (ts : List Token) → operator t ≡ some o → map_got valueA (item ts) ≡ got w mid → run v (t ∷ ts) ≡ run (apply o v w) mid
  run_step {o} {w} {mid} v t ts e f =
      let a = map_got_lem valueA (item ts) f in
      ap (map_got (λ x. valueB x v)) (turn t ts e ∙ then_is (λ a rest. map_got (more o a) (many_of operator empty more item rest)) a.1 refl)
      ∙ map_two (λ x. valueB x v) (more o a.0) (λ x. valueB x (apply o v w)) (λ x. at_more o a.0 x v ∙ ap (λ u. valueB x (apply o v u)) a.2) (many_of operator empty more item mid)

  pub run_bad : {o : O} (v : X) (t : Token) (ts : List Token) → operator t ≡ some o → map_got valueA (item ts) ≡ bad → run v (t ∷ ts) ≡ bad
  run_bad {o} v t ts e f =
      ap (map_got (λ x. valueB x v)) (turn t ts e ∙ ap (λ g. and_then g (λ a rest. map_got (more o a) (many_of operator empty more item rest))) (map_bad valueA (item ts) f))

  module _ {C : Type 0} (cons : A → B → C) (valueC : C → X) (at-cons : (a : A) (x : B) → valueC (cons a x) ≡ valueB x (valueA a)) where
    abbrev pub whole : List Token → Got C
    whole ts = and_then (item ts) (λ a rest. map_got (cons a) (many_of operator empty more item rest))

    pub head_got : {w : X} {mid : List Token} (ts : List Token) → map_got valueA (item ts) ≡ got w mid → map_got valueC (whole ts) ≡ run w mid
    head_got {w} {mid} ts f =
        let a = map_got_lem valueA (item ts) f in
        ap (map_got valueC) (then_is (λ a rest. map_got (cons a) (many_of operator empty more item rest)) a.1 refl)
        ∙ map_two valueC (cons a.0) (λ x. valueB x w) (λ x. at-cons a.0 x ∙ ap (valueB x) a.2) (many_of operator empty more item mid)

    pub head_bad : (ts : List Token) → map_got valueA (item ts) ≡ bad → map_got valueC (whole ts) ≡ bad
    head_bad ts f = ap (map_got valueC) (ap (λ g. and_then g (λ a rest. map_got (cons a) (many_of operator empty more item rest))) (map_bad valueA (item ts) f))
