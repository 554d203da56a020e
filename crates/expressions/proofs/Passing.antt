-- A scan that passes an item passes any number of an operator and an item, for any operator and any item.
use mathlib.Core.Path.{◌≡◌, refl, ◌∙◌}
use mathlib.Core.List.{List, [], ◌∷◌}
use mathlib.Core.Option.{Option, none, some}
use Prim.Native.Nat.{ℕ, zero, suc}
use lib.ListN.{length}
use Rattle.tokens.specs.Tokens.{Token}
use Rattle.expressions.specs.Reader.{Got, bad, got, and_then, map_got, more_at, more_of, many_of}

-- what was read is no matter to a scan that goes on after it
abbrev pub onwards : {A X : Type 0} → (List Token → Got X) → Got A → Got X
onwards next g = and_then g (λ _ rest. next rest)

module _ {X : Type 0} (next : List Token → Got X) where
  map_onwards : {A B : Type 0} (f : A → B) (g : Got A) → onwards next g ≡ onwards next (map_got f g)
  map_onwards f bad = refl
  map_onwards f (got a rest) = refl

  -- one reader after another
  then_onwards : {A B C : Type 0} (f : A → B → C) (k : List Token → Got B) → ((rest : List Token) → next rest ≡ onwards next (k rest))
      → (g : Got A) → onwards next g ≡ onwards next (and_then g (λ a rest. map_got (f a) (k rest)))
  then_onwards f k h bad = refl
  then_onwards f k h (got a rest) = h rest ∙ map_onwards (f a) (k rest)

  module _ {O A B : Type 0} (operator : Token → Option O) (empty : B) (more : O → A → B → B) (item : List Token → Got A) (start : List Token → Got X)
      (goes_on_lem : (o : O) (t : Token) (ts : List Token) → operator t ≡ some o → next (t ∷ ts) ≡ start ts)
      (each : (ts : List Token) → start ts ≡ onwards next (item ts)) where
    turn : (p : Option O) (t : Token) (ts : List Token) (k : List Token → Got B) → operator t ≡ p → ((rest : List Token) → next rest ≡ onwards next (k rest))
        → next (t ∷ ts) ≡ onwards next (more_at operator empty more item p t ts k)
    turn none t ts k e h = refl
    turn (some o) t ts k e h = goes_on_lem o t ts e ∙ (each ts ∙ then_onwards (more o) k h (item ts))

    many_passed : (n : ℕ) (ts : List Token) → next ts ≡ onwards next (more_of operator empty more item n ts)
    unfolding more_of
    many_passed zero ts = refl
    many_passed (suc n) [] = refl
    many_passed (suc n) (t ∷ ts) = turn (operator t) t ts (more_of operator empty more item n) refl (many_passed n)

    -- an item, and then any number of them
    pub whole_passed : {C : Type 0} (cons : A → B → C) (ts : List Token)
        → start ts ≡ onwards next (and_then (item ts) (λ a rest. map_got (cons a) (many_of operator empty more item rest)))
    whole_passed cons ts =
        each ts ∙ then_onwards cons (many_of operator empty more item) (λ rest. many_passed (length rest) rest) (item ts)
