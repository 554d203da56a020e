-- Laws of what a reader of tokens got.
use mathlib.Core.Path.{◌≡◌, refl, sym, subst, ap, ◌∙◌}
use mathlib.Core.List.{List}
use Prim.Native.Nat.{◌≤◌}
use lib.ListN.{length}
use Rattle.tokens.specs.Tokens.{Token}
use Rattle.expressions.specs.Reader.{Got, bad, got, and_then, map_got}

abbrev IsGot : {A : Type 0} → Got A → Type 0
IsGot bad = ⊥
IsGot (got a rest) = Unit {0}

pub bad_not_got : {A : Type 0} {a : A} {rest : List Token} → bad ≡ got a rest → ⊥
bad_not_got {A} e = subst (λ (g : Got A). IsGot g) (sym e) tt

pub got_same : {A : Type 0} {a b : A} {r s : List Token} → got a r ≡ got b s → (a ≡ b) × (r ≡ s)
got_same e = ((cc), (cc))

-- ---- one after another

pub then_got : {A B : Type 0} (g : Got A) (k : A → List Token → Got B) {b : B} {rest : List Token} → and_then g k ≡ got b rest
    → (a : A) × (mid : List Token) × (g ≡ got a mid) × (k a mid ≡ got b rest)
then_got bad k e = absurd (bad_not_got e)
then_got (got a mid) k e = (a, mid, refl, e)

pub then_is : {A B : Type 0} {g : Got A} {a : A} {mid : List Token} (k : A → List Token → Got B) {r : Got B} → g ≡ got a mid → k a mid ≡ r → and_then g k ≡ r
then_is k e f = ap (λ x. and_then x k) e ∙ f

pub then_same : {A B : Type 0} (g : Got A) (k l : A → List Token → Got B) → ((a : A) (rest : List Token) → g ≡ got a rest → k a rest ≡ l a rest) → and_then g k ≡ and_then g l
then_same bad k l h = refl
then_same (got a rest) k l h = h a rest refl

-- ---- of something else

pub map_got_lem : {A B : Type 0} (f : A → B) (g : Got A) {b : B} {rest : List Token} → map_got f g ≡ got b rest
    → (a : A) × (g ≡ got a rest) × (f a ≡ b)
map_got_lem f bad e = absurd (bad_not_got e)
map_got_lem f (got a mid) e = (a, ap (got a) (got_same e).1, (got_same e).0)

pub map_bad : {A B : Type 0} (f : A → B) (g : Got A) → map_got f g ≡ bad → g ≡ bad
map_bad f bad e = refl
map_bad f (got a rest) e = cc

pub map_two : {A B C : Type 0} (f : B → C) (g : A → B) (h : A → C) → ((a : A) → f (g a) ≡ h a) → (r : Got A) → map_got f (map_got g r) ≡ map_got h r
map_two f g h e bad = refl
map_two f g h e (got a rest) = ap (λ c. got c rest) (e a)

-- what is left is no longer than what was read
abbrev pub Shrinks : {A : Type 0} → (List Token → Got A) → Type 0
Shrinks {A} item = (ts rest : List Token) (a : A) → item ts ≡ got a rest → length rest ≤ length ts
