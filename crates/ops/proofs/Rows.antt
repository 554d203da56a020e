-- How the dispatch by opcode finds its row of the table.
use Rattle.std.proofs.Common.{◌≡◌, ℕ, zero, suc, ◌≤◌, Bool, true, ◌&&◌, T, ◌⊎◌, List, [], ◌∷◌, sym, refl, ap, ◌∙◌, subst, inl, inr, arith}
use lib.ListN.{get_or-eq_default}
use mir.Facts.{and_yes, or_yes}
use mir.Val.{has_key}
use types.Run.{OneOf, hit}
use Rattle.word.specs.Lists.{any}
use Rattle.meanings.specs.Value.{values, row, value}

-- an opcode's own row
pub at_row : (k x y b : ℕ) {opcode r : ℕ} → opcode ≡ k → r ≡ row k x y b → r ≡ value opcode x y b
unfolding value
at_row k x y b e h = h ∙ ap (λ (o : ℕ). row o x y b) (sym e)

-- .. one of two rows that hold the same
pub at_rows : (j k x y b : ℕ) {opcode r : ℕ} → (opcode ≡ j) ⊎ (opcode ≡ k) → r ≡ row j x y b → row j x y b ≡ row k x y b → r ≡ value opcode x y b
at_rows j k x y b (inl e) h s = at_row j x y b e h
at_rows j k x y b (inr e) h s = at_row k x y b e (h ∙ s)

-- .. and none, at the table's first row or past its end
pub no_row : (opcode x y b : ℕ) → (1 ≤ opcode → 52 ≤ opcode) → 0 ≡ value opcode x y b
unfolding value
no_row zero x y b h = refl
no_row (suc k) x y b h = sym (get_or-eq_default (values x y b) 0 (h (omega arith)))

-- what a match's last arm is told: the number is no key of the other arms, here the last of them first
abbrev Rest : List (List ℕ) → ℕ → Type 0
Rest [] x = Unit {0}
Rest (ks ∷ arms) x = Rest arms x × (OneOf ks x → ⊥)

abbrev is_key : List (List ℕ) → ℕ → Bool
is_key arms k = any (λ (ks : List ℕ). has_key ks k) arms

no_key : (arms : List (List ℕ)) {x : ℕ} → Rest arms x → (k : ℕ) → T (is_key arms k) → x ≡ k → ⊥
no_key [] r k t e = t
no_key (ks ∷ arms) r k t e =
    elim (or_yes (has_key ks k) (is_key arms k) t) [ inl h ↦ r.1 (subst (OneOf ks) (sym e) (hit ks k h)) | inr h ↦ no_key arms r.0 k h e ]

-- the numbers from 1 to n are keys
abbrev keys_to : List (List ℕ) → ℕ → Bool
keys_to arms zero = true
keys_to arms (suc n) = is_key arms (suc n) && keys_to arms n

-- .. so what is no key is 0 or past them
pub past : (arms : List (List ℕ)) {x : ℕ} → Rest arms x → (n : ℕ) → T (keys_to arms n) → 1 ≤ x → suc n ≤ x
past arms r zero t h = h
past arms r (suc n) t h =
    let (k, ks) = and_yes (is_key arms (suc n)) (keys_to arms n) t in
    let l = past arms r n ks h in
    let f = no_key arms r (suc n) k in
    omega arith
