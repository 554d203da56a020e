-- An instruction touches a register exactly if one of its operations names it.
use mathlib.Core.Path.{◌≡◌, refl, sym, ◌∙◌}
use mathlib.Core.Bool.{Bool, true, false, ◌||◌, ◌&&◌}
use mathlib.Core.List.{List, [], ◌∷◌, ◌++◌, map}
use Prim.Native.Nat.{ℕ}
use lib.Dec.{eqb, ltb}
use borrow.Author.Tests.{eqb-true, eq-eqb, ne_eqb, ltb-true, lt-ltb}
use Rattle.word.specs.Choice.{pick}
use Rattle.word.specs.Lists.{any, any_below, member}
use Rattle.word.proofs.Choice.{bool_same, or_right}
use Rattle.word.proofs.Lists.{any_append, any_below_true, any_below_some}
use Rattle.isa.specs.Control.{reads_every}
use Rattle.isa.specs.Touch.{Result, every_register, reads, result_in, results, destinations}
use Rattle.isa.specs.declared.Op.{Op}
use Rattle.isa.proofs.Every.{any_if}
use Rattle.schedule.specs.Stamps.{names}

-- what is read stands before what is written
sorted : (v a b c d A t u B : Bool) → ((v || a || b || c || d || t || u) || (A || B)) ≡ ((a || (b || (c || (d || (v || A))))) || (t || (u || B)))
sorted true a b c d A t u B = rw (or_right a (or_right b (or_right c (or_right d refl))))
sorted false true b c d A t u B = refl
sorted false false true c d A t u B = refl
sorted false false false true d A t u B = refl
sorted false false false false true A t u B = refl
sorted false false false false false A true u B = sym (or_right A refl)
sorted false false false false false A false true B = sym (or_right A refl)
sorted false false false false false A false false B = refl

below : (r n : ℕ) → any_below (eqb r) n ≡ ltb r n
below r n =
    bool_same _ _ (λ e. let (k, b, h) = any_below_true (eqb r) n e in lt-ltb r n (rw (eqb-true r k h) b)) (λ e. any_below_some (eqb r) n r (ltb-true r n e) (eq-eqb r r refl))

-- what call and return read besides
every : (r : ℕ) (b : Bool) → member r (pick b every_register []) ≡ b && ltb r 288
every r b = any_if (eqb r) b ∙ rw (below r 288)

module _ (r : ℕ) (some : r ≡ 0 → ⊥) where
  written : (t o : ℕ) (more : List Result)
      → member r (map (λ (x : Result). x.register) (result_in t o more)) ≡ eqb r t || member r (map (λ (x : Result). x.register) more)
  written t o more = by (eqb t 0) refl
    where
      by : (b : Bool) → eqb t 0 ≡ b
          → member r (map (λ (x : Result). x.register) (pick b more (record { register = t; opcode = o } ∷ more))) ≡ eqb r t || member r (map (λ (x : Result). x.register) more)
      by true e = rw (eqb-true t 0 e, ne_eqb r 0 some)
      by false e = refl

  named : (os : List Op) → any (names r) os ≡ member r (reads os) || member r (destinations os)
  named [] = refl
  named (o ∷ os) =
      rw (
        named os,
        written o.t o.opcode _,
        written o.carry o.opcode (results os),
        any_append (eqb r) (pick (reads_every o.way) every_register []) (reads os),
        every r (reads_every o.way),
      )
      (sorted (reads_every o.way && ltb r 288) (eqb r o.s1) (eqb r o.s2) (eqb r o.b) (eqb r o.stored) (member r (reads os)) (eqb r o.t) (eqb r o.carry) (member r (destinations os)))

  pub touched : (os : List Op) → any (names r) os ≡ member r (reads os ++ destinations os)
  touched os = named os ∙ sym (any_append (eqb r) (reads os) (destinations os))
