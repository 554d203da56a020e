-- The destinations of each form.
use mathlib.Core.Path.{◌≡◌, refl}
use mathlib.Core.Logic.{◌⊎◌, ◌≢◌, ⊎_elim}
use mathlib.Core.Bool.{false}
use Prim.Native.Nat.{ℕ, ◌≤◌, ◌<◌}
use native.Mathlib.Omega.{arith}
use lib.Dec.{eqb}
use Rattle.word.proofs.Choice.{never_both}
use Rattle.isa.specs.Syllable.{bits, opcode, format_of, within}
use Rattle.isa.specs.Register.{general, branch}
use Rattle.isa.specs.Decode.{decode_as, decode}
use Rattle.isa.specs.declared.Op.{Op}
use Rattle.isa.specs.declared.Format.{Format}
use Rattle.isa.specs.declared.Format.TheVariants.{Still, Two, One, Carry, Test, Select, Load, Store, Copy, Jump, Fork}
use Rattle.isa.proofs.Steps.{either_way}
use Rattle.isa.proofs.Formats.{Among, format_among, within_true}
use Rattle.isa.proofs.Decoded.{decode_as_lem}

module _ (c s : ℕ) where
  pub to_branch : Among Test (opcode s) → (decode c s).t ≡ branch c (bits 20 18 s)
  to_branch a = rw (decode_as_lem Test c s a) (either_way (λ (o : Op). o.t ≡ branch c (bits 20 18 s)) (eqb (bits 11 11 s) 0) _ _ refl refl)

  pub to_general : 0 < opcode s → within 40 49 (opcode s) ≡ false → (opcode s ≤ 56) ⊎ (opcode s ≡ 60) → (decode c s).t ≡ general c (bits 23 18 s)
  unfolding decode
  to_general p w q = by (format_of (opcode s)) (format_among (opcode s))
    where
      by : (f : Format) → Among f (opcode s) → (decode_as c s f).t ≡ general c (bits 23 18 s)
      by Still a = absurd (omega arith)
      by Two a = either_way (λ (o : Op). o.t ≡ general c (bits 23 18 s)) (eqb (bits 11 11 s) 0) _ _ refl refl
      by One a = refl
      by Carry a = refl
      by Test a = absurd (never_both (within_true 40 49 (opcode s) a.0 a.1) w)
      by Select a = refl
      by Load a = refl
      by Store a = absurd (⊎_elim (λ h. omega arith) (λ h. omega arith) q)
      by Copy a = refl
      by Jump a = absurd (⊎_elim (λ h. omega arith) (λ h. omega arith) q)
      by Fork a = absurd (⊎_elim (λ h. omega arith) (λ h. omega arith) q)

  pub to_none : (opcode s ≡ 0) ⊎ ((56 < opcode s) × (opcode s ≢ 60)) → (decode c s).t ≡ 0
  unfolding decode
  to_none q = by (format_of (opcode s)) (format_among (opcode s))
    where
      by : (f : Format) → Among f (opcode s) → (decode_as c s f).t ≡ 0
      by Still a = refl
      by Two a = absurd (⊎_elim (λ h. ⊎_elim (λ k. omega arith) (λ k. omega arith) a) (λ h. ⊎_elim (λ k. omega arith) (λ k. omega arith) a) q)
      by One a = absurd (⊎_elim (λ h. omega arith) (λ h. omega arith) q)
      by Carry a = absurd (⊎_elim (λ h. omega arith) (λ h. omega arith) q)
      by Test a = absurd (⊎_elim (λ h. omega arith) (λ h. omega arith) q)
      by Select a = absurd (⊎_elim (λ h. omega arith) (λ h. omega arith) q)
      by Load a = absurd (⊎_elim (λ h. omega arith) (λ h. omega arith) q)
      by Store a = refl
      by Copy a = absurd (⊎_elim (λ h. omega arith) (λ h. h.1 a) q)
      by Jump a = refl
      by Fork a = refl

  pub carry_at : opcode s ≡ 23 → (decode c s).carry ≡ branch c (bits 8 6 s)
  carry_at a = rw (decode_as_lem Carry c s a)

  pub carry_none : opcode s ≢ 23 → (decode c s).carry ≡ 0
  unfolding decode
  carry_none h = by (format_of (opcode s)) (format_among (opcode s))
    where
      by : (f : Format) → Among f (opcode s) → (decode_as c s f).carry ≡ 0
      by Still a = refl
      by Two a = either_way (λ (o : Op). o.carry ≡ 0) (eqb (bits 11 11 s) 0) _ _ refl refl
      by One a = refl
      by Carry a = absurd (h a)
      by Test a = either_way (λ (o : Op). o.carry ≡ 0) (eqb (bits 11 11 s) 0) _ _ refl refl
      by Select a = refl
      by Load a = refl
      by Store a = refl
      by Copy a = refl
      by Jump a = refl
      by Fork a = refl
