-- What the class of an opcode says of its operation, and what decoding gives.
use mathlib.Core.Path.{◌≡◌, ◌∙◌}
use mathlib.Core.Logic.{◌⊎◌, inl, inr, ⊎_elim}
use mathlib.Core.Bool.{true, false}
use mathlib.Core.List.{[], ◌∷◌}
use Prim.Native.Nat.{ℕ, ◌≤◌, ◌<◌}
use native.Mathlib.Omega.{arith}
use lib.Dec.{eqb, ltb}
use borrow.Author.Tests.{eqb-true, eqb-false, ltb-true, ltb-false, ne_eqb, lt-ltb, le-ltb}
use Rattle.word.proofs.Choice.{never_both, or_true, or_false, or_right}
use Rattle.isa.specs.Syllable.{opcode, is_mem}
use Rattle.isa.specs.Decode.{decode}
use Rattle.isa.specs.declared.Op.{Op}
use Rattle.isa.proofs.Formats.{within_range, within_true, within_false}
use Rattle.isa.specs.declared.Way.TheVariants.{Along}
use Rattle.isa.proofs.Decoded.{decoded, decode_way, opcode_below}
use Rattle.isa.proofs.Written.{to_none, carry_none}
use Rattle.isa.proofs.Ways.{way_along}
use Rattle.isa.specs.declared.Turn.{Turn}
use Rattle.machine.specs.Instruction.{Fired, is_load, is_store, Next, next_by}
use Rattle.gather.specs.Gather.{is_turn, next_from, Formed}

-- ---- classes

module _ (c : ℕ) where
  pub memory_range : is_mem c ≡ true → (52 ≤ c) × (c ≤ 59)
  memory_range = within_range 52 59 c

  outside_memory : is_mem c ≡ false → 52 ≤ c → c ≤ 59 → ⊥
  outside_memory e p q = never_both (within_true 52 59 c p q) e

  memory_no_control : is_mem c ≡ true → is_turn c ≡ false
  memory_no_control e = let (p, q) = memory_range e in rw (ne_eqb c 0 (λ z. omega arith), le-ltb 60 c (omega arith))

  control_range : is_turn c ≡ true → (c ≡ 0) ⊎ (60 < c)
  control_range e = ⊎_elim (λ p. inl (eqb-true c 0 p)) (λ p. inr (ltb-true 60 c p)) (or_true (eqb c 0) (ltb 60 c) e)

  -- neither memory nor control
  pub plain_class : 0 < c → c ≤ 60 → (52 ≤ c → c ≤ 59 → ⊥) → (is_mem c ≡ false) × (is_turn c ≡ false)
  plain_class p q n = (within_false 52 59 c n, rw (ne_eqb c 0 (λ z. omega arith), le-ltb 60 c q))

  pub control_first : c ≡ 0 → is_turn c ≡ true
  control_first z = rw z

  pub control_last : 60 < c → is_turn c ≡ true
  control_last h = or_right (eqb c 0) (lt-ltb 60 c h)

  pub control_past : is_turn c ≡ true → (c ≡ 0 → ⊥) → 60 < c
  control_past e n = ltb-true 60 c (rw (ne_eqb c 0 n) at e)

  pub control_no_memory : is_turn c ≡ true → is_mem c ≡ false
  control_no_memory e = ⊎_elim (λ (z : c ≡ 0). rw z) (λ l. within_false 52 59 c (λ p q. omega arith)) (control_range e)

-- ---- one operation

module _ (e : Fired) where
  pub no_load : is_mem e.op.opcode ≡ false → is_load e.op ≡ false
  no_load h = let c = e.op.opcode in within_false 52 56 c (λ p q. outside_memory c h p (omega arith))

  pub no_store : is_mem e.op.opcode ≡ false → is_store e.op ≡ false
  no_store h = let c = e.op.opcode in within_false 57 59 c (λ p q. outside_memory c h (omega arith) q)

  -- only control decides where to go on
  module _ (f : Formed e.op) (j : ℕ) (w : Turn) where
    pub goes_along : is_turn e.op.opcode ≡ false → (k : Next) → next_by w k ≡ next_by w (next_from j (e ∷ []) k)
    goes_along h k = rw (f.along h)

    pub memory_goes_along : is_mem e.op.opcode ≡ true → (k : Next) → next_by w k ≡ next_by w (next_from j (e ∷ []) k)
    memory_goes_along h = goes_along (memory_no_control e.op.opcode h)

  -- nor does it have results or stores
  pub control_silent : Formed e.op → is_turn e.op.opcode ≡ true → (e.op.t ≡ 0) × (e.op.carry ≡ 0)
  control_silent f h = ⊎_elim f.still (λ l. (f.silent (omega arith) (λ z. omega arith), f.single (omega arith))) (control_range e.op.opcode h)

-- ---- decoding

module _ (c s : ℕ) (h : c < 4) where
  along : is_turn (opcode s) ≡ false → (decode c s).way ≡ Along
  along t =
      let (some, upto) = or_false (eqb (opcode s) 0) (ltb 60 (opcode s)) t in
      decode_way c s ∙ way_along s (omega (arith, eqb-false (opcode s) 0 some)) (ltb-false 60 (opcode s) upto)

  -- what has no destination, and who alone has a carry
  silent_decode : let o = decode c s in
      (opcode s ≡ 0 → (o.t ≡ 0) × (o.carry ≡ 0)) × (52 ≤ opcode s → o.carry ≡ 0) × (57 ≤ opcode s → (opcode s ≡ 60 → ⊥) → o.t ≡ 0)
  silent_decode =
      (λ z. (to_none c s (inl z), carry_none c s (λ e. omega arith)), λ h. carry_none c s (λ e. omega arith), λ y z. to_none c s (inr (y, z)))

  pub formed : Formed (decode c s)
  formed =
      let d = decoded c s h in
      let (still, single, silent) = silent_decode in
      record {
        s1 = omega (arith, d.s1);
        s2 = omega (arith, d.s2);
        b = d.b;
        stored = omega (arith, d.stored);
        t = d.t;
        carry = d.carry;
        code = rw d.code (opcode_below s);
        still = rw d.code still;
        single = rw d.code single;
        silent = rw d.code silent;
        along = rw d.code along;
      }

module _ {o : Op} (c s : ℕ) (h : c < 4) (e : o ≡ decode c s) where
  pub formed_as : Formed o
  formed_as = rw e (formed c s h)

  pub code_as : o.opcode ≡ opcode s
  code_as = rw e (decoded c s h).code
