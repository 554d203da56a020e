-- What decoding gives of an operation's destinations, and that each takes its value.
use mathlib.Core.Path.{◌≡◌, refl}
use mathlib.Core.Logic.{◌⊎◌, ◌≢◌, ⊎_elim}
use mathlib.Core.Bool.{◌||◌}
use mathlib.Core.List.{List, [], ◌∷◌, map, Memᴰ}
use Prim.Native.Nat.{ℕ, ◌%◌, ◌^◌, ◌≤◌, ◌<◌}
use native.Mathlib.Nat.{mod-lt, lt_of_lt_of_le}
use native.Mathlib.Omega.{arith}
use lib.Dec.{eqb, lit<}
use lib.ListN.{length, get_or, get_or-map}
use borrow.Author.Tests.{eqb-false, ne_eqb, lt-leb}
use Rattle.word.specs.Bytes.{AreBytes}
use Rattle.word.proofs.Choice.{by_test}
use Rattle.word.proofs.Bytes.{number_at_lt}
use Rattle.ops.specs.Value.{carry}
use Rattle.ops.proofs.Laws.{value_below, value_bit, carry_bit, loaded_below}
use Rattle.vliw.specs.Cell.{Cell, Registers, still}
use Rattle.vliw.specs.Machine.{Dest}
use Rattle.isa.specs.Syllable.{bits, opcode, format_of}
use Rattle.isa.specs.Register.{general}
use Rattle.isa.specs.Decode.{decode_as, decode}
use Rattle.isa.specs.Touch.{Result, delay_of, result_in, dests}
use Rattle.isa.specs.declared.Op.{Op}
use Rattle.isa.specs.declared.Delays.{Delays}
use Rattle.isa.specs.declared.Format.{Format}
use Rattle.isa.specs.declared.Format.TheVariants.{Still, Two, One, Carry, Test, Select, Load, Store, Copy, Jump, Fork}
use Rattle.isa.proofs.Steps.{either_way}
use Rattle.isa.proofs.Decoded.{decoded, test_only}
use Rattle.memory.specs.Memory.{size_of, offset_in}
use Rattle.machine.specs.Instruction.{Fired, fire, is_load, access_of, result_of, value_in, result_values}
use Rattle.machine.proofs.Written.{AllWhole, Takes, AllTake, none, more}

-- ---- an operation

-- of the registers that read zero only number 0 is a destination
abbrev OnlyZero : ℕ → Type 0
OnlyZero t = t < 256 → t % 64 ≡ 0 → t ≡ 0

-- what decoding gives of destinations: a general one is no register 0, a branch one is a comparison's or addcg's second
pub record Aimed (o : Op) : Type 0 where
  first : OnlyZero o.t
  test : 256 ≤ o.t → (40 ≤ o.opcode) × (o.opcode ≤ 49)
  second : (o.carry ≡ 0) ⊎ ((256 ≤ o.b) × (256 ≤ o.carry))
  immediate : o.immediate < 2 ^ 32

module _ (c s : ℕ) where
  general_zero : (r : ℕ) → r < 64 → OnlyZero (general c r)
  general_zero r b =
      ⊎_elim
      (λ t. rw t (λ p q. refl))
      (λ t. rw t (λ p q. absurd (eqb-false r 0 t (omega arith))))
      (by_test (eqb r 0))

  t_zero : OnlyZero (general c (bits 23 18 s))
  t_zero = general_zero (bits 23 18 s) (mod-lt _ (lit< tt))

  first_as : (f : Format) → OnlyZero (decode_as c s f).t
  first_as Still = λ p q. refl
  first_as Two = either_way (λ (o : Op). OnlyZero o.t) (eqb (bits 11 11 s) 0) _ _ t_zero t_zero
  first_as One = t_zero
  first_as Carry = t_zero
  first_as Test = either_way (λ (o : Op). OnlyZero o.t) (eqb (bits 11 11 s) 0) _ _ (λ p q. omega arith) (λ p q. omega arith)
  first_as Select = t_zero
  first_as Load = t_zero
  first_as Store = λ p q. refl
  first_as Copy = t_zero
  first_as Jump = λ p q. refl
  first_as Fork = λ p q. refl

  first_decoded : OnlyZero (decode c s).t
  unfolding decode
  first_decoded = first_as (format_of (opcode s))

  pub aimed : c < 4 → Aimed (decode c s)
  aimed h =
      let d = decoded c s h in
      record { first = first_decoded; test = λ k. rw d.code (test_only c s h k); second = d.carrying; immediate = d.immediate }

-- ---- its values

sized : (c : ℕ) → 256 ^ size_of c ≤ 2 ^ 32
sized c =
    either_way (λ n. 256 ^ n ≤ 2 ^ 32) (eqb c 52 || eqb c 57) _ _ (omega arith)
    (either_way (λ n. 256 ^ n ≤ 2 ^ 32) (eqb c 53 || (eqb c 54 || eqb c 58)) _ _ (omega arith) (omega arith))

module _ (l : Registers) (whole : AllWhole l) (m : List ℕ) (memory : AreBytes m) where
  abbrev f : List ℕ
  f = map (λ (c : Cell). c.value) l

  read_word : (r : ℕ) → get_or f r 0 < 2 ^ 32
  read_word r = rw (get_or-map (λ (c : Cell). c.value) l r still) (whole r).value

  read_bit : (r : ℕ) → 256 ≤ r → get_or f r 0 ≤ 1
  read_bit r b = rw (get_or-map (λ (c : Cell). c.value) l r still) ((whole r).valid.branch b).0

  module _ (o : Op) (a : Aimed o) where
    abbrev e : Fired
    e = fire f o

    second_word : e.y < 2 ^ 32
    second_word = either_way (λ n. n < 2 ^ 32) (eqb o.s2 0) _ _ a.immediate (read_word o.s2)

    result_word : result_of m e < 2 ^ 32
    result_word =
        let c = o.opcode in
        either_way (λ n. n < 2 ^ 32) (is_load o) _ _
        (loaded_below c _ (lt_of_lt_of_le (number_at_lt (size_of c) (offset_in (access_of (length m) e)) m memory) (sized c)))
        (either_way (λ n. n < 2 ^ 32) (eqb c 60) _ _ (read_word o.s1) (value_below c _ _ _ (read_word o.s1) second_word))

    -- a comparison is no load and no copy
    result_bit : 256 ≤ o.t → result_of m e ≤ 1
    result_bit b =
        let c = o.opcode in
        let (low, high) = a.test b in
        rw (lt-leb 52 c (omega arith), ne_eqb c 60 (λ q. omega arith)) (value_bit c _ _ _ low high)

    carry_small : 256 ≤ o.b → carry e.x e.y e.b ≤ 1
    carry_small b = carry_bit _ _ _ (read_word o.s1) second_word (read_bit o.b b)

  module _ (d : Delays) (timely : (o r : ℕ) → (1 ≤ delay_of d o r) × (delay_of d o r ≤ 8)) where
    abbrev dest_of : Result → Dest
    dest_of r = record { reg = r.register; delay = delay_of d r.opcode r.register }

    one_takes : (r c v : ℕ) (rs : List Result) (vs : List ℕ)
        → (r ≢ 0 → Takes (dest_of record { register = r; opcode = c }) v) → AllTake (map dest_of rs) vs
        → AllTake (map dest_of (result_in r c rs)) (value_in r v vs)
    one_takes r c v rs vs h k = ⊎_elim (λ t. rw t k) (λ t. rw t (more (h (eqb-false r 0 t)) k)) (by_test (eqb r 0))

    first_takes : (o : Op) → Aimed o → o.t ≢ 0 → Takes (dest_of record { register = o.t; opcode = o.opcode }) (result_of m (fire f o))
    first_takes o a n =
        record {
          some = λ p q. n (a.first p q);
          least = (timely o.opcode o.t).0;
          most = (timely o.opcode o.t).1;
          word = result_word o a;
          bit = result_bit o a;
        }

    second_takes : (o : Op) → Aimed o → o.carry ≢ 0
        → let e = fire f o in Takes (dest_of record { register = o.carry; opcode = o.opcode }) (carry e.x e.y e.b)
    second_takes o a n =
        ⊎_elim
        (λ z. absurd (n z))
        (λ (p, q).
        let b = carry_small o a p in
        record {
          some = λ s t. omega arith;
          least = (timely o.opcode o.carry).0;
          most = (timely o.opcode o.carry).1;
          word = omega (arith, b);
          bit = λ s. b;
        })
        a.second

    pub all_take : (os : List Op) → ((o : Op) → Memᴰ o os → Aimed o) → AllTake (dests d os) (result_values m (map (fire f) os))
    all_take [] h = none
    all_take (o ∷ os) h =
        let a = h o (Memᴰ.head refl) in
        one_takes o.t o.opcode _ _ _ (first_takes o a)
        (one_takes o.carry o.opcode _ _ _ (second_takes o a) (all_take os (λ p i. h p (Memᴰ.tail i))))
