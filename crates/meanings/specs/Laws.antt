-- What the values mean, in opcode order and in other words than the table's: integers, their order, bits.
-- x is s1, y is s2, b the branch register, v the value. `signed 32 x` is the integer that x stands for, `pos x` the same unsigned.
use Rattle.std.specs.Prelude.{◌≡◌, ◌⊎◌, Bool, not, ◌&&◌, ◌||◌, ℕ, ◌+◌, ◌*◌, ◌^◌, ◌≤◌, ◌<◌, ℤ, pos, ◌+ℤ◌, ◌-ℤ◌, ◌*ℤ◌, ◌≤ℤ◌, ◌<ℤ◌}
use Rattle.word.specs.Choice.{pick}
use Rattle.word.specs.Widen.{widen}
use Rattle.meanings.specs.Integer.{signed, Modulo, Floor, bit_at, Tells}

-- of the definitions in Value.antt, or of any others in their place
module _ (value : ℕ → ℕ → ℕ → ℕ → ℕ) (carry : ℕ → ℕ → ℕ → ℕ) (address loaded stored : ℕ → ℕ → ℕ) where
  -- for all words
  abbrev pub Row : ℕ → (ℕ → ℕ → ℕ → Type 0) → Type 0
  Row opcode law = (x y b : ℕ) → x < 2 ^ 32 → y < 2 ^ 32 → law x y (value opcode x y b)

  -- "modulo 2^32"
  abbrev pub Sum : ℕ → (ℤ → ℤ → ℤ) → Type 0
  Sum opcode f = Row opcode (λ x y v. Modulo (2 ^ 32) (f (signed 32 x) (signed 32 y)) v)

  -- bit by bit
  abbrev pub Bitwise : ℕ → (Bool → Bool → Bool) → Type 0
  Bitwise opcode f = Row opcode (λ x y v. (i : ℕ) → i < 32 → bit_at i v ≡ f (bit_at i x) (bit_at i y))

  -- by k, the low five bits of s2, whatever stands above them
  abbrev pub Shift : ℕ → (ℕ → ℕ → ℕ → Type 0) → Type 0
  Shift opcode law = (x above k b : ℕ) → x < 2 ^ 32 → k < 32 → law x k (value opcode x (above * 32 + k) b)

  -- one of the two, and each of them stands to it as `order` says
  abbrev pub OneOfTwo : ℕ → (ℕ → ℕ → Type 0) → Type 0
  OneOfTwo opcode order = Row opcode (λ x y v. ((v ≡ x) ⊎ (v ≡ y)) × order x v × order y v)

  -- the low k bits of s1, whatever stands above them
  abbrev pub Extension : ℕ → ℕ → (ℕ → ℕ → Type 0) → Type 0
  Extension opcode k law = (above low y b : ℕ) → low < 2 ^ k → law low (value opcode (above * 2 ^ k + low) y b)

  -- of the halves: s1 is h * 2^16 + l, s2 is h' * 2^16 + l'
  abbrev pub Product : ℕ → (ℕ → ℕ → ℕ → ℕ → ℕ → Type 0) → Type 0
  Product opcode law =
      (h l h' l' b : ℕ) → h < 2 ^ 16 → l < 2 ^ 16 → h' < 2 ^ 16 → l' < 2 ^ 16
      → law h l h' l' (value opcode (h * 2 ^ 16 + l) (h' * 2 ^ 16 + l') b)

  -- to a general register, and ten opcodes on "the same to a branch register"
  abbrev pub Comparison : ℕ → (ℕ → ℕ → Type 0) → Type 0
  Comparison opcode holds = Row opcode (λ x y v. Tells (holds x y) v) × Row (opcode + 10) (λ x y v. Tells (holds x y) v)

  pub record Laws : Type 0 where
    -- of words come words
    pub word : (opcode : ℕ) → Row opcode (λ x y v. v < 2 ^ 32)
    pub add : Sum 1 (λ s1 s2. s1 +ℤ s2)
    pub sub : Sum 2 (λ s1 s2. s2 -ℤ s1)
    pub and : Bitwise 3 (λ s1 s2. s1 && s2)
    pub andc : Bitwise 4 (λ s1 s2. not s1 && s2)
    pub or : Bitwise 5 (λ s1 s2. s1 || s2)
    pub orc : Bitwise 6 (λ s1 s2. not s1 || s2)
    pub xor : Bitwise 7 (λ s1 s2. pick s1 (not s2) s2)
    pub shl : Shift 8 (λ x k v. Modulo (2 ^ 32) (signed 32 x *ℤ pos (2 ^ k)) v)
    pub shr : Shift 9 (λ x k v. Floor (2 ^ k) (signed 32 x) (signed 32 v))
    pub shru : Shift 10 (λ x k v. Floor (2 ^ k) (pos x) (pos v))
    pub sh1add : Sum 11 (λ s1 s2. s1 *ℤ pos 2 +ℤ s2)
    pub sh2add : Sum 12 (λ s1 s2. s1 *ℤ pos 4 +ℤ s2)
    pub sh3add : Sum 13 (λ s1 s2. s1 *ℤ pos 8 +ℤ s2)
    pub sh4add : Sum 14 (λ s1 s2. s1 *ℤ pos 16 +ℤ s2)
    pub max : OneOfTwo 15 (λ s v. signed 32 s ≤ℤ signed 32 v)
    pub maxu : OneOfTwo 16 (λ s v. s ≤ v)
    pub min : OneOfTwo 17 (λ s v. signed 32 v ≤ℤ signed 32 s)
    pub minu : OneOfTwo 18 (λ s v. v ≤ s)
    pub sxtb : Extension 19 8 (λ low v. signed 32 v ≡ signed 8 low)
    pub sxth : Extension 20 16 (λ low v. signed 32 v ≡ signed 16 low)
    pub zxtb : Extension 21 8 (λ low v. v ≡ low)
    pub zxth : Extension 22 16 (λ low v. v ≡ low)
    pub addcg : (x y b : ℕ) → carry x y b * 2 ^ 32 + value 23 x y b ≡ x + y + b
    pub mpyll : Product 24 (λ h l h' l' v. signed 32 v ≡ signed 16 l *ℤ signed 16 l')
    pub mpyllu : Product 25 (λ h l h' l' v. v ≡ l * l')
    pub mpylh : Product 26 (λ h l h' l' v. signed 32 v ≡ signed 16 l *ℤ signed 16 h')
    pub mpylhu : Product 27 (λ h l h' l' v. v ≡ l * h')
    pub mpyhh : Product 28 (λ h l h' l' v. signed 32 v ≡ signed 16 h *ℤ signed 16 h')
    pub mpyhhu : Product 29 (λ h l h' l' v. v ≡ h * h')
    pub cmpeq : Comparison 30 (λ s1 s2. s1 ≡ s2)
    pub cmpne : Comparison 31 (λ s1 s2. s1 ≡ s2 → ⊥)
    pub cmplt : Comparison 32 (λ s1 s2. signed 32 s1 <ℤ signed 32 s2)
    pub cmple : Comparison 33 (λ s1 s2. signed 32 s1 ≤ℤ signed 32 s2)
    pub cmpgt : Comparison 34 (λ s1 s2. signed 32 s2 <ℤ signed 32 s1)
    pub cmpge : Comparison 35 (λ s1 s2. signed 32 s2 ≤ℤ signed 32 s1)
    pub cmpltu : Comparison 36 (λ s1 s2. s1 < s2)
    pub cmpleu : Comparison 37 (λ s1 s2. s1 ≤ s2)
    pub cmpgtu : Comparison 38 (λ s1 s2. s2 < s1)
    pub cmpgeu : Comparison 39 (λ s1 s2. s2 ≤ s1)
    pub slct : (x y b : ℕ) → (value 50 x y 1 ≡ x) × ((b ≡ 1 → ⊥) → value 50 x y b ≡ y)
    pub slctf : (x y b : ℕ) → (value 51 x y 1 ≡ y) × ((b ≡ 1 → ⊥) → value 51 x y b ≡ x)
    -- of the number n in the bytes: four, two or one
    pub loads : (opcode n : ℕ) → n < 2 ^ 32 → loaded opcode n < 2 ^ 32
    pub ldw : (n : ℕ) → loaded 52 n ≡ n
    pub ldh : (n : ℕ) → n < 2 ^ 16 → signed 32 (loaded 53 n) ≡ signed 16 n
    pub ldhu : (n : ℕ) → n < 2 ^ 16 → loaded 54 n ≡ n
    pub ldb : (n : ℕ) → n < 2 ^ 8 → signed 32 (loaded 55 n) ≡ signed 8 n
    pub ldbu : (n : ℕ) → n < 2 ^ 8 → loaded 56 n ≡ n
    -- of the register: all, the low two bytes or the low one
    pub stw : (x : ℕ) → stored 57 x ≡ x
    pub sth : (above low : ℕ) → low < 2 ^ 16 → stored 58 (above * 2 ^ 16 + low) ≡ low
    pub stb : (above low : ℕ) → low < 2 ^ 8 → stored 59 (above * 2 ^ 8 + low) ≡ low
    -- a field of k bits, widened, is the integer that the field stands for: immediates have 11 bits, offsets 12
    pub widened : (k field : ℕ) → 1 ≤ k → k ≤ 32 → field < 2 ^ k → signed 32 (widen k field) ≡ signed k field
    pub addresses : (x field : ℕ) → field < 2 ^ 12 → Modulo (2 ^ 32) (pos x +ℤ signed 12 field) (address x (widen 12 field))
