-- The laws settle the values: whatever meets them is the table, so no row can be another without breaking its law.
use Rattle.std.specs.Prelude.{◌≡◌, ℕ, ◌^◌, ◌≤◌, ◌<◌}
use Rattle.word.specs.Widen.{widen}
use Rattle.meanings.specs.Value.{value, carry, address, loaded, stored}
use Rattle.meanings.specs.Laws.{Laws}

-- the same on words, on fields of 12 bits, and on what the bytes of a load hold
pub record Agree (value' : ℕ → ℕ → ℕ → ℕ → ℕ) (carry' : ℕ → ℕ → ℕ → ℕ) (address' loaded' stored' : ℕ → ℕ → ℕ) : Type 0 where
  pub on_value : (opcode x y b : ℕ) → 1 ≤ opcode → opcode ≤ 51 → x < 2 ^ 32 → y < 2 ^ 32 → value' opcode x y b ≡ value opcode x y b
  pub on_carry : (x y b : ℕ) → x < 2 ^ 32 → y < 2 ^ 32 → carry' x y b ≡ carry x y b
  pub on_address : (x field : ℕ) → field < 2 ^ 12 → address' x (widen 12 field) ≡ address x (widen 12 field)
  pub on_word : (n : ℕ) → loaded' 52 n ≡ loaded 52 n
  pub on_half : (n : ℕ) → n < 2 ^ 16 → (loaded' 53 n ≡ loaded 53 n) × (loaded' 54 n ≡ loaded 54 n)
  pub on_byte : (n : ℕ) → n < 2 ^ 8 → (loaded' 55 n ≡ loaded 55 n) × (loaded' 56 n ≡ loaded 56 n)
  pub on_store : (x : ℕ) → (stored' 57 x ≡ stored 57 x) × (stored' 58 x ≡ stored 58 x) × (stored' 59 x ≡ stored 59 x)

abbrev pub Settled : Type 0
Settled =
    (value' : ℕ → ℕ → ℕ → ℕ → ℕ) (carry' : ℕ → ℕ → ℕ → ℕ) (address' loaded' stored' : ℕ → ℕ → ℕ)
    → Laws value' carry' address' loaded' stored' → Agree value' carry' address' loaded' stored'
