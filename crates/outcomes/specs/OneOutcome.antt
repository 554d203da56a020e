-- "show that the promise admits one outcome only": an outcome is the result and everything that the call was lent to write.
use Rattle.std.specs.Prelude.{◌≡◌}

abbrev pub OneOutcome : {O : Type 0} → (O → Type 0) → Type 0
OneOutcome {O = O} P = (a b : O) → P a → P b → a ≡ b

-- the same as far as somebody sees of an outcome
abbrev pub OneOutcomeSeen : {O V : Type 0} → (O → V) → (O → Type 0) → Type 0
OneOutcomeSeen {O = O} seen P = (a b : O) → P a → P b → seen a ≡ seen b
