-- A choice by a test.
use Rattle.std.specs.Prelude.{Bool, true, false, ℕ}

abbrev pub pick {ℓ} : {A : Type ℓ} → Bool → A → A → A
pick true a b = a
pick false a b = b

-- a test as a number
abbrev pub bit : Bool → ℕ
bit true = 1
bit false = 0
