-- A choice by a test, and a function on numbers that is given by rows of ranges.
use Rattle.std.specs.Prelude.{Bool, true, false, List, [], ◌∷◌, ℕ, leb}

-- the first where the test holds, else the second
abbrev pub pick {ℓ} : {A : Type ℓ} → Bool → A → A → A
pick true a b = a
pick false a b = b

-- lo ≤ n ≤ hi
abbrev pub within : ℕ → ℕ → ℕ → Bool
within lo hi n = pick (leb lo n) (leb n hi) false

-- the numbers from the first to the second have this value
pub data Row (A : Type 0) : Type 0 where
  ◌to◌is◌ : ℕ → ℕ → A → Row A

infix 20 ◌to◌is◌
-- the value of the first row that has the number, or the other value where none has it
unfoldable pub value_at : {A : Type 0} → List (Row A) → A → ℕ → A
value_at [] other n = other
value_at ((lo to hi is v) ∷ rows) other n = pick (within lo hi n) v (value_at rows other n)
