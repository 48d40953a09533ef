-- Numbers that are given by tests, in order.
use Rattle.std.specs.Prelude.{Bool, true, false, List, [], ◌∷◌, ℕ}
use Rattle.base.specs.Table.{pick}

abbrev pub both : Bool → Bool → Bool
both a b = pick a b false

abbrev pub either : Bool → Bool → Bool
either a b = pick a true b

-- this number where the test holds
pub data Test : Type 0 where
  ◌when◌ : ℕ → Bool → Test

infix 20 ◌when◌
-- the first number whose test holds, 0 where none does
unfoldable pub first_of : List Test → ℕ
first_of [] = 0
first_of ((n when t) ∷ rest) = pick t n (first_of rest)
