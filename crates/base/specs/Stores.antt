-- A lent store as the list of its bytes.
use Rattle.std.specs.Prelude.{List, [], ◌∷◌, ℕ, suc, set}

-- the store d with the bytes s laid over it from the place at on, and every other byte as it was
unfoldable pub laid : List ℕ → ℕ → List ℕ → List ℕ
laid d at [] = d
laid d at (b ∷ s) = laid (set d at b) (suc at) s
