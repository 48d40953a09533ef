-- A run of bytes, and numbers in bytes, big-endian: the most significant byte first.
use Rattle.std.specs.Prelude.{List, [], ◌∷◌, ℕ, zero, suc, ◌+◌, ◌*◌, ◌/◌, ◌%◌, ◌^◌, length, take, drop}

-- the n bytes of s from the place at on, or as many as there are
unfoldable pub part : ℕ → ℕ → List ℕ → List ℕ
part at n s = take n (drop at s)

-- the number that the bytes stand for
unfoldable pub from_big : List ℕ → ℕ
from_big [] = 0
from_big (b ∷ s) = b * 256 ^ length s + from_big s

-- the k low bytes of the number n
unfoldable pub to_big : ℕ → ℕ → List ℕ
to_big zero n = []
to_big (suc k) n = n / 256 ^ k % 256 ∷ to_big k n
