-- Numbers and bytes as a script writes them.
use Rattle.std.specs.Prelude.{Bool, List, [], ◌∷◌, ℕ, ◌+◌, ◌-◌, ◌*◌, ◌/◌, ◌%◌, ◌^◌, eqb, leb, ltb, length, Option, Some, None, is_some, unwrap_or}
use Rattle.std.specs.List.{list_all}
use Rattle.std.specs.Str.{bytes_eq}
use Rattle.base.specs.Stores.{laid}
use Rattle.base.specs.Table.{pick, within}
use Rattle.base.specs.Tests.{both}

-- a number with another digit behind it, `0` to `9`, while it is below 2^64
abbrev pub more_of : Option ℕ → ℕ → Option ℕ
more_of None d = None
more_of (Some n) d =
    pick (within 48 57 d)
    (pick (ltb (n * 10 + (d - 48)) (2 ^ 64)) (Some (n * 10 + (d - 48))) None)
    None

-- a number with more digits behind it, one after the other: what is no number stays none
unfoldable pub read_on : Option ℕ → List ℕ → Option ℕ
read_on v [] = v
read_on v (d ∷ s) = read_on (more_of v d) s

-- the number of a word of one to twenty digits; zeros may stand before it
abbrev pub decimal_of : List ℕ → Option ℕ
decimal_of word = pick (within 1 20 (length word)) (read_on (Some 0) word) None

-- the four bits of a hexadecimal digit, `0` to `9` and `a` to `f`
abbrev pub bits_of : ℕ → Option ℕ
bits_of d = pick (within 48 57 d) (Some (d - 48)) (pick (within 97 102 d) (Some (d - 87)) None)

-- whether all bytes are digits
abbrev pub all_digits : List ℕ → Bool
all_digits word = list_all (λ d. is_some (bits_of d)) word

-- the byte of two digits; what is no digit counts as 0 here
abbrev pub byte_of : ℕ → ℕ → ℕ
byte_of high low = unwrap_or (bits_of high) 0 * 16 + unwrap_or (bits_of low) 0

-- a byte for each two digits
unfoldable pub bytes_of : List ℕ → List ℕ
bytes_of [] = []
bytes_of (high ∷ []) = []
bytes_of (high ∷ (low ∷ s)) = byte_of high low ∷ bytes_of s

-- whether there is room for the bytes of a word that has digits for one or more, two for each
abbrev pub is_hex : List ℕ → ℕ → Bool
is_hex word room =
    both (leb (length word / 2) room)
    (both (leb 1 (length word))
    (both (eqb (length word % 2) 0)
    (all_digits word)))

-- how many bytes a word stands for: `-` for none, or two digits for each
abbrev pub hex_of : List ℕ → ℕ → Option ℕ
hex_of word room = pick (bytes_eq word (45 ∷ [])) (Some 0) (pick (is_hex word room) (Some (length word / 2)) None)

-- the bytes laid over the front of a store where their number is told; and else the store as it was
abbrev pub laid_where : Option ℕ → List ℕ → List ℕ → List ℕ
laid_where None word d = d
laid_where (Some n) word d = laid d 0 (bytes_of word)

-- the store afterwards
abbrev pub hex_laid : List ℕ → List ℕ → List ℕ
hex_laid word d = laid_where (hex_of word (length d)) word d
