-- Text as the list of its ASCII bytes.
use Rattle.std.specs.Prelude.{◌≡◌, List, [], ◌∷◌, ◌++◌, ℕ, zero, suc, ◌+◌, ◌/◌, ◌%◌, eqb, ltb, length}
use Rattle.base.specs.Stores.{laid}
use Rattle.base.specs.Table.{pick}

-- the text s is laid over the store d from the place at on, which gives the store e, and behind is the place behind it
abbrev pub Wrote : List ℕ → ℕ → List ℕ → List ℕ → ℕ → Type 0
Wrote d at s e behind = (behind ≡ at + length s) × (e ≡ laid d at s)

-- the digit of a number's four low bits: `0` to `9`, then `a` to `f`
unfoldable pub digit_of : ℕ → ℕ
digit_of n = pick (ltb (n % 16) 10) (n % 16 + 48) (n % 16 + 87)

-- a number in decimal with no zero in front, in at most so many digits
unfoldable pub decimal_in : ℕ → ℕ → List ℕ
decimal_in zero n = []
decimal_in (suc k) n = pick (ltb n 10) (digit_of n ∷ []) (decimal_in k (n / 10) ++ (digit_of (n % 10) ∷ []))

-- twenty digits are enough for 64 bits
unfoldable pub decimal : ℕ → List ℕ
decimal n = decimal_in 20 n

-- two digits for each byte
unfoldable pub hex : List ℕ → List ℕ
hex [] = []
hex (b ∷ s) = digit_of (b / 16) ∷ (digit_of b ∷ hex s)

-- "no space or hex after a zero"
unfoldable pub shown_hex : List ℕ → List ℕ
shown_hex bytes = pick (eqb (length bytes) 0) [] (32 ∷ hex bytes)

-- "Lines: `put N HEX`, `text N HEX`, likewise `binary`, `ping`, `pong`, `close`"
unfoldable pub counted : List ℕ → List ℕ → List ℕ
counted word bytes = word ++ ((32 ∷ []) ++ (decimal (length bytes) ++ (shown_hex bytes ++ (10 ∷ []))))

-- words, ` at ` and a place: "`refused N at P`", "`capture bad at P`"
unfoldable pub at_place : List ℕ → ℕ → List ℕ
at_place words place = words ++ ((32 ∷ 97 ∷ 116 ∷ 32 ∷ []) ++ (decimal place ++ (10 ∷ [])))
