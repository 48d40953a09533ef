-- A block of eight bytes, which is what one step of masking works on. The promise of masking does not speak of blocks: these are the words
-- of the functions behind it.
use Rattle.std.specs.Prelude.{List, [], ◌∷◌, ℕ, ◌+◌, ◌-◌, ◌%◌, get_or}
use Rattle.std.specs.Int.Bits.{bit_xor}

-- the key of the blocks of a piece that begins at byte i of its payload: the mask twice, turned so that it begins with byte i mod 4. Eight
-- is twice four, so it is the key of each of them
abbrev pub key_at : List ℕ → ℕ → List ℕ
key_at mask i =
    let a : ℕ = get_or mask (i % 4) 0 in
    let b : ℕ = get_or mask ((i % 4 + 1) % 4) 0 in
    let c : ℕ = get_or mask ((i % 4 + 2) % 4) 0 in
    let d : ℕ = get_or mask ((i % 4 + 3) % 4) 0 in
    a ∷ b ∷ c ∷ d ∷ a ∷ b ∷ c ∷ d ∷ []

-- a block XORed with its key, byte by byte
abbrev pub xored : List ℕ → List ℕ → List ℕ
xored s k =
    bit_xor (get_or s 0 0) (get_or k 0 0)
    ∷ bit_xor (get_or s 1 0) (get_or k 1 0)
    ∷ bit_xor (get_or s 2 0) (get_or k 2 0)
    ∷ bit_xor (get_or s 3 0) (get_or k 3 0)
    ∷ bit_xor (get_or s 4 0) (get_or k 4 0)
    ∷ bit_xor (get_or s 5 0) (get_or k 5 0)
    ∷ bit_xor (get_or s 6 0) (get_or k 6 0)
    ∷ bit_xor (get_or s 7 0) (get_or k 7 0)
    ∷ []

-- how many of a piece's n bytes lie in whole blocks from its first byte on; fewer than eight are left
abbrev pub in_blocks : ℕ → ℕ
in_blocks n = n - n % 8
