-- The words of a line, as lists of bytes.
use Rattle.std.specs.Prelude.{◌==◌, List, ℕ, ◌+◌, Option, position}
use Rattle.std.specs.List.{slice_split}
use Rattle.std.specs.Str.{bytes_eq}

-- so many bytes further on in memory: a place there is a block and the offset in it
abbrev pub further : ℕ → ℕ × ℕ → ℕ × ℕ
further n place = (place.0, n + place.1)

-- the place of the first such byte, if there is one
abbrev pub find_in : ℕ → List ℕ → Option ℕ
find_in byte s = position (λ b. b == byte) s

-- the runs of bytes that a line's spaces part: one more than it has spaces, so that an empty line has one, which is empty
abbrev pub words_of : List ℕ → List (List ℕ)
words_of line = slice_split (λ b. b == 32) line

-- the place of a word among others, if it is one of them
abbrev pub place_in : List (List ℕ) → List ℕ → Option ℕ
place_in names word = position (λ name. bytes_eq name word) names
