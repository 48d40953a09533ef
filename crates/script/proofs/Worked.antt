-- Some words and values computed from the definitions, beside their ASCII numbers.
use mathlib.Core.Path.{◌≡◌, refl}
use mathlib.Core.List.{[], ◌∷◌}
use Rattle.std.specs.Prelude.{Some, None}
use Rattle.script.specs.Words.{words_of, place_in}
use Rattle.script.specs.Values.{read_on, decimal_of, bytes_of, hex_of}

-- `a bc`; no byte; a space before and behind
pub words_parted :
    words_of (97 ∷ 32 ∷ 98 ∷ 99 ∷ []) ∷ words_of [] ∷ words_of (32 ∷ 97 ∷ 32 ∷ []) ∷ []
    ≡ ((97 ∷ []) ∷ (98 ∷ 99 ∷ []) ∷ []) ∷ ([] ∷ []) ∷ ([] ∷ (97 ∷ []) ∷ [] ∷ []) ∷ []
words_parted = refl

-- among the names `a bc`: `a`, `bc`, the beginning `b` of a name, and both with their space
pub words_placed :
    place_in (words_of (97 ∷ 32 ∷ 98 ∷ 99 ∷ [])) (97 ∷ [])
    ∷ place_in (words_of (97 ∷ 32 ∷ 98 ∷ 99 ∷ [])) (98 ∷ 99 ∷ [])
    ∷ place_in (words_of (97 ∷ 32 ∷ 98 ∷ 99 ∷ [])) (98 ∷ [])
    ∷ place_in (words_of (97 ∷ 32 ∷ 98 ∷ 99 ∷ [])) (97 ∷ 32 ∷ 98 ∷ 99 ∷ [])
    ∷ []
    ≡ Some 0 ∷ Some 1 ∷ None ∷ None ∷ []
words_placed = refl

-- `007`, `18446744073709551615`, one more, no digit, `1a`, twenty-one zeros
pub decimals_read :
    decimal_of (48 ∷ 48 ∷ 55 ∷ [])
    ∷ decimal_of (49 ∷ 56 ∷ 52 ∷ 52 ∷ 54 ∷ 55 ∷ 52 ∷ 52 ∷ 48 ∷ 55 ∷ 51 ∷ 55 ∷ 48 ∷ 57 ∷ 53 ∷ 53 ∷ 49 ∷ 54 ∷ 49 ∷ 53 ∷ [])
    ∷ decimal_of (49 ∷ 56 ∷ 52 ∷ 52 ∷ 54 ∷ 55 ∷ 52 ∷ 52 ∷ 48 ∷ 55 ∷ 51 ∷ 55 ∷ 48 ∷ 57 ∷ 53 ∷ 53 ∷ 49 ∷ 54 ∷ 49 ∷ 54 ∷ [])
    ∷ decimal_of []
    ∷ decimal_of (49 ∷ 97 ∷ [])
    ∷ decimal_of (48 ∷ 48 ∷ 48 ∷ 48 ∷ 48 ∷ 48 ∷ 48 ∷ 48 ∷ 48 ∷ 48 ∷ 48 ∷ 48 ∷ 48 ∷ 48 ∷ 48 ∷ 48 ∷ 48 ∷ 48 ∷ 48 ∷ 48 ∷ 48 ∷ [])
    ∷ []
    ≡ Some 7 ∷ Some 18446744073709551615 ∷ None ∷ None ∷ None ∷ None ∷ []
unfolding read_on
decimals_read = refl

-- `-`, `0aff` in room for two bytes and for one, no digit, `0`, `0A`
pub hex-read :
    hex_of (45 ∷ []) 0
    ∷ hex_of (48 ∷ 97 ∷ 102 ∷ 102 ∷ []) 2
    ∷ hex_of (48 ∷ 97 ∷ 102 ∷ 102 ∷ []) 1
    ∷ hex_of [] 2
    ∷ hex_of (48 ∷ []) 2
    ∷ hex_of (48 ∷ 65 ∷ []) 2
    ∷ []
    ≡ Some 0 ∷ Some 2 ∷ None ∷ None ∷ None ∷ None ∷ []
hex-read = refl

pub hex-bytes : bytes_of (48 ∷ 97 ∷ 102 ∷ 102 ∷ []) ≡ 0x0a ∷ 0xff ∷ []
unfolding bytes_of
hex-bytes = refl
