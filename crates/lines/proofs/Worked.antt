-- Some texts computed from the definitions, beside their ASCII numbers.
use mathlib.Core.Path.{◌≡◌, refl}
use mathlib.Core.List.{List, [], ◌∷◌}
use Prim.Native.Nat.{ℕ}
use Rattle.lines.specs.Text.{digit_of, decimal_in, decimal, hex, shown_hex, counted, at_place}

texts : List (List ℕ)
texts =
    counted (116 ∷ 101 ∷ 120 ∷ 116 ∷ []) (0x48 ∷ 0x65 ∷ 0x6c ∷ 0x6c ∷ 0x6f ∷ [])
    ∷ counted (99 ∷ 108 ∷ 111 ∷ 115 ∷ 101 ∷ []) []
    ∷ at_place (114 ∷ 101 ∷ 102 ∷ 117 ∷ 115 ∷ 101 ∷ 100 ∷ 32 ∷ 51 ∷ []) 4
    ∷ decimal 0
    ∷ decimal 9
    ∷ decimal 10
    ∷ decimal 65535
    ∷ decimal 18446744073709551615
    ∷ []

written : List (List ℕ)
written =
    -- `text 5 48656c6c6f`, and the line's end
    (116 ∷ 101 ∷ 120 ∷ 116 ∷ 32 ∷ 53 ∷ 32 ∷ 52 ∷ 56 ∷ 54 ∷ 53 ∷ 54 ∷ 99 ∷ 54 ∷ 99 ∷ 54 ∷ 102 ∷ 10 ∷ [])
    -- `close 0`, and the line's end
    ∷ (99 ∷ 108 ∷ 111 ∷ 115 ∷ 101 ∷ 32 ∷ 48 ∷ 10 ∷ [])
    -- `refused 3 at 4`, and the line's end
    ∷ (114 ∷ 101 ∷ 102 ∷ 117 ∷ 115 ∷ 101 ∷ 100 ∷ 32 ∷ 51 ∷ 32 ∷ 97 ∷ 116 ∷ 32 ∷ 52 ∷ 10 ∷ [])
    -- `0`
    ∷ (48 ∷ [])
    -- `9`
    ∷ (57 ∷ [])
    -- `10`
    ∷ (49 ∷ 48 ∷ [])
    -- `65535`
    ∷ (54 ∷ 53 ∷ 53 ∷ 51 ∷ 53 ∷ [])
    -- `18446744073709551615`
    ∷ (49 ∷ 56 ∷ 52 ∷ 52 ∷ 54 ∷ 55 ∷ 52 ∷ 52 ∷ 48 ∷ 55 ∷ 51 ∷ 55 ∷ 48 ∷ 57 ∷ 53 ∷ 53 ∷ 49 ∷ 54 ∷ 49 ∷ 53 ∷ [])
    ∷ []

worked : texts ≡ written
unfolding texts written digit_of decimal_in decimal hex shown_hex counted at_place
worked = refl
