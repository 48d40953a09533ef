-- Laws of the values that a script writes: digit by digit, and two digits a byte.
use mathlib.Core.Path.{◌≡◌, refl, sym, ap, ap₂, ◌∙◌}
use mathlib.Core.Bool.{true, false}
use mathlib.Core.List.{List, [], ◌∷◌}
use Prim.Native.Nat.{ℕ, zero, suc, ◌+◌, ◌-◌, ◌*◌, ◌/◌, ◌%◌, ◌^◌, ◌<◌, ◌≤◌}
use native.Mathlib.Nat.{zero-add}
use native.Mathlib.Omega.{arith}
use borrow.Author.Tests.{le-leb, lt-leb, lt-ltb, le-ltb, eq-eqb, ne_eqb, leb-true, leb-false}
use lib.Dec.{leb}
use lib.ListN.{length, get_or, set, take, drop, drop_of_length-le}
use Rattle.std.specs.Prelude.{Option, Some, None, unwrap_or}
use Rattle.std.specs.Str.{bytes_eq}
use Rattle.std.specs.Simd.{first_chunks}
use Rattle.base.specs.Stores.{laid}
use Rattle.base.proofs.Choice.{by_test}
use Rattle.base.proofs.Stores.{laid_more}
use Rattle.script.specs.Values.{more_of, read_on, decimal_of, bits_of, all_digits, byte_of, bytes_of, hex_of, hex_laid}
use Rattle.script.proofs.Splitting.{rest_at, same_length}

-- ---- one digit more: it is no digit; the number is too large; it fits
pub more_low : (n d : ℕ) → d < 48 → None ≡ more_of (Some n) d
more_low n d h = rw (lt-leb 48 d h)

pub more_high : (n d : ℕ) → 57 < d → None ≡ more_of (Some n) d
more_high n d h =
    let low : 48 ≤ d = omega arith in
    rw (le-leb 48 d low, lt-leb d 57 h)

pub more_large : (n d : ℕ) → 48 ≤ d → d ≤ 57 → 2 ^ 64 ≤ n * 10 + (d - 48) → None ≡ more_of (Some n) d
more_large n d h k f = rw (le-leb 48 d h, le-leb d 57 k, le-ltb (n * 10 + (d - 48)) (2 ^ 64) f)

pub more_fits : (n d : ℕ) → 48 ≤ d → d ≤ 57 → n * 10 + (d - 48) < 2 ^ 64 → Some (n * 10 + (d - 48)) ≡ more_of (Some n) d
more_fits n d h k f = rw (le-leb 48 d h, le-leb d 57 k, lt-ltb (n * 10 + (d - 48)) (2 ^ 64) f)

-- ---- a number: digit by digit; what is none stays none; the digits end; too few or too many of them
pub read_more : (s : List ℕ) (i : ℕ) (v : Option ℕ) {w x : Option ℕ} → i < length s → w ≡ read_on v (drop i s) → x ≡ more_of v (get_or s i 0)
    → w ≡ read_on x (drop (i + 1) s)
unfolding read_on
read_more s i v {w} {x} h q e =
    let next : read_on v (drop i s) ≡ read_on (more_of v (get_or s i 0)) (drop (i + 1) s) = rw (rest_at s i h) in
    q ∙ next ∙ ap (λ y. read_on y (drop (i + 1) s)) (sym e)

pub read_none : (s : List ℕ) → read_on None s ≡ None
unfolding read_on
read_none [] = refl
read_none (d ∷ s) = read_none s

pub read-ended : (s : List ℕ) (i : ℕ) (v : Option ℕ) → length s ≤ i → read_on v (drop i s) ≡ v
unfolding read_on
read-ended s i v h = rw (drop_of_length-le s h)

pub decimal-few : (s : List ℕ) → length s < 1 → None ≡ decimal_of s
decimal-few s h = rw (lt-leb 1 (length s) h)

pub decimal-many : (s : List ℕ) → 20 < length s → None ≡ decimal_of s
decimal-many s h =
    let some : 1 ≤ length s = omega arith in
    rw (le-leb 1 (length s) some, lt-leb (length s) 20 h)

pub decimal-read : (s : List ℕ) {v : Option ℕ} → (length s ≡ 0 → ⊥) → length s ≤ 20 → read_on (Some 0) s ≡ v → v ≡ decimal_of s
decimal-read s h k q =
    let some : 1 ≤ length s = omega arith in
    rw (le-leb 1 (length s) some, le-leb (length s) 20 k) (sym q)

-- ---- the bits of a digit: a figure, a letter, and neither
pub bits_figure : (d : ℕ) → 48 ≤ d → d ≤ 57 → Some (d - 48) ≡ bits_of d
bits_figure d h k = rw (le-leb 48 d h, le-leb d 57 k)

pub bits_letter : (d : ℕ) → 97 ≤ d → d ≤ 102 → Some (d - 87) ≡ bits_of d
bits_letter d h k =
    let low : 48 ≤ d = omega arith in
    let high : 57 < d = omega arith in
    rw (le-leb 48 d low, lt-leb d 57 high, le-leb 97 d h, le-leb d 102 k)

pub bits_low : (d : ℕ) → d < 48 → None ≡ bits_of d
bits_low d h =
    let less : d < 97 = omega arith in
    rw (lt-leb 48 d h, lt-leb 97 d less)

pub bits_between : (d : ℕ) → 57 < d → d < 97 → None ≡ bits_of d
bits_between d h k =
    let low : 48 ≤ d = omega arith in
    rw (le-leb 48 d low, lt-leb d 57 h, lt-leb 97 d k)

pub bits_high : (d : ℕ) → 102 < d → None ≡ bits_of d
bits_high d h =
    let low : 48 ≤ d = omega arith in
    let high : 57 < d = omega arith in
    let letter : 97 ≤ d = omega arith in
    rw (le-leb 48 d low, lt-leb d 57 high, le-leb 97 d letter, lt-leb d 102 h)

pub byte_joined : (high low : ℕ) {x y : Option ℕ} → x ≡ bits_of high → y ≡ bits_of low → unwrap_or x 0 * 16 + unwrap_or y 0 ≡ byte_of high low
byte_joined high low p q = ap₂ (λ (x y : Option ℕ). unwrap_or x 0 * 16 + unwrap_or y 0) p q

-- ---- whether all are digits: one is passed; one is none; they end
pub digits_on : (s : List ℕ) (i : ℕ) {x : ℕ} → i < length s → Some x ≡ bits_of (get_or s i 0) → all_digits (drop i s) ≡ all_digits (drop (i + 1) s)
digits_on s i h e = rw (rest_at s i h, ← e)

pub digits_not : (s : List ℕ) (i : ℕ) → i < length s → None ≡ bits_of (get_or s i 0) → all_digits (drop i s) ≡ false
digits_not s i h e = rw (rest_at s i h, ← e)

pub digits_ended : (s : List ℕ) (i : ℕ) → length s ≤ i → all_digits (drop i s) ≡ true
digits_ended s i h = rw (drop_of_length-le s h)

-- ---- the bytes, one by one
pub length-bytes : (s : List ℕ) → length (bytes_of s) ≡ length s / 2
unfolding bytes_of
length-bytes [] = omega arith
length-bytes (a ∷ []) = omega arith
length-bytes (a ∷ (b ∷ s)) = omega (arith, length-bytes s)

-- the digits of a byte are a chunk of the word
bytes_at : (s : List ℕ) (n j : ℕ) → n ≤ length s / 2 → j < n
    → get_or (bytes_of s) j 0 ≡ byte_of (get_or (get_or (first_chunks 2 n s) j []) 0 0) (get_or (get_or (first_chunks 2 n s) j []) 1 0)
unfolding bytes_of
bytes_at s zero j k h = absurd (omega arith)
bytes_at [] (suc n) j k h = absurd (omega arith)
bytes_at (a ∷ []) (suc n) j k h = absurd (omega arith)
bytes_at (a ∷ (b ∷ s)) (suc n) zero k h = refl
bytes_at (a ∷ (b ∷ s)) (suc n) (suc j) k h = bytes_at s n j (omega arith) (omega arith)

pub lay_more : (d w : List ℕ) (i : ℕ) {e : List ℕ} {x : ℕ} → i < length w / 2
    → x ≡ byte_of (get_or (get_or (first_chunks 2 (length w / 2) w) i []) 0 0) (get_or (get_or (first_chunks 2 (length w / 2) w) i []) 1 0)
    → e ≡ laid d 0 (take i (bytes_of w)) → set e i x ≡ laid d 0 (take (i + 1) (bytes_of w))
lay_more d w i {e} {x} h p q =
    let many : length (bytes_of w) ≡ length w / 2 = length-bytes w in
    let more : set e (0 + i) x ≡ laid d 0 (take (i + 1) (bytes_of w)) =
    laid_more d 0 (bytes_of w) i x (omega arith) (p ∙ sym (bytes_at w (length w / 2) i (omega arith) h)) q in
    rw zero-add at more

-- ---- how many bytes: `-`; and of any other word, no room, no digit at all, an odd number of them, a byte that is none, all digits
pub hex-none : (w : List ℕ) (room : ℕ) → bytes_eq w (45 ∷ []) ≡ true → Some 0 ≡ hex_of w room
hex-none w room t = rw t

module _ (w : List ℕ) (room : ℕ) (other : bytes_eq w (45 ∷ []) ≡ false) where
  pub hex-wide : room < length w / 2 → None ≡ hex_of w room
  hex-wide h = rw (other, lt-leb (length w / 2) room h)

  pub hex-empty : length w / 2 ≤ room → length w < 1 → None ≡ hex_of w room
  hex-empty f h = rw (other, le-leb (length w / 2) room f, lt-leb 1 (length w) h)

  pub hex-odd : length w / 2 ≤ room → 1 ≤ length w → (length w % 2 ≡ 0 → ⊥) → None ≡ hex_of w room
  hex-odd f g h = rw (other, le-leb (length w / 2) room f, le-leb 1 (length w) g, ne_eqb (length w % 2) 0 h)

  pub hex-other : length w / 2 ≤ room → 1 ≤ length w → length w % 2 ≡ 0 → all_digits w ≡ false → None ≡ hex_of w room
  hex-other f g h t = rw (other, le-leb (length w / 2) room f, le-leb 1 (length w) g, eq-eqb (length w % 2) 0 h, t)

  pub hex-digits : length w / 2 ≤ room → 1 ≤ length w → length w % 2 ≡ 0 → all_digits w ≡ true → Some (length w / 2) ≡ hex_of w room
  hex-digits f g h t = rw (other, le-leb (length w / 2) room f, le-leb 1 (length w) g, eq-eqb (length w % 2) 0 h, t)

-- where their number is told, there is room for them
bad_is : (n : ℕ) → None ≡ Some n → ⊥
bad_is n p = let z : ◌≡◌ {A = ℕ} 0 1 = cc in omega arith

pub hex-fits : (w : List ℕ) (room n : ℕ) → hex_of w room ≡ Some n → length w / 2 ≤ room
hex-fits w room n q =
    by_test (bytes_eq w (45 ∷ [])) (λ t. omega (arith, same_length w (45 ∷ []) t))
    (λ t. by_test (leb (length w / 2) room) (λ u. leb-true (length w / 2) room u)
    (λ u. absurd (bad_is n (hex-wide w room t (leb-false (length w / 2) room u) ∙ q))))

-- ---- the store afterwards
pub laid-bad : (w d : List ℕ) → hex_of w (length d) ≡ None → d ≡ hex_laid w d
laid-bad w d q = rw q

pub laid-is : (w d : List ℕ) (n : ℕ) → hex_of w (length d) ≡ Some n → laid d 0 (bytes_of w) ≡ hex_laid w d
laid-is w d n q = rw q
