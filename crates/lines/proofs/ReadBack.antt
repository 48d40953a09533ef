-- A number's decimal read back: no two numbers below 10^20, so none of 64 bits, have the same decimal.
use mathlib.Core.Path.{◌≡◌, refl, sym, ap, ◌∙◌}
use mathlib.Core.List.{List, [], ◌∷◌, ◌++◌}
use Prim.Native.Nat.{ℕ, zero, suc, ◌+◌, ◌-◌, ◌*◌, ◌^◌, ◌<◌, ◌/◌, ◌%◌}
use native.Mathlib.Omega.{arith}
use borrow.Author.Tests.{lt-ltb, ltb-true}
use lib.Dec.{ltb}
use Rattle.base.proofs.Choice.{by_test}
use Rattle.lines.specs.Text.{digit_of, decimal_in, decimal}

-- the value of digits behind a value
unfoldable pub read_on : ℕ → List ℕ → ℕ
read_on v [] = v
read_on v (d ∷ s) = read_on (v * 10 + (d - 48)) s

-- the value of digits
unfoldable pub from_decimal : List ℕ → ℕ
from_decimal s = read_on 0 s

read-on_last : (v : ℕ) (s : List ℕ) (d : ℕ) → read_on v (s ++ (d ∷ [])) ≡ read_on v s * 10 + (d - 48)
unfolding read_on
read-on_last v [] d = refl
read-on_last v (b ∷ s) d = read-on_last (v * 10 + (b - 48)) s d

digit_value : (n : ℕ) → n < 10 → digit_of n - 48 ≡ n
unfolding digit_of
digit_value n h =
    let low : n % 16 < 10 = omega arith in
    rw (lt-ltb (n % 16) 10 low) (omega arith)

decimal_in-read_back : (k n : ℕ) → n < 10 ^ k → read_on 0 (decimal_in k n) ≡ n
unfolding decimal_in read_on
decimal_in-read_back zero n h = omega arith
decimal_in-read_back (suc k) n h =
    let front : n / 10 < 10 ^ k = omega arith in
    let last : digit_of (n % 10) - 48 ≡ n % 10 = digit_value (n % 10) (omega arith) in
    by_test (ltb n 10) (λ t. rw t (omega (arith, digit_value n (ltb-true n 10 t))))
    (λ t. rw (t, read-on_last 0 (decimal_in k (n / 10)) (digit_of (n % 10)), decimal_in-read_back k (n / 10) front, last) (omega arith))

pub decimal-read_back : (n : ℕ) → n < 10 ^ 20 → from_decimal (decimal n) ≡ n
unfolding from_decimal decimal
decimal-read_back n h = decimal_in-read_back 20 n h

pub decimal-one : (m n : ℕ) → m < 10 ^ 20 → n < 10 ^ 20 → decimal m ≡ decimal n → m ≡ n
decimal-one m n h k p = sym (decimal-read_back m h) ∙ ap from_decimal p ∙ decimal-read_back n k
