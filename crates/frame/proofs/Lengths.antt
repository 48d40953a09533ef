-- Laws of a payload's length in its three forms.
use mathlib.Core.Path.{◌≡◌, refl, ◌∙◌}
use mathlib.Core.Bool.{Bool, true, false}
use mathlib.Core.List.{List, [], ◌∷◌, ◌++◌}
use Prim.Native.Nat.{ℕ, ◌-◌, ◌<◌, ◌≤◌}
use native.Mathlib.Nat.{div-one}
use native.Mathlib.Omega.{arith}
use lib.Dec.{leb}
use lib.ListN.{length, take, drop}
use borrow.Author.Tests.{le-leb, lt-leb, leb-true, leb-false}
use Rattle.std.specs.Int.{w16, w64, to_be_bytes}
use Rattle.base.specs.Bytes.{to_big}
use Rattle.base.specs.Table.{pick, within, value_at}
use Rattle.base.proofs.Bytes.{length-to_big, from_big-to_big, part-between}
use Rattle.base.proofs.Table.{skip, no_row}
use Rattle.frame.specs.Header.{extra_bytes, length_of, length_code, length_bytes, plain_size}

-- ---- reading
pub extra_other : (code : ℕ) → (code ≡ 126 → ⊥) → (code ≡ 127 → ⊥) → extra_bytes code ≡ 0
unfolding extra_bytes
extra_other code a b = skip 126 _ _ _ code a ∙ skip 127 _ _ _ code b ∙ no_row _ code

-- at most eight
pub extra_most : (code : ℕ) → extra_bytes code ≤ 8
unfolding extra_bytes value_at
extra_most code = go (within 126 126 code) (within 127 127 code)
  where
    go : (a b : Bool) → pick a 2 (pick b 8 0) ≤ 8
    go true b = omega arith
    go false true = omega arith
    go false false = omega arith

pub length-other : (code : ℕ) (h : List ℕ) → (code ≡ 126 → ⊥) → (code ≡ 127 → ⊥) → length_of code h ≡ code
unfolding length_of
length-other code h a b = skip 126 _ _ _ code a ∙ skip 127 _ _ _ code b ∙ no_row _ code

-- ---- writing: a length is in one of the three forms
pub data Form (n : ℕ) : Type 0 where
  short : n ≤ 125 → Form n
  middle : 126 ≤ n → n ≤ 65535 → Form n
  long : 65536 ≤ n → Form n

pub form : (n : ℕ) → Form n
form n = go (leb n 125) refl (leb n 65535) refl
  where
    go : (a : Bool) → leb n 125 ≡ a → (b : Bool) → leb n 65535 ≡ b → Form n
    go true e b f = short (leb-true n 125 e)
    go false e true f = middle (leb-false n 125 e) (leb-true n 65535 f)
    go false e false f = long (leb-false n 65535 f)

-- what is written of each form: the code, the bytes behind it, and their number
module _ (n : ℕ) (h : n ≤ 125) where
  pub code_short : length_code n ≡ n
  unfolding length_code
  code_short = rw (le-leb n 125 h)

  pub bytes_short : length_bytes n ≡ []
  unfolding length_bytes
  bytes_short = rw (le-leb n 125 h)

  pub size_short : plain_size n ≡ 2
  unfolding plain_size
  size_short = rw (le-leb n 125 h)

module _ (n : ℕ) (h : 126 ≤ n) (k : n ≤ 65535) where
  pub code_middle : length_code n ≡ 126
  unfolding length_code
  code_middle = rw (lt-leb n 125 h, le-leb n 65535 k)

  pub bytes_middle : length_bytes n ≡ to_big 2 n
  unfolding length_bytes
  bytes_middle = rw (lt-leb n 125 h, le-leb n 65535 k)

  pub size_middle : plain_size n ≡ 4
  unfolding plain_size
  size_middle = rw (lt-leb n 125 h, le-leb n 65535 k)

module _ (n : ℕ) (h : 65536 ≤ n) where
  pub code_long : length_code n ≡ 127
  unfolding length_code
  code_long = rw (lt-leb n 125 (omega arith), lt-leb n 65535 h)

  pub bytes_long : length_bytes n ≡ to_big 8 n
  unfolding length_bytes
  bytes_long = rw (lt-leb n 125 (omega arith), lt-leb n 65535 h)

  pub size_long : plain_size n ≡ 10
  unfolding plain_size
  size_long = rw (lt-leb n 125 (omega arith), lt-leb n 65535 h)

-- the library's bytes of a number
pub be_two : (n : ℕ) → to_be_bytes w16 n ≡ to_big 2 n
unfolding to_big
be_two n = simp div-one

pub be_eight : (n : ℕ) → to_be_bytes w64 n ≡ to_big 8 n
unfolding to_big
be_eight n = simp div-one

-- the two low bytes of eight
pub low_two : (n : ℕ) → take 2 (drop 6 (to_big 8 n)) ≡ to_big 2 n
unfolding to_big
low_two n = refl

-- ---- what is written reads back
pub code_most : (n : ℕ) → length_code n < 128
code_most n = go (form n)
  where
    go : Form n → length_code n < 128
    go (short h) = rw (code_short n h) (omega arith)
    go (middle h k) = rw (code_middle n h k) (omega arith)
    go (long h) = rw (code_long n h) (omega arith)

pub extra_written : (n : ℕ) → extra_bytes (length_code n) ≡ length (length_bytes n)
unfolding extra_bytes value_at
extra_written n = go (form n)
  where
    go : Form n → extra_bytes (length_code n) ≡ length (length_bytes n)
    go (short h) = rw (code_short n h, bytes_short n h) (extra_other n (omega arith) (omega arith))
    go (middle h k) = rw (code_middle n h k, bytes_middle n h k, length-to_big)
    go (long h) = rw (code_long n h, bytes_long n h, length-to_big)

-- as many of the low bytes of eight as follow the code
pub low_bytes : (n : ℕ) {e c : ℕ} {bytes : List ℕ} → e ≡ extra_bytes c → c ≡ length_code n → bytes ≡ to_be_bytes w64 n
    → take (8 - (8 - e)) (drop (8 - e) bytes) ≡ length_bytes n
unfolding to_big
low_bytes n p q r = rw (p, q, r, be_eight n, extra_written n) (go (form n))
  where
    go : Form n → take (8 - (8 - length (length_bytes n))) (drop (8 - length (length_bytes n)) (to_big 8 n)) ≡ length_bytes n
    go (short h) = rw (bytes_short n h)
    go (middle h k) = rw (bytes_middle n h k)
    go (long h) = rw (bytes_long n h)

-- for every length of 64 bits, whatever stands before and behind
pub length-read_back : (a b n : ℕ) (rest : List ℕ) → n < 18446744073709551616 → length_of (length_code n) (a ∷ (b ∷ (length_bytes n ++ rest))) ≡ n
unfolding length_of value_at
length-read_back a b n rest h = go (form n)
  where
    go : Form n → length_of (length_code n) (a ∷ (b ∷ (length_bytes n ++ rest))) ≡ n
    go (short k) = rw (code_short n k) (length-other n _ (omega arith) (omega arith))
    go (middle k l) =
        rw (code_middle n k l, bytes_middle n k l, part-between (a ∷ (b ∷ [])) (to_big 2 n) rest 2 2 refl (length-to_big 2 n), from_big-to_big) (omega arith)
    go (long k) =
        rw (code_long n k, bytes_long n k, part-between (a ∷ (b ∷ [])) (to_big 8 n) rest 2 8 refl (length-to_big 8 n), from_big-to_big) (omega arith)
