-- Laws of runs of bytes and of big-endian numbers.
use mathlib.Core.Path.{◌≡◌, refl, sym, ap, ap₂, ◌∙◌}
use mathlib.Core.List.{List, [], ◌∷◌, ◌++◌}
use Prim.Native.Nat.{ℕ, zero, suc, ◌+◌, ◌-◌, ◌*◌, ◌/◌, ◌%◌, ◌^◌, ◌<◌, ◌≤◌}
use native.Mathlib.Nat.{mod-one, pow-suc, mul_comm, mul_assoc, zero-lt-suc, pow-le-pow_right}
use native.Mathlib.Numerals.{add-one, towards_suc}
use native.Mathlib.Omega.{arith}
use lib.Arith.{mod-mul}
use lib.ListN.{length, get_or, take, drop, length-append, length-drop}
use lib.Seq.{take-nil, take-suc, drop-cons, get_or-drop, get_or-take, length-take-le, take_at, drop_at}
use lib.Dec.{lit<}
use Rattle.base.specs.Bytes.{part, from_big, to_big}

pub length_part : (at n : ℕ) (s : List ℕ) → at + n ≤ length s → length (part at n s) ≡ n
unfolding part
length_part at n s h = length-take-le n (drop at s) (simp length-drop (omega arith))

pub part_at : (at n : ℕ) (s : List ℕ) (j : ℕ) → j < n → get_or (part at n s) j 0 ≡ get_or s (at + j) 0
unfolding part
part_at at n s j h = rw (get_or-take n (drop at s) j 0 h, get_or-drop)

-- one byte more
pub part-more : (at j : ℕ) (s : List ℕ) → at + j < length s → part at (j + 1) s ≡ part at j s ++ (get_or s (at + j) 0 ∷ [])
unfolding part
part-more at j s h =
    let k : j < length (drop at s) = simp length-drop (omega arith) in
    rw (add-one, take-suc (drop at s) j 0, get_or-drop)

-- four bytes, one by one
pub part-four : (at : ℕ) (s : List ℕ) → at + 4 ≤ length s
    → get_or s at 0 ∷ (get_or s (at + 1) 0 ∷ (get_or s (at + 2) 0 ∷ (get_or s (at + 3) 0 ∷ []))) ≡ part at 4 s
unfolding part
part-four at s h =
    simp towards_suc
    (rw (
      drop-cons s at 0 (omega arith),
      drop-cons s (suc at) 0 (omega arith),
      drop-cons s (suc (suc at)) 0 (omega arith),
      drop-cons s (suc (suc (suc at))) 0 (omega arith),
    ))

-- the rest of a run, whichever is cut off first
pub take-drop : (k left : ℕ) (rest : List ℕ) → k ≤ left → drop k (take left rest) ≡ take (left - k) (drop k rest)
take-drop zero left rest h =
    let e : left ≡ left - 0 = omega arith in
    ap (λ (n : ℕ). take n rest) e
take-drop (suc k) zero rest h = absurd (omega arith)
take-drop (suc k) (suc left) [] h = sym (take-nil (suc left - suc k))
take-drop (suc k) (suc left) (b ∷ rest) h =
    let e : left - k ≡ suc left - suc k = omega arith in
    take-drop k left rest (omega arith) ∙ ap (λ (n : ℕ). take n (drop k rest)) e

-- the run that stands between two others
pub part-between : (p s q : List ℕ) (at n : ℕ) → length p ≡ at → length s ≡ n → part at n (p ++ (s ++ q)) ≡ s
unfolding part
part-between p s q at n e f = rw (drop_at p (s ++ q) at e) (take_at s q n f)

pub length-to_big : (k n : ℕ) → length (to_big k n) ≡ k
unfolding to_big
length-to_big zero n = refl
length-to_big (suc k) n = ap suc (length-to_big k n)

pow_pos256 : (k : ℕ) → zero < 256 ^ k
pow_pos256 zero = zero-lt-suc 0
pow_pos256 (suc k) = rw pow-suc (omega (arith, pow_pos256 k))

-- what is written reads back, but for what the bytes can't hold
pub from_big-to_big : (k n : ℕ) → from_big (to_big k n) ≡ n % 256 ^ k
unfolding from_big to_big
from_big-to_big zero n = sym (mod-one n)
from_big-to_big (suc k) n =
    ap₂ (λ (l x : ℕ). n / 256 ^ k % 256 * 256 ^ l + x) (length-to_big k n) (from_big-to_big k n)
    ∙ sym (ap (λ (x : ℕ). n % x) (pow-suc 256 k ∙ mul_comm (256 ^ k) 256) ∙ mod-mul n (zero-lt-suc 255) (pow_pos256 k))

-- one byte more at the end
pub from_big-snoc : (s : List ℕ) (b : ℕ) → from_big (s ++ (b ∷ [])) ≡ from_big s * 256 + b
unfolding from_big
from_big-snoc [] b = omega arith
from_big-snoc (x ∷ s) b =
    let p : 256 ^ length (s ++ (b ∷ [])) ≡ 256 ^ length s * 256 = rw (length-append, add-one, pow-suc) in
    let q : x * (256 ^ length s * 256) ≡ x * 256 ^ length s * 256 = sym (mul_assoc x (256 ^ length s) 256) in
    ap₂ (λ (u v : ℕ). x * u + v) p (from_big-snoc s b) ∙ omega (arith, q)

pub big_none : (at : ℕ) (s : List ℕ) → 0 ≡ from_big (part at 0 s)
unfolding part from_big
big_none at s = refl

-- a turn of the loop that reads a number
pub big_more : (at j : ℕ) (s : List ℕ) → at + j < length s → from_big (part at (j + 1) s) ≡ from_big (part at j s) * 256 + get_or s (at + j) 0
big_more at j s h = rw (part-more at j s h, from_big-snoc)

pub pow_more : (i : ℕ) → 256 ^ (i + 1) ≡ 256 ^ i * 256
pow_more i = rw (add-one, pow-suc)

-- below eight bytes there is room for one more in 64 bits
pub pow_room : (i : ℕ) → i < 8 → 256 ^ i ≤ 72057594037927936
pow_room i h = pow-le-pow_right {n = 256} (lit< tt) {i = i} {j = 7} (omega arith)
