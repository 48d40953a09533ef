-- Laws of text in a store.
use mathlib.Core.Path.{◌≡◌, refl, sym, ap, subst, ◌∙◌}
use mathlib.Core.List.{List, [], ◌∷◌, ◌++◌}
use Prim.Native.Nat.{ℕ, zero, suc, ◌+◌, ◌-◌, ◌≤◌, ◌<◌, ◌/◌, ◌%◌}
use native.Mathlib.Numerals.{add-one}
use native.Mathlib.Omega.{arith}
use borrow.Author.Tests.{lt-ltb, le-ltb, ne_eqb}
use lib.Dec.{ltb, eqb}
use lib.ListN.{length, get_or, take, length-append, length-take}
use lib.Seq.{take-suc, take_all}
use Rattle.base.specs.Stores.{laid}
use Rattle.base.proofs.Choice.{by_test}
use Rattle.base.proofs.Stores.{laid-append}
use Rattle.lines.specs.Text.{Wrote, digit_of, decimal, decimal_in, hex, shown_hex, counted, at_place}

-- ---- a text behind a text
pub wrote_none : (d : List ℕ) (at : ℕ) → Wrote d at [] d at
unfolding laid
wrote_none d at = (omega arith, refl)

pub wrote_on : (d : List ℕ) (at : ℕ) (s t : List ℕ) {e f : List ℕ} {m n : ℕ} → Wrote d at s e m → Wrote e m t f n → Wrote d at (s ++ t) f n
wrote_on d at s t {e} {f} {m} {n} p q =
    let size : length (s ++ t) ≡ length s + length t = length-append s t in (
      omega (arith, p.0, q.0, size),
      q.1 ∙ ap (λ (k : ℕ). laid e k t) p.0 ∙ ap (λ (l : List ℕ). laid l (at + length s) t) p.1 ∙ sym (laid-append d at s t),
    )

-- ---- digits
pub decimal-few : (k n : ℕ) → 0 < k → n < 10 → decimal_in k n ≡ digit_of (n % 10) ∷ []
unfolding decimal_in
decimal-few zero n h j = absurd (omega arith)
decimal-few (suc k) n h j = rw (lt-ltb n 10 j) (ap (λ (m : ℕ). digit_of m ∷ []) (omega arith))

pub decimal-many : (k n : ℕ) → 0 < k → 10 ≤ n → decimal_in k n ≡ decimal_in (k - 1) (n / 10) ++ (digit_of (n % 10) ∷ [])
unfolding decimal_in
decimal-many zero n h j = absurd (omega arith)
decimal-many (suc k) n h j =
    let e : suc k - 1 ≡ k = omega arith in
    rw (le-ltb n 10 j) (ap (λ (m : ℕ). decimal_in m (n / 10) ++ (digit_of (n % 10) ∷ [])) (sym e))

-- ---- the digits before the last, and then the last
pub digits_none : (d : List ℕ) (at k n : ℕ) → k ≡ 0 → Wrote d at (decimal_in k n) d at
unfolding decimal_in
digits_none d at zero n h = wrote_none d at
digits_none d at (suc k) n h = absurd (omega arith)

pub digits_few : (d : List ℕ) (at k n : ℕ) {last : ℕ} {e : List ℕ} {r : ℕ} → 0 < k → n < 10 → last ≡ digit_of (n % 10)
    → Wrote d at (last ∷ []) e r → Wrote d at (decimal_in k n) e r
digits_few d at k n {last} {e} {r} h j p q =
    let few : last ∷ [] ≡ decimal_in k n = ap (λ (m : ℕ). m ∷ []) p ∙ sym (decimal-few k n h j) in
    subst (λ (s : List ℕ). Wrote d at s e r) few q

pub digits_many : (d : List ℕ) (at k n : ℕ) {last : ℕ} {e f : List ℕ} {m r : ℕ} → 0 < k → 10 ≤ n → last ≡ digit_of (n % 10)
    → Wrote d at (decimal_in (k - 1) (n / 10)) e m → Wrote e m (last ∷ []) f r → Wrote d at (decimal_in k n) f r
digits_many d at k n {last} {e} {f} {m} {r} h j p q w =
    let front : List ℕ = decimal_in (k - 1) (n / 10) in
    let many : front ++ (last ∷ []) ≡ decimal_in k n = ap (λ (l : ℕ). front ++ (l ∷ [])) p ∙ sym (decimal-many k n h j) in
    subst (λ (s : List ℕ). Wrote d at s f r) many (wrote_on d at front (last ∷ []) q w)

-- ---- two digits for each byte, in a loop
pub hex-snoc : (s : List ℕ) (b : ℕ) → hex (s ++ (b ∷ [])) ≡ hex s ++ (digit_of (b / 16) ∷ (digit_of b ∷ []))
unfolding hex
hex-snoc [] b = refl
hex-snoc (a ∷ s) b = ap (λ (l : List ℕ). digit_of (a / 16) ∷ (digit_of a ∷ l)) (hex-snoc s b)

pub length-hex : (s : List ℕ) → length (hex s) ≡ length s + length s
unfolding hex
length-hex [] = refl
length-hex (b ∷ s) = omega (arith, length-hex s)

pub hex-none : (d : List ℕ) (at : ℕ) → Wrote d at (hex []) d at
unfolding hex
hex-none d at = wrote_none d at

pub hex-more : (d : List ℕ) (at : ℕ) (s : List ℕ) (j : ℕ) {high low : ℕ} {e f g : List ℕ} {k m n : ℕ} → j < length s
    → high ≡ digit_of (get_or s j 0 / 16) → low ≡ digit_of (get_or s j 0) → Wrote d at (hex (take j s)) e k
    → Wrote e k (high ∷ []) f m → Wrote f m (low ∷ []) g n → Wrote d at (hex (take (j + 1) s)) g n
hex-more d at s j {high} {low} {e} {f} {g} {k} {m} {n} h p r q u v =
    let two : List ℕ = digit_of (get_or s j 0 / 16) ∷ (digit_of (get_or s j 0) ∷ []) in
    let both : Wrote e k two g n = rw (p, r) at (wrote_on e k (high ∷ []) (low ∷ []) u v) in
    let all : hex (take j s) ++ two ≡ hex (take (j + 1) s) =
    sym (ap hex (ap (λ (i : ℕ). take i s) (add-one j) ∙ take-suc s j 0 h) ∙ hex-snoc (take j s) (get_or s j 0)) in
    subst (λ (t : List ℕ). Wrote d at t g n) all (wrote_on d at (hex (take j s)) two q both)

pub hex-all : (d : List ℕ) (at : ℕ) (s : List ℕ) (j : ℕ) {e : List ℕ} → length s ≤ j → j ≤ length s → e ≡ laid d at (hex (take j s))
    → Wrote d at (hex s) e (at + j + j)
hex-all d at s j h k q = (omega (arith, length-hex s), q ∙ ap (λ (l : List ℕ). laid d at (hex l)) (take_all j s h))

-- ---- how long a text is
pub length-hex_take : (s : List ℕ) (j : ℕ) → length (hex (take j s)) ≤ j + j
length-hex_take s j = omega (arith, length-hex (take j s), length-take j s)

pub length-decimal_in : (k n : ℕ) → length (decimal_in k n) ≤ k
unfolding decimal_in
length-decimal_in zero n = omega arith
length-decimal_in (suc k) n =
    by_test (ltb n 10) (λ t. rw t (omega arith))
    (λ t. rw (t, length-append (decimal_in k (n / 10)) (digit_of (n % 10) ∷ [])) (omega (arith, length-decimal_in k (n / 10))))

pub length-decimal : (n : ℕ) → length (decimal n) ≤ 20
unfolding decimal
length-decimal n = length-decimal_in 20 n

pub length-shown : (s : List ℕ) → length (shown_hex s) ≤ 1 + (length s + length s)
unfolding shown_hex
length-shown s = by_test (eqb (length s) 0) (λ t. rw t (omega arith)) (λ t. rw t (omega (arith, length-hex s)))

-- ---- nothing is shown of no byte
pub shown-none : (d : List ℕ) (at : ℕ) (s : List ℕ) → length s ≡ 0 → Wrote d at (shown_hex s) d at
unfolding shown_hex
shown-none d at [] h = wrote_none d at
shown-none d at (b ∷ s) h = absurd (omega arith)

pub shown-some : (s : List ℕ) → (length s ≡ 0 → ⊥) → shown_hex s ≡ (32 ∷ []) ++ hex s
unfolding shown_hex
shown-some s h = rw (ne_eqb (length s) 0 h) refl

pub shown-on : (d : List ℕ) (at : ℕ) (s : List ℕ) {e f : List ℕ} {m n : ℕ} → (length s ≡ 0 → ⊥) → Wrote d at (32 ∷ []) e m → Wrote e m (hex s) f n
    → Wrote d at (shown_hex s) f n
shown-on d at s {e} {f} {m} {n} h p q =
    subst (λ (t : List ℕ). Wrote d at t f n) (sym (shown-some s h)) (wrote_on d at (32 ∷ []) (hex s) p q)

-- ---- a number, and whole lines, part by part
pub decimal-on : (d : List ℕ) (at n : ℕ) {e : List ℕ} {m : ℕ} → Wrote d at (decimal_in 20 n) e m → Wrote d at (decimal n) e m
unfolding decimal
decimal-on d at n p = p

pub counted-on : (d : List ℕ) (at : ℕ) (word bytes : List ℕ) {e f g h i : List ℕ} {j k l m n : ℕ} → Wrote d at word e j → Wrote e j (32 ∷ []) f k
    → Wrote f k (decimal (length bytes)) g l → Wrote g l (shown_hex bytes) h m → Wrote h m (10 ∷ []) i n → Wrote d at (counted word bytes) i n
unfolding counted
counted-on d at word bytes {e} {f} {g} {h} {i} {j} {k} {l} {m} {n} p q r s t =
    wrote_on d at word _ p (wrote_on e j (32 ∷ []) _ q (wrote_on f k (decimal (length bytes)) _ r (wrote_on g l (shown_hex bytes) (10 ∷ []) s t)))

pub at_place_on : (d : List ℕ) (at : ℕ) (words : List ℕ) (place : ℕ) {e f g h : List ℕ} {j k l m : ℕ} → Wrote d at words e j
    → Wrote e j (32 ∷ 97 ∷ 116 ∷ 32 ∷ []) f k → Wrote f k (decimal place) g l → Wrote g l (10 ∷ []) h m → Wrote d at (at_place words place) h m
unfolding at_place
at_place_on d at words place {e} {f} {g} {h} {j} {k} {l} {m} p q r s =
    wrote_on d at words _ p (wrote_on e j (32 ∷ 97 ∷ 116 ∷ 32 ∷ []) _ q (wrote_on f k (decimal place) (10 ∷ []) r s))
