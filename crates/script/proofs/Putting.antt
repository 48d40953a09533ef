-- Laws of texts that are laid where there is room for them.
use mathlib.Core.Path.{◌≡◌, sym, ◌∙◌}
use mathlib.Core.Bool.{true, false}
use mathlib.Core.List.{List, [], ◌∷◌}
use Prim.Native.Nat.{ℕ, ◌+◌, ◌-◌, ◌<◌, ◌≤◌}
use native.Mathlib.Omega.{arith}
use borrow.Author.Tests.{le-leb, lt-leb, leb-true, leb-false}
use lib.Dec.{leb}
use lib.ListN.{length}
use Rattle.base.proofs.Choice.{by_test}
use Rattle.lines.specs.Text.{Wrote, decimal, hex, shown_hex}
use Rattle.lines.proofs.Laws.{wrote_on, length-hex, shown-none, shown-some, shown-on}
use Rattle.script.specs.Answers.{Put}

-- ---- whether there is room
pub room_behind : (size at n : ℕ) → size < at → false ≡ leb (at + n) size
room_behind size at n h = sym (lt-leb (at + n) size (omega arith))

pub room_left : (size at n : ℕ) → at ≤ size → leb n (size - at) ≡ leb (at + n) size
room_left size at n h =
    by_test (leb n (size - at)) (λ t. t ∙ sym (le-leb (at + n) size (omega (arith, leb-true n (size - at) t))))
    (λ t. t ∙ sym (lt-leb (at + n) size (omega (arith, leb-false n (size - at) t))))

-- ---- there is room for a text, and there is not
pub put_fits : (room : ℕ) (d : List ℕ) (at : ℕ) (s : List ℕ) {e : List ℕ} {r : ℕ} → leb (at + room) (length d) ≡ true → Wrote d at s e r
    → Put room d at s e r
put_fits room d at s t w = (rw t w.0, rw t w.1)

pub put_not : (room : ℕ) (d : List ℕ) (at : ℕ) (s : List ℕ) → leb (at + room) (length d) ≡ false → Put room d at s d at
put_not room d at s t = (rw t, rw t)

-- a number behind a space
pub number_on : (d : List ℕ) (at n : ℕ) {e f : List ℕ} {m r : ℕ} → leb (at + 21) (length d) ≡ true → Wrote d at (32 ∷ []) e m → Wrote e m (decimal n) f r
    → Put 21 d at (32 ∷ decimal n) f r
number_on d at n t p q = put_fits 21 d at (32 ∷ decimal n) t (wrote_on d at (32 ∷ []) (decimal n) p q)

-- the digits of some bytes behind a space, and nothing where there is none
size_shown : (s : List ℕ) → (length s ≡ 0 → ⊥) → length (shown_hex s) ≡ length s + length s + 1
size_shown s h = rw (shown-some s h) (omega (arith, length-hex s))

pub bytes_on : (d : List ℕ) (at : ℕ) (s : List ℕ) {e f : List ℕ} {m r : ℕ} → (length s ≡ 0 → ⊥)
    → leb (at + (length s + length s + 1)) (length d) ≡ true → Wrote d at (32 ∷ []) e m → Wrote e m (hex s) f r
    → Put (length (shown_hex s)) d at (shown_hex s) f r
bytes_on d at s h t p q = put_fits (length (shown_hex s)) d at (shown_hex s) (rw (size_shown s h) t) (shown-on d at s h p q)

pub bytes_not : (d : List ℕ) (at : ℕ) (s : List ℕ) → (length s ≡ 0 → ⊥) → leb (at + (length s + length s + 1)) (length d) ≡ false
    → Put (length (shown_hex s)) d at (shown_hex s) d at
bytes_not d at s h t = put_not (length (shown_hex s)) d at (shown_hex s) (rw (size_shown s h) t)

pub bytes_none : (d : List ℕ) (at : ℕ) (s : List ℕ) → length s ≡ 0 → Put (length (shown_hex s)) d at (shown_hex s) d at
bytes_none d at s h =
    by_test (leb (at + length (shown_hex s)) (length d)) (λ t. put_fits (length (shown_hex s)) d at (shown_hex s) t (shown-none d at s h))
    (λ t. put_not (length (shown_hex s)) d at (shown_hex s) t)
