-- What the loop of a scan keeps, and the laws by which it begins, goes on, and ends.
use mathlib.Core.Path.{◌≡◌, refl, sym, ◌∙◌}
use mathlib.Core.List.{List, [], ◌∷◌}
use Prim.Native.Nat.{ℕ, suc, ◌+◌, ◌<◌, ◌≤◌}
use native.Mathlib.Nat.{zero-add}
use native.Mathlib.Numerals.{add-one}
use native.Mathlib.Omega.{arith}
use lib.ListN.{length, get_or, drop, drop_of_length-le}
use lib.Seq.{drop-cons}
use Rattle.utf8.specs.Progress.{stepped, progress_after, first_bad, scanned}
use Rattle.utf8.proofs.Laws.{step-most, progress_bad, first_bad-none, first_bad-here, first_bad-later}

-- the loop has reached q at the place i of s, and met no bad byte before it
pub record Left (p : ℕ) (s : List ℕ) (q i : ℕ) : Type 0 where
  pub inside : i ≤ length s
  pub place : first_bad p s ≡ i + first_bad q (drop i s)
  pub reached : progress_after p s ≡ progress_after q (drop i s)

pub left_begins : (p : ℕ) (s : List ℕ) → Left p s p 0
left_begins p s = record { inside = omega arith; place = sym (zero-add (first_bad p s)); reached = refl }

answer : {p : ℕ} {s : List ℕ} {q i : ℕ} → Left p s q i → (n : ℕ)
    → first_bad q (drop i s) ≡ 0 → progress_after q (drop i s) ≡ n → record { at = i; progress = n } ≡ scanned p s
unfolding scanned
answer {p} {s} {q} {i} l n e f =
    let at : i ≡ first_bad p s = omega (arith, l.place) in
    λ k. record { at = at k; progress = sym (l.reached ∙ f) k }

pub left_ends : {p : ℕ} {s : List ℕ} {q i : ℕ} → Left p s q i → length s ≤ i → record { at = i; progress = q } ≡ scanned p s
unfolding progress_after
left_ends {p} {s} {q} {i} l h =
    let none : drop i s ≡ [] = drop_of_length-le s h in
    answer l q (rw none (first_bad-none q)) (rw none)

-- the next byte
rest_at : (s : List ℕ) (i : ℕ) → i < length s → drop i s ≡ get_or s i 0 ∷ drop (i + 1) s
rest_at s i h = rw (add-one, drop-cons s i 0)

progress_next : (q : ℕ) (s : List ℕ) (i n : ℕ) → i < length s
    → n ≡ stepped q (get_or s i 0) → progress_after q (drop i s) ≡ progress_after n (drop (i + 1) s)
unfolding progress_after
progress_next q s i n h e = rw (e, rest_at s i h)

pub left_stops : {p : ℕ} {s : List ℕ} {q i n : ℕ} → Left p s q i → i < length s
    → n ≡ stepped q (get_or s i 0) → n ≡ 8 → record { at = i; progress = n } ≡ scanned p s
left_stops {p} {s} {q} {i} {n} l h e bad =
    answer l n (rw (rest_at s i h) (first_bad-here q (get_or s i 0) (drop (i + 1) s) (sym e ∙ bad)))
    (progress_next q s i n h e ∙ rw (bad, progress_bad))

pub left_on : {p : ℕ} {s : List ℕ} {q i n : ℕ} → Left p s q i → i < length s
    → n ≡ stepped q (get_or s i 0) → (n ≡ 8 → ⊥) → Left p s n (i + 1)
left_on {p} {s} {q} {i} {n} l h e ok =
    let b = get_or s i 0 in
    let below : stepped q b < 8 = omega (arith, step-most q b) in
    let next : first_bad q (drop i s) ≡ suc (first_bad n (drop (i + 1) s)) =
    rw (rest_at s i h, e) (first_bad-later q b (drop (i + 1) s) below) in
    record { inside = omega arith; place = omega (arith, l.place); reached = l.reached ∙ progress_next q s i n h e }
