-- Laws of numbers that are given by tests in order: for code that asks the tests one after the other, for a list in two parts, and for
-- which numbers can be given.
use mathlib.Core.Path.{◌≡◌, refl, sym, ◌∙◌}
use mathlib.Core.Bool.{Bool, true, false}
use mathlib.Core.List.{List, [], ◌∷◌, ◌++◌}
use mathlib.Core.Logic.{◌⊎◌, inl, inr, ⊎_elim}
use Prim.Native.Nat.{ℕ, ◌≤◌}
use native.Mathlib.Omega.{arith}
use Rattle.base.specs.Table.{pick}
use Rattle.base.specs.Tests.{Test, ◌when◌, first_of}

-- the first test holds; it does not, and the rest decide; there is none
pub met : (n : ℕ) {t : Bool} (rest : List Test) → t ≡ true → n ≡ first_of ((n when t) ∷ rest)
unfolding first_of
met n rest e = rw e

pub passed : (n : ℕ) {t : Bool} (rest : List Test) {m : ℕ} → t ≡ false → m ≡ first_of rest → m ≡ first_of ((n when t) ∷ rest)
unfolding first_of
passed n rest e q = rw e q

pub none_met : 0 ≡ first_of []
unfolding first_of
none_met = refl

-- no test gives 0
abbrev pub Named : List Test → Type 0
Named [] = Unit {0}
Named ((n when t) ∷ rest) = (n ≡ 0 → ⊥) × Named rest

-- where no number is given, no test holds
pub first_clear : (n : ℕ) (t : Bool) (rest : List Test) → (n ≡ 0 → ⊥) → first_of ((n when t) ∷ rest) ≡ 0 → (t ≡ false) × (first_of rest ≡ 0)
unfolding first_of
first_clear n true rest k h = absurd (k h)
first_clear n false rest k h = (refl, h)

-- none of the tests holds
abbrev pub Clear : List Test → Type 0
Clear [] = Unit {0}
Clear ((n when t) ∷ rest) = (t ≡ false) × Clear rest

pub all_clear : (tests : List Test) → Named tests → first_of tests ≡ 0 → Clear tests
all_clear [] k h = tt
all_clear ((n when t) ∷ rest) k h = let p = first_clear n t rest k.0 h in (p.0, all_clear rest k.1 p.1)

-- where the first part gives a number, that is it
pub first_stop : (xs ys : List Test) → (first_of xs ≡ 0 → ⊥) → first_of (xs ++ ys) ≡ first_of xs
unfolding first_of
first_stop [] ys h = absurd (h refl)
first_stop ((n when t) ∷ xs) ys h = go t (first_stop xs ys) h
  where
    go : (t : Bool) → ((first_of xs ≡ 0 → ⊥) → first_of (xs ++ ys) ≡ first_of xs) → (pick t n (first_of xs) ≡ 0 → ⊥) → pick t n (first_of (xs ++ ys)) ≡ pick t n (first_of xs)
    go true more h = refl
    go false more h = more h

pub settled : (tests rest : List Test) {n : ℕ} → n ≡ first_of tests → (n ≡ 0 → ⊥) → n ≡ first_of (tests ++ rest)
settled tests rest q h = q ∙ sym (first_stop tests rest (λ e. h (q ∙ e)))

-- where it gives none, the second part decides
pub first_pass : (xs ys : List Test) → Named xs → first_of xs ≡ 0 → first_of (xs ++ ys) ≡ first_of ys
unfolding first_of
first_pass [] ys k h = refl
first_pass ((n when t) ∷ xs) ys k h = go t (first_pass xs ys k.1) h
  where
    go : (t : Bool) → (first_of xs ≡ 0 → first_of (xs ++ ys) ≡ first_of ys) → pick t n (first_of xs) ≡ 0 → pick t n (first_of (xs ++ ys)) ≡ first_of ys
    go true more h = absurd (k.0 h)
    go false more h = more h

-- ---- which numbers can be given
-- every number that a test gives lies between the two
abbrev pub Between : ℕ → ℕ → List Test → Type 0
Between lo hi [] = Unit {0}
Between lo hi ((n when t) ∷ rest) = ((lo ≤ n) × (n ≤ hi)) × Between lo hi rest

pub first_between : (lo hi : ℕ) (tests : List Test) → Between lo hi tests → (first_of tests ≡ 0) ⊎ ((lo ≤ first_of tests) × (first_of tests ≤ hi))
unfolding first_of
first_between lo hi [] k = inl refl
first_between lo hi ((n when t) ∷ rest) k = go t (first_between lo hi rest k.1)
  where
    go : (t : Bool) → (first_of rest ≡ 0) ⊎ ((lo ≤ first_of rest) × (first_of rest ≤ hi))
        → (pick t n (first_of rest) ≡ 0) ⊎ ((lo ≤ pick t n (first_of rest)) × (pick t n (first_of rest) ≤ hi))
    go true more = inr k.0
    go false more = more

pub given_between : (lo hi : ℕ) (tests : List Test) → Between lo hi tests → (first_of tests ≡ 0 → ⊥) → (lo ≤ first_of tests) × (first_of tests ≤ hi)
given_between lo hi tests k h = ⊎_elim (λ e. absurd (h e)) (λ x. x) (first_between lo hi tests k)

pub first_most : (hi : ℕ) (tests : List Test) → Between 0 hi tests → first_of tests ≤ hi
first_most hi tests k = ⊎_elim (λ e. omega arith) (λ x. x.1) (first_between 0 hi tests k)
