-- A fact of every number in a range, by a test that is computed at each of them.
use mathlib.Core.Path.{◌≡◌, refl, subst}
use mathlib.Core.Bool.{Bool, true, false, not}
use mathlib.Core.Logic.{⊎_elim}
use Prim.Native.Nat.{ℕ, zero, suc, ◌+◌, ◌<◌, ◌≤◌}
use native.Mathlib.Nat.{eq-or-lt_of_le}
use native.Mathlib.Omega.{arith}
use lib.Dec.{T}

abbrev pub both : Bool → Bool → Bool
both true b = b
both false b = false

pub both_left : (a b : Bool) → T (both a b) → T a
both_left true b t = tt
both_left false b t = t

pub both_right : (a b : Bool) → T (both a b) → T b
both_right true b t = t
both_right false b t = absurd t

abbrev pub same : Bool → Bool → Bool
same true b = b
same false b = not b

pub same_eq : (a b : Bool) → T (same a b) → a ≡ b
same_eq true true t = refl
same_eq true false t = absurd t
same_eq false true t = absurd t
same_eq false false t = refl

-- the test passes at lo and the n - 1 numbers behind it
abbrev pub all_from : (ℕ → Bool) → ℕ → ℕ → Bool
all_from f lo zero = true
all_from f lo (suc n) = both (f lo) (all_from f (suc lo) n)

pub in_range : (f : ℕ → Bool) (lo n : ℕ) → T (all_from f lo n) → (b : ℕ) → lo ≤ b → b < lo + n → T (f b)
in_range f lo zero t b h k = absurd (omega arith)
in_range f lo (suc n) t b h k =
    ⊎_elim (λ e. subst (λ (x : ℕ). T (f x)) e (both_left (f lo) (all_from f (suc lo) n) t))
    (λ l. in_range f (suc lo) n (both_right (f lo) (all_from f (suc lo) n) t) b l (omega arith)) (eq-or-lt_of_le h)

-- the test passes at both truth values
abbrev pub at_both : (Bool → Bool) → Bool
at_both f = both (f true) (f false)

pub at_bool : (f : Bool → Bool) → T (at_both f) → (b : Bool) → T (f b)
at_bool f t true = both_left (f true) (f false) t
at_bool f t false = both_right (f true) (f false) t
