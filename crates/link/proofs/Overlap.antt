-- Two ways to split the same bytes.
use mathlib.Core.Path.{◌≡◌, refl, sym, ap, ◌∙◌}
use mathlib.Core.List.{List, [], ◌∷◌, ◌++◌, nil≢cons}
use Prim.Native.Nat.{ℕ, ◌≤◌}
use native.Mathlib.Omega.{arith}
use lib.ListN.{length, get_or, drop}

-- where the first part of one is no longer than that of the other, there are bytes between
pub record Overlap (a b c d : List ℕ) : Type 0 where
  pub middle : List ℕ
  pub front : a ++ middle ≡ c
  pub back : b ≡ middle ++ d

pub overlap : (a b c d : List ℕ) → a ++ b ≡ c ++ d → length a ≤ length c → Overlap a b c d
overlap [] b c d e h = record { middle = c; front = refl; back = e }
overlap (x ∷ a) b [] d e h = absurd (omega arith)
overlap (x ∷ a) b (y ∷ c) d e h =
    let o : Overlap a b c d = overlap a b c d (ap (drop 1) e) (omega arith) in
    let same : x ≡ y = ap (λ (l : List ℕ). get_or l 0 0) e in
    record { middle = o.middle; front = ap (λ (z : ℕ). z ∷ (a ++ o.middle)) same ∙ ap (λ (l : List ℕ). y ∷ l) o.front; back = o.back }

-- nothing is made of nothing
pub no_first : (a b : List ℕ) → a ++ b ≡ [] → a ≡ []
no_first [] b e = refl
no_first (x ∷ a) b e = absurd (nil≢cons (sym e))

pub no_second : {A : Type 0} (a b : List A) → a ++ b ≡ [] → b ≡ []
no_second [] b e = e
no_second (x ∷ a) b e = absurd (nil≢cons (sym e))
