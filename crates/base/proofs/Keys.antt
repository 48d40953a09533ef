-- A `match` on single numbers and ranges, beside a table whose first rows are the single numbers, in ascending order. Where no single
-- number fits, the table's ranges decide.
use mathlib.Core.Path.{◌≡◌, refl, ◌∙◌}
use mathlib.Core.Bool.{Bool, true, false}
use mathlib.Core.List.{List, [], ◌∷◌}
use Prim.Native.Nat.{ℕ, suc, ◌≤◌}
use native.Mathlib.Omega.{arith}
use lib.Dec.{eqb}
use borrow.Author.Tests.{eqb-true}
use Rattle.base.specs.Table.{pick, Row, ◌to◌is◌, value_at}
use Rattle.base.proofs.Table.{skip}

-- n is none of the single numbers
abbrev pub NoKey : {A : Type 0} → List (Row A) → ℕ → Type 0
NoKey [] n = Unit {0}
NoKey ((a to b is w) ∷ rows) n = pick (eqb a b) ((n ≡ a → ⊥) × NoKey rows n) (Unit {0})

-- the same as the code says it, in `c.match.rest`: one nested pair with the first number innermost, around what is known before
abbrev pub Rest : {A : Type 0} → List (Row A) → ℕ → Type 0 → Type 0
Rest [] n known = known
Rest ((a to b is w) ∷ rows) n known = pick (eqb a b) (Rest rows n (known × (n ≡ a → ⊥))) known

unnest : {A : Type 0} (rows : List (Row A)) (n : ℕ) (known : Type 0) → Rest rows n known → known × NoKey rows n
unnest [] n known r = (r, tt)
unnest ((a to b is w) ∷ rows) n known r = go (eqb a b) (unnest rows n (known × (n ≡ a → ⊥))) r
  where
    go : (t : Bool) → (Rest rows n (known × (n ≡ a → ⊥)) → (known × (n ≡ a → ⊥)) × NoKey rows n)
        → pick t (Rest rows n (known × (n ≡ a → ⊥))) known → known × pick t ((n ≡ a → ⊥) × NoKey rows n) (Unit {0})
    go true more r = let p = more r in (p.0.0, (p.0.1, p.1))
    go false more r = (r, tt)

pub no_key : {A : Type 0} (rows : List (Row A)) (n : ℕ) → Rest rows n (Unit {0}) → NoKey rows n
no_key rows n r = (unnest rows n (Unit {0}) r).1

-- the rows behind those of single numbers
abbrev pub ranges : {A : Type 0} → List (Row A) → List (Row A)
ranges [] = []
ranges ((a to b is w) ∷ rows) = pick (eqb a b) (ranges rows) ((a to b is w) ∷ rows)

pub by_ranges : {A : Type 0} (rows : List (Row A)) (other : A) (n : ℕ) → NoKey rows n → value_at rows other n ≡ value_at (ranges rows) other n
by_ranges [] other n k = refl
by_ranges ((a to b is w) ∷ rows) other n k = go (eqb a b) refl (by_ranges rows other n) k
  where
    go : (t : Bool) → eqb a b ≡ t → (NoKey rows n → value_at rows other n ≡ value_at (ranges rows) other n)
        → pick t ((n ≡ a → ⊥) × NoKey rows n) (Unit {0})
        → value_at ((a to b is w) ∷ rows) other n ≡ value_at (pick t (ranges rows) ((a to b is w) ∷ rows)) other n
    go true e more k = rw (← eqb-true a b e) (skip a w rows other n k.0 ∙ more k.1)
    go false e more k = refl

-- the first number from lo on that is no single one
abbrev pub past : {A : Type 0} → List (Row A) → ℕ → ℕ
past [] lo = lo
past ((a to b is w) ∷ rows) lo = pick (eqb a b) (past rows (pick (eqb lo a) (suc lo) lo)) lo

step : (a lo n : ℕ) → (n ≡ a → ⊥) → lo ≤ n → pick (eqb lo a) (suc lo) lo ≤ n
step a lo n ne l = go (eqb lo a) refl
  where
    go : (t : Bool) → eqb lo a ≡ t → pick t (suc lo) lo ≤ n
    go true e = omega (arith, eqb-true lo a e)
    go false e = l

pub from_past : {A : Type 0} (rows : List (Row A)) (lo n : ℕ) → NoKey rows n → lo ≤ n → past rows lo ≤ n
from_past [] lo n k l = l
from_past ((a to b is w) ∷ rows) lo n k l = go (eqb a b) (from_past rows (pick (eqb lo a) (suc lo) lo) n) k
  where
    go : (t : Bool) → (NoKey rows n → pick (eqb lo a) (suc lo) lo ≤ n → past rows (pick (eqb lo a) (suc lo) lo) ≤ n)
        → pick t ((n ≡ a → ⊥) × NoKey rows n) (Unit {0}) → pick t (past rows (pick (eqb lo a) (suc lo) lo)) lo ≤ n
    go true more k = more k.1 (step a lo n k.0 l)
    go false more k = l
