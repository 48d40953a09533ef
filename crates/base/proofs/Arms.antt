-- An arm of a `match` on an enum that several variants share. The code knows there only that the variant's place in the enum is one of
-- the arm's places: a sum of equations.
use mathlib.Core.Path.{◌≡◌, sym, ap, ◌∙◌}
use mathlib.Core.Logic.{◌⊎◌, inl, inr}
use Prim.Native.Nat.{ℕ}
use denote.Enum.Declared.{Record, declared, tag_of}
use borrow.Enum.Known.{ValuesAt, at, lives_at}

-- f has the value v at each variant of the arm: `search (one, or) depth 30` finds it
pub data Arm (N : Record) (B : Type 0) (f : N.D → B) (v : B) (x : ℕ) : Type 0 → Type 1 where
  one : (k : ℕ) → ((y : ValuesAt N.parts k) → v ≡ f (at N k y)) → Arm N B f v x (x ≡ k)
  or : {J K : Type 0} → Arm N B f v x J → Arm N B f v x K → Arm N B f v x (J ⊎ K)

pub in_arm : (N : Record) {B : Type 0} (f : N.D → B) (v : B) (s : N.D) {K : Type 0} → K → Arm N B f v (tag_of (declared N) s) K → v ≡ f s
in_arm N f v s e (one k g) = let l = lives_at N s k e in g l.0 ∙ sym (ap f l.1)
in_arm N f v s (inl e) (or a b) = in_arm N f v s e a
in_arm N f v s (inr e) (or a b) = in_arm N f v s e b
