-- Laws of a run of bytes laid over a store. They hold of any store and any place, unless they say that the run fits.
use mathlib.Core.Path.{◌≡◌, refl, ap, ◌∙◌}
use mathlib.Core.List.{List, [], ◌∷◌, ◌++◌, append_assoc}
use Prim.Native.Nat.{ℕ, suc, ◌+◌, ◌<◌, ◌≤◌}
use native.Mathlib.Nat.{add-zero}
use native.Mathlib.Numerals.{add-one}
use native.Mathlib.Omega.{arith}
use lib.ListN.{length, get_or, set, take, drop, length-set}
use lib.Seq.{sets, sets-eq, take-suc, length-take-le, get_or-set_other, take_all}
use Rattle.base.specs.Bytes.{part}
use Rattle.base.specs.Stores.{laid}
use Rattle.base.proofs.Bytes.{part-between}

pub length-laid : (d : List ℕ) (at : ℕ) (s : List ℕ) → length (laid d at s) ≡ length d
unfolding laid
length-laid d at [] = refl
length-laid d at (b ∷ s) = length-laid (set d at b) (suc at) s ∙ length-set d at b

-- a run behind a run
pub laid-append : (d : List ℕ) (at : ℕ) (s t : List ℕ) → laid d at (s ++ t) ≡ laid (laid d at s) (at + length s) t
unfolding laid
laid-append d at [] t = rw add-zero
laid-append d at (b ∷ s) t =
    let e : suc at + length s ≡ at + suc (length s) = omega arith in
    laid-append (set d at b) (suc at) s t ∙ ap (λ (k : ℕ). laid (laid (set d at b) (suc at) s) k t) e

-- ---- a loop that lays a run: nothing yet; one byte more; all
pub laid_none : (d : List ℕ) (at : ℕ) → d ≡ laid d at []
unfolding laid
laid_none d at = refl

laid-snoc : (d : List ℕ) (at : ℕ) (s : List ℕ) (b : ℕ) → laid d at (s ++ (b ∷ [])) ≡ set (laid d at s) (at + length s) b
unfolding laid
laid-snoc d at s b = laid-append d at s (b ∷ [])

pub laid_more : (d : List ℕ) (at : ℕ) (s : List ℕ) (j b : ℕ) {e : List ℕ} → j < length s → b ≡ get_or s j 0 → e ≡ laid d at (take j s)
    → set e (at + j) b ≡ laid d at (take (j + 1) s)
laid_more d at s j b {e} h p q =
    rw (q, p, add-one, take-suc s j 0 h, laid-snoc d at (take j s) (get_or s j 0), length-take-le j s (omega arith))

pub laid-all : (d : List ℕ) (at : ℕ) (s : List ℕ) (j : ℕ) {e : List ℕ} → length s ≤ j → e ≡ laid d at (take j s) → e ≡ laid d at s
laid-all d at s j h q = q ∙ rw (take_all j s h)

-- ---- stores one after the other in straight code, which `sets` computes to
pub laid-sets : (d : List ℕ) (at : ℕ) (s : List ℕ) → laid d at s ≡ sets d at s
unfolding laid
laid-sets d at [] = refl
laid-sets d at (b ∷ s) = laid-sets (set d at b) (suc at) s

-- ---- what stands where afterwards
pub laid-split : (d : List ℕ) (at : ℕ) (s : List ℕ) → at + length s ≤ length d → laid d at s ≡ take at d ++ s ++ drop (at + length s) d
laid-split d at s h = laid-sets d at s ∙ sets-eq s d at h

-- the run itself
pub laid-part : (d : List ℕ) (at : ℕ) (s : List ℕ) → at + length s ≤ length d → part at (length s) (laid d at s) ≡ s
laid-part d at s h =
    let e : length (take at d) ≡ at = length-take-le at d (omega arith) in
    rw (laid-split d at s h, append_assoc (take at d) s (drop (at + length s) d))
    (part-between (take at d) s (drop (at + length s) d) at (length s) e refl)

-- every byte before it and behind it
pub laid-before : (d : List ℕ) (at : ℕ) (s : List ℕ) (k : ℕ) → k < at → get_or (laid d at s) k 0 ≡ get_or d k 0
unfolding laid
laid-before d at [] k h = refl
laid-before d at (b ∷ s) k h = laid-before (set d at b) (suc at) s k (omega arith) ∙ get_or-set_other d at k b 0 (omega arith)

pub laid-behind : (d : List ℕ) (at : ℕ) (s : List ℕ) (k : ℕ) → at + length s ≤ k → get_or (laid d at s) k 0 ≡ get_or d k 0
unfolding laid
laid-behind d at [] k h = refl
laid-behind d at (b ∷ s) k h = laid-behind (set d at b) (suc at) s k (omega arith) ∙ get_or-set_other d at k b 0 (omega arith)
