-- A record that is found in the first bytes of a file is the one that the whole file has there.
use mathlib.Core.Path.{◌≡◌, refl, sym, ap, ap₂, subst, ◌∙◌}
use mathlib.Core.Bool.{Bool, true, false}
use mathlib.Core.List.{List, ◌++◌}
use mathlib.Core.Logic.{◌⊎◌, inl, inr, ⊎_elim}
use Prim.Native.Nat.{ℕ, ◌+◌, ◌*◌, ◌≤◌}
use native.Mathlib.Omega.{arith}
use lib.Dec.{ltb, leb}
use lib.ListN.{length, get_or, take, drop, length-append, take-append-drop, get_or-append}
use lib.Seq.{take_all}
use borrow.Author.Tests.{le-ltb, ltb-false, leb-true}
use Rattle.std.proofs.Common.{Option, Some, None}
use Rattle.base.specs.Tests.{both}
use Rattle.base.specs.Table.{pick}
use Rattle.base.proofs.Choice.{by_test}
use Rattle.steady.proofs.Headers.{never}
use Rattle.capture.specs.declared.record.Found.{Found}
use Rattle.capture.specs.declared.record.Found.TheVariants.{Lacking, Bad, Server, Client, Input, End}
use Rattle.capture.specs.declared.record.Mark.{Mark}
use Rattle.capture.specs.declared.record.Mark.TheVariants.{Server as ServerMark, Client as ClientMark, Input as InputMark, End as EndMark}
use Rattle.capture.specs.Records.{mark_of, short, input_length, input_in, by_mark, found_in}

-- ---- with bytes enough
input_long : (x : List ℕ) (ended : Bool) → 4 ≤ length x
    → input_in x ended ≡ pick (ltb (length x) (4 + input_length x)) (short ended) (Input (input_length x))
unfolding input_in
input_long x ended h = rw (le-ltb (length x) 4 h)

found_long : (x : List ℕ) (ended : Bool) → 2 ≤ length x → found_in x ended ≡ by_mark (mark_of (get_or x 0 0) (get_or x 1 0)) x ended
unfolding found_in
found_long x ended h = rw (le-ltb (length x) 2 h)

input_short : (w : List ℕ) → ltb (length w) 4 ≡ true → input_in w false ≡ Lacking
unfolding input_in short
input_short w t = rw t

found_short : (w : List ℕ) → ltb (length w) 2 ≡ true → found_in w false ≡ Lacking
unfolding found_in short
found_short w t = rw t

module _ (w z : List ℕ) where
  longer : (n : ℕ) → n ≤ length w → n ≤ length (w ++ z)
  longer n h = omega (arith, length-append w z)

  length-same : 4 ≤ length w → input_length (w ++ z) ≡ input_length w
  unfolding input_length
  length-same h =
      ap₂ (λ (a b : ℕ). a * 256 + b) (get_or-append w z 0 2 (omega arith)) (get_or-append w z 0 3 (omega arith))

  input_window : (input_in w false ≡ Lacking) ⊎ (input_in w false ≡ input_in (w ++ z) true)
  unfolding short
  input_window =
      by_test (ltb (length w) 4) (λ t. inl (input_short w t))
      (λ t.
      let h : 4 ≤ length w = ltb-false (length w) 4 t in
      let n : ℕ = input_length w in
      by_test (ltb (length w) (4 + n)) (λ u. inl (input_long w false h ∙ rw u))
      (λ u.
      let k : 4 + n ≤ length w = ltb-false (length w) (4 + n) u in
      let same = length-same h in
      inr
      (input_long w false h
      ∙ rw u
      (sym
      (input_long (w ++ z) true (longer 4 h)
      ∙ ap (λ (m : ℕ). pick (ltb (length (w ++ z)) (4 + m)) Bad (Input m)) same
      ∙ rw (le-ltb (length (w ++ z)) (4 + n) (longer (4 + n) k)))))))

  mark_window : (m : Option Mark) → (by_mark m w false ≡ Lacking) ⊎ (by_mark m w false ≡ by_mark m (w ++ z) true)
  mark_window (Some ServerMark) = inr refl
  mark_window (Some ClientMark) = inr refl
  mark_window (Some InputMark) = input_window
  mark_window (Some EndMark) = inr refl
  mark_window None = inr refl

  window : (found_in w false ≡ Lacking) ⊎ (found_in w false ≡ found_in (w ++ z) true)
  window =
      by_test (ltb (length w) 2) (λ t. inl (found_short w t))
      (λ t.
      let h : 2 ≤ length w = ltb-false (length w) 2 t in
      let same : mark_of (get_or (w ++ z) 0 0) (get_or (w ++ z) 1 0) ≡ mark_of (get_or w 0 0) (get_or w 1 0) =
      ap₂ mark_of (get_or-append w z 0 0 (omega arith)) (get_or-append w z 0 1 (omega arith)) in
      let whole : found_in (w ++ z) true ≡ by_mark (mark_of (get_or w 0 0) (get_or w 1 0)) (w ++ z) true =
      found_long (w ++ z) true (longer 2 h) ∙ ap (λ (m : Option Mark). by_mark m (w ++ z) true) same in
      ⊎_elim (λ e. inl (found_long w false h ∙ e)) (λ e. inr (found_long w false h ∙ e ∙ sym whole)) (mark_window (mark_of (get_or w 0 0) (get_or w 1 0))))

-- the next bytes, with the flag only where they are all
pub found_offered : (n : ℕ) (flag : Bool) (rest : List ℕ)
    → (found_in (take n rest) (both flag (leb (length rest) n)) ≡ Lacking) ⊎ (found_in (take n rest) (both flag (leb (length rest) n)) ≡ found_in rest true)
found_offered n flag rest =
    by_test (both flag (leb (length rest) n))
    (λ t. inr (rw t (ap (λ (l : List ℕ). found_in l true) (take_all n rest (leb-true (length rest) n (flagged flag t))))))
    (λ t. rw t (subst (λ (l : List ℕ). (found_in (take n rest) false ≡ Lacking) ⊎ (found_in (take n rest) false ≡ found_in l true)) (take-append-drop n rest) (window (take n rest) (drop n rest))))
  where
    flagged : (b : Bool) → both b (leb (length rest) n) ≡ true → leb (length rest) n ≡ true
    flagged true e = e
    flagged false e = never e refl

-- where the file ends, nothing is lacking
abbrev pub Settled : Found → Type 0
Settled Lacking = ⊥
Settled Bad = Unit
Settled Server = Unit
Settled Client = Unit
Settled (Input n) = Unit
Settled End = Unit

input_settled : (rest : List ℕ) → Settled (input_in rest true)
unfolding input_in short
input_settled rest =
    by_test (ltb (length rest) 4) (λ t. rw t tt)
    (λ t. by_test (ltb (length rest) (4 + input_length rest)) (λ u. rw (t, u) tt) (λ u. rw (t, u) tt))

mark_settled : (m : Option Mark) (rest : List ℕ) → Settled (by_mark m rest true)
mark_settled (Some ServerMark) rest = tt
mark_settled (Some ClientMark) rest = tt
mark_settled (Some InputMark) rest = input_settled rest
mark_settled (Some EndMark) rest = tt
mark_settled None rest = tt

pub found_settled : (rest : List ℕ) → Settled (found_in rest true)
unfolding found_in short
found_settled rest =
    by_test (ltb (length rest) 2) (λ t. rw t tt) (λ t. rw t (mark_settled (mark_of (get_or rest 0 0) (get_or rest 1 0)) rest))
