-- What a session in range says of what has come, and what stays so when a header's byte is kept or payload is counted.
use mathlib.Core.Path.{◌≡◌, refl, sym, ◌∙◌}
use mathlib.Core.Bool.{Bool, true, false}
use Prim.Native.Nat.{ℕ, ◌+◌, ◌-◌, ◌<◌, ◌≤◌}
use native.Mathlib.Omega.{arith}
use lib.Dec.{ltb}
use lib.ListN.{length, get_or, set, length-set}
use lib.Seq.{length-take-le, get_or-take, get_or-set_other}
use borrow.Author.Tests.{eqb-false, ltb-true, ltb-false}
use Rattle.base.specs.Tests.{first_of}
use Rattle.base.proofs.Choice.{by_test}
use Rattle.frame.specs.Header.{size_by, missing}
use Rattle.frame.proofs.Headers.{missing-later}
use Rattle.session.specs.declared.Incoming.{Incoming}
use Rattle.session.specs.declared.Settings.{Settings}
use Rattle.session.specs.Frames.{kept, header_whole, frame, header_tests}
use Rattle.session.specs.Reading.{keep, counts, between}
use Rattle.session.proofs.Holds.{size_least, size_most}

-- the bounds of what has come
pub record Bounded (g : Settings) (i : Incoming) : Type 0 where
  pub header-full : length i.header ≡ 14
  pub kept-within : i.kept ≤ size_by (get_or i.header 1 0)
  pub counted-whole : header_whole i ≡ true → i.counted ≤ (frame i).length
  pub counted-lacking : header_whole i ≡ false → i.counted ≡ 0
  pub progress_known : i.progress ≤ 8
  pub fragments_within : i.fragments ≤ g.message

-- a whole header is one that 3 and 4 let pass, and its payload is not all there
abbrev pub Waits : Settings → Incoming → Type 0
Waits g i = header_whole i ≡ true → (first_of (header_tests g (frame i)) ≡ 0) × (i.counted < (frame i).length)

-- a test can't both hold and fail
pub never : {A : Type 0} {b : Bool} → b ≡ true → b ≡ false → A
never p q = absurd (let z : ◌≡◌ {A = ℕ} 0 1 = cc in omega arith)

-- ---- no header byte is kept yet
pub whole_between : (i : Incoming) (begun text : Bool) (fragments progress : ℕ) → header_whole (between i begun text fragments progress) ≡ false
unfolding header_whole missing
whole_between i begun text fragments progress = refl

pub between-bounded : {g : Settings} {i : Incoming} (begun text : Bool) (fragments progress : ℕ) → Bounded g i → fragments ≤ g.message → progress ≤ 8
    → Bounded g (between i begun text fragments progress)
between-bounded {g} {i} begun text fragments progress x h k =
    record {
      header-full = x.header-full;
      kept-within = omega arith;
      counted-whole = λ w. omega arith;
      counted-lacking = λ w. refl;
      progress_known = k;
      fragments_within = h;
    }

-- ---- a byte of the header is kept
-- a header that is not whole has room
pub kept-below : (g : Settings) (i : Incoming) → Bounded g i → header_whole i ≡ false → 2 ≤ i.kept → i.kept < size_by (get_or i.header 1 0)
unfolding header_whole
kept-below g i x w h =
    let room : i.kept ≤ length i.header = omega (arith, x.header-full, x.kept-within, size_most (get_or i.header 1 0)) in
    let n : length (kept i) ≡ i.kept = length-take-le i.kept i.header room in
    let second : get_or (kept i) 1 0 ≡ get_or i.header 1 0 = get_or-take i.kept i.header 1 0 (omega arith) in
    let left : missing (kept i) ≡ size_by (get_or (kept i) 1 0) - length (kept i) = missing-later (kept i) (omega arith) in
    let ne : size_by (get_or i.header 1 0) - i.kept ≡ 0 → ⊥ = λ e. eqb-false (missing (kept i)) 0 w (left ∙ rw (second, n) e) in
    omega arith

pub keep-bounded : (g : Settings) (i : Incoming) (b : ℕ) → Bounded g i → header_whole i ≡ false → Bounded g (keep i b)
unfolding keep
keep-bounded g i b x w =
    let none : i.counted ≡ 0 = x.counted-lacking w in
    record {
      header-full = length-set i.header i.kept b ∙ x.header-full;
      kept-within =
          by_test (ltb i.kept 2)
          (λ t. omega (arith, ltb-true i.kept 2 t, size_least (get_or (set i.header i.kept b) 1 0)))
          (λ t.
          let h : 2 ≤ i.kept = ltb-false i.kept 2 t in
          rw (get_or-set_other i.header i.kept 1 b 0 (omega arith)) (omega (arith, kept-below g i x w h)));
      counted-whole = λ v. omega arith;
      counted-lacking = λ v. none;
      progress_known = x.progress_known;
      fragments_within = x.fragments_within;
    }

-- ---- payload is counted
module _ (i : Incoming) (n p : ℕ) where
  pub frame-counts : frame (counts i n p) ≡ frame i
  unfolding frame
  frame-counts = refl

  pub whole_counts : header_whole (counts i n p) ≡ header_whole i
  unfolding header_whole
  whole_counts = refl

pub counts-bounded : (g : Settings) (i : Incoming) (n p : ℕ) → Bounded g i → header_whole i ≡ true → i.counted + n ≤ (frame i).length → p ≤ 8
    → Bounded g (counts i n p)
counts-bounded g i n p x w h k =
    record {
      header-full = x.header-full;
      kept-within = x.kept-within;
      counted-whole = λ v. rw (frame-counts i n p) h;
      counted-lacking = λ v. never w (sym (whole_counts i n p) ∙ v);
      progress_known = k;
      fragments_within = x.fragments_within;
    }
