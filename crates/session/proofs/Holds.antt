-- Laws of what number 20 tests, one for each way through the code that tests it.
use mathlib.Core.Path.{◌≡◌, refl, sym, ◌∙◌}
use mathlib.Core.Bool.{Bool, true, false, not}
use Prim.Native.Nat.{ℕ, ◌+◌, ◌<◌, ◌≤◌}
use native.Mathlib.Omega.{arith}
use lib.Dec.{eqb, leb}
use lib.ListN.{get_or}
use borrow.Author.Tests.{le-leb, lt-ltb, le-ltb, leb-true}
use Rattle.std.specs.Prelude.{None, Some}
use Rattle.base.specs.Table.{pick}
use Rattle.base.specs.Tests.{both, either, first_of}
use Rattle.frame.specs.declared.header.FrameHeader.{FrameHeader}
use Rattle.frame.specs.Header.{second_of, extra_bytes, size_by, missing, header_of, parsed}
use Rattle.frame.proofs.Headers.{extra_within}
use Rattle.frame.proofs.Lengths.{extra_most}
use Rattle.session.specs.declared.Incoming.{Incoming}
use Rattle.session.specs.declared.Settings.{Settings}
use Rattle.session.specs.declared.Waiting.{Waiting}
use Rattle.session.specs.Frames.{kept, header_whole, frame, is_reserved, header_tests}
use Rattle.session.specs.Range.{header_holds, count_holds, incoming_holds, waits, reply_holds}
use Rattle.session.proofs.Choices.{both-assoc, either-all}

-- ---- how many header bytes may be kept
pub size_least : (b : ℕ) → 2 ≤ size_by b
size_least b = omega (arith, extra_within b)

pub size_most : (b : ℕ) → size_by b ≤ 14
unfolding size_by
size_most b = go (second_of b).masked
  where
    go : (m : Bool) → 2 + extra_bytes (second_of b).code + pick m 4 0 ≤ 14
    go true = omega (arith, extra_most (second_of b).code)
    go false = omega (arith, extra_most (second_of b).code)

abbrev pub few : Incoming → Bool
few i = either (leb i.kept 1) (leb i.kept (size_by (get_or i.header 1 0)))

-- one byte is never too many, so the test is one bound
pub few_test : (i : Incoming) → few i ≡ leb i.kept (size_by (get_or i.header 1 0))
few_test i = go (leb i.kept 1) refl
  where
    size : ℕ
    size = size_by (get_or i.header 1 0)

    go : (t : Bool) → leb i.kept 1 ≡ t → either t (leb i.kept size) ≡ leb i.kept size
    go true e = sym (le-leb i.kept size (omega (arith, leb-true i.kept 1 e, size_least (get_or i.header 1 0))))
    go false e = refl

pub few_within : (i : Incoming) → few i ≡ true → i.kept ≤ size_by (get_or i.header 1 0)
few_within i e = leb-true _ _ (sym (few_test i) ∙ e)

-- so they are inside the header's array
pub few_most : (i : Incoming) → few i ≡ true → i.kept ≤ 14
few_most i e = omega (arith, few_within i e, size_most (get_or i.header 1 0))

-- ---- the number that a whole header is refused with
module _ (g : Settings) (f : FrameHeader) where
  pub header-reserved : is_reserved f.opcode ≡ true → first_of (header_tests g f) ≡ 3
  unfolding first_of header_tests
  header-reserved e = rw e

  module _ (e : is_reserved f.opcode ≡ false) where
    pub header-long : g.frame < f.length → first_of (header_tests g f) ≡ 4
    unfolding first_of header_tests
    header-long h = rw (e, lt-ltb g.frame f.length h)

    pub header-fits : f.length ≤ g.frame → first_of (header_tests g f) ≡ 0
    unfolding first_of header_tests
    header-fits h = rw (e, le-ltb g.frame f.length h)

-- ---- what the parser says of the kept bytes
pub whole_lacking : (i : Incoming) → parsed (kept i) ≡ None → header_whole i ≡ false
unfolding parsed header_whole
whole_lacking i e = go (eqb (missing (kept i)) 0) e
  where
    go : (t : Bool) → pick t (Some (header_of (kept i))) None ≡ None → t ≡ false
    go true e = cc
    go false e = refl

pub whole_there : (i : Incoming) (f : FrameHeader) → parsed (kept i) ≡ Some f → header_whole i ≡ true
unfolding parsed header_whole
whole_there i f e = go (eqb (missing (kept i)) 0) e
  where
    go : (t : Bool) → pick t (Some (header_of (kept i))) None ≡ Some f → t ≡ true
    go true e = refl
    go false e = cc

pub frame-there : (i : Incoming) (f : FrameHeader) → parsed (kept i) ≡ Some f → frame i ≡ f
unfolding parsed frame
frame-there i f e = go (eqb (missing (kept i)) 0) e
  where
    go : (t : Bool) → pick t (Some (header_of (kept i))) None ≡ Some f → header_of (kept i) ≡ f
    go true e = cc
    go false e = cc

-- ---- the waiting reply
pub reply_few : (k : Waiting) (n : ℕ) → n ≤ 125 → reply_holds k n ≡ true
unfolding reply_holds
reply_few k n h = rw (le-leb n 125 h) (either-all (not (waits k)))

-- ---- the header and the payload that is counted
module _ (g : Settings) (refusal : ℕ) (i : Incoming) where
  pub held_much : few i ≡ false → both (header_holds g refusal i) (count_holds i) ≡ false
  unfolding header_holds
  held_much e = rw e

  module _ (e : few i ≡ true) where
    pub held_lacking : parsed (kept i) ≡ None → both (header_holds g refusal i) (count_holds i) ≡ eqb i.counted 0
    unfolding header_holds count_holds
    held_lacking p = rw (e, whole_lacking i p)

    pub held_whole : (f : FrameHeader) {t : Bool} → parsed (kept i) ≡ Some f
        → t ≡ both (either (not (eqb refusal 0)) (eqb (first_of (header_tests g f)) 0)) (leb i.counted f.length)
        → t ≡ both (header_holds g refusal i) (count_holds i)
    unfolding header_holds count_holds
    held_whole f p q = rw (e, whole_there i f p, frame-there i f p) q

  -- the two numbers behind them, which the code asks first
  pub incoming_numbers : incoming_holds g refusal i
      ≡ both (both (header_holds g refusal i) (count_holds i)) (both (leb i.progress 8) (leb i.fragments g.message))
  unfolding incoming_holds
  incoming_numbers = both-assoc (header_holds g refusal i) (count_holds i) (both (leb i.progress 8) (leb i.fragments g.message))
