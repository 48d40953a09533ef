-- A header that was written is kept byte by byte, and is read at its last byte.
use mathlib.Core.Path.{◌≡◌, refl, sym, ap, ap₂, subst, ◌∙◌}
use mathlib.Core.Bool.{Bool, true, false}
use mathlib.Core.List.{List, [], ◌∷◌, ◌++◌, append_assoc, append-nil}
use Prim.Native.Nat.{ℕ, suc, ◌+◌, ◌-◌, ◌%◌, ◌<◌, ◌≤◌}
use native.Mathlib.Numerals.{add-one}
use native.Mathlib.Omega.{arith}
use lib.Dec.{eqb, leb}
use lib.ListN.{length, get_or, set, take, length-set}
use lib.Seq.{take-suc, take_all, take-take, take-suc-set, length-take-le}
use borrow.Author.Tests.{eq-eqb}
use Rattle.std.specs.Prelude.{Option, None, Some}
use Rattle.base.specs.Table.{pick}
use Rattle.base.specs.Tests.{first_of}
use Rattle.coding.specs.Opcodes.{opcode_of, opcode_number}
use Rattle.frame.specs.declared.header.FrameHeader.{FrameHeader}
use Rattle.frame.specs.Header.{missing, header_of, parsed, header_bytes, plain_size, header_size}
use Rattle.frame.proofs.Headers.{length-header_bytes}
use Rattle.frame.proofs.ReadBack.{header-read_back, lacking_before}
use Rattle.session.specs.declared.Answer.TheVariants.{More}
use Rattle.session.specs.declared.Incoming.{Incoming}
use Rattle.session.specs.declared.Settings.{Settings}
use Rattle.session.specs.Frames.{kept, header_whole, frame, header_tests}
use Rattle.session.proofs.Fold.{feed-append}
use Rattle.session.specs.Reading.{World, world, At, after, keep, rest, settle, byte_in, step, feed}

-- ---- bytes of a header, one after the other
abbrev pub keep_all : Incoming → List ℕ → Incoming
keep_all i [] = i
keep_all i (b ∷ bs) = keep_all (keep i b) bs

-- what is kept grows by the byte
kept-keep : (i : Incoming) (b : ℕ) → i.kept < length i.header → kept (keep i b) ≡ kept i ++ (b ∷ [])
unfolding keep
kept-keep i b h = ap (λ (k : ℕ). take k (set i.header i.kept b)) (add-one i.kept) ∙ take-suc-set i.header i.kept b h

keep-size : (i : Incoming) (b : ℕ) → length (keep i b).header ≡ length i.header
unfolding keep
keep-size i b = length-set i.header i.kept b

keep-count : (i : Incoming) (b : ℕ) → (keep i b).kept ≡ i.kept + 1
unfolding keep
keep-count i b = refl

pub header-kept : (i : Incoming) (bs : List ℕ) → length (keep_all i bs).header ≡ length i.header
header-kept i [] = refl
header-kept i (b ∷ bs) = header-kept (keep i b) bs ∙ keep-size i b

pub kept-all : (i : Incoming) (bs : List ℕ) → i.kept + length bs ≤ length i.header → kept (keep_all i bs) ≡ kept i ++ bs
kept-all i [] h = sym (append-nil (kept i))
kept-all i (b ∷ bs) h =
    kept-all (keep i b) bs (omega (arith, keep-size i b, keep-count i b))
    ∙ ap (λ (l : List ℕ). l ++ bs) (kept-keep i b (omega arith))
    ∙ append_assoc (kept i) (b ∷ []) bs

-- ---- a header that is not whole waits for more
module _ (g : Settings) (state : ℕ) (m c : List ℕ) where
  byte_lacking : (i : Incoming) (b : ℕ) → header_whole i ≡ false → byte_in g state (world i m c More) b ≡ settle g state (world (keep i b) m c More)
  unfolding byte_in
  byte_lacking i b h = rw h

  pub settle-lacking : (i : Incoming) → header_whole i ≡ false → settle g state (world i m c More) ≡ world i m c More
  unfolding settle
  settle-lacking i h = rw h

  feed-lacking : (i : Incoming) (bs : List ℕ) (n : ℕ) → header_whole i ≡ false
      → ((j : ℕ) → j ≤ length bs → header_whole (keep_all i (take j bs)) ≡ false)
      → feed g state (after (world i m c More) n) bs ≡ after (world (keep_all i bs) m c More) (n + length bs)
  unfolding feed step
  feed-lacking i [] n h f = ap (after (world i m c More)) (omega arith)
  feed-lacking i (b ∷ bs) n h f =
      let next : header_whole (keep i b) ≡ false = f 1 (omega arith) in
      let e : n + 1 + length bs ≡ n + suc (length bs) = omega arith in
      ap (λ (w : World). feed g state (after w (n + 1)) bs) (byte_lacking i b h ∙ settle-lacking (keep i b) next)
      ∙ feed-lacking (keep i b) bs (n + 1) next (λ j k. f (suc j) (omega arith))
      ∙ ap (after (world (keep_all (keep i b) bs) m c More)) e

keep-last : (i : Incoming) (bs : List ℕ) (b : ℕ) → keep_all i (bs ++ (b ∷ [])) ≡ keep (keep_all i bs) b
keep-last i [] b = refl
keep-last i (a ∷ bs) b = keep-last (keep i a) bs b

-- ---- what reading a header says of what is missing
abbrev Told : Option FrameHeader → Type 0
Told (Some f) = Unit
Told None = ⊥

abbrev said : FrameHeader → Option FrameHeader → FrameHeader
said other (Some f) = f
said other None = other

not_parsed : (h : List ℕ) → parsed h ≡ None → eqb (missing h) 0 ≡ false
unfolding parsed
not_parsed h = go (eqb (missing h) 0) (header_of h)
  where
    go : (b : Bool) (f : FrameHeader) → pick b (Some f) None ≡ None → b ≡ false
    go true f e = absurd (subst Told e tt)
    go false f e = refl

is_parsed : (h : List ℕ) (f : FrameHeader) → parsed h ≡ Some f → (eqb (missing h) 0 ≡ true) × (header_of h ≡ f)
unfolding parsed
is_parsed h f = go (eqb (missing h) 0) (header_of h)
  where
    go : (b : Bool) (x : FrameHeader) → pick b (Some x) None ≡ Some f → (b ≡ true) × (x ≡ f)
    go true x e = (refl, ap (said x) e)
    go false x e = absurd (subst Told (sym e) tt)

pub size_least : (masked : Bool) (n : ℕ) → 2 ≤ header_size masked n
unfolding header_size plain_size
size_least masked n = go (leb n 125) (leb n 65535) (pick masked 4 0)
  where
    go : (b c : Bool) (k : ℕ) → 2 ≤ pick b 2 (pick c 4 10) + k
    go true c k = omega arith
    go false true k = omega arith
    go false false k = omega arith

header-most : (masked : Bool) (n : ℕ) → header_size masked n ≤ 14
unfolding header_size plain_size
header-most masked n = go masked (leb n 125) (leb n 65535)
  where
    go : (a b c : Bool) → pick b 2 (pick c 4 10) + pick a 4 0 ≤ 14
    go true true c = omega arith
    go true false true = omega arith
    go true false false = omega arith
    go false true c = omega arith
    go false false true = omega arith
    go false false false = omega arith

-- ---- the header of a frame, from between two frames on
pub record Between (i : Incoming) : Type 0 where
  pub header-size : length i.header ≡ 14
  pub none_kept : i.kept ≡ 0
  pub none_counted : i.counted ≡ 0

-- no header is there yet
pub unread : (i : Incoming) → Between i → header_whole i ≡ false
unfolding header_whole missing
unread i x = ap (λ (k : ℕ). eqb (missing (take k i.header)) 0) x.none_kept

module _ (f : FrameHeader) (mask : List ℕ) (four : length mask ≡ 4) (i : Incoming) (between : Between i) where
  abbrev bytes : List ℕ
  bytes = header_bytes f mask

  abbrev size : ℕ
  size = header_size f.masked f.length

  -- what is kept of some first bytes is these
  kept-front : (bs : List ℕ) → length bs ≤ 14 → kept (keep_all i bs) ≡ bs
  kept-front bs h =
      kept-all i bs (omega (arith, between.none_kept, between.header-size))
      ∙ ap (λ (k : ℕ). take k i.header ++ bs) between.none_kept

  size_most : size ≤ 14
  size_most = header-most f.masked f.length

  lacking : (k : ℕ) → k < size → header_whole (keep_all i (take k bytes)) ≡ false
  unfolding header_whole
  lacking k h =
      let n : length (take k bytes) ≡ k = length-take-le k bytes (omega (arith, length-header_bytes f mask four)) in
      ap (λ (l : List ℕ). eqb (missing l) 0) (kept-front (take k bytes) (omega (arith, size_most)))
      ∙ not_parsed (take k bytes) (lacking_before f mask four k h)

  module _ (opcode : opcode_of (opcode_number f.opcode % 16) ≡ f.opcode) (short : f.length < 18446744073709551616) where
    read : parsed bytes ≡ Some f
    read = ap parsed (sym (append-nil bytes)) ∙ header-read_back f mask four [] opcode short

    pub bytes_kept : kept (keep_all i bytes) ≡ bytes
    bytes_kept = kept-front bytes (omega (arith, length-header_bytes f mask four, size_most))

    pub whole : header_whole (keep_all i bytes) ≡ true
    unfolding header_whole
    whole = ap (λ (l : List ℕ). eqb (missing l) 0) bytes_kept ∙ (is_parsed bytes f read).0

    pub reads : frame (keep_all i bytes) ≡ f
    unfolding frame
    reads = ap header_of bytes_kept ∙ (is_parsed bytes f read).1

    -- ---- the header's bytes are fed
    module _ (g : Settings) (state : ℕ) (m c : List ℕ) where
      abbrev come : Incoming
      come = keep_all i bytes

      open_first : header_whole i ≡ false
      open_first = lacking 0 (omega (arith, size_least f.masked f.length))

      abbrev most : List ℕ
      most = take (size - 1) bytes

      abbrev last : ℕ
      last = get_or bytes (size - 1) 0

      split : bytes ≡ most ++ (last ∷ [])
      split =
          let n : length bytes ≡ size = length-header_bytes f mask four in
          let least : 2 ≤ size = size_least f.masked f.length in
          let e : suc (size - 1) ≡ size = omega arith in
          sym (take_all size bytes (omega arith)) ∙ ap (λ (k : ℕ). take k bytes) (sym e) ∙ take-suc bytes (size - 1) 0 (omega arith)

      lacking_most : (j : ℕ) → j ≤ length most → header_whole (keep_all i (take j most)) ≡ false
      lacking_most j h =
          let n : length bytes ≡ size = length-header_bytes f mask four in
          let least : 2 ≤ size = size_least f.masked f.length in
          let len : length most ≡ size - 1 = length-take-le (size - 1) bytes (omega arith) in
          ap (λ (l : List ℕ). header_whole (keep_all i l)) (take-take j (size - 1) bytes (omega arith)) ∙ lacking j (omega arith)

      pub header-fed : feed g state (after (world i m c More) 0) bytes ≡ after (settle g state (world come m c More)) size
      unfolding feed step
      header-fed =
          let n : length bytes ≡ size = length-header_bytes f mask four in
          let least : 2 ≤ size = size_least f.masked f.length in
          let len : length most ≡ size - 1 = length-take-le (size - 1) bytes (omega arith) in
          let open-last : header_whole (keep_all i most) ≡ false = ap (λ (l : List ℕ). header_whole (keep_all i l)) (sym (take_all (length most) most (omega arith))) ∙ lacking_most (length most) (omega arith) in
          let count : 0 + length most + 1 ≡ size = omega arith in
          let kept-last : keep (keep_all i most) last ≡ come = sym (keep-last i most last) ∙ ap (keep_all i) (sym split) in
          ap (feed g state (after (world i m c More) 0)) split
          ∙ feed-append g state (after (world i m c More) 0) most (last ∷ [])
          ∙ ap (λ (x : At). feed g state x (last ∷ [])) (feed-lacking g state m c i most 0 open_first lacking_most)
          ∙ ap (λ (w : World). after w (0 + length most + 1)) (byte_lacking g state m c (keep_all i most) last open-last)
          ∙ ap₂ (λ (j : Incoming) (k : ℕ). after (settle g state (world j m c More)) k) kept-last count

      -- 3 and 4 let it pass
      pub settled : first_of (header_tests g f) ≡ 0 → settle g state (world come m c More) ≡ rest g state (world come m c More)
      unfolding settle
      settled h =
          rw (whole, eq-eqb (first_of (header_tests g (frame come))) 0 (ap (λ (x : FrameHeader). first_of (header_tests g x)) reads ∙ h))
