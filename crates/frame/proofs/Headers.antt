-- Laws of whole headers: their size, when one is whole, and that what is written reads back.
use mathlib.Core.Path.{◌≡◌, refl, sym, ◌∙◌}
use mathlib.Core.Bool.{Bool, true, false}
use mathlib.Core.List.{List, []}
use Prim.Native.Nat.{ℕ, suc, ◌+◌, ◌-◌, ◌%◌, ◌<◌, ◌≤◌}
use native.Mathlib.Omega.{arith}
use lib.Bits.{bit_and, and_mask}
use lib.Dec.{leb}
use lib.ListN.{length, get_or, set, length-append}
use borrow.Author.Tests.{le-leb, lt-leb, eq-eqb, ne_eqb, leb-true}
use Rattle.base.specs.Bytes.{part}
use Rattle.base.specs.Stores.{laid}
use Rattle.base.specs.Table.{pick}
use Rattle.base.specs.Tests.{both}
use Rattle.base.proofs.Bytes.{length-to_big}
use Rattle.base.proofs.Stores.{laid-append}
use Rattle.coding.specs.declared.opcode.OpCode.{OpCode}
use Rattle.coding.specs.Opcodes.{opcode_of}
use Rattle.frame.specs.declared.header.FrameHeader.{FrameHeader}
use Rattle.std.specs.Prelude.{None, Some, eqb, unwrap_or}
use Rattle.frame.specs.Header.{bit, first_of, second_of, extra_bytes, length_of, size_by, missing, header_of, parsed, no_mask, mask_in, mask_given, length_code, length_bytes, flags, first_byte, second_byte, header_bytes, plain_size, header_size}
use Rattle.frame.proofs.Lengths.{extra_written, Form, short, middle, long, form, bytes_short, bytes_middle, bytes_long, size_short, size_middle, size_long}

-- ---- the code's own tests on the second byte
pub masked_set : (b : ℕ) → (bit_and b 128 ≡ 0 → ⊥) → (second_of b).masked ≡ true
unfolding second_of
masked_set b e = rw (ne_eqb (bit_and b 128) 0 e)

pub masked_clear : (b : ℕ) → bit_and b 128 ≡ 0 → (second_of b).masked ≡ false
unfolding second_of
masked_clear b e = rw (eq-eqb (bit_and b 128) 0 e)

pub code_low : (b : ℕ) → bit_and b 127 ≡ (second_of b).code
unfolding second_of
code_low b = and_mask b 7

-- ---- how large a header is, by its second byte
pub size_masked : (b : ℕ) → (second_of b).masked ≡ true → size_by b ≡ 2 + extra_bytes (second_of b).code + 4
unfolding size_by
size_masked b e = rw e

pub size_plain : (b : ℕ) → (second_of b).masked ≡ false → size_by b ≡ 2 + extra_bytes (second_of b).code
unfolding size_by
size_plain b e = rw e (omega arith)

pub extra_within : (b : ℕ) → 2 + extra_bytes (second_of b).code ≤ size_by b
unfolding size_by
extra_within b = omega arith

-- ---- when it is whole
pub missing-early : (h : List ℕ) → length h < 2 → missing h ≡ 2 - length h
unfolding missing
missing-early h k = rw (lt-leb 2 (length h) k)

pub missing-later : (h : List ℕ) → 2 ≤ length h → missing h ≡ size_by (get_or h 1 0) - length h
unfolding missing
missing-later h k = rw (le-leb 2 (length h) k)

pub whole_length : (h : List ℕ) → missing h ≡ 0 → 2 ≤ length h
unfolding missing
whole_length h e = go (leb 2 (length h)) refl e
  where
    go : (t : Bool) → leb 2 (length h) ≡ t → pick t (size_by (get_or h 1 0) - length h) (2 - length h) ≡ 0 → 2 ≤ length h
    go true f e = leb-true 2 (length h) f
    go false f e = omega arith

pub whole_size : (h : List ℕ) → missing h ≡ 0 → size_by (get_or h 1 0) ≤ length h
whole_size h e = omega (arith, missing-later h (whole_length h e))

pub parsed-lacking : (h : List ℕ) → (missing h ≡ 0 → ⊥) → parsed h ≡ None
unfolding parsed
parsed-lacking h e = rw (ne_eqb (missing h) 0 e)

pub parsed-whole : (h : List ℕ) → missing h ≡ 0 → parsed h ≡ Some (header_of h)
unfolding parsed
parsed-whole h e = rw (eq-eqb (missing h) 0 e)

-- what the code reads of it, part by part
pub header_parts : (h : List ℕ) {o : OpCode} {n : ℕ} → o ≡ opcode_of (get_or h 0 0 % 16) → n ≡ length_of (second_of (get_or h 1 0)).code h
    → record {
      fin = bit 0x80 (get_or h 0 0);
      rsv1 = bit 0x40 (get_or h 0 0);
      rsv2 = bit 0x20 (get_or h 0 0);
      rsv3 = bit 0x10 (get_or h 0 0);
      opcode = o;
      masked = bit 0x80 (get_or h 1 0);
      length = n;
    }
    ≡ header_of h
unfolding header_of first_of second_of
header_parts h p q = rw (p, q)

-- ---- its mask
pub mask_lacking : (h : List ℕ) → (missing h ≡ 0 → ⊥) → mask_in h ≡ no_mask
unfolding mask_in
mask_lacking h e = rw (ne_eqb (missing h) 0 e)

pub mask_none : (h : List ℕ) → missing h ≡ 0 → (second_of (get_or h 1 0)).masked ≡ false → mask_in h ≡ no_mask
unfolding mask_in
mask_none h e f = rw (eq-eqb (missing h) 0 e, f)

pub mask_there : (h : List ℕ) → missing h ≡ 0 → (second_of (get_or h 1 0)).masked ≡ true → mask_in h ≡ part (size_by (get_or h 1 0) - 4) 4 h
unfolding mask_in
mask_there h e f = rw (eq-eqb (missing h) 0 e, f)

-- where the code looks for it
pub mask_place : (h : List ℕ) {n s : ℕ} → n ≡ missing h → n ≡ 0 → s ≡ size_by (get_or h 1 0) → (bit_and (get_or h 1 0) 128 ≡ 0 → ⊥)
    → (4 ≤ s) × (s ≤ length h)
mask_place h p q r m = (
  omega (arith, size_masked (get_or h 1 0) (masked_set (get_or h 1 0) m), r),
  omega (arith, whole_size h (sym p ∙ q), r),
)

pub given-lacking : (h : List ℕ) → (missing h ≡ 0 → ⊥) → mask_given h ≡ None
unfolding mask_given
given-lacking h e = rw (ne_eqb (missing h) 0 e)

pub given-none : (h : List ℕ) → missing h ≡ 0 → (second_of (get_or h 1 0)).masked ≡ false → mask_given h ≡ None
unfolding mask_given
given-none h e f = rw (eq-eqb (missing h) 0 e, f)

pub given-there : (h : List ℕ) → missing h ≡ 0 → (second_of (get_or h 1 0)).masked ≡ true
    → mask_given h ≡ Some (part (size_by (get_or h 1 0) - 4) 4 h)
unfolding mask_given
given-there h e f = rw (eq-eqb (missing h) 0 e, f, mask_there h e f)

-- by which it is shown where the mask lies, and where there is none
pub ruleset mask_rules = (mask_place, whole_length, masked_clear, given-lacking, given-none)

-- zeros where there is none
pub mask_given_or : (h : List ℕ) → unwrap_or (mask_given h) no_mask ≡ mask_in h
unfolding mask_given mask_in
mask_given_or h = go (eqb (missing h) 0) (second_of (get_or h 1 0)).masked (part (size_by (get_or h 1 0) - 4) 4 h)
  where
    go : (whole has : Bool) (m : List ℕ)
        → unwrap_or (pick (both whole has) (Some (pick whole (pick has m no_mask) no_mask)) None) no_mask ≡ pick whole (pick has m no_mask) no_mask
    go true true m = refl
    go true false m = refl
    go false has m = refl

-- ---- the size of what is written
pub plain_size_lem : (n : ℕ) → plain_size n ≡ 2 + length (length_bytes n)
plain_size_lem n = go (form n)
  where
    go : Form n → plain_size n ≡ 2 + length (length_bytes n)
    go (short h) = rw (size_short n h, bytes_short n h)
    go (middle h k) = rw (size_middle n h k, bytes_middle n h k, length-to_big)
    go (long h) = rw (size_long n h, bytes_long n h, length-to_big)

pub size_split : (m : Bool) (n : ℕ) {b : Bool} → m ≡ b → header_size m n ≡ 2 + length (length_bytes n) + pick b 4 0
unfolding header_size
size_split m n e = rw (plain_size_lem n, e)

-- the code's own sum
pub size_coded : (m : Bool) (n : ℕ) {b : Bool} → m ≡ b → header_size m n ≡ 2 + extra_bytes (length_code n) + pick b 4 0
size_coded m n e = rw extra_written (size_split m n e)

-- room for a header is room for its parts
pub room : (m : Bool) (n at len : ℕ) {b : Bool} → m ≡ b → at + header_size m n ≤ len → at + (2 + length (length_bytes n) + pick b 4 0) ≤ len
room m n at len e h = rw (← size_split m n e) h

mask_size : (m : Bool) (mask : List ℕ) → length mask ≡ 4 → length (pick m mask []) ≡ pick m 4 0
mask_size true mask e = e
mask_size false mask e = refl

-- "Headers have 2, 4 or 10 bytes, and 4 more with a mask."
pub length-header_bytes : (f : FrameHeader) (mask : List ℕ) → length mask ≡ 4 → length (header_bytes f mask) ≡ header_size f.masked f.length
unfolding header_bytes header_size
length-header_bytes f mask e =
    rw (length-append (length_bytes f.length) (pick f.masked mask []), mask_size f.masked mask e, plain_size_lem f.length) (omega arith)

-- two bytes, the length's and the mask's, laid one after the other
pub laid-header : (d : List ℕ) (at : ℕ) (f : FrameHeader) (mask : List ℕ) {a b behind : ℕ} {m : Bool} {e : List ℕ}
    → a ≡ first_byte (flags f) → b ≡ second_byte (record { masked = f.masked; code = length_code f.length }) → f.masked ≡ m
    → behind ≡ at + 2 + length (length_bytes f.length) → e ≡ laid (set (set d at a) (at + 1) b) (at + 2) (length_bytes f.length)
    → laid e behind (pick m mask []) ≡ laid d at (header_bytes f mask)
unfolding laid header_bytes
laid-header d at f mask p q t u v =
    let one : at + 1 ≡ suc at = omega arith in
    let two : at + 2 ≡ suc (suc at) = omega arith in
    rw (v, u, ← t, p, q, one, two, laid-append _ (suc (suc at)) (length_bytes f.length) (pick f.masked mask []))
