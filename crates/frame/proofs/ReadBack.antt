-- What is written reads back: every header, for every length of 64 bits, with a mask (a client's) and without (a server's), whatever
-- follows it; and before its last byte nothing is read.
use mathlib.Core.Path.{◌≡◌, refl, sym, ap, ◌∙◌}
use mathlib.Core.Bool.{Bool, true, false}
use mathlib.Core.List.{List, [], ◌∷◌, ◌++◌, append_assoc}
use Prim.Native.Nat.{ℕ, ◌+◌, ◌-◌, ◌%◌, ◌<◌, ◌≤◌}
use native.Mathlib.Omega.{arith}
use lib.Dec.{leb}
use borrow.Author.Tests.{leb-true, leb-false}
use lib.ListN.{length, get_or, take, length-append}
use lib.Seq.{length-take-le, get_or-take}
use Rattle.base.specs.Bytes.{part}
use Rattle.base.specs.Table.{pick}
use Rattle.base.proofs.Bytes.{part-between}
use Rattle.coding.specs.Opcodes.{opcode_of, opcode_number}
use Rattle.frame.specs.Header.{Second}
use Rattle.frame.specs.declared.header.FrameHeader.{FrameHeader}
use Rattle.std.specs.Prelude.{None, Some}
use Rattle.frame.specs.Header.{first_of, second_of, length_of, size_by, missing, header, header_of, parsed, no_mask, mask_in, mask_given, length_code, length_bytes, flags, first_byte, second_byte, header_bytes, header_size}
use Rattle.frame.proofs.Flags.{split_joined_first, split_joined_second}
use Rattle.frame.proofs.Lengths.{code_most, extra_written, length-read_back}
use Rattle.frame.proofs.Headers.{size_split, missing-early, missing-later, parsed-lacking, parsed-whole, mask_none, mask_there, given-none, given-there, length-header_bytes}

module _ (f : FrameHeader) (mask : List ℕ) (four : length mask ≡ 4) where
  -- its second byte, and the size that this says
  abbrev second : Second
  second = record { masked = f.masked; code = length_code f.length }

  second_back : second_of (second_byte second) ≡ second
  second_back = split_joined_second second (code_most f.length)

  size_back : size_by (second_byte second) ≡ header_size f.masked f.length
  unfolding size_by
  size_back = rw (second_back, extra_written f.length) (sym (size_split f.masked f.length refl))

  size_taken : (k : ℕ) → 2 ≤ k → size_by (get_or (take k (header_bytes f mask)) 1 0) ≡ header_size f.masked f.length
  unfolding header_bytes
  size_taken k h = rw (get_or-take k (header_bytes f mask) 1 0 h) size_back

  two_or_more : 2 ≤ header_size f.masked f.length
  two_or_more = omega (arith, size_split f.masked f.length refl)

  module _ (rest : List ℕ) where
    abbrev stream : List ℕ
    stream = header_bytes f mask ++ rest

    whole : missing stream ≡ 0
    unfolding header_bytes
    whole =
        let len : length stream ≡ header_size f.masked f.length + length rest =
        length-append (header_bytes f mask) rest ∙ ap (λ (n : ℕ). n + length rest) (length-header_bytes f mask four) in
        omega (arith, missing-later stream (omega (arith, len, two_or_more)), len, size_back)

    -- the header
    pub header-read_back : opcode_of (opcode_number f.opcode % 16) ≡ f.opcode → f.length < 18446744073709551616 → parsed stream ≡ Some f
    unfolding header_of header_bytes
    header-read_back o h =
        let first : first_of (first_byte (flags f)) ≡ flags f = split_joined_first (flags f) o in
        let n : length_of (second_of (second_byte second)).code stream ≡ f.length =
        ap (λ (s : Second). length_of s.code stream) second_back
        ∙ rw append_assoc (length-read_back (first_byte (flags f)) (second_byte second) f.length (pick f.masked mask [] ++ rest) h) in
        parsed-whole stream whole ∙ (λ i. Some (header (first i) (second_back i).masked (n i)))

    -- its mask
    pub mask_read_back : f.masked ≡ true → mask_in stream ≡ mask
    unfolding header_bytes
    mask_read_back m =
        let front : List ℕ = first_byte (flags f) ∷ (second_byte second ∷ length_bytes f.length) in
        let split : stream ≡ front ++ (mask ++ rest) =
        ap (λ (l : List ℕ). first_byte (flags f) ∷ (second_byte second ∷ l)) (append_assoc (length_bytes f.length) (pick f.masked mask []) rest ∙ rw m) in
        let size : length front ≡ size_by (second_byte second) - 4 = omega (arith, size_back, size_split f.masked f.length m) in
        mask_there stream whole (ap (λ (s : Second). s.masked) second_back ∙ m)
        ∙ ap (part (size_by (second_byte second) - 4) 4) split
        ∙ part-between front mask rest (size_by (second_byte second) - 4) 4 size four

    pub no_mask_read_back : f.masked ≡ false → mask_in stream ≡ no_mask
    unfolding header_bytes
    no_mask_read_back m = mask_none stream whole (ap (λ (s : Second). s.masked) second_back ∙ m)

    -- which is given where there is one
    pub mask_given_back : f.masked ≡ true → mask_given stream ≡ Some mask
    unfolding header_bytes
    mask_given_back m =
        given-there stream whole (ap (λ (s : Second). s.masked) second_back ∙ m)
        ∙ ap Some (sym (mask_there stream whole (ap (λ (s : Second). s.masked) second_back ∙ m)) ∙ mask_read_back m)

    pub no_mask_given_back : f.masked ≡ false → mask_given stream ≡ None
    unfolding header_bytes
    no_mask_given_back m = given-none stream whole (ap (λ (s : Second). s.masked) second_back ∙ m)

  -- before its last byte
  pub lacking_before : (k : ℕ) → k < header_size f.masked f.length → parsed (take k (header_bytes f mask)) ≡ None
  lacking_before k h = parsed-lacking (take k (header_bytes f mask)) (go (leb 2 k) refl)
    where
      len : length (take k (header_bytes f mask)) ≡ k
      len = length-take-le k (header_bytes f mask) (omega (arith, length-header_bytes f mask four))

      go : (t : Bool) → leb 2 k ≡ t → missing (take k (header_bytes f mask)) ≡ 0 → ⊥
      go true e z =
          omega (arith, missing-later (take k (header_bytes f mask)) (omega (arith, len, leb-true 2 k e)), len, size_taken k (leb-true 2 k e))
      go false e z = omega (arith, missing-early (take k (header_bytes f mask)) (omega (arith, len, leb-false 2 k e)), len, leb-false 2 k e)
