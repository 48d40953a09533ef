-- The bits of a header's first two bytes: what is joined is a sum, and splits again into its parts. Each is a test that is computed at
-- every value of the flags and of the number beside them.
use mathlib.Core.Path.{◌≡◌}
use mathlib.Core.Bool.{Bool}
use Prim.Native.Nat.{ℕ, ◌+◌, ◌%◌, ◌<◌}
use native.Mathlib.Nat.{mod-lt, zero-lt-suc}
use native.Mathlib.Omega.{arith}
use lib.Bits.{bit_or}
use lib.Dec.{T, eqb, eqb→eq}
use Rattle.base.specs.Table.{pick}
use Rattle.base.proofs.Range.{same, same_eq, all_from, in_range, at_both, at_bool}
use Rattle.coding.specs.Opcodes.{opcode_of, opcode_number}
use Rattle.frame.specs.Header.{First}
use Rattle.frame.specs.Header.{Second}
use Rattle.frame.specs.Header.{bit, first_of, second_of, first_byte, second_byte}

-- ---- the first byte

-- a test at every number of four bits with every four flags
abbrev at_four : (ℕ → Bool → Bool → Bool → Bool → Bool) → ℕ → Bool
at_four f n = at_both (λ a. at_both (λ b. at_both (λ c. at_both (λ d. f n a b c d))))

at_four_lem : (f : ℕ → Bool → Bool → Bool → Bool → Bool) → T (all_from (at_four f) 0 16) → (n : ℕ) → n < 16 → (a b c d : Bool) → T (f n a b c d)
at_four_lem f t n h a b c d =
    at_bool (λ d. f n a b c d)
    (at_bool (λ c. at_both (λ d. f n a b c d))
    (at_bool (λ b. at_both (λ c. at_both (λ d. f n a b c d)))
    (at_bool (λ a. at_both (λ b. at_both (λ c. at_both (λ d. f n a b c d)))) (in_range (at_four f) 0 16 t n (omega arith) (omega arith)) a)
    b)
    c)
    d

abbrev sum : ℕ → Bool → Bool → Bool → Bool → ℕ
sum n a b c d = pick a 0x80 0 + pick b 0x40 0 + pick c 0x20 0 + pick d 0x10 0 + n

pub or_flags : (n : ℕ) → n < 16 → (a b c d : Bool)
    → bit_or (bit_or (bit_or (bit_or n (pick a 0x80 0)) (pick b 0x40 0)) (pick c 0x20 0)) (pick d 0x10 0)
    ≡ pick a 0x80 0 + pick b 0x40 0 + pick c 0x20 0 + pick d 0x10 0 + n
or_flags n h a b c d =
    eqb→eq (bit_or (bit_or (bit_or (bit_or n (pick a 0x80 0)) (pick b 0x40 0)) (pick c 0x20 0)) (pick d 0x10 0)) (sum n a b c d)
    (at_four_lem
    (λ n a b c d. eqb (bit_or (bit_or (bit_or (bit_or n (pick a 0x80 0)) (pick b 0x40 0)) (pick c 0x20 0)) (pick d 0x10 0)) (sum n a b c d))
    tt n h a b c d)

-- the sum has each flag at its bit, and the number in its four low bits
flag_of : (m : ℕ) (g : Bool → Bool → Bool → Bool → Bool) → T (all_from (at_four (λ n a b c d. same (bit m (sum n a b c d)) (g a b c d))) 0 16)
    → (n : ℕ) → n < 16 → (a b c d : Bool) → bit m (sum n a b c d) ≡ g a b c d
flag_of m g t n h a b c d =
    same_eq (bit m (sum n a b c d)) (g a b c d) (at_four_lem (λ n a b c d. same (bit m (sum n a b c d)) (g a b c d)) t n h a b c d)

low_of : (n : ℕ) → n < 16 → (a b c d : Bool) → sum n a b c d % 16 ≡ n
low_of n h a b c d = eqb→eq (sum n a b c d % 16) n (at_four_lem (λ n a b c d. eqb (sum n a b c d % 16) n) tt n h a b c d)

-- what is joined splits again
pub split_joined_first : (f : First) → opcode_of (opcode_number f.opcode % 16) ≡ f.opcode → first_of (first_byte f) ≡ f
unfolding first_of first_byte
split_joined_first f e =
    let n : ℕ = opcode_number f.opcode % 16 in
    let h : n < 16 = mod-lt (opcode_number f.opcode) (zero-lt-suc 15) in
    let o : opcode_of (sum n f.fin f.rsv1 f.rsv2 f.rsv3 % 16) ≡ f.opcode = rw (low_of n h f.fin f.rsv1 f.rsv2 f.rsv3) e in
    λ i. record {
      fin = flag_of 0x80 (λ a b c d. a) tt n h f.fin f.rsv1 f.rsv2 f.rsv3 i;
      rsv1 = flag_of 0x40 (λ a b c d. b) tt n h f.fin f.rsv1 f.rsv2 f.rsv3 i;
      rsv2 = flag_of 0x20 (λ a b c d. c) tt n h f.fin f.rsv1 f.rsv2 f.rsv3 i;
      rsv3 = flag_of 0x10 (λ a b c d. d) tt n h f.fin f.rsv1 f.rsv2 f.rsv3 i;
      opcode = o i;
    }

-- ---- the second byte
module _ (f : ℕ → Bool → Bool) (t : T (all_from (λ n. at_both (f n)) 0 128)) (n : ℕ) (h : n < 128) (m : Bool) where
  at_seven : T (f n m)
  at_seven = at_bool (f n) (in_range (λ n. at_both (f n)) 0 128 t n (omega arith) (omega arith)) m

pub or_mask_flag : (n : ℕ) → n < 128 → (m : Bool) → bit_or n (pick m 0x80 0) ≡ pick m 0x80 0 + n
or_mask_flag n h m = eqb→eq (bit_or n (pick m 0x80 0)) (pick m 0x80 0 + n) (at_seven (λ n m. eqb (bit_or n (pick m 0x80 0)) (pick m 0x80 0 + n)) tt n h m)

pub split_joined_second : (s : Second) → s.code < 128 → second_of (second_byte s) ≡ s
unfolding second_of second_byte
split_joined_second s h =
    let k : s.code % 128 < 128 = mod-lt s.code (zero-lt-suc 127) in
    let low : (pick s.masked 0x80 0 + s.code % 128) % 128 ≡ s.code % 128 =
    eqb→eq ((pick s.masked 0x80 0 + s.code % 128) % 128) (s.code % 128) (at_seven (λ n m. eqb ((pick m 0x80 0 + n) % 128) n) tt (s.code % 128) k s.masked) in
    let code : (pick s.masked 0x80 0 + s.code % 128) % 128 ≡ s.code = omega (arith, low) in
    λ i. record {
      masked = same_eq (bit 0x80 (pick s.masked 0x80 0 + s.code % 128)) s.masked (at_seven (λ n m. same (bit 0x80 (pick m 0x80 0 + n)) m) tt (s.code % 128) k s.masked) i;
      code = code i;
    }
