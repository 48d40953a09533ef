-- Laws of a frame's bytes: how many they are, when they fit, and that a frame laid part by part is the frame.
use mathlib.Core.Path.{◌≡◌, refl, sym, ap, ap₂, ◌∙◌}
use mathlib.Core.Bool.{Bool, true, false}
use mathlib.Core.List.{List, ◌++◌}
use Prim.Native.Nat.{ℕ, ◌+◌, ◌-◌, ◌≤◌}
use native.Mathlib.Nat.{zero-add}
use native.Mathlib.Omega.{arith}
use borrow.Author.Tests.{leb-true}
use lib.Dec.{leb}
use lib.ListN.{length, length-append}
use Rattle.std.specs.Prelude.{Option}
use Rattle.std.specs.Bool.{then_some}
use Rattle.base.specs.Stores.{laid}
use Rattle.base.specs.Table.{pick}
use Rattle.base.proofs.Stores.{laid-append}
use Rattle.coding.specs.declared.opcode.OpCode.{OpCode}
use Rattle.frame.specs.declared.header.FrameHeader.{FrameHeader}
use Rattle.frame.specs.Header.{header_bytes, header_size}
use Rattle.frame.proofs.Headers.{length-header_bytes}
use Rattle.mask.specs.Mask.{masked}
use Rattle.mask.proofs.Laws.{length-masked, masked-append}
use Rattle.stores.specs.Framed.{framed}
use Rattle.session.specs.Replies.{frame_header, encoded, fits}

-- a payload from its byte i on, masked or as it is
abbrev pub carried : Bool → List ℕ → ℕ → List ℕ → List ℕ
carried client mask i p = pick client (masked mask i p) p

-- as the store is given it
framed_by : (client : Bool) (mask : List ℕ) {key : Option (List ℕ)} → key ≡ then_some client mask → (i : ℕ) (p : List ℕ) → framed key i p ≡ carried client mask i p
framed_by true mask k i p = rw k
framed_by false mask k i p = rw k

pub length-carried : (client : Bool) (mask : List ℕ) (i : ℕ) (p : List ℕ) → length (carried client mask i p) ≡ length p
length-carried true mask i p = length-masked mask i p
length-carried false mask i p = refl

carried_append : (client : Bool) (mask s t : List ℕ) → carried client mask 0 (s ++ t) ≡ carried client mask 0 s ++ carried client mask (length s) t
carried_append true mask s t = masked-append mask 0 s t ∙ rw zero-add
carried_append false mask s t = refl

-- "header and payload"
pub length-encoded : (client : Bool) (op : OpCode) (mask p : List ℕ) → length mask ≡ 4
    → length (encoded client op mask p) ≡ header_size client (length p) + length p
unfolding encoded frame_header
length-encoded client op mask p four =
    length-append (header_bytes (frame_header client op (length p)) mask) (carried client mask 0 p)
    ∙ ap₂ ◌+◌ (length-header_bytes (frame_header client op (length p)) mask four) (length-carried client mask 0 p)

pub fits-within : (held : ℕ) (output bytes : List ℕ) → fits held output bytes ≡ true → held ≤ length output → held + length bytes ≤ length output
unfolding fits
fits-within held output bytes f h = omega (arith, leb-true (length bytes) (length output - held) f)

pub fits_by : (held : ℕ) (output : List ℕ) (client : Bool) (op : OpCode) (mask p : List ℕ) → length mask ≡ 4
    → fits held output (encoded client op mask p) ≡ leb (header_size client (length p) + length p) (length output - held)
unfolding fits
fits_by held output client op mask p four = ap (λ (n : ℕ). leb n (length output - held)) (length-encoded client op mask p four)

pub fits_parts : (held : ℕ) (output : List ℕ) (client : Bool) (op : OpCode) (mask s t : List ℕ) → length mask ≡ 4
    → fits held output (encoded client op mask (s ++ t)) ≡ leb (header_size client (length s + length t) + (length s + length t)) (length output - held)
fits_parts held output client op mask s t four = fits_by held output client op mask (s ++ t) four ∙ rw (length-append s t)

-- a payload in two parts, of which the first has n bytes
pub fits-by_parts : (held : ℕ) (output : List ℕ) (client : Bool) (op : OpCode) (mask s t : List ℕ) {n : ℕ} → length mask ≡ 4 → length s ≡ n
    → fits held output (encoded client op mask (s ++ t)) ≡ leb (header_size client (n + length t) + (n + length t)) (length output - held)
fits-by_parts held output client op mask s t four first =
    fits_by held output client op mask (s ++ t) four ∙ rw (length-append s t, first)

-- ---- a header, and a payload in two parts of which the first has n bytes
module _ (client : Bool) (op : OpCode) (mask s t : List ℕ) (four : length mask ≡ 4) {n : ℕ} (first : length s ≡ n) {h : FrameHeader} (header : h ≡ frame_header client op (n + length t)) where
  whole : n + length t ≡ length (s ++ t)
  whole = ap (λ (k : ℕ). k + length t) (sym first) ∙ sym (length-append s t)

  pub header-room : header_size h.masked h.length ≡ header_size client (n + length t)
  unfolding frame_header
  header-room = ap (λ (x : FrameHeader). header_size x.masked x.length) header

-- ---- a header, and a payload in two parts, laid one after the other
module _ (client : Bool) (op : OpCode) (mask s t : List ℕ) (four : length mask ≡ 4) {h : FrameHeader} (header : h ≡ frame_header client op (length s + length t)) (at : ℕ) {behind : ℕ} (place : behind ≡ at + header_size h.masked h.length) where
  pub behind-frame : behind + (length s + length t) ≡ at + length (encoded client op mask (s ++ t))
  unfolding frame_header
  behind-frame =
      let size : header_size h.masked h.length ≡ header_size client (length s + length t) = rw header in
      let whole : length (encoded client op mask (s ++ t)) ≡ header_size client (length s + length t) + (length s + length t) =
      length-encoded client op mask (s ++ t) four ∙ rw (length-append s t) in
      omega arith

  pub laid-frame : (d : List ℕ) {x y z : List ℕ} {key : Option (List ℕ)} → key ≡ then_some client mask → x ≡ laid d at (header_bytes h mask)
      → y ≡ laid x behind (framed key 0 s) → z ≡ laid y (behind + length s) (framed key (length s) t)
      → z ≡ laid d at (encoded client op mask (s ++ t))
  unfolding encoded
  laid-frame d {x} {y} {z} k q first second =
      let u : y ≡ laid x behind (carried client mask 0 s) = first ∙ rw (framed_by client mask k 0 s) in
      let v : z ≡ laid y (behind + length s) (carried client mask (length s) t) = second ∙ rw (framed_by client mask k (length s) t) in
      let b : List ℕ = header_bytes h mask in
      let e : header_bytes (frame_header client op (length (s ++ t))) mask ≡ b = rw (length-append s t, ← header) in
      let after_header : at + length b ≡ behind = ap (λ (k : ℕ). at + k) (length-header_bytes h mask four) ∙ sym place in
      let parts : laid d at (b ++ (carried client mask 0 s ++ carried client mask (length s) t))
      ≡ laid (laid (laid d at b) (at + length b) (carried client mask 0 s)) (at + length b + length (carried client mask 0 s)) (carried client mask (length s) t) =
      laid-append d at b (carried client mask 0 s ++ carried client mask (length s) t)
      ∙ laid-append (laid d at b) (at + length b) (carried client mask 0 s) (carried client mask (length s) t) in
      let laid-last : laid (laid (laid d at b) (at + length b) (carried client mask 0 s)) (at + length b + length (carried client mask 0 s)) (carried client mask (length s) t) ≡ z =
      rw (after_header, length-carried client mask 0 s, ← q, ← u) (sym v) in
      rw (carried_append client mask s t, e) (sym (parts ∙ laid-last))
