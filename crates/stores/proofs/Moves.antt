-- What is copied to the front of its own store is laid over it, and a law of a loop that moves it there.
use mathlib.Core.Path.{◌≡◌, sym, ◌∙◌}
use mathlib.Core.List.{List}
use Prim.Native.Nat.{ℕ, ◌+◌, ◌-◌, ◌<◌, ◌≤◌}
use native.Mathlib.Nat.{zero-add}
use native.Mathlib.Omega.{arith}
use lib.ListN.{length, get_or, set, take}
use lib.Seq.{length-take-le}
use Rattle.std.specs.List.{copy_within}
use Rattle.base.specs.Bytes.{part}
use Rattle.base.specs.Stores.{laid}
use Rattle.base.proofs.Bytes.{length_part, part_at}
use Rattle.base.proofs.Stores.{laid_more, laid-behind, laid-split}

pub moved_to_front : (d : List ℕ) (n held : ℕ) → n ≤ held → held ≤ length d → copy_within d n held 0 ≡ laid d 0 (part n (held - n) d)
unfolding part
moved_to_front d n held h k =
    let long : length (part n (held - n) d) ≡ held - n = length_part n (held - n) d (omega arith) in
    sym (laid-split d 0 (part n (held - n) d) (omega arith) ∙ rw long)

-- one byte more: the byte that is moved still stands where it stood, behind those that were laid
pub moved_more : (d : List ℕ) (n m i : ℕ) {e : List ℕ} → n + m ≤ length d → i < m → e ≡ laid d 0 (take i (part n m d))
    → set e i (get_or e (n + i) 0) ≡ laid d 0 (take (i + 1) (part n m d))
moved_more d n m i {e} h k q =
    let all : length (part n m d) ≡ m = length_part n m d h in
    let front : length (take i (part n m d)) ≡ i = length-take-le i (part n m d) (omega arith) in
    let stays : get_or e (n + i) 0 ≡ get_or d (n + i) 0 = rw q (laid-behind d 0 (take i (part n m d)) (n + i) (omega arith)) in
    let more : set e (0 + i) (get_or e (n + i) 0) ≡ laid d 0 (take (i + 1) (part n m d)) =
    laid_more d 0 (part n m d) i (get_or e (n + i) 0) (omega arith) (stays ∙ sym (part_at n m d i k)) q in
    rw zero-add at more
