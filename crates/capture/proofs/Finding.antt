-- Laws of places and records, case by case.
use mathlib.Core.Path.{◌≡◌, ap}
use mathlib.Core.Bool.{Bool}
use mathlib.Core.List.{List}
use Prim.Native.Nat.{ℕ, ◌+◌, ◌-◌, ◌*◌, ◌≤◌, ◌<◌}
use native.Mathlib.Omega.{arith}
use lib.ListN.{length, get_or}
use borrow.Author.Tests.{lt-ltb, le-ltb, le-leb, lt-leb}
use Rattle.capture.specs.declared.record.Found.{Found}
use Rattle.capture.specs.declared.record.Found.TheVariants.{Input}
use Rattle.capture.specs.Places.{onward}
use Rattle.capture.specs.Records.{short, input_length, input_in, mark_of, by_mark, found_in}

-- ---- a place n bytes behind: past what can be counted, or the sum
pub onward-most : (place n : ℕ) → place ≤ 18446744073709551615 → 18446744073709551615 - place < n → 18446744073709551615 ≡ onward place n
unfolding onward
onward-most place n k h = rw (lt-leb (place + n) 18446744073709551615 (omega arith))

pub onward-sum : (place n : ℕ) → place ≤ 18446744073709551615 → n ≤ 18446744073709551615 - place → place + n ≡ onward place n
unfolding onward
onward-sum place n k h = rw (le-leb (place + n) 18446744073709551615 (omega arith))

-- ---- a record of input: its head is cut short, its bytes are, or it is whole
pub input_headless : (bytes : List ℕ) (ended : Bool) {f : Found} → length bytes < 4 → f ≡ short ended → f ≡ input_in bytes ended
unfolding input_in
input_headless bytes ended h q = rw (lt-ltb (length bytes) 4 h) q

module _ (bytes : List ℕ) (ended : Bool) {n : ℕ} (head : 4 ≤ length bytes) (e : n ≡ get_or bytes 2 0 * 256 + get_or bytes 3 0) where
  pub input_cut : {f : Found} → length bytes - 4 < n → f ≡ short ended → f ≡ input_in bytes ended
  unfolding input_in input_length
  input_cut h q =
      rw (le-ltb (length bytes) 4 head, lt-ltb (length bytes) (4 + (get_or bytes 2 0 * 256 + get_or bytes 3 0)) (omega (arith, e))) q

  pub input_whole : n ≤ length bytes - 4 → Input n ≡ input_in bytes ended
  unfolding input_in input_length
  input_whole h =
      rw (le-ltb (length bytes) 4 head, le-ltb (length bytes) (4 + (get_or bytes 2 0 * 256 + get_or bytes 3 0)) (omega (arith, e))) (ap Input e)

-- ---- a record: its mark is cut short, or names it
pub found_markless : (bytes : List ℕ) (ended : Bool) {f : Found} → length bytes < 2 → f ≡ short ended → f ≡ found_in bytes ended
unfolding found_in
found_markless bytes ended h q = rw (lt-ltb (length bytes) 2 h) q

pub found_marked : (bytes : List ℕ) (ended : Bool) {f : Found} → 2 ≤ length bytes → f ≡ by_mark (mark_of (get_or bytes 0 0) (get_or bytes 1 0)) bytes ended
    → f ≡ found_in bytes ended
unfolding found_in
found_marked bytes ended h q = rw (le-ltb (length bytes) 2 h) q
