-- A sum over a limit, tested by a difference.
use mathlib.Core.Path.{◌≡◌}
use Prim.Native.Nat.{ℕ, ◌+◌, ◌-◌, ◌≤◌}
use native.Mathlib.Omega.{arith}
use lib.Dec.{ltb}
use borrow.Author.Tests.{lt-ltb, le-ltb, ltb-true, ltb-false}
use Rattle.base.proofs.Choice.{by_test}

pub over_by_difference : (limit n before : ℕ) → n ≤ limit → ltb (limit - n) before ≡ ltb limit (before + n)
over_by_difference limit n before h =
    by_test (ltb (limit - n) before)
    (λ t. rw (t, lt-ltb limit (before + n) (omega (arith, ltb-true (limit - n) before t))))
    (λ t. rw (t, le-ltb limit (before + n) (omega (arith, ltb-false (limit - n) before t))))
