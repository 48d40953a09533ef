use native.Mathlib.Omega.{arith}
use mathlib.Core.Path.{◌≡◌, refl, sym, ◌∙◌}
use Prim.Native.Nat.{ℕ, suc, ◌<◌, ◌≤◌, zero-le}
use native.Mathlib.Nat.{le_of_suc-le-suc, lt-suc_self}
use Rattle.base.specs.Table.{value_at}
use Rattle.base.proofs.Table.{Steady, at_range}
use Rattle.coding.specs.declared.close_code.CloseCode.{CloseCode}
use Rattle.coding.specs.declared.close_code.CloseCode.TheVariants.{Bad}
use Rattle.coding.specs.CloseCodes.{class_rows, class_of}
use Rattle.base.proofs.Keys.{Rest, no_key, ranges, by_ranges, past, from_past}
use Rattle.coding.proofs.close_code.CloseCodeFromU16.from.Goals as goal

-- a code from lo to hi that is no single one
in_range_lem : {n : ℕ} → Rest (class_rows n) n (Unit {0}) → (lo hi : ℕ) {v : CloseCode} → Steady (ranges (class_rows n)) (Bad n) (past (class_rows n) lo) hi v
    → lo ≤ n → n < suc hi → v ≡ class_of n
unfolding class_of
in_range_lem {n} r lo hi {v} e l h =
    let k = no_key (class_rows n) n r in
    sym (by_ranges (class_rows n) (Bad n) n k
    ∙ at_range (ranges (class_rows n)) (Bad n) (past (class_rows n) lo) hi v e n (from_past (class_rows n) lo n k l) (le_of_suc-le-suc h))

pub returns-in-1-to-999 : goal.returns-in-1-to-999
unfolding class_of value_at
returns-in-1-to-999 c = in_range_lem {n = c.args.code} (assumption) 0 999 refl zero-le (omega arith)

pub returns-in-1016-to-2999 : goal.returns-in-1016-to-2999
unfolding class_of value_at
returns-in-1016-to-2999 c = in_range_lem {n = c.args.code} (assumption) 1015 2999 refl (omega arith) (omega arith)

pub returns-in-3000-to-3999 : goal.returns-in-3000-to-3999
unfolding class_of value_at
returns-in-3000-to-3999 c = in_range_lem {n = c.args.code} (assumption) 3000 3999 refl (omega arith) (omega arith)

pub returns-in-4000-to-4999 : goal.returns-in-4000-to-4999
unfolding class_of value_at
returns-in-4000-to-4999 c = in_range_lem {n = c.args.code} (assumption) 4000 4999 refl (omega arith) (omega arith)

pub returns-in_default : goal.returns-in_default
unfolding class_of value_at
returns-in_default c = in_range_lem {n = c.args.code} (assumption) 0 0 refl zero-le (omega arith)

pub returns-in_default-2 : goal.returns-in_default-2
unfolding class_of value_at
returns-in_default-2 c = in_range_lem {n = c.args.code} (assumption) 0 1014 refl zero-le (omega arith)

pub returns-in_default-3 : goal.returns-in_default-3
unfolding class_of value_at
returns-in_default-3 c = in_range_lem {n = c.args.code} (assumption) 5000 _ refl (omega arith) (lt-suc_self _)
