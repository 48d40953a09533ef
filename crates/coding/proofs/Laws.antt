-- The two directions of the opcodes agree, so do those of the close codes, and so do the two ways to say which close codes are allowed.
use mathlib.Core.Path.{◌≡◌, refl, sym, ap, ◌∙◌}
use mathlib.Core.Bool.{Bool, true, false}
use mathlib.Core.Logic.{◌⊎◌, inl, inr, ⊎_elim}
use Prim.Native.Nat.{ℕ, ◌<◌, ◌≤◌, zero-le}
use native.Mathlib.Nat.{le_refl}
use lib.Dec.{ltb, eqb, eqb→eq}
use borrow.Author.Tests.{ltb-true, ltb-false}
use Rattle.base.specs.Table.{value_at}
use Rattle.base.proofs.Range.{same, same_eq, in_range}
use Rattle.base.proofs.Table.{at_range, no_row}
use Rattle.coding.specs.declared.close_code.CloseCode.TheVariants.{Bad}
use Rattle.coding.specs.declared.opcode.Control.{Control as ControlKind}
use Rattle.coding.specs.declared.opcode.Control.TheVariants.{Close, Ping, Pong}
use Rattle.coding.specs.declared.opcode.Data.{Data as DataKind}
use Rattle.coding.specs.declared.opcode.Data.TheVariants.{Continue, Text, Binary}
use Rattle.coding.specs.declared.opcode.OpCode.TheVariants.{Data, Control, Reserved}
use Rattle.coding.specs.CloseCodes.{class_rows, class_of, class_code, allowed_class, allowed_rows, allowed}
use Rattle.coding.specs.Opcodes.{opcode_rows, opcode_of, opcode_number}
use Rattle.base.proofs.Keys.{NoKey, by_ranges}

below_or_from : (n m : ℕ) → (n < m) ⊎ (m ≤ n)
below_or_from n m = go (ltb n m) refl
  where
    go : (t : Bool) → ltb n m ≡ t → (n < m) ⊎ (m ≤ n)
    go true e = inl (ltb-true n m e)
    go false e = inr (ltb-false n m e)

-- a number is its opcode's number: computed at the rows, and behind them every number is reserved
pub number_of_opcode : (n : ℕ) → opcode_number (opcode_of n) ≡ n
unfolding opcode_of value_at
number_of_opcode n =
    ⊎_elim (λ h. eqb→eq (opcode_number (opcode_of n)) n (in_range (λ m. eqb (opcode_number (opcode_of m)) m) 0 11 tt n zero-le h))
    (λ h. ap opcode_number (at_range opcode_rows (Reserved n) 11 n (Reserved n) refl n h (le_refl n))) (below_or_from n 11)

-- an opcode is its number's opcode; a reserved one, if its number is none of the six others'
pub opcode_of_data : (d : DataKind) → opcode_of (opcode_number (Data d)) ≡ Data d
unfolding opcode_of value_at
opcode_of_data Continue = refl
opcode_of_data Text = refl
opcode_of_data Binary = refl

pub opcode_of_control : (c : ControlKind) → opcode_of (opcode_number (Control c)) ≡ Control c
unfolding opcode_of value_at
opcode_of_control Close = refl
opcode_of_control Ping = refl
opcode_of_control Pong = refl

pub opcode_of_reserved : (n : ℕ) → NoKey opcode_rows n → opcode_of (opcode_number (Reserved n)) ≡ Reserved n
unfolding opcode_of
opcode_of_reserved n k = by_ranges opcode_rows (Reserved n) n k ∙ no_row (Reserved n) n

-- a code is its class's code: computed at the rows, and behind them every code is bad, and kept
pub code_of_class : (n : ℕ) → class_code (class_of n) ≡ n
unfolding class_of value_at
code_of_class n =
    ⊎_elim (λ h. eqb→eq (class_code (class_of n)) n (in_range (λ m. eqb (class_code (class_of m)) m) 0 5000 tt n zero-le h))
    (λ h. ap class_code (at_range (class_rows n) (Bad n) 5000 n (Bad n) refl n h (le_refl n))) (below_or_from n 5000)

-- a code is allowed just where its class is: computed at the rows, and behind them no code is
pub allowed-class : (n : ℕ) → allowed_class (class_of n) ≡ allowed n
unfolding class_of allowed value_at
allowed-class n =
    ⊎_elim (λ h. same_eq (allowed_class (class_of n)) (allowed n) (in_range (λ m. same (allowed_class (class_of m)) (allowed m)) 0 5000 tt n zero-le h))
    (λ h. ap allowed_class (at_range (class_rows n) (Bad n) 5000 n (Bad n) refl n h (le_refl n))
    ∙ sym (at_range allowed_rows false 5000 n false refl n h (le_refl n)))
    (below_or_from n 5000)
