use mathlib.Core.Path.{◌≡◌, refl, sym, ap, ◌∙◌}
use Prim.Native.Nat.{ℕ, ◌%◌}
use lib.Bits.{bit_and, and_mask}
use Rattle.base.specs.Table.{value_at}
use Rattle.coding.specs.Opcodes.{opcode_rows, opcode_of}
use Rattle.base.proofs.Keys.{no_key}
use Rattle.coding.proofs.Laws.{opcode_of_reserved}
use Rattle.coding.proofs.opcode.OpCodeFromU8.from.Goals as goal

low_bits : (byte : ℕ) {k : ℕ} → bit_and byte 15 ≡ k → opcode_of k ≡ opcode_of (byte % 16)
low_bits byte e = ap opcode_of (sym e ∙ and_mask byte 4)

pub returns-in_default : goal.returns-in_default
unfolding opcode_of value_at
returns-in_default c = sym (opcode_of_reserved _ (no_key opcode_rows (bit_and c.args.byte 15) assumption)) ∙ low_bits c.args.byte refl
