-- Each public function's contract leaves one answer.
use mathlib.Core.Path.{sym, ◌∙◌}
use Rattle.base.proofs.Promise.{OneAnswer}
use Rattle.coding.proofs.close_code.CloseCodeFromU16.from.Kinds as class-kinds
use Rattle.coding.proofs.close_code.CloseCodeFromU16.from.Reads as class-reads
use Rattle.coding.proofs.close_code.U16FromCloseCode.from.Kinds as code-kinds
use Rattle.coding.proofs.close_code.U16FromCloseCode.from.Reads as code-reads
use Rattle.coding.proofs.close_code.CloseCode.is_allowed.Kinds as allowed-class-kinds
use Rattle.coding.proofs.close_code.CloseCode.is_allowed.Reads as allowed-class-reads
use Rattle.coding.proofs.close_code.is_allowed.Kinds as allowed-kinds
use Rattle.coding.proofs.close_code.is_allowed.Reads as allowed-reads
use Rattle.coding.proofs.opcode.OpCodeFromU8.from.Kinds as opcode-kinds
use Rattle.coding.proofs.opcode.OpCodeFromU8.from.Reads as opcode-reads
use Rattle.coding.proofs.opcode.U8FromOpCode.from.Kinds as number-kinds
use Rattle.coding.proofs.opcode.U8FromOpCode.from.Reads as number-reads

pub from_u8_one : OneAnswer 0 opcode-kinds.ps opcode-kinds.r opcode-reads.Post
from_u8_one κs a r r' e e' p q = p ∙ sym q

pub into_u8_one : OneAnswer 0 number-kinds.ps number-kinds.r number-reads.Post
into_u8_one κs a r r' e e' p q = p ∙ sym q

pub from_u16_one : OneAnswer 0 class-kinds.ps class-kinds.r class-reads.Post
from_u16_one κs a r r' e e' p q = p ∙ sym q

pub into_u16_one : OneAnswer 0 code-kinds.ps code-kinds.r code-reads.Post
into_u16_one κs a r r' e e' p q = p ∙ sym q

pub class_is_allowed_one : OneAnswer 0 allowed-class-kinds.ps allowed-class-kinds.r allowed-class-reads.Post
class_is_allowed_one κs a r r' e e' p q = p ∙ sym q

pub is_allowed_one : OneAnswer 0 allowed-kinds.ps allowed-kinds.r allowed-reads.Post
is_allowed_one κs a r r' e e' p q = p ∙ sym q
