-- The opcodes of frames (RFC 6455, 5.2; document 01, "Frame header").
use Rattle.std.specs.Prelude.{List, [], ◌∷◌, ℕ}
use Rattle.base.specs.Table.{Row, ◌to◌is◌, value_at}
use Rattle.coding.specs.declared.opcode.Control.{Control as ControlKind}
use Rattle.coding.specs.declared.opcode.Control.TheVariants.{Close, Ping, Pong}
use Rattle.coding.specs.declared.opcode.Data.{Data as DataKind}
use Rattle.coding.specs.declared.opcode.Data.TheVariants.{Continue, Text, Binary}
use Rattle.coding.specs.declared.opcode.OpCode.{OpCode}
use Rattle.coding.specs.declared.opcode.OpCode.TheVariants.{Data, Control, Reserved}

-- "the four low bits of the first byte are the opcode: 0 continuation, 1 text, 2 binary, 8 close, 9 ping, 10 pong, others reserved"
abbrev pub opcode_rows : List (Row OpCode)
opcode_rows =
    (0 to 0 is Data Continue)
    ∷ (1 to 1 is Data Text)
    ∷ (2 to 2 is Data Binary) ∷ (8 to 8 is Control Close) ∷ (9 to 9 is Control Ping) ∷ (10 to 10 is Control Pong) ∷ []

-- the opcode of those four bits
unfoldable pub opcode_of : ℕ → OpCode
opcode_of n = value_at opcode_rows (Reserved n) n

-- the four bits of an opcode
abbrev pub data_number : DataKind → ℕ
data_number Continue = 0
data_number Text = 1
data_number Binary = 2

abbrev pub control_number : ControlKind → ℕ
control_number Close = 8
control_number Ping = 9
control_number Pong = 10

abbrev pub opcode_number : OpCode → ℕ
opcode_number (Data d) = data_number d
opcode_number (Control c) = control_number c
opcode_number (Reserved n) = n
