-- `frame::header::FrameHeader::first_byte` meets its contract: bits that do not meet are added.
use Prim.Native.Nat.{◌%◌, ◌<◌}
use native.Mathlib.Nat.{mod-lt, zero-lt-suc}
use lib.Bits.{and_mask}
use Rattle.coding.specs.Opcodes.{opcode_number}
use Rattle.frame.specs.Header.{first_byte}
use Rattle.frame.proofs.Flags.{or_flags}
use Rattle.frame.proofs.header.FrameHeader.first_byte.Goals as goal

pub returns : goal.returns
unfolding first_byte
returns c =
    let h : opcode_number c.args.self.opcode % 16 < 16 = mod-lt (opcode_number c.args.self.opcode) (zero-lt-suc 15) in
    rw (c.flag-4.ensures, c.flag-3.ensures, c.flag-2.ensures, c.flag.ensures, c.from.ensures, and_mask (opcode_number c.args.self.opcode) 4)
    (or_flags (opcode_number c.args.self.opcode % 16) h c.args.self.fin c.args.self.rsv1 c.args.self.rsv2 c.args.self.rsv3)
