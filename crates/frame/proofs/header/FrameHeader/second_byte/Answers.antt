-- `frame::header::FrameHeader::second_byte` meets its contract: bits that do not meet are added.
use Prim.Native.Nat.{◌%◌, ◌<◌}
use native.Mathlib.Nat.{mod-lt, zero-lt-suc}
use lib.Bits.{and_mask}
use Rattle.frame.specs.Header.{length_code, second_byte}
use Rattle.frame.proofs.Flags.{or_mask_flag}
use Rattle.frame.proofs.header.FrameHeader.second_byte.Goals as goal

pub returns : goal.returns
unfolding second_byte
returns c =
    let h : length_code c.args.self.length % 128 < 128 = mod-lt (length_code c.args.self.length) (zero-lt-suc 127) in
    rw (c.flag.ensures, c.length_code.ensures, and_mask (length_code c.args.self.length) 7) (or_mask_flag (length_code c.args.self.length % 128) h c.args.self.masked)
