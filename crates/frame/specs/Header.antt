-- Frame headers (RFC 6455, 5.2; document 01, "Frame header"). h stands for the bytes of a stream from a frame's first byte on.
use Rattle.std.specs.Prelude.{Bool, not, Option, None, Some, List, [], ◌∷◌, ◌++◌, ℕ, ◌+◌, ◌-◌, ◌%◌, leb, eqb, length, get_or}
use Rattle.std.specs.Int.Bits.{bit_and}
use Rattle.base.specs.Bytes.{part, from_big, to_big}
use Rattle.base.specs.Table.{pick, ◌to◌is◌, value_at}
use Rattle.base.specs.Tests.{both}
use Rattle.coding.specs.declared.opcode.OpCode.{OpCode}
use Rattle.coding.specs.Opcodes.{opcode_of, opcode_number}
use Rattle.frame.specs.declared.header.FrameHeader.{FrameHeader}

-- ---- reading

-- the bit m of the byte b is set
abbrev pub bit : ℕ → ℕ → Bool
bit m b = not (eqb (bit_and b m) 0)

-- what the first byte says, and the second
pub record First : Type 0 where
  pub fin : Bool
  pub rsv1 : Bool
  pub rsv2 : Bool
  pub rsv3 : Bool
  pub opcode : OpCode

pub record Second : Type 0 where
  pub masked : Bool
  pub code : ℕ

-- "Bit 0x80 is final, 0x40, 0x20 and 0x10 are reserved; the four low bits of the first byte are the opcode"
unfoldable pub first_of : ℕ → First
first_of b = record { fin = bit 0x80 b; rsv1 = bit 0x40 b; rsv2 = bit 0x20 b; rsv3 = bit 0x10 b; opcode = opcode_of (b % 16) }

-- "Second byte: 0x80 says that a mask follows; the low seven bits are the length, .."
unfoldable pub second_of : ℕ → Second
second_of b = record { masked = bit 0x80 b; code = b % 128 }

-- ".. or 126: two bytes follow, or 127: eight, .."
unfoldable pub extra_bytes : ℕ → ℕ
extra_bytes code = value_at ((126 to 126 is 2) ∷ (127 to 127 is 8) ∷ []) 0 code

-- ".. big-endian." "A reader accepts a longer length form than needed"
unfoldable pub length_of : ℕ → List ℕ → ℕ
length_of code h = value_at ((126 to 126 is from_big (part 2 2 h)) ∷ (127 to 127 is from_big (part 2 8 h)) ∷ []) code code

-- "Then four mask bytes": the header's size, by its second byte
unfoldable pub size_by : ℕ → ℕ
size_by b = 2 + extra_bytes (second_of b).code + pick (second_of b).masked 4 0

-- how many more bytes finish the header, at least: none is missing where it is whole, and bytes behind it do not count
unfoldable pub missing : List ℕ → ℕ
missing h = pick (leb 2 (length h)) (size_by (get_or h 1 0) - length h) (2 - length h)

-- what a whole header says
abbrev pub header : First → Bool → ℕ → FrameHeader
header f masked n =
    record { fin = f.fin; rsv1 = f.rsv1; rsv2 = f.rsv2; rsv3 = f.rsv3; opcode = f.opcode; masked = masked; length = n }

unfoldable pub header_of : List ℕ → FrameHeader
header_of h = header (first_of (get_or h 0 0)) (second_of (get_or h 1 0)).masked (length_of (second_of (get_or h 1 0)).code h)

unfoldable pub parsed : List ℕ → Option FrameHeader
parsed h = pick (eqb (missing h) 0) (Some (header_of h)) None

abbrev pub no_mask : List ℕ
no_mask = 0 ∷ 0 ∷ 0 ∷ 0 ∷ []

-- the four mask bytes of a whole header, zeros where there are none
unfoldable pub mask_in : List ℕ → List ℕ
mask_in h =
    pick (eqb (missing h) 0)
    (pick (second_of (get_or h 1 0)).masked (part (size_by (get_or h 1 0) - 4) 4 h) no_mask)
    no_mask

-- the mask of a whole header that has one
unfoldable pub mask_given : List ℕ → Option (List ℕ)
mask_given h = pick (both (eqb (missing h) 0) (second_of (get_or h 1 0)).masked) (Some (mask_in h)) None

-- ---- writing

-- "The writer uses the shortest: up to 125, up to 65,535, above."
unfoldable pub length_code : ℕ → ℕ
length_code n = pick (leb n 125) n (pick (leb n 65535) 126 127)

unfoldable pub length_bytes : ℕ → List ℕ
length_bytes n = pick (leb n 125) [] (pick (leb n 65535) (to_big 2 n) (to_big 8 n))

unfoldable pub first_byte : First → ℕ
first_byte f =
    pick f.fin 0x80 0
    + pick f.rsv1 0x40 0
    + pick f.rsv2 0x20 0
    + pick f.rsv3 0x10 0
    + opcode_number f.opcode % 16

unfoldable pub second_byte : Second → ℕ
second_byte s = pick s.masked 0x80 0 + s.code % 128

abbrev pub flags : FrameHeader → First
flags f = record { fin = f.fin; rsv1 = f.rsv1; rsv2 = f.rsv2; rsv3 = f.rsv3; opcode = f.opcode }

-- the header's bytes. A client masks its frames and a server does not
unfoldable pub header_bytes : FrameHeader → List ℕ → List ℕ
header_bytes f mask =
    first_byte (flags f)
    ∷ (second_byte (record { masked = f.masked; code = length_code f.length })
    ∷ (length_bytes f.length ++ pick f.masked mask []))

-- "Headers have 2, 4 or 10 bytes, .."
unfoldable pub plain_size : ℕ → ℕ
plain_size n = pick (leb n 125) 2 (pick (leb n 65535) 4 10)

-- ".. and 4 more with a mask."
unfoldable pub header_size : Bool → ℕ → ℕ
header_size masked n = plain_size n + pick masked 4 0
