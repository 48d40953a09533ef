-- Document 01's worked sessions, the starred ones among them, as one table with one claim: each row is computed from the definitions.
use mathlib.Core.Bool.{Bool, true, false}
use mathlib.Core.List.{List, [], ◌∷◌}
use Prim.Native.Nat.{ℕ}
use lib.Dec.{T, eqb}
use lib.ListN.{take, replicate}
use Rattle.base.specs.Bytes.{part, from_big, to_big}
use Rattle.base.specs.Stores.{laid}
use Rattle.base.specs.Table.{value_at}
use Rattle.base.specs.Tests.{both, first_of}
use Rattle.coding.specs.CloseCodes.{allowed}
use Rattle.coding.specs.Opcodes.{opcode_of}
use Rattle.frame.specs.Close.{close_of, close_bytes, violation}
use Rattle.frame.specs.Header.{first_of as first_byte_of, second_of, extra_bytes, length_of, size_by, missing, header_of, mask_in, length_code, length_bytes, first_byte, second_byte, header_bytes}
use Rattle.mask.specs.Mask.{masked}
use Rattle.session.specs.declared.Session.{Session}
use Rattle.session.specs.Answers.{kind, value, shown}
use Rattle.session.specs.Calls.{no_incoming, empty_reply, fresh, Read, output_short, stores_short, read_tests, flagged, take_bytes, read_on, read_call}
use Rattle.session.specs.Frames.{header_whole, frame, is_text, header_tests, before, progress_now, doom_tests, doom, reason_holds, text_holds, utf_test, verdict}
use Rattle.session.specs.Range.{limits_hold, settings_hold, header_holds, count_holds, incoming_holds, reply_holds, numbers_hold, range_of, in_range}
use Rattle.session.specs.Reading.{keep, plain, stored, refuse, finish, rest, settle, byte_in, step, feed}
use Rattle.session.specs.Replies.{frame_header, encoded, fits, reply_of, with_pong, no_reply, reply_frame, appended, move_reply, shown_length, shown_control, close_came, ping_came}
use Rattle.utf8.specs.Progress.{stepped, progress_after, is_whole, is_beginning}

-- ---- a session of a role in a state, with small limits, and its stores
small : ℕ → ℕ → Session
small role state = fresh (record { role = role; frame = 300; message = 300; unmasked = false }) state

mask_of57 : List ℕ
mask_of57 = 0x37 ∷ 0xfa ∷ 0x21 ∷ 0x3d ∷ []

call : Session → List ℕ → Bool → List ℕ → List ℕ → List ℕ → Read
call s piece end m c o = read_call s piece end (record { first = mask_of57; second = 0 ∷ 0 ∷ 0 ∷ 0 ∷ [] }) m c o

-- one call on fresh stores
once : ℕ → ℕ → List ℕ → Bool → Read
once role state piece end = call (small role state) piece end (replicate 300 0) (replicate 125 0) (replicate 131 0)

-- and a second one
again : Read → List ℕ → Bool → Read
again r piece end = call r.turn.session piece end r.message r.control r.output

-- ---- what is expected of an answer: kind, value, bytes taken, and what is shown
same : List ℕ → List ℕ → Bool
same [] [] = true
same [] (x ∷ l) = false
same (x ∷ k) [] = false
same (x ∷ k) (y ∷ l) = both (eqb x y) (same k l)

gives : Read → ℕ → ℕ → ℕ → List ℕ → Bool
gives r k v n bytes =
    both (eqb (kind r.turn.answer) k)
    (both (eqb (value r.turn.answer) v)
    (both (eqb r.turn.taken n) (same (shown r.turn.answer r.message r.control) bytes)))

refuses : Read → ℕ → ℕ → Bool
refuses r v n = gives r 8 v n []

all : List Bool → Bool
all [] = true
all (t ∷ ts) = both t (all ts)

hello : List ℕ
hello = 0x48 ∷ 0x65 ∷ 0x6c ∷ 0x6c ∷ 0x6f ∷ []

table : List Bool
table =
    -- "Client, `81 05 48 65 6c 6c 6f`: text Hello. Server, `81 85 37 fa 21 3d 7f 9f 4d 51 58`: the same."
    gives (once 1 0 (0x81 ∷ 0x05 ∷ hello) false) 2 5 7 hello
    ∷ gives (once 0 0 (0x81 ∷ 0x85 ∷ 0x37 ∷ 0xfa ∷ 0x21 ∷ 0x3d ∷ 0x7f ∷ 0x9f ∷ 0x4d ∷ 0x51 ∷ 0x58 ∷ []) false) 2 5 11 hello
    -- "Client, `01 03 48 65 6c 80 02 6c 6f`: Hello at byte 9."
    ∷ gives (once 1 0 (0x01 ∷ 0x03 ∷ 0x48 ∷ 0x65 ∷ 0x6c ∷ 0x80 ∷ 0x02 ∷ 0x6c ∷ 0x6f ∷ []) false) 2 5 9 hello
    -- "Client, `89 05 48 65 6c 6c 6f`, mask `37 fa 21 3d`: reply `8a 85 37 fa 21 3d 7f 9f 4d 51 58`."
    ∷ gives (once 1 0 (0x89 ∷ 0x05 ∷ hello) false) 4 5 7 hello
    ∷ same (take 11 (again (once 1 0 (0x89 ∷ 0x05 ∷ hello) false) [] false).output) (0x8a ∷ 0x85 ∷ 0x37 ∷ 0xfa ∷ 0x21 ∷ 0x3d ∷ 0x7f ∷ 0x9f ∷ 0x4d ∷ 0x51 ∷ 0x58 ∷ [])
    ∷ eqb (again (once 1 0 (0x89 ∷ 0x05 ∷ hello) false) [] false).turn.session.held 11
    -- "`82 7e 01 00` is length 256; `82 7f 00 00 00 00 00 01 00 00` is 65,536. `82 7e 00 05` is 5."
    ∷ eqb (header_of (0x82 ∷ 0x7e ∷ 0x01 ∷ 0x00 ∷ [])).length 256
    ∷ eqb (header_of (0x82 ∷ 0x7f ∷ 0 ∷ 0 ∷ 0 ∷ 0 ∷ 0 ∷ 1 ∷ 0 ∷ 0 ∷ [])).length 65536
    ∷ eqb (header_of (0x82 ∷ 0x7e ∷ 0x00 ∷ 0x05 ∷ [])).length 5
    -- "Client `83 00`: 3. Server `83 80`: more; 3 four bytes later."
    ∷ refuses (once 1 0 (0x83 ∷ 0x00 ∷ []) false) 3 2
    ∷ gives (once 0 0 (0x83 ∷ 0x80 ∷ []) false) 1 0 2 []
    ∷ refuses (again (once 0 0 (0x83 ∷ 0x80 ∷ []) false) (0 ∷ 0 ∷ 0 ∷ 0 ∷ []) false) 3 4
    -- "Client `88 01 03`: 11. `88 02 03 ec`: shown as 1002 when Active, as `03 ec` in ClosedByUs."
    ∷ refuses (once 1 0 (0x88 ∷ 0x01 ∷ 0x03 ∷ []) false) 11 3
    ∷ gives (once 1 0 (0x88 ∷ 0x02 ∷ 0x03 ∷ 0xec ∷ []) false) 6 20 4 (0x03 ∷ 0xea ∷ violation)
    ∷ gives (once 1 1 (0x88 ∷ 0x02 ∷ 0x03 ∷ 0xec ∷ []) false) 6 2 4 (0x03 ∷ 0xec ∷ [])
    -- "Client `81 01 c3`: 12. `01 01 c3 80 01 a9`: text `c3 a9`. `01 02 e0 80`: 12."
    ∷ refuses (once 1 0 (0x81 ∷ 0x01 ∷ 0xc3 ∷ []) false) 12 3
    ∷ gives (once 1 0 (0x01 ∷ 0x01 ∷ 0xc3 ∷ 0x80 ∷ 0x01 ∷ 0xa9 ∷ []) false) 2 2 6 (0xc3 ∷ 0xa9 ∷ [])
    ∷ refuses (once 1 0 (0x01 ∷ 0x02 ∷ 0xe0 ∷ 0x80 ∷ []) false) 12 4
    -- "Client `c1 00`: 7. Server `81 00`: 5. `81 80` and four bytes to a client: 8."
    ∷ refuses (once 1 0 (0xc1 ∷ 0x00 ∷ []) false) 7 2
    ∷ refuses (once 0 0 (0x81 ∷ 0x00 ∷ []) false) 5 2
    ∷ refuses (once 1 0 (0x81 ∷ 0x80 ∷ 0 ∷ 0 ∷ 0 ∷ 0 ∷ []) false) 8 6
    -- "Nothing, or `81` alone, then end: 16."
    ∷ refuses (once 1 0 [] true) 16 0
    ∷ refuses (once 0 0 (0x81 ∷ []) true) 16 1
    -- "`09 00`: 9. `80 00`: 13. `01 00 81 00`: 14."
    ∷ refuses (once 1 0 (0x09 ∷ 0x00 ∷ []) false) 9 2
    ∷ refuses (once 1 0 (0x80 ∷ 0x00 ∷ []) false) 13 2
    ∷ refuses (once 1 0 (0x01 ∷ 0x00 ∷ 0x81 ∷ 0x00 ∷ []) false) 14 4
    ∷ []

worked : T (all table)
unfolding fresh no_incoming empty_reply small mask_of57 call once again same gives refuses all hello table part from_big to_big laid value_at first_of allowed opcode_of close_of close_bytes violation first_byte_of second_of extra_bytes length_of size_by missing header_of mask_in length_code length_bytes first_byte second_byte header_bytes masked output_short stores_short read_tests flagged take_bytes read_on read_call header_whole frame is_text header_tests before progress_now doom_tests doom reason_holds text_holds utf_test verdict limits_hold settings_hold header_holds count_holds incoming_holds reply_holds numbers_hold range_of in_range keep plain stored refuse finish rest settle byte_in step feed frame_header encoded fits reply_of with_pong no_reply reply_frame appended move_reply shown_length shown_control close_came ping_came stepped progress_after is_whole is_beginning
worked = tt
