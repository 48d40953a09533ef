-- A stream to a client, whole and in pieces: what is answered, and where. Each row is computed from the definitions.
use mathlib.Core.Bool.{Bool, true, false}
use mathlib.Core.List.{List, [], ◌∷◌}
use Prim.Native.Nat.{ℕ}
use lib.Dec.{T, eqb}
use lib.ListN.{replicate}
use Rattle.base.specs.Bytes.{part, from_big, to_big}
use Rattle.base.specs.Stores.{laid}
use Rattle.base.specs.Table.{value_at}
use Rattle.base.specs.Tests.{both, first_of}
use Rattle.coding.specs.CloseCodes.{allowed}
use Rattle.coding.specs.Opcodes.{opcode_of}
use Rattle.frame.specs.Close.{close_of, close_bytes, violation}
use Rattle.frame.specs.Header.{first_of as first_byte_of, second_of, extra_bytes, length_of, size_by, missing, header_of, mask_in, length_code, length_bytes, first_byte, second_byte, header_bytes}
use Rattle.mask.specs.Mask.{masked}
use Rattle.session.specs.Answers.{kind, value}
use Rattle.session.specs.Calls.{no_incoming, empty_reply, fresh, output_short, stores_short, read_tests, flagged, take_bytes, read_on, read_call}
use Rattle.session.specs.Frames.{header_whole, frame, is_text, header_tests, before, progress_now, doom_tests, doom, reason_holds, text_holds, utf_test, verdict}
use Rattle.session.specs.Range.{limits_hold, settings_hold, header_holds, count_holds, incoming_holds, reply_holds, numbers_hold, range_of, in_range}
use Rattle.session.specs.Reading.{keep, plain, stored, refuse, finish, rest, settle, byte_in, step, feed}
use Rattle.session.specs.Replies.{frame_header, encoded, fits, reply_of, with_pong, no_reply, reply_frame, appended, move_reply, shown_length, shown_control, close_came, ping_came}
use Rattle.utf8.specs.Progress.{stepped, progress_after, is_whole, is_beginning}
use Rattle.steady.specs.Cutting.{Seen, Run, noted, landed, behind, call_at, read_once, read_all, read_piece, read_pieces}

-- a new client, with small limits
start : Run
start =
    record {
      session = fresh (record { role = 1; frame = 300; message = 300; unmasked = false }) 0;
      message = replicate 300 0;
      control = replicate 125 0;
      output = replicate 131 0;
      place = 0;
      trace = [];
      over = false;
    }

trace : List (List ℕ) → Bool → List Seen
trace pieces end = (read_pieces (λ n. record { first = n ∷ 0 ∷ 0 ∷ 0 ∷ []; second = 0 ∷ 0 ∷ 0 ∷ 0 ∷ [] }) start pieces end).trace

-- kind, value and place of each answer, one after the other
told : List Seen → List ℕ → Bool
told [] [] = true
told [] (n ∷ l) = false
told (x ∷ xs) [] = false
told (x ∷ xs) (n ∷ []) = false
told (x ∷ xs) (n ∷ (m ∷ [])) = false
told (x ∷ xs) (n ∷ (m ∷ (k ∷ l))) =
    both (eqb (kind x.answer) n) (both (eqb (value x.answer) m) (both (eqb x.place k) (told xs l)))

-- the text Hi, an empty ping, an empty close, and then the stream's end
expected : List ℕ
expected = 2 ∷ 2 ∷ 4 ∷ 4 ∷ 0 ∷ 6 ∷ 6 ∷ 0 ∷ 8 ∷ 7 ∷ 0 ∷ 8 ∷ []

whole : List (List ℕ)
whole = (0x81 ∷ 0x02 ∷ 0x48 ∷ 0x69 ∷ 0x89 ∷ 0x00 ∷ 0x88 ∷ 0x00 ∷ []) ∷ []

cut : List (List ℕ)
cut = [] ∷ (0x81 ∷ []) ∷ (0x02 ∷ 0x48 ∷ []) ∷ (0x69 ∷ 0x89 ∷ 0x00 ∷ 0x88 ∷ []) ∷ [] ∷ (0x00 ∷ []) ∷ [] ∷ []

worked_stream : T (both (told (trace whole true) expected) (told (trace cut true) expected))
unfolding start trace told expected whole cut noted landed behind call_at read_once read_all read_piece read_pieces fresh no_incoming empty_reply part from_big to_big laid value_at first_of allowed opcode_of close_of close_bytes violation first_byte_of second_of extra_bytes length_of size_by missing header_of mask_in length_code length_bytes first_byte second_byte header_bytes masked output_short stores_short read_tests flagged take_bytes read_on read_call header_whole frame is_text header_tests before progress_now doom_tests doom reason_holds text_holds utf_test verdict limits_hold settings_hold header_holds count_holds incoming_holds reply_holds numbers_hold range_of in_range keep plain stored refuse finish rest settle byte_in step feed frame_header encoded fits reply_of with_pong no_reply reply_frame appended move_reply shown_length shown_control close_came ping_came stepped progress_after is_whole is_beginning
worked_stream = tt
