-- Document 01's capture and its listing, computed from the definition.
use mathlib.Core.Bool.{Bool, true, false}
use mathlib.Core.List.{List, [], ◌∷◌}
use Prim.Native.Nat.{ℕ}
use lib.Dec.{T, eqb}
use Rattle.base.specs.Bytes.{part, from_big, to_big}
use Rattle.base.specs.Stores.{laid}
use Rattle.base.specs.Table.{value_at}
use Rattle.base.specs.Tests.{both, first_of}
use Rattle.coding.specs.CloseCodes.{allowed}
use Rattle.coding.specs.Opcodes.{opcode_of}
use Rattle.frame.specs.Close.{close_of, close_bytes, violation}
use Rattle.frame.specs.Header.{first_of as first_byte_of, second_of, extra_bytes, length_of, size_by, missing, header_of, mask_in, length_code, length_bytes, first_byte, second_byte, header_bytes}
use Rattle.mask.specs.Mask.{masked}
use Rattle.lines.specs.Text.{digit_of, decimal_in, decimal, hex, shown_hex, counted, at_place}
use Rattle.session.specs.Answers.{beyond, part_of}
use Rattle.session.specs.Calls.{no_incoming, empty_reply, fresh, new_call, output_short, stores_short, read_tests, flagged, take_bytes, read_on, read_call, held_number, held_part, take_tests, take_call}
use Rattle.session.specs.Frames.{header_whole, frame, is_text, header_tests, before, progress_now, doom_tests, doom, reason_holds, text_holds, utf_test, verdict}
use Rattle.session.specs.Range.{limits_hold, settings_hold, header_holds, count_holds, incoming_holds, reply_holds, numbers_hold, range_of, in_range}
use Rattle.session.specs.Reading.{keep, plain, stored, refuse, finish, rest, settle, byte_in, step, feed}
use Rattle.session.specs.Replies.{frame_header, encoded, fits, reply_of, with_pong, no_reply, reply_frame, appended, move_reply, shown_length, shown_control, close_came, ping_came}
use Rattle.utf8.specs.Progress.{stepped, progress_after, is_whole, is_beginning}
use Rattle.capture.specs.Listing.{made, zero_masks, tape_of, put_text, refused_text, bad_text, called, after_call, held_text, after_take, told_text, behind, call_lines, calls_from, fed, bad_record, records_from, records, listing_with, listing}
use Rattle.capture.specs.Places.{onward}
use Rattle.capture.specs.Records.{mark_of, short, input_length, input_in, found_in}

same : List ℕ → List ℕ → Bool
same [] [] = true
same [] (b ∷ l) = false
same (a ∷ k) [] = false
same (a ∷ k) (b ∷ l) = both (eqb a b) (same k l)

-- `52 53 49 4e 00 0b 81 85 37 fa 21 3d 7f 9f 4d 51 58 49 4e 00 08 88 82 00 00 00 00 03 e8 45 4e`
capture : List ℕ
capture =
    0x52 ∷ 0x53 ∷ 0x49 ∷ 0x4e ∷ 0x00 ∷ 0x0b ∷ 0x81 ∷ 0x85 ∷ 0x37 ∷ 0xfa ∷ 0x21 ∷ 0x3d ∷ 0x7f ∷ 0x9f ∷ 0x4d ∷ 0x51 ∷ 0x58
    ∷ 0x49 ∷ 0x4e ∷ 0x00 ∷ 0x08 ∷ 0x88 ∷ 0x82 ∷ 0x00 ∷ 0x00 ∷ 0x00 ∷ 0x00 ∷ 0x03 ∷ 0xe8 ∷ 0x45 ∷ 0x4e ∷ []

-- `text 5 48656c6c6f`, `close 2 03e8`, `put 4 880203e8`, `closed`, in ASCII, each with its line feed
lines : List ℕ
lines =
    116 ∷ 101 ∷ 120 ∷ 116 ∷ 32 ∷ 53 ∷ 32 ∷ 52 ∷ 56 ∷ 54 ∷ 53 ∷ 54 ∷ 99 ∷ 54 ∷ 99 ∷ 54 ∷ 102 ∷ 10
    ∷ 99 ∷ 108 ∷ 111 ∷ 115 ∷ 101 ∷ 32 ∷ 50 ∷ 32 ∷ 48 ∷ 51 ∷ 101 ∷ 56 ∷ 10
    ∷ 112 ∷ 117 ∷ 116 ∷ 32 ∷ 52 ∷ 32 ∷ 56 ∷ 56 ∷ 48 ∷ 50 ∷ 48 ∷ 51 ∷ 101 ∷ 56 ∷ 10
    ∷ 99 ∷ 108 ∷ 111 ∷ 115 ∷ 101 ∷ 100 ∷ 10 ∷ []

worked_listing : T (same (listing capture) lines)
unfolding same capture lines made zero_masks tape_of put_text refused_text bad_text called after_call held_text after_take told_text behind call_lines calls_from fed bad_record records_from records listing_with listing onward mark_of short input_length input_in found_in digit_of decimal_in decimal hex shown_hex counted at_place beyond part_of no_incoming empty_reply fresh new_call output_short stores_short read_tests flagged take_bytes read_on read_call held_number held_part take_tests take_call part from_big to_big laid value_at first_of allowed opcode_of close_of close_bytes violation first_byte_of second_of extra_bytes length_of size_by missing header_of mask_in length_code length_bytes first_byte second_byte header_bytes masked header_whole frame is_text header_tests before progress_now doom_tests doom reason_holds text_holds utf_test verdict limits_hold settings_hold header_holds count_holds incoming_holds reply_holds numbers_hold range_of in_range keep plain stored refuse finish rest settle byte_in step feed frame_header encoded fits reply_of with_pong no_reply reply_frame appended move_reply shown_length shown_control close_came ping_came stepped progress_after is_whole is_beginning
worked_listing = tt
