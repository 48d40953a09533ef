-- Runs that meet what demand 3 supposes, computed from the definitions: so its premises can be met, and what it speaks of is not empty.
use mathlib.Core.Path.{refl}
use mathlib.Core.Bool.{true, false}
use mathlib.Core.List.{List, [], ◌∷◌, ◌++◌}
use Prim.Native.Nat.{ℕ}
use lib.ListN.{replicate}
use Rattle.std.specs.Prelude.{None, Some}
use Rattle.base.specs.Bytes.{part, from_big, to_big}
use Rattle.base.specs.Stores.{laid}
use Rattle.base.specs.Table.{value_at}
use Rattle.base.specs.Tests.{first_of}
use Rattle.coding.specs.CloseCodes.{allowed}
use Rattle.coding.specs.Opcodes.{opcode_of}
use Rattle.frame.specs.Close.{close_of, close_bytes, violation}
use Rattle.frame.specs.Header.{first_of as first_byte_of, second_of, extra_bytes, length_of, size_by, missing, header_of, mask_in, length_code, length_bytes, first_byte, second_byte, header_bytes}
use Rattle.mask.specs.Mask.{masked}
use Rattle.session.specs.Answers.{beyond, part_of}
use Rattle.session.specs.Calls.{no_incoming, empty_reply, fresh, new_call, output_short, stores_short, read_tests, flagged, take_bytes, read_on, read_call, send_tests, send_frame, text_call, binary_call, ping_call, close_call, pong_call, waits_call, held_number, held_part, take_tests, take_call}
use Rattle.session.specs.declared.Answer.TheVariants.{More, Text, Binary, Ping, Pong, Close, Closed, Refused}
use Rattle.session.specs.declared.Waiting.TheVariants.{Nothing, Pong as PongWaits}
use Rattle.session.specs.Frames.{header_whole, frame, is_text, header_tests, before, progress_now, doom_tests, doom, reason_holds, text_holds, utf_test, verdict}
use Rattle.session.specs.Range.{limits_hold, settings_hold, header_holds, count_holds, incoming_holds, reply_holds, numbers_hold, range_of, in_range}
use Rattle.session.specs.Reading.{keep, plain, stored, refuse, finish, rest, settle, byte_in, step, feed}
use Rattle.session.specs.Replies.{frame_header, encoded, fits, reply_of, with_pong, no_reply, reply_frame, appended, move_reply, shown_length, shown_control, close_came, ping_came}
use Rattle.utf8.specs.Progress.{stepped, progress_after, is_whole, is_beginning}
use Rattle.link.specs.Demand.{Fit, AtRest}
use Rattle.link.specs.System.{Item, item, send_text, send_binary, send_ping, send_pong, send_close, takes, reads, cuts, sent, given_bytes, taken, cut_at, ended, read_by, reader, read_from, done, next, run, fresh_side, outset}
use Rattle.link.proofs.Rows.{client, client_fit, server, server_fit, start, gives, silent, told_all, Row, turns_of, answers_of, after, key, by_client, by_server, reads_all, reads_to_end, accepted, refused, left_of, active, terminated, closed_with, unclosed, are_allowed, Shows, shows, is_at_rest, at_rest}

abbrev pub hi : List ℕ
hi = 0x68 ∷ 0x69 ∷ []

abbrev pub text : List ℕ → Item
text p = item 2 p

abbrev pub binary : List ℕ → Item
binary p = item 3 p

abbrev pub ping : List ℕ → Item
ping p = item 4 p

-- ---- a clean close that the client begins
-- The client's text comes to the server in two pieces. The client sends a ping and closes; the server's binary message is on its way then,
-- and so is the pong. The server answers the close and says closed; the client reads all of it, and says closed where the pipe ends.
unfoldable pub client_closes : List Row
client_closes =
    by_client (send_text hi key) accepted
    ∷ by_client (takes 8) accepted
    ∷ by_server (reads 3 false key) (gives More 3)
    ∷ by_server reads_all (gives (Text 2) 5)
    ∷ by_server (send_binary (0x00 ∷ 0xff ∷ []) key) accepted
    ∷ by_client (send_ping (0x21 ∷ []) key) accepted
    ∷ by_client (send_close (Some 1000) [] key) accepted
    ∷ by_client (takes 15) accepted
    ∷ by_server reads_all (gives (Ping 1) 7)
    ∷ by_server reads_all (gives (Close 2) 8)
    ∷ by_server reads_all (gives Closed 0)
    ∷ by_server (takes 11) accepted
    ∷ by_client reads_all (gives (Binary 2) 4)
    ∷ by_client reads_all (gives (Pong 1) 3)
    ∷ by_client reads_to_end (gives (Close 2) 4)
    ∷ by_client reads_to_end (gives Closed 0)
    ∷ []

-- ---- a clean close that the server begins
-- A ping of the client crosses the server's close. It is handed out and not answered. The client's echo moves with its next read.
unfoldable pub server_closes : List Row
server_closes =
    by_server (send_text (0x79 ∷ []) key) accepted
    ∷ by_server (send_close None [] key) accepted
    ∷ by_server (takes 5) accepted
    ∷ by_client (send_ping [] key) accepted
    ∷ by_client (takes 6) accepted
    ∷ by_client reads_all (gives (Text 1) 3)
    ∷ by_client reads_all (gives (Close 0) 2)
    ∷ by_server reads_all (gives (Ping 0) 6)
    ∷ by_client reads_all (gives More 0)
    ∷ by_client (takes 6) accepted
    ∷ by_server reads_all (gives (Close 0) 6)
    ∷ by_server reads_all (gives Closed 0)
    ∷ by_client reads_to_end (gives Closed 0)
    ∷ []

-- ---- closes that cross: both ends have closed before either reads
unfoldable pub closes_cross : List Row
closes_cross =
    by_client (send_binary (0x01 ∷ []) key) accepted
    ∷ by_client (send_close (Some 1000) [] key) accepted
    ∷ by_server (send_close (Some 1001) (0x6f ∷ 0x6b ∷ []) key) accepted
    ∷ by_server (takes 6) accepted
    ∷ by_client (takes 15) accepted
    ∷ by_client reads_all (gives (Close 4) 6)
    ∷ by_server reads_all (gives (Binary 1) 7)
    ∷ by_server reads_all (gives (Close 2) 8)
    ∷ by_server reads_all (gives Closed 0)
    ∷ by_client reads_to_end (gives Closed 0)
    ∷ []

-- ---- a pipe that is cut inside a header
-- Two texts are on the client's pipe, and it is cut behind the third byte of the second; what is taken later is lost. The server hands the
-- first one out, and the end is 16.
unfoldable pub cut_in_header : List Row
cut_in_header =
    by_client (send_text (0x61 ∷ []) key) accepted
    ∷ by_client (send_text (0x62 ∷ []) key) accepted
    ∷ by_client (takes 14) accepted
    ∷ by_client (cuts 10) silent
    ∷ by_client (send_text (0x63 ∷ []) key) accepted
    ∷ by_client (takes 7) accepted
    ∷ by_server reads_to_end (gives (Text 1) 7)
    ∷ by_server reads_to_end (gives (Refused 16) 3)
    ∷ by_server reads_to_end (gives (Refused 2) 0)
    ∷ []

-- ---- a pipe that is cut inside a payload
-- The end flag comes with the last byte of what is left, and not before.
unfoldable pub cut_in_payload : List Row
cut_in_payload =
    by_server (send_binary (0x01 ∷ 0x02 ∷ 0x03 ∷ 0x04 ∷ 0x05 ∷ []) key) accepted
    ∷ by_server (takes 7) accepted
    ∷ by_server (cuts 4) silent
    ∷ by_client (reads 3 true key) (gives More 3)
    ∷ by_client reads_to_end (gives (Refused 16) 1)
    ∷ []

-- ---- a character that is cut over two pieces
-- The first piece ends inside the character, and is read before the second is taken. A ping behind it stays on the pipe, unread.
unfoldable pub character_cut : List Row
character_cut =
    by_client (send_text (0xc3 ∷ 0xa9 ∷ []) key) accepted
    ∷ by_client (takes 7) accepted
    ∷ by_server reads_all (gives More 7)
    ∷ by_client (takes 1) accepted
    ∷ by_server reads_all (gives (Text 2) 1)
    ∷ by_client (send_ping [] key) accepted
    ∷ by_client (takes 6) accepted
    ∷ []

-- ---- a full output store, and a pong that waits
-- The client's message fills its output. It reads a ping; the pong waits, also in the next read, and no other frame has room.
unfoldable pub pong_waits : List Row
pong_waits =
    by_client (send_binary (replicate 125 7) key) accepted
    ∷ by_server (send_ping (0x41 ∷ []) key) accepted
    ∷ by_server (takes 3) accepted
    ∷ by_client reads_all (gives (Ping 1) 3)
    ∷ by_client reads_all (gives More 0)
    ∷ by_client (send_text [] key) (refused 19)
    ∷ []

-- Once the output is taken, it moves with the next call.
unfoldable pub pong_moves : List Row
pong_moves =
    pong_waits
    ++ by_client (takes 131) accepted
    ∷ by_client reads_all (gives More 0)
    ∷ by_client (takes 7) accepted
    ∷ by_server reads_all (gives (Binary 125) 131)
    ∷ by_server reads_all (gives (Pong 1) 7)
    ∷ []

-- ---- a full output store, and an echo that waits
-- The server's message fills its output when the client's close comes. It is refused with 19 until that is taken, and then says closed.
unfoldable pub echo_waits : List Row
echo_waits =
    by_server (send_binary (replicate 127 7) key) accepted
    ∷ by_client (send_close None [] key) accepted
    ∷ by_client (takes 6) accepted
    ∷ by_server reads_all (gives (Close 0) 6)
    ∷ by_server reads_all (gives (Refused 19) 0)
    ∷ by_server (takes 131) accepted
    ∷ by_server reads_all (gives Closed 0)
    ∷ by_server (takes 2) accepted
    ∷ by_client reads_all (gives (Binary 127) 131)
    ∷ by_client reads_to_end (gives (Close 0) 2)
    ∷ by_client reads_to_end (gives Closed 0)
    ∷ []

-- ---- calls that are refused are acts like any other
-- Takes of more than is held; a text that is none; after the close, a text, a message that would be too long for the server, and a pong;
-- and a text after the end. A pong of the caller's own is no message and no ping: it is not counted.
unfoldable pub refused_calls : List Row
refused_calls =
    by_client (takes 1) (refused 20)
    ∷ by_server (send_pong (0x70 ∷ []) key) accepted
    ∷ by_server (takes 4) (refused 20)
    ∷ by_server (send_text (0xff ∷ []) key) (refused 18)
    ∷ by_client (send_close (Some 1000) [] key) accepted
    ∷ by_client (send_text hi key) (refused 17)
    ∷ by_client (send_binary (replicate 126 0) key) (refused 17)
    ∷ by_client (send_pong [] key) (refused 17)
    ∷ by_client (takes 8) accepted
    ∷ by_server (takes 3) accepted
    ∷ by_client reads_all (gives (Pong 1) 3)
    ∷ by_server reads_all (gives (Close 2) 8)
    ∷ by_server reads_all (gives Closed 0)
    ∷ by_server (send_text hi key) (refused 2)
    ∷ by_server (takes 4) accepted
    ∷ by_client reads_to_end (gives (Close 2) 4)
    ∷ by_client reads_to_end (gives Closed 0)
    ∷ []

-- ---- the two ends are as demand 3 supposes, and what the runs leave. The runs in which an end closed come to rest, as demand 3's last sentence has it
pub record AllShown : Type 0 where
  pub client_fits : Fit client
  pub server_fits : Fit server
  pub client_closes_lem : Shows client_closes (closed_with (text hi ∷ ping (0x21 ∷ []) ∷ []) (binary (0x00 ∷ 0xff ∷ []) ∷ []) true)
      (closed_with (binary (0x00 ∷ 0xff ∷ []) ∷ []) (text hi ∷ ping (0x21 ∷ []) ∷ []) false)
  pub client_closes_rests : AtRest (after client_closes)
  pub server_closes_lem : Shows server_closes (closed_with (ping [] ∷ []) (text (0x79 ∷ []) ∷ []) false)
      (closed_with (text (0x79 ∷ []) ∷ []) (ping [] ∷ []) true)
  pub server_closes_rests : AtRest (after server_closes)
  pub closes_cross_lem : Shows closes_cross (closed_with (binary (0x01 ∷ []) ∷ []) [] true) (closed_with [] (binary (0x01 ∷ []) ∷ []) true)
  pub closes_cross_rests : AtRest (after closes_cross)
  pub cut_in_header_lem : Shows cut_in_header (unclosed active (text (0x61 ∷ []) ∷ text (0x62 ∷ []) ∷ text (0x63 ∷ []) ∷ []) [])
      (unclosed terminated [] (text (0x61 ∷ []) ∷ []))
  pub cut_in_payload_lem : Shows cut_in_payload (unclosed terminated [] [])
      (unclosed active (binary (0x01 ∷ 0x02 ∷ 0x03 ∷ 0x04 ∷ 0x05 ∷ []) ∷ []) [])
  pub character_cut_lem : Shows character_cut
      (record {
        accepted = text (0xc3 ∷ 0xa9 ∷ []) ∷ ping [] ∷ [];
        handed = [];
        said = false;
        asked = false;
        state = active;
        held = 0;
        waiting = Nothing;
        pipe = 0x89 ∷ 0x80 ∷ 0x37 ∷ 0xfa ∷ 0x21 ∷ 0x3d ∷ [];
      })
      (unclosed active [] (text (0xc3 ∷ 0xa9 ∷ []) ∷ []))
  pub pong_waits_lem : Shows pong_waits
      (record {
        accepted = binary (replicate 125 7) ∷ [];
        handed = ping (0x41 ∷ []) ∷ [];
        said = false;
        asked = false;
        state = active;
        held = 131;
        waiting = PongWaits;
        pipe = [];
      })
      (unclosed active (ping (0x41 ∷ []) ∷ []) [])
  pub pong_moves_lem : Shows pong_moves (unclosed active (binary (replicate 125 7) ∷ []) (ping (0x41 ∷ []) ∷ []))
      (unclosed active (ping (0x41 ∷ []) ∷ []) (binary (replicate 125 7) ∷ []))
  pub echo_waits_lem : Shows echo_waits (closed_with [] (binary (replicate 127 7) ∷ []) true) (closed_with (binary (replicate 127 7) ∷ []) [] false)
  pub echo_waits_rests : AtRest (after echo_waits)
  pub refused_calls_lem : Shows refused_calls (closed_with [] [] true) (closed_with [] [] false)
  pub refused_calls_rests : AtRest (after refused_calls)

pub all_shown : AllShown
unfolding client_closes server_closes closes_cross cut_in_header cut_in_payload character_cut pong_waits pong_moves echo_waits refused_calls client server start told_all turns_of answers_of after left_of are_allowed is_at_rest sent given_bytes taken cut_at ended read_by reader read_from done next run fresh_side outset no_incoming empty_reply fresh new_call output_short stores_short read_tests flagged take_bytes read_on read_call send_tests send_frame text_call binary_call ping_call close_call pong_call waits_call held_number held_part take_tests take_call beyond part_of part from_big to_big laid value_at first_of allowed opcode_of close_of close_bytes violation first_byte_of second_of extra_bytes length_of size_by missing header_of mask_in length_code length_bytes first_byte second_byte header_bytes masked header_whole frame is_text header_tests before progress_now doom_tests doom reason_holds text_holds utf_test verdict limits_hold settings_hold header_holds count_holds incoming_holds reply_holds numbers_hold range_of in_range keep plain stored refuse finish rest settle byte_in step feed frame_header encoded fits reply_of with_pong no_reply reply_frame appended move_reply shown_length shown_control close_came ping_came stepped progress_after is_whole is_beginning
all_shown =
    record {
      client_fits = client_fit;
      server_fits = server_fit;
      client_closes_lem = shows refl refl refl refl;
      client_closes_rests = at_rest (after client_closes) refl;
      server_closes_lem = shows refl refl refl refl;
      server_closes_rests = at_rest (after server_closes) refl;
      closes_cross_lem = shows refl refl refl refl;
      closes_cross_rests = at_rest (after closes_cross) refl;
      cut_in_header_lem = shows refl refl refl refl;
      cut_in_payload_lem = shows refl refl refl refl;
      character_cut_lem = shows refl refl refl refl;
      pong_waits_lem = shows refl refl refl refl;
      pong_moves_lem = shows refl refl refl refl;
      echo_waits_lem = shows refl refl refl refl;
      echo_waits_rests = at_rest (after echo_waits) refl;
      refused_calls_lem = shows refl refl refl refl;
      refused_calls_rests = at_rest (after refused_calls) refl;
    }
