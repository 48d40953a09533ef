-- What taking output between the calls does change: runs with a full output store, computed from the definitions.
use mathlib.Core.Path.{◌≡◌, refl, sym, ap, ◌∙◌}
use mathlib.Core.Bool.{false}
use mathlib.Core.List.{List, [], ◌∷◌, ◌++◌}
use Prim.Native.Nat.{ℕ}
use native.Mathlib.Omega.{arith}
use lib.ListN.{length, replicate}
use Rattle.base.specs.Bytes.{part, from_big, to_big}
use Rattle.base.specs.Stores.{laid}
use Rattle.base.specs.Table.{value_at}
use Rattle.base.specs.Tests.{first_of}
use Rattle.coding.specs.CloseCodes.{allowed}
use Rattle.coding.specs.Opcodes.{opcode_of}
use Rattle.frame.specs.Close.{close_of, close_bytes, violation}
use Rattle.frame.specs.Header.{first_of as first_byte_of, second_of, extra_bytes, length_of, size_by, missing, header_of, mask_in, length_code, length_bytes, first_byte, second_byte, header_bytes}
use Rattle.mask.specs.Mask.{masked}
use Rattle.session.specs.declared.Answer.{Answer}
use Rattle.session.specs.declared.Answer.TheVariants.{Ping, Close, Closed, Refused}
use Rattle.session.specs.declared.Masks.{Masks}
use Rattle.session.specs.declared.Role.{Role}
use Rattle.session.specs.declared.Role.TheVariants.{Client, Server}
use Rattle.session.specs.declared.Waiting.{Waiting}
use Rattle.session.specs.declared.Waiting.TheVariants.{Nothing, Pong}
use Rattle.session.specs.Calls.{no_incoming, empty_reply, fresh, new_call, output_short, stores_short, read_tests, flagged, take_bytes, read_on, read_call, Sending, send_tests, send_frame, binary_call, pong_call, take_tests, take_call}
use Rattle.session.specs.Frames.{header_whole, frame, is_text, header_tests, before, progress_now, doom_tests, doom, reason_holds, text_holds, utf_test, verdict}
use Rattle.session.specs.Range.{limits_hold, settings_hold, header_holds, count_holds, incoming_holds, reply_holds, numbers_hold, range_of, in_range}
use Rattle.session.specs.Reading.{keep, plain, stored, refuse, finish, rest, settle, byte_in, step, feed}
use Rattle.session.specs.Replies.{frame_header, encoded, fits, reply_of, with_pong, no_reply, reply_frame, appended, move_reply, shown_length, shown_control, close_came, ping_came}
use Rattle.utf8.specs.Progress.{stepped, progress_after, is_whole, is_beginning}
use Rattle.steady.specs.Cutting.{Seen, noted, landed, behind, call_at, read_once}
use Rattle.steady.specs.Taking.{Caller, Flow, taken_run, taken_bytes, take_each, flow_call, flow_once, flow_all, flow_piece, flow_pieces}

pub unmasked : Masks
unmasked = record { first = 0 ∷ 0 ∷ 0 ∷ 0 ∷ []; second = 0 ∷ 0 ∷ 0 ∷ 0 ∷ [] }

-- callers: one takes all that is held behind every call, the other takes nothing
pub taker : Caller
taker = record { masks = λ n. unmasked; takes = λ n run. run.session.held ∷ [] }

pub keeper : Caller
keeper = record { masks = λ n. unmasked; takes = λ n run. [] }

-- a new session that has sent so many zeros, and whose caller has sent the pong 41 behind them. The output store of 131 bytes is full
-- then, and the pong waits
pub start : Role → ℕ → Flow
start role n =
    let full : Sending = binary_call (new_call role 300 300 false).session (replicate n 0) unmasked (replicate 131 0) in
    let waits : Sending = pong_call full.handed.session (0x41 ∷ []) unmasked full.output in
    record {
      run =
          record {
            session = waits.handed.session;
            message = replicate 300 0;
            control = replicate 125 0;
            output = waits.output;
            place = 0;
            trace = [];
            over = false;
          };
      calls = 0;
      put = [];
    }

-- a client's frames: these zeros, and a pong
pub full : List ℕ
full = 0x82 ∷ 0xfd ∷ 0 ∷ 0 ∷ 0 ∷ 0 ∷ replicate 125 0

pub pong : ℕ → List ℕ
pong b = 0x8a ∷ 0x81 ∷ 0 ∷ 0 ∷ 0 ∷ 0 ∷ b ∷ []

-- a client that reads these pieces, all that is held being taken behind every call; and a server with this caller
pub client : List (List ℕ) → Flow
client pieces = flow_pieces taker (start Client 125) pieces false

pub server : Caller → List (List ℕ) → Flow
server c pieces = flow_pieces c (start Server 127) pieces false

-- what the runs end with: all bytes that were taken out, what waits, and the answers with their places
pub record Ended : Type 0 where
  pub put : List ℕ
  pub waiting : Waiting
  pub trace : List Seen

pub ended : Flow → Ended
ended x = record { put = x.put; waiting = x.run.session.reply.waiting; trace = x.run.trace }

abbrev pub answered : Answer → ℕ → Seen
answered a place = record { answer = a; place = place }

-- the ping 42, whole: the pong 41 found no room before it, and is replaced
abbrev pub PingWhole : Type 0
PingWhole =
    ended (client ((0x89 ∷ 0x01 ∷ 0x42 ∷ []) ∷ [])) ≡ record { put = full ++ pong 0x42; waiting = Nothing; trace = answered (Ping 1) 3 ∷ [] }

-- the same ping in two pieces: output was taken behind the first, and the pong 41 goes out before the ping is whole
abbrev pub PingCut : Type 0
PingCut =
    ended (client ((0x89 ∷ []) ∷ (0x01 ∷ 0x42 ∷ []) ∷ []))
    ≡ record { put = full ++ pong 0x41 ++ pong 0x42; waiting = Nothing; trace = answered (Ping 1) 3 ∷ [] }

-- two bytes of it, whole: the pong 41 waits on
abbrev pub PartWhole : Type 0
PartWhole = ended (client ((0x89 ∷ 0x01 ∷ []) ∷ [])) ≡ record { put = full; waiting = Pong; trace = [] }

-- and in two pieces: it is out
abbrev pub PartCut : Type 0
PartCut = ended (client ((0x89 ∷ []) ∷ (0x01 ∷ []) ∷ [])) ≡ record { put = full ++ pong 0x41; waiting = Nothing; trace = [] }

-- an empty close to a server: where nothing is taken, its echo finds no room, and the next call is refused with 19
abbrev pub CloseKept : Type 0
CloseKept =
    (server keeper ((0x88 ∷ 0x80 ∷ 0 ∷ 0 ∷ 0 ∷ 0 ∷ []) ∷ [])).run.trace ≡ answered (Close 0) 6 ∷ answered (Refused 19) 6 ∷ []

-- where all is taken, it is closed
abbrev pub CloseTaken : Type 0
CloseTaken = (server taker ((0x88 ∷ 0x80 ∷ 0 ∷ 0 ∷ 0 ∷ 0 ∷ []) ∷ [])).run.trace ≡ answered (Close 0) 6 ∷ answered Closed 6 ∷ []

pub worked_taking : PingWhole × PingCut × PartWhole × PartCut × CloseKept × CloseTaken
unfolding unmasked taker keeper start full pong client server ended flow_pieces flow_piece flow_all flow_once flow_call take_each taken_run taken_bytes new_call send_tests send_frame binary_call pong_call take_tests take_call noted landed behind call_at read_once fresh no_incoming empty_reply part from_big to_big laid value_at first_of allowed opcode_of close_of close_bytes violation first_byte_of second_of extra_bytes length_of size_by missing header_of mask_in length_code length_bytes first_byte second_byte header_bytes masked output_short stores_short read_tests flagged take_bytes read_on read_call header_whole frame is_text header_tests before progress_now doom_tests doom reason_holds text_holds utf_test verdict limits_hold settings_hold header_holds count_holds incoming_holds reply_holds numbers_hold range_of in_range keep plain stored refuse finish rest settle byte_in step feed frame_header encoded fits reply_of with_pong no_reply reply_frame appended move_reply shown_length shown_control close_came ping_came stepped progress_after is_whole is_beginning
worked_taking = (refl, refl, refl, refl, refl, refl)

-- so two cuttings tell: in the bytes put out, and in what waits
pub cuttings_tell_put : (client ((0x89 ∷ 0x01 ∷ 0x42 ∷ []) ∷ [])).put ≡ (client ((0x89 ∷ []) ∷ (0x01 ∷ 0x42 ∷ []) ∷ [])).put → ⊥
unfolding full pong ended
cuttings_tell_put e =
    let z : ◌≡◌ {A = ℕ} 138 145 =
    ap length (sym (ap (λ (x : Ended). x.put) worked_taking.0) ∙ e ∙ ap (λ (x : Ended). x.put) worked_taking.1) in
    omega arith

pub cuttings_tell_waiting : (ended (client ((0x89 ∷ 0x01 ∷ []) ∷ []))).waiting ≡ (ended (client ((0x89 ∷ []) ∷ (0x01 ∷ []) ∷ []))).waiting → ⊥
cuttings_tell_waiting e =
    let w : Pong ≡ Nothing = sym (ap (λ (x : Ended). x.waiting) worked_taking.2) ∙ e ∙ ap (λ (x : Ended). x.waiting) worked_taking.3 in
    let z : ◌≡◌ {A = ℕ} 0 1 = cc in
    omega arith
