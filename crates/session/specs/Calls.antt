-- Every call of document 01 as a function on values: one answer, one session and one content of every store.
use Rattle.std.specs.Prelude.{Bool, false, not, List, [], ◌∷◌, ℕ, ◌-◌, Option, None, Some, eqb, ltb, length, take, drop, replicate}
use Rattle.base.specs.Bytes.{part}
use Rattle.base.specs.Stores.{laid}
use Rattle.base.specs.Table.{pick}
use Rattle.base.specs.Tests.{both, either, Test, ◌when◌, first_of}
use Rattle.coding.specs.declared.opcode.Control.TheVariants.{Close as CloseFrame, Ping as PingFrame}
use Rattle.coding.specs.declared.opcode.Data.TheVariants.{Text as TextFrame, Binary as BinaryFrame}
use Rattle.coding.specs.declared.opcode.OpCode.{OpCode}
use Rattle.coding.specs.declared.opcode.OpCode.TheVariants.{Data, Control}
use Rattle.frame.specs.Close.{close_bytes}
use Rattle.session.specs.declared.Answer.{Answer}
use Rattle.session.specs.declared.Answer.TheVariants.{More, Closed, Refused}
use Rattle.session.specs.declared.Incoming.{Incoming}
use Rattle.session.specs.declared.Masks.{Masks}
use Rattle.session.specs.declared.Reply.{Reply}
use Rattle.session.specs.declared.Role.{Role}
use Rattle.session.specs.declared.Role.TheVariants.{Server, Client}
use Rattle.session.specs.declared.Session.{Session}
use Rattle.session.specs.declared.Settings.{Settings}
use Rattle.session.specs.declared.Turn.{Turn}
use Rattle.session.specs.declared.Waiting.TheVariants.{Nothing}
use Rattle.session.specs.Range.{limits_hold, in_range, waits}
use Rattle.session.specs.Refusals.{Sent, Done, Refused as NotSent}
use Rattle.session.specs.Reading.{world, At, after, settle, feed, is_more}
use Rattle.session.specs.Replies.{encoded, fits, is_close_reply, reply_frame, with_pong, Out, appended, move_reply, Concluded, conclude}
use Rattle.session.specs.Session.{is_server, is_client, is_active, is_peer_closed, is_terminated, with_state, with_incoming, with_reply, with_held}
use Rattle.utf8.specs.Progress.{progress_after, is_whole}

-- ---- number 1: "a lent store is below its least size, or the output store below the bytes held"
unfoldable pub output_short : Session → List ℕ → Bool
output_short s output = either (ltb (length output) 131) (ltb (length output) s.held)

unfoldable pub stores_short : Session → List ℕ → List ℕ → List ℕ → Bool
stores_short s message control output =
    either (ltb (length message) s.settings.message) (either (ltb (length control) 125) (output_short s output))

-- ---- a new session: "A new session with a bad limit is refused with 20 and none is made." What stands in its place is fixed and Terminated
unfoldable pub no_incoming : Incoming
no_incoming = record { header = replicate 14 0; kept = 0; counted = 0; begun = false; text = false; fragments = 0; progress = 0 }

unfoldable pub empty_reply : Reply
empty_reply = record { waiting = Nothing; length = 0; payload = replicate 125 0 }

unfoldable pub fresh : Settings → ℕ → Session
fresh g state = record { settings = g; state = state; refusal = 0; incoming = no_incoming; reply = empty_reply; held = 0 }

abbrev pub role_number : Role → ℕ
role_number Server = 0
role_number Client = 1

-- an answer to a sending call or to a take, or to the making of a session, and the session that is handed back
pub record Handed : Type 0 where
  pub sent : Sent
  pub session : Session

abbrev pub handed : Sent → Session → Handed
handed a s = record { sent = a; session = s }

unfoldable pub new_call : Role → ℕ → ℕ → Bool → Handed
new_call role frame message unmasked =
    pick (limits_hold frame message)
    (handed Done (fresh (record { role = role_number role; frame = frame; message = message; unmasked = unmasked }) 0))
    (handed (NotSent 20) (fresh (record { role = 0; frame = 0; message = 0; unmasked = false }) 4))

-- ---- reading
pub record Read : Type 0 where
  pub turn : Turn
  pub message : List ℕ
  pub control : List ℕ
  pub output : List ℕ

abbrev pub turn : Answer → ℕ → Session → Turn
turn a n s = record { answer = a; taken = n; session = s }

abbrev pub read : Turn → List ℕ → List ℕ → List ℕ → Read
read t m c o = record { turn = t; message = m; control = c; output = o }

-- "1. Numbers 20, 1, 2, in that order. A session refused earlier by 3 to 15 repeats that number, takes nothing and changes nothing."
-- "2. .. but a server holding a waiting close refuses with 19": all before a byte is taken, and all is unchanged
unfoldable pub read_tests : Session → List ℕ → List ℕ → List ℕ → List ℕ → List Test
read_tests s mask message control output =
    (20 when not (in_range s))
    ∷ (1 when stores_short s message control output)
    ∷ (2 when is_terminated s.state)
    ∷ (s.refusal when not (eqb s.refusal 0))
    ∷ (19 when both (is_server s.settings) (both (is_close_reply s.reply.waiting) (not (fits s.held output (reply_frame s mask)))))
    ∷ []

-- "With the piece used up, the end flag set and no event in this call: closed in ClosedByPeer or CloseAcknowledged, else 16. Both end in
-- Terminated. With no flag: more."
unfoldable pub flagged : Bool → Concluded → ℕ → Turn
flagged end d n =
    pick (both end (is_more d.answer))
    (turn (pick (is_peer_closed d.session.state) Closed (Refused 16)) n (with_state d.session 4))
    (turn d.answer n d.session)

-- "4. Bytes are taken up to one event, or to the end of the piece."
unfoldable pub take_bytes : Session → List ℕ → Bool → List ℕ → List ℕ → List ℕ → Read
take_bytes s piece end message control output =
    let x : At = feed s.settings s.state (after (settle s.settings s.state (world s.incoming message control More)) 0) piece in
    let d : Concluded = conclude x.world.answer (with_incoming s x.world.incoming) x.world.control in
    read (flagged end d x.taken) x.world.message d.control output

-- "3. A server in ClosedByPeer or CloseAcknowledged answers closed and becomes Terminated."
unfoldable pub read_on : Session → List ℕ → Bool → List ℕ → List ℕ → List ℕ → Read
read_on s piece end message control output =
    pick (both (is_server s.settings) (is_peer_closed s.state))
    (read (turn Closed 0 (with_state s 4)) message control output)
    (take_bytes s piece end message control output)

unfoldable pub read_call : Session → List ℕ → Bool → Masks → List ℕ → List ℕ → List ℕ → Read
read_call s piece end masks message control output =
    let n : ℕ = first_of (read_tests s masks.first message control output) in
    let v : Out = move_reply s masks.first output in
    pick (eqb n 0) (read_on v.session piece end message control v.output) (read (turn (Refused n) 0 s) message control output)

-- ---- sending: "Order: 20, 1, 2, 17, 18, 19."
pub record Sending : Type 0 where
  pub handed : Handed
  pub output : List ℕ

abbrev pub sending : Sent → Session → List ℕ → Sending
sending a s o = record { handed = handed a s; output = o }

unfoldable pub send_tests : Session → List ℕ → Bool → List Test
send_tests s output bad =
    (20 when not (in_range s))
    ∷ (1 when output_short s output)
    ∷ (2 when is_terminated s.state)
    ∷ (17 when not (is_active s.state))
    ∷ (18 when bad)
    ∷ []

-- one final frame, "appended to the output; then a waiting reply moves if it fits"; the state is then what is given
unfoldable pub send_frame : Session → ℕ → OpCode → Bool → List ℕ → Masks → List ℕ → Sending
send_frame s state op bad p masks output =
    let bytes : List ℕ = encoded (is_client s.settings) op masks.first p in
    let early : ℕ = first_of (send_tests s output bad) in
    let n : ℕ = pick (eqb early 0) (first_of ((19 when not (fits s.held output bytes)) ∷ [])) early in
    let v : Out = appended (with_state s state) output bytes in
    let u : Out = move_reply v.session masks.second v.output in
    pick (eqb n 0) (sending Done u.session u.output) (sending (NotSent n) s output)

unfoldable pub text_call : Session → List ℕ → Masks → List ℕ → Sending
text_call s p masks output = send_frame s s.state (Data TextFrame) (not (is_whole (progress_after 0 p))) p masks output

unfoldable pub binary_call : Session → List ℕ → Masks → List ℕ → Sending
binary_call s p masks output = send_frame s s.state (Data BinaryFrame) false p masks output

unfoldable pub ping_call : Session → List ℕ → Masks → List ℕ → Sending
ping_call s p masks output = send_frame s s.state (Control PingFrame) (ltb 125 (length p)) p masks output

-- "A close is empty, or a code and a reason, together at most 125 bytes; the code goes out as given" "Close leads to ClosedByUs only when
-- it was put out"
abbrev pub closing_bytes : Option ℕ → List ℕ → List ℕ
closing_bytes None reason = []
closing_bytes (Some n) reason = close_bytes n reason

unfoldable pub close_call : Session → Option ℕ → List ℕ → Masks → List ℕ → Sending
close_call s code reason masks output =
    let p : List ℕ = closing_bytes code reason in
    send_frame s 1 (Control CloseFrame) (either (ltb 125 (length p)) (not (is_whole (progress_after 0 (drop 2 p))))) p masks output

-- "The caller's pong becomes the waiting reply, then moves if it fits; it is not refused with 19."
unfoldable pub pong_call : Session → List ℕ → Masks → List ℕ → Sending
pong_call s p masks output =
    let n : ℕ = first_of (send_tests s output (ltb 125 (length p))) in
    let u : Out = move_reply (with_reply s (with_pong s.reply p)) masks.first output in
    pick (eqb n 0) (sending Done u.session u.output) (sending (NotSent n) s output)

-- "The caller can ask whether a reply waits."
unfoldable pub waits_call : Session → Bool
waits_call s = waits s.reply.waiting

-- ---- handing over: "The held bytes are shown as a part of the output store". A part can't be a refusal as well, so the number that would
-- be owed stands beside it, and the part is empty then
unfoldable pub held_number : Session → List ℕ → ℕ
held_number s output = first_of ((20 when not (in_range s)) ∷ (1 when output_short s output) ∷ [])

unfoldable pub held_part : Session → List ℕ → List ℕ
held_part s output = pick (eqb (held_number s output) 0) (take s.held output) []

-- "taking n removes the first n and moves the rest to the front, in any state. No call changes another byte of it."
unfoldable pub take_tests : Session → ℕ → List ℕ → List Test
take_tests s n output = (20 when either (not (in_range s)) (ltb s.held n)) ∷ (1 when output_short s output) ∷ []

unfoldable pub take_call : Session → ℕ → List ℕ → Sending
take_call s n output =
    let k : ℕ = first_of (take_tests s n output) in
    pick (eqb k 0) (sending Done (with_held s (s.held - n)) (laid output 0 (part n (s.held - n) output))) (sending (NotSent k) s output)
