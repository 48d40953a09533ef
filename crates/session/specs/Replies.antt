-- The waiting reply and closing (document 01, "Replies and closing"), and putting out (document 01, "Sending").
use Rattle.std.specs.Prelude.{Bool, true, false, List, ◌++◌, ℕ, ◌+◌, ◌-◌, leb, length, take}
use Rattle.base.specs.Stores.{laid}
use Rattle.base.specs.Table.{pick}
use Rattle.base.specs.Tests.{both}
use Rattle.coding.specs.CloseCodes.{allowed}
use Rattle.coding.specs.declared.opcode.Control.TheVariants.{Close as CloseFrame, Pong as PongFrame}
use Rattle.coding.specs.declared.opcode.OpCode.{OpCode}
use Rattle.coding.specs.declared.opcode.OpCode.TheVariants.{Control}
use Rattle.frame.specs.Close.{close_of, close_bytes, violation}
use Rattle.frame.specs.declared.close.ClosePayload.{ClosePayload}
use Rattle.frame.specs.declared.close.ClosePayload.TheVariants.{Empty, OneByte, CodeAndReason}
use Rattle.frame.specs.declared.header.FrameHeader.{FrameHeader}
use Rattle.frame.specs.Header.{header_bytes}
use Rattle.mask.specs.Mask.{masked}
use Rattle.session.specs.declared.Answer.{Answer}
use Rattle.session.specs.declared.Answer.TheVariants.{More, Text, Binary, Ping, Pong, Close, Closed, Refused}
use Rattle.session.specs.declared.Reply.{Reply}
use Rattle.session.specs.declared.Session.{Session}
use Rattle.session.specs.declared.Waiting.{Waiting}
use Rattle.session.specs.declared.Waiting.TheVariants.{Nothing as NoReply, Pong as PongReply, Close as CloseReply}
use Rattle.session.specs.Range.{waits}
use Rattle.session.specs.Session.{is_client, is_active, is_closed_by_us, with_state, with_refusal, with_reply, with_held}

-- ---- a frame's bytes: final, no reserved bit; "Client frames are" masked, "A server ignores" the masks
unfoldable pub frame_header : Bool → OpCode → ℕ → FrameHeader
frame_header client op n =
    record { fin = true; rsv1 = false; rsv2 = false; rsv3 = false; opcode = op; masked = client; length = n }

unfoldable pub encoded : Bool → OpCode → List ℕ → List ℕ → List ℕ
encoded client op mask p = header_bytes (frame_header client op (length p)) mask ++ pick client (masked mask 0 p) p

-- ---- "No room means that header and payload are longer than the output store less the bytes held."
unfoldable pub fits : ℕ → List ℕ → List ℕ → Bool
fits held output bytes = leb (length bytes) (length output - held)

-- ---- a reply with a payload takes the place of what waited; "A waiting close is replaced by nothing"
unfoldable pub reply_of : Reply → Waiting → List ℕ → Reply
reply_of q k p = record { waiting = k; length = length p; payload = laid q.payload 0 p }

abbrev pub is_close_reply : Waiting → Bool
is_close_reply NoReply = false
is_close_reply PongReply = false
is_close_reply CloseReply = true

-- "A ping in Active makes a pong with its payload the waiting reply, replacing a waiting pong."
unfoldable pub with_pong : Reply → List ℕ → Reply
with_pong q p = pick (is_close_reply q.waiting) q (reply_of q PongReply p)

unfoldable pub no_reply : Reply → Reply
no_reply q = record { waiting = NoReply; length = 0; payload = q.payload }

-- the frame of a waiting reply
abbrev pub reply_code : Waiting → OpCode
reply_code NoReply = Control PongFrame
reply_code PongReply = Control PongFrame
reply_code CloseReply = Control CloseFrame

unfoldable pub reply_frame : Session → List ℕ → List ℕ
reply_frame s mask =
    encoded (is_client s.settings) (reply_code s.reply.waiting) mask (take s.reply.length s.reply.payload)

-- ---- "A waiting reply moves to the output if it fits. If not, it waits on"
pub record Out : Type 0 where
  pub session : Session
  pub output : List ℕ

abbrev pub out : Session → List ℕ → Out
out s o = record { session = s; output = o }

unfoldable pub appended : Session → List ℕ → List ℕ → Out
appended s output bytes = out (with_held s (s.held + length bytes)) (laid output s.held bytes)

unfoldable pub move_reply : Session → List ℕ → List ℕ → Out
move_reply s mask output =
    pick (both (waits s.reply.waiting) (fits s.held output (reply_frame s mask)))
    (appended (with_reply s (no_reply s.reply)) output (reply_frame s mask))
    (out s output)

-- ---- what an event leaves
pub record Concluded : Type 0 where
  pub answer : Answer
  pub session : Session
  pub control : List ℕ

abbrev pub concluded : Answer → Session → List ℕ → Concluded
concluded a s c = record { answer = a; session = s; control = c }

-- "for any other code, reply and event both carry 1002 and the eighteen ASCII bytes `Protocol violation`. These overwrite the first
-- twenty bytes of the control store; what was received behind them stays." "Empty closes stay empty."
abbrev pub code_allowed : ClosePayload → Bool
code_allowed Empty = true
code_allowed OneByte = true
code_allowed (CodeAndReason code) = allowed code

unfoldable pub shown_length : List ℕ → ℕ → ℕ
shown_length control n = pick (code_allowed (close_of (take n control))) n 20

unfoldable pub shown_control : List ℕ → ℕ → List ℕ
shown_control control n = pick (code_allowed (close_of (take n control))) control (laid control 0 (close_bytes 1002 violation))

-- "A close in Active leads to ClosedByPeer; the reply echoes it." "A close reply replaces a waiting pong." "A close in ClosedByUs leads to
-- CloseAcknowledged and is shown as received."
unfoldable pub close_came : Session → List ℕ → ℕ → Concluded
close_came s control n =
    pick (is_active s.state)
    (concluded (Close (shown_length control n))
    (with_state (with_reply s (reply_of s.reply CloseReply (take (shown_length control n) (shown_control control n)))) 2)
    (shown_control control n))
    (concluded (Close n) (pick (is_closed_by_us s.state) (with_state s 3) s) control)

unfoldable pub ping_came : Session → List ℕ → ℕ → Concluded
ping_came s control n =
    concluded (Ping n) (pick (is_active s.state) (with_reply s (with_pong s.reply (take n control))) s) control

abbrev pub conclude : Answer → Session → List ℕ → Concluded
conclude More s control = concluded More s control
conclude (Text n) s control = concluded (Text n) s control
conclude (Binary n) s control = concluded (Binary n) s control
conclude (Ping n) s control = ping_came s control n
conclude (Pong n) s control = concluded (Pong n) s control
conclude (Close n) s control = close_came s control n
conclude Closed s control = concluded Closed s control
conclude (Refused k) s control = concluded (Refused k) (with_refusal s k) control
