-- What one role's accepted call puts out, the other role's read call gives back (demand 2).
use mathlib.Core.Path.{◌≡◌, refl, ap, ◌∙◌}
use mathlib.Core.Bool.{Bool, true, false, not}
use mathlib.Core.List.{List}
use Prim.Native.Nat.{ℕ, ◌<◌, ◌≤◌}
use native.Mathlib.Omega.{arith}
use lib.Dec.{ltb}
use lib.ListN.{length, take, drop}
use borrow.Author.Tests.{ltb-false, not-false}
use Rattle.std.specs.Prelude.{Option, None, Some}
use Rattle.base.specs.Bytes.{part, to_big}
use Rattle.base.specs.Stores.{laid}
use Rattle.base.specs.Tests.{both, either}
use Rattle.coding.specs.declared.opcode.Control.{Control as ControlKind}
use Rattle.coding.specs.declared.opcode.Control.TheVariants.{Close as CloseFrame, Ping as PingFrame, Pong as PongFrame}
use Rattle.coding.specs.declared.opcode.Data.TheVariants.{Text as TextFrame, Binary as BinaryFrame}
use Rattle.coding.specs.declared.opcode.OpCode.{OpCode}
use Rattle.coding.specs.declared.opcode.OpCode.TheVariants.{Data, Control}
use Rattle.frame.specs.Close.{close_bytes}
use Rattle.frame.specs.Header.{header_bytes}
use Rattle.session.specs.Calls.{Read, read, turn, flagged, read_call, Sending, text_call, binary_call, ping_call, closing_bytes, close_call}
use Rattle.session.specs.declared.Answer.TheVariants.{Text, Binary}
use Rattle.session.specs.declared.Incoming.{Incoming}
use Rattle.session.specs.declared.Masks.{Masks}
use Rattle.session.specs.declared.Session.{Session}
use Rattle.session.specs.declared.Waiting.{Waiting}
use Rattle.session.specs.declared.Waiting.TheVariants.{Nothing as NoReply, Pong as PongReply, Close as CloseReply}
use Rattle.session.specs.Frames.{is_close_kind, reason_holds}
use Rattle.session.specs.Reading.{between as between_frames, control_event}
use Rattle.session.specs.Refusals.{Done}
use Rattle.session.specs.Replies.{frame_header, encoded, is_close_reply, reply_code, reply_frame, Concluded, conclude, move_reply}
use Rattle.session.specs.Session.{is_server, is_client, is_peer_closed, with_incoming}
use Rattle.utf8.specs.Progress.{progress_after, is_whole}
use Rattle.steady.proofs.Again.{either-not}
use Rattle.steady.proofs.Headers.{never}
use Rattle.link.proofs.CallBack.{Ready, data_read_back, control_read_back}
use Rattle.link.proofs.HeaderBack.{keep_all}
use Rattle.link.proofs.Sent.{sent-puts, put_bytes, not_bad}

-- no close of one byte can be asked for
pub not_one : (code : Option ℕ) (reason : List ℕ) → length (closing_bytes code reason) ≡ 1 → ⊥
unfolding close_bytes to_big
not_one None reason h = absurd (omega arith)
not_one (Some n) reason h = absurd (omega arith)

pub holds : (p : List ℕ) → is_whole (progress_after 0 (drop 2 p)) ≡ true → reason_holds p ≡ true
unfolding reason_holds
holds p h = h

-- ---- a session that a frame of the other role may come to
-- it has the other role; a client has had no close; it stands between two frames and no number is owed; its frame limit has room
pub record Meets (client : Bool) (s : Session) (masks : Masks) (m c o : List ℕ) (n : ℕ) : Type 0 where
  pub ready : Ready s masks m c o
  pub to_server : is_server s.settings ≡ client
  pub to_client : is_client s.settings ≡ not client
  pub heard : both (is_client s.settings) (is_peer_closed s.state) ≡ false
  pub fits : n ≤ s.settings.frame
  pub short : n < 18446744073709551616

-- the bytes that a call put behind those that were held
abbrev pub put_out : Session → List ℕ → Sending → List ℕ
put_out s bytes x = part s.held (length bytes) x.output

module _ (s : Session) (p : List ℕ) (given : Masks) (output : List ℕ) (four : length given.first ≡ 4) (r : Session) (masks : Masks) (m c o : List ℕ) (end : Bool)
    (meets : Meets (is_client s.settings) r masks m c o (length p)) where
  -- a frame of this kind, as this end writes it
  abbrev frame_of : OpCode → List ℕ
  frame_of op = encoded (is_client s.settings) op given.first p

  abbrev come : OpCode → Incoming
  come op = keep_all r.incoming (header_bytes (frame_header (is_client s.settings) op (length p)) given.first)

  -- a text: its event, with all its bytes taken and its payload in the message store
  pub text_reads_back : (text_call s p given output).handed.sent ≡ Done → r.incoming.begun ≡ false → length p ≤ r.settings.message
      → read_call r (put_out s (frame_of (Data TextFrame)) (text_call s p given output)) end masks m c o
      ≡ read
      (turn (Text (length p)) (length (frame_of (Data TextFrame)))
      (with_incoming (move_reply r masks.first o).session (between_frames (come (Data TextFrame)) false false 0 0))) (laid m 0 p) c
      (move_reply r masks.first o).output
  unfolding text_call
  text_reads_back h new most =
      let bad : Bool = not (is_whole (progress_after 0 p)) in
      ap (λ (l : List ℕ). read_call r l end masks m c o)
      (put_bytes s.held output (frame_of (Data TextFrame)) _ (sent-puts s s.state (Data TextFrame) bad p given output h))
      ∙ data_read_back r masks m c o meets.ready (is_client s.settings) given.first p four meets.to_server meets.to_client meets.heard meets.fits
      meets.short TextFrame end refl new most
      (λ t. not-false (is_whole (progress_after 0 p)) (not_bad s s.state (Data TextFrame) bad p given output h))

  -- a binary message, likewise
  pub binary_reads_back : (binary_call s p given output).handed.sent ≡ Done → r.incoming.begun ≡ false → length p ≤ r.settings.message
      → read_call r (put_out s (frame_of (Data BinaryFrame)) (binary_call s p given output)) end masks m c o
      ≡ read
      (turn (Binary (length p)) (length (frame_of (Data BinaryFrame)))
      (with_incoming (move_reply r masks.first o).session (between_frames (come (Data BinaryFrame)) false false 0 0))) (laid m 0 p) c
      (move_reply r masks.first o).output
  unfolding binary_call
  binary_reads_back h new most =
      ap (λ (l : List ℕ). read_call r l end masks m c o)
      (put_bytes s.held output (frame_of (Data BinaryFrame)) _ (sent-puts s s.state (Data BinaryFrame) false p given output h))
      ∙ data_read_back r masks m c o meets.ready (is_client s.settings) given.first p four meets.to_server meets.to_client meets.heard meets.fits
      meets.short BinaryFrame end refl new most (λ t. never t refl)

  -- what a control frame's event leaves, as document 01 has it of that event
  abbrev control_read : ControlKind → Read
  control_read k =
      let i : Incoming = come (Control k) in
      let d : Concluded =
      conclude (control_event k (length p))
      (with_incoming (move_reply r masks.first o).session (between_frames i i.begun i.text i.fragments i.progress)) (laid c 0 p) in
      read (flagged end d (length (frame_of (Control k)))) m d.control (move_reply r masks.first o).output

  -- a ping
  pub ping_reads_back : (ping_call s p given output).handed.sent ≡ Done → 125 ≤ length c
      → read_call r (put_out s (frame_of (Control PingFrame)) (ping_call s p given output)) end masks m c o ≡ control_read PingFrame
  unfolding ping_call
  ping_reads_back h room =
      let bad : Bool = ltb 125 (length p) in
      let few : length p ≤ 125 = ltb-false 125 (length p) (not_bad s s.state (Control PingFrame) bad p given output h) in
      ap (λ (l : List ℕ). read_call r l end masks m c o)
      (put_bytes s.held output (frame_of (Control PingFrame)) _ (sent-puts s s.state (Control PingFrame) bad p given output h))
      ∙ control_read_back r masks m c o meets.ready (is_client s.settings) given.first p four meets.to_server meets.to_client meets.heard
      meets.fits meets.short PingFrame end few room (λ t. never t refl) (λ t. never t refl)

-- a close, empty or with a code and a reason: what is shown is what document 01 says of such a close
module _ (s : Session) (code : Option ℕ) (reason : List ℕ) (given : Masks) (output : List ℕ) (four : length given.first ≡ 4) (r : Session) (masks : Masks)
    (m c o : List ℕ) (end : Bool) (meets : Meets (is_client s.settings) r masks m c o (length (closing_bytes code reason))) where
  pub close_reads_back : (close_call s code reason given output).handed.sent ≡ Done → 125 ≤ length c
      → read_call r (put_out s (encoded (is_client s.settings) (Control CloseFrame) given.first (closing_bytes code reason)) (close_call s code reason given output)) end masks
      m c o
      ≡ control_read s (closing_bytes code reason) given output four r masks m c o end meets CloseFrame
  unfolding close_call
  close_reads_back h room =
      let p : List ℕ = closing_bytes code reason in
      let bad : Bool = either (ltb 125 (length p)) (not (is_whole (progress_after 0 (drop 2 p)))) in
      let good = either-not (ltb 125 (length p)) (not (is_whole (progress_after 0 (drop 2 p)))) (not_bad s 1 (Control CloseFrame) bad p given output h) in
      let few : length p ≤ 125 = ltb-false 125 (length p) good.0 in
      ap (λ (l : List ℕ). read_call r l end masks m c o)
      (put_bytes s.held output (encoded (is_client s.settings) (Control CloseFrame) given.first p) _ (sent-puts s 1 (Control CloseFrame) bad p given output h))
      ∙ control_read_back r masks m c o meets.ready (is_client s.settings) given.first p four meets.to_server meets.to_client meets.heard
      meets.fits meets.short CloseFrame end few room (λ t. not_one code reason) (λ t. holds p (not-false (is_whole (progress_after 0 (drop 2 p))) good.1))

-- ---- a reply that moved reads back as itself: the pong or the close that waited
abbrev pub reply_kind : Waiting → ControlKind
reply_kind NoReply = PongFrame
reply_kind PongReply = PongFrame
reply_kind CloseReply = CloseFrame

module _ (s : Session) (mask : List ℕ) (four : length mask ≡ 4) (r : Session) (masks : Masks) (m c o : List ℕ) (end : Bool) where
  abbrev payload : List ℕ
  payload = take s.reply.length s.reply.payload

  -- a waiting close carries nothing, or a code and a reason that is text
  pub reply_reads_back : (meets : Meets (is_client s.settings) r masks m c o (length payload)) → length payload ≤ 125 → 125 ≤ length c
      → (is_close_reply s.reply.waiting ≡ true → (length payload ≡ 1 → ⊥) × (reason_holds payload ≡ true))
      → read_call r (reply_frame s mask) end masks m c o
      ≡ control_read s payload (record { first = mask; second = mask }) o four r masks m c o end meets (reply_kind s.reply.waiting)
  unfolding reply_frame
  reply_reads_back meets few room sound =
      ap (λ (op : OpCode). read_call r (encoded (is_client s.settings) op mask payload) end masks m c o) (reply_code_lem s.reply.waiting)
      ∙ control_read_back r masks m c o meets.ready (is_client s.settings) mask payload four meets.to_server meets.to_client meets.heard meets.fits
      meets.short (reply_kind s.reply.waiting) end few room (λ t. (sound (close_kind s.reply.waiting t)).0)
      (λ t. (sound (close_kind s.reply.waiting t)).1)
    where
      reply_code_lem : (w : Waiting) → reply_code w ≡ Control (reply_kind w)
      reply_code_lem NoReply = refl
      reply_code_lem PongReply = refl
      reply_code_lem CloseReply = refl

      close_kind : (w : Waiting) → is_close_kind (reply_kind w) ≡ true → is_close_reply w ≡ true
      close_kind NoReply t = t
      close_kind PongReply t = t
      close_kind CloseReply t = t
