-- A read call that is offered the bytes of a frame gives that frame's event, and takes these bytes.
use mathlib.Core.Path.{◌≡◌, refl, sym, ap, ap₂, ◌∙◌}
use mathlib.Core.Bool.{Bool, true, false, not}
use mathlib.Core.List.{List}
use Prim.Native.Nat.{ℕ, ◌+◌, ◌%◌, ◌<◌, ◌≤◌}
use native.Mathlib.Omega.{arith}
use lib.Dec.{eqb}
use lib.ListN.{length}
use borrow.Author.Tests.{eq-eqb, ne_eqb, le-ltb}
use Rattle.base.specs.Stores.{laid}
use Rattle.base.specs.Table.{value_at}
use Rattle.base.specs.Tests.{both, first_of}
use Rattle.base.proofs.Tests.{passed, none_met}
use Rattle.coding.specs.declared.opcode.Control.{Control as ControlKind}
use Rattle.coding.specs.declared.opcode.Control.TheVariants.{Close, Ping, Pong}
use Rattle.coding.specs.declared.opcode.Data.{Data as DataKind}
use Rattle.coding.specs.declared.opcode.Data.TheVariants.{Continue, Text, Binary}
use Rattle.coding.specs.declared.opcode.OpCode.{OpCode}
use Rattle.coding.specs.declared.opcode.OpCode.TheVariants.{Data, Control}
use Rattle.coding.specs.Opcodes.{opcode_of, opcode_number}
use Rattle.frame.specs.Header.{header_bytes}
use Rattle.session.specs.Calls.{read, turn, read_tests, flagged, take_bytes, read_on, read_call}
use Rattle.session.specs.declared.Answer.TheVariants.{More}
use Rattle.session.specs.declared.Incoming.{Incoming}
use Rattle.session.specs.declared.Masks.{Masks}
use Rattle.session.specs.declared.Session.{Session}
use Rattle.session.specs.declared.Settings.{Settings}
use Rattle.session.specs.Frames.{is_continue_kind, is_text_kind, is_close_kind, is_reserved, header_tests, before, doom_tests, reason_holds}
use Rattle.session.specs.Reading.{World, world, At, after, between as between_frames, control_event, settle, feed, is_more}
use Rattle.session.specs.Replies.{frame_header, encoded, Out, move_reply, Concluded, conclude}
use Rattle.session.specs.Session.{is_server, is_client, is_peer_closed, with_incoming}
use Rattle.utf8.specs.Progress.{progress_after, is_whole}
use Rattle.steady.proofs.Moves.{move_settings, move_state, move_incoming}
use Rattle.link.proofs.FrameBack.{data_event, begun_all, data_back, control_back}
use Rattle.link.proofs.HeaderBack.{keep_all, Between, settle-lacking, unread}

-- ---- a header that a role writes, and the other reads: no number is given for it
module _ (g : Settings) (state : ℕ) (client : Bool) (n : ℕ) (to_server : is_server g ≡ client) (to_client : is_client g ≡ not client)
    (heard : both (is_client g) (is_peer_closed state) ≡ false) where
  masked-right : (u : Bool) → both (is_server g) (both (not client) u) ≡ false
  masked-right u = ap (λ (b : Bool). both b (both (not client) u)) to_server ∙ go client
    where
      go : (b : Bool) → both b (both (not b) u) ≡ false
      go true = refl
      go false = refl

  masked-wrong : both (is_client g) client ≡ false
  masked-wrong = ap (λ (b : Bool). both b client) to_client ∙ go client
    where
      go : (b : Bool) → both (not b) b ≡ false
      go true = refl
      go false = refl

  pub data_admitted : (d : DataKind) (j : Incoming) → is_continue_kind d ≡ false → j.begun ≡ false → n ≤ g.message
      → first_of (doom_tests g state (frame_header client (Data d) n) j) ≡ 0
  unfolding doom_tests frame_header before
  data_admitted d j h b fits =
      sym
      (passed 5 _ (masked-right _)
      (passed 6 _ heard
      (passed 7 _ refl
      (passed 8 _ masked-wrong
      (passed 9 _ refl
      (passed 10 _ refl
      (passed 11 _ refl
      (passed 13 _ (rw h)
      (passed 14 _ (rw (h, b))
      (passed 15 _ (rw b (le-ltb g.message (0 + n) (omega arith))) none_met))))))))))

  pub control_admitted : (k : ControlKind) (j : Incoming) → n ≤ 125 → (is_close_kind k ≡ true → n ≡ 1 → ⊥)
      → first_of (doom_tests g state (frame_header client (Control k) n) j) ≡ 0
  unfolding doom_tests frame_header
  control_admitted k j most one =
      sym
      (passed 5 _ (masked-right _)
      (passed 6 _ heard
      (passed 7 _ refl
      (passed 8 _ masked-wrong
      (passed 9 _ refl
      (passed 10 _ (le-ltb 125 n most)
      (passed 11 _ (not_one k one)
      (passed 13 _ refl
      (passed 14 _ refl
      (passed 15 _ refl none_met))))))))))
    where
      not_one : (k : ControlKind) → (is_close_kind k ≡ true → n ≡ 1 → ⊥) → both (is_close_kind k) (eqb n 1) ≡ false
      not_one Close h = ne_eqb n 1 (h refl)
      not_one Ping h = refl
      not_one Pong h = refl

  pub header-admitted : (op : OpCode) → is_reserved op ≡ false → n ≤ g.frame → first_of (header_tests g (frame_header client op n)) ≡ 0
  unfolding header_tests frame_header
  header-admitted op h fits = sym (passed 3 _ h (passed 4 _ (le-ltb g.frame n fits) none_met))

-- ---- a read call that takes bytes
module _ (s : Session) (masks : Masks) (m c o : List ℕ) where
  abbrev moved : Out
  moved = move_reply s masks.first o

  takes : (piece : List ℕ) (end : Bool) → first_of (read_tests s masks.first m c o) ≡ 0
      → both (is_server moved.session.settings) (is_peer_closed moved.session.state) ≡ false
      → read_call s piece end masks m c o ≡ take_bytes moved.session piece end m c moved.output
  unfolding read_call read_on
  takes piece end h k = rw (eq-eqb (first_of (read_tests s masks.first m c o)) 0 h, k)

  -- nothing of it changes but the reply and what is held
  same_settings : moved.session.settings ≡ s.settings
  same_settings = move_settings s masks.first o

  same_state : moved.session.state ≡ s.state
  same_state = move_state s masks.first o

  same_incoming : moved.session.incoming ≡ s.incoming
  same_incoming = move_incoming s masks.first o

  -- what the calls asks for: no number is owed, it is not over, and it stands between two frames
  pub record Ready : Type 0 where
    pub clear : first_of (read_tests s masks.first m c o) ≡ 0
    pub goes_on : both (is_server s.settings) (is_peer_closed s.state) ≡ false
    pub between : Between s.incoming

  -- the bytes lead to a world with an answer, and that is the call's
  pub by_bytes : (piece : List ℕ) (end : Bool) (w : World) → Ready → is_more w.answer ≡ false
      → feed s.settings s.state (after (world s.incoming m c More) 0) piece ≡ after w (length piece)
      → read_call s piece end masks m c o
      ≡ read (flagged end (conclude w.answer (with_incoming moved.session w.incoming) w.control) (length piece)) w.message
      (conclude w.answer (with_incoming moved.session w.incoming) w.control).control moved.output
  unfolding take_bytes
  by_bytes piece end w ready h e =
      takes piece end ready.clear (ap₂ (λ (g : Settings) (n : ℕ). both (is_server g) (is_peer_closed n)) same_settings same_state ∙ ready.goes_on)
      ∙ ap
      (λ (x : At).
      let d : Concluded = conclude x.world.answer (with_incoming moved.session x.world.incoming) x.world.control in
      read (flagged end d x.taken) x.world.message d.control moved.output)
      fed
    where
      start : Settings → ℕ → Incoming → At
      start g n i = feed g n (after (settle g n (world i m c More)) 0) piece

      fed : start moved.session.settings moved.session.state moved.session.incoming ≡ after w (length piece)
      fed =
          ap₂ (λ (g : Settings) (n : ℕ). start g n moved.session.incoming) same_settings same_state
          ∙ ap (start s.settings s.state) same_incoming
          ∙ ap (λ (v : World). feed s.settings s.state (after v 0) piece) (settle-lacking s.settings s.state m c s.incoming (unread s.incoming ready.between))
          ∙ e

-- ---- what a data event leaves
pub data_answers : (d : DataKind) (n : ℕ) → is_more (data_event d n) ≡ false
data_answers Continue n = refl
data_answers Text n = refl
data_answers Binary n = refl

data_concluded : (d : DataKind) (n : ℕ) (end : Bool) (taken : ℕ) (s : Session) (m c o : List ℕ)
    → read (flagged end (conclude (data_event d n) s c) taken) m (conclude (data_event d n) s c).control o ≡ read (turn (data_event d n) taken s) m c o
unfolding flagged
data_concluded Continue n true taken s m c o = refl
data_concluded Continue n false taken s m c o = refl
data_concluded Text n true taken s m c o = refl
data_concluded Text n false taken s m c o = refl
data_concluded Binary n true taken s m c o = refl
data_concluded Binary n false taken s m c o = refl

-- opcodes are numbers below 16
pub data_number_lem : (d : DataKind) → opcode_of (opcode_number (Data d) % 16) ≡ Data d
unfolding opcode_of value_at
data_number_lem Continue = refl
data_number_lem Text = refl
data_number_lem Binary = refl

pub control_number_lem : (k : ControlKind) → opcode_of (opcode_number (Control k) % 16) ≡ Control k
unfolding opcode_of value_at
control_number_lem Close = refl
control_number_lem Ping = refl
control_number_lem Pong = refl

pub control_answers : (k : ControlKind) (n : ℕ) → is_more (control_event k n) ≡ false
control_answers Close n = refl
control_answers Ping n = refl
control_answers Pong n = refl

-- ---- a frame's bytes, offered to a read call
module _ (s : Session) (masks : Masks) (m c o : List ℕ) (ready : Ready s masks m c o) (client : Bool) (mask p : List ℕ) (four : length mask ≡ 4)
    (to_server : is_server s.settings ≡ client) (to_client : is_client s.settings ≡ not client)
    (heard : both (is_client s.settings) (is_peer_closed s.state) ≡ false) (fits : length p ≤ s.settings.frame)
    (short : length p < 18446744073709551616) where
  -- what is kept of the frame's header
  abbrev header_of_frame : OpCode → Incoming
  header_of_frame op = keep_all s.incoming (header_bytes (frame_header client op (length p)) mask)

  -- a text or binary message of one frame: its event, all its bytes taken, and the payload at the message store's start
  pub data_read_back : (d : DataKind) (end : Bool) → is_continue_kind d ≡ false → s.incoming.begun ≡ false → length p ≤ s.settings.message
      → (is_text_kind false d ≡ true → is_whole (progress_after 0 p) ≡ true)
      → read_call s (encoded client (Data d) mask p) end masks m c o
      ≡ read
      (turn (data_event d (length p)) (length (encoded client (Data d) mask p))
      (with_incoming (move_reply s masks.first o).session (between_frames (header_of_frame (Data d)) false false 0 0))) (laid m 0 p) c
      (move_reply s masks.first o).output
  unfolding flagged
  data_read_back d end fresh new most valid =
      let back =
      data_back s.settings s.state client (Data d) mask four p s.incoming ready.between m c (data_number_lem d) short d refl fresh new
      (data_admitted s.settings s.state client (length p) to_server to_client heard d (header_of_frame (Data d)) fresh
      (begun_all s.incoming (header_bytes (frame_header client (Data d) (length p)) mask) ∙ new) most)
      valid (header-admitted s.settings s.state client (length p) to_server to_client heard (Data d) refl fits) in
      by_bytes s masks m c o (encoded client (Data d) mask p) end
      (world (between_frames (header_of_frame (Data d)) false false 0 0) (laid m 0 p) c (data_event d (length p))) ready (data_answers d (length p)) back
      ∙ data_concluded d (length p) end (length (encoded client (Data d) mask p))
      (with_incoming (move_reply s masks.first o).session (between_frames (header_of_frame (Data d)) false false 0 0)) (laid m 0 p) c (move_reply s masks.first o).output

  -- a ping, a pong or a close: what its event leaves, as document 01 has it of that event
  pub control_read_back : (k : ControlKind) (end : Bool) → length p ≤ 125 → 125 ≤ length c → (is_close_kind k ≡ true → length p ≡ 1 → ⊥)
      → (is_close_kind k ≡ true → reason_holds p ≡ true)
      → read_call s (encoded client (Control k) mask p) end masks m c o
      ≡ (let i : Incoming = header_of_frame (Control k) in
      let d : Concluded =
      conclude (control_event k (length p))
      (with_incoming (move_reply s masks.first o).session (between_frames i i.begun i.text i.fragments i.progress)) (laid c 0 p) in
      read (flagged end d (length (encoded client (Control k) mask p))) m d.control (move_reply s masks.first o).output)
  control_read_back k end most room one valid =
      let i : Incoming = header_of_frame (Control k) in
      let back =
      control_back s.settings s.state client (Control k) mask four p s.incoming ready.between m c (control_number_lem k) short k refl
      (control_admitted s.settings s.state client (length p) to_server to_client heard k i most one) (omega arith) valid
      (header-admitted s.settings s.state client (length p) to_server to_client heard (Control k) refl fits) in
      by_bytes s masks m c o (encoded client (Control k) mask p) end
      (world (between_frames i i.begun i.text i.fragments i.progress) m (laid c 0 p) (control_event k (length p))) ready (control_answers k (length p)) back
