-- A read call that gives an event keeps the invariant: a message, a ping, a pong or a close.
use mathlib.Core.Path.{◌≡◌, refl, sym, ap, subst, ◌∙◌}
use mathlib.Core.Bool.{Bool, true, false}
use mathlib.Core.List.{List, [], ◌∷◌, ◌++◌}
use mathlib.Core.Logic.{◌⊎◌, inl, inr, ⊎_elim}
use Prim.Native.Nat.{ℕ, ◌≤◌}
use native.Mathlib.Omega.{arith}
use lib.Dec.{eqb}
use lib.ListN.{length, take, length-take}
use borrow.Author.Tests.{le-ltb}
use Rattle.base.specs.Bytes.{to_big}
use Rattle.base.specs.Stores.{laid}
use Rattle.base.specs.Table.{pick, value_at}
use Rattle.base.proofs.Choice.{by_test}
use Rattle.base.proofs.Stores.{length-laid}
use Rattle.coding.specs.declared.opcode.Control.{Control as ControlKind}
use Rattle.coding.specs.declared.opcode.Control.TheVariants.{Close as CloseFrame, Ping as PingFrame, Pong as PongFrame}
use Rattle.coding.specs.declared.opcode.Data.{Data as DataKind}
use Rattle.coding.specs.declared.opcode.Data.TheVariants.{Continue, Text as TextFrame, Binary as BinaryFrame}
use Rattle.coding.specs.declared.opcode.OpCode.{OpCode}
use Rattle.coding.specs.declared.opcode.OpCode.TheVariants.{Data, Control, Reserved}
use Rattle.frame.specs.Close.{close_of, close_bytes, violation}
use Rattle.session.specs.Answers.{kind, value, shown, beyond, part_of}
use Rattle.session.specs.Calls.{Read, read, turn}
use Rattle.session.specs.declared.Answer.{Answer}
use Rattle.session.specs.declared.Answer.TheVariants.{More, Text, Binary, Ping, Pong, Close, Closed, Refused}
use Rattle.session.specs.declared.Reply.{Reply}
use Rattle.session.specs.declared.Session.{Session}
use Rattle.session.specs.declared.Settings.{Settings}
use Rattle.session.specs.declared.Turn.{Turn}
use Rattle.session.specs.declared.Waiting.{Waiting}
use Rattle.session.specs.declared.Waiting.TheVariants.{Nothing as NoReply, Pong as PongReply, Close as CloseReply}
use Rattle.session.specs.Frames.{is_close, reason_holds}
use Rattle.session.specs.Reading.{world, At, after, control_event, is_more}
use Rattle.session.specs.Replies.{reply_of, with_pong, code_allowed, shown_length, shown_control, close_came, ping_came, Concluded, concluded, conclude}
use Rattle.session.specs.Session.{is_client, is_active, is_closed_by_us, with_state, with_incoming, with_reply}
use Rattle.steady.proofs.Frames.{refusal_of, FineWorld}
use Rattle.steady.proofs.Headers.{Waits, never}
use Rattle.steady.proofs.OneCall.{outcome, flagged-answered, conclude-more}
use Rattle.utf8.specs.Progress.{stepped, progress_after, is_whole}
use Rattle.link.specs.System.{item, Side, counted, is_closed, reader, read_from}
use Rattle.link.proofs.CallBack.{data_answers, control_answers}
use Rattle.link.proofs.Direction.{Phase, active, closed_by_us, closed_by_peer, acked, over, number, is_over, Link, Heard, load_of, SoundClose, Sound, answers, Knows, knows_on, Kept, Inv}
use Rattle.link.proofs.FrameBack.{data_event, front_laid}
use Rattle.link.proofs.FrameRead.{event_of, Ends}
use Rattle.link.proofs.Frames.{Frame, nothing, items_of, LoadFits, has_close}
use Rattle.link.proofs.ReadSteps.{end_of, piece, more, come_to, fine, none_before, valid_f, event_inv}
use Rattle.link.proofs.Sends.{in_active, pong_set, load_set, set-kind}

-- ---- a close that is echoed is one that a reader takes
violation-sound : SoundClose (close_bytes 1002 violation)
unfolding close_bytes violation to_big reason_holds progress_after is_whole stepped value_at
violation-sound = (omega arith, (λ e. absurd (omega arith)), refl)

violation-length : length (close_bytes 1002 violation) ≡ 20
unfolding close_bytes violation to_big
violation-length = refl

pub echo_sound : (control p : List ℕ) → 125 ≤ length control → take (length p) control ≡ p → SoundClose p
    → SoundClose (take (shown_length control (length p)) (shown_control control (length p)))
unfolding shown_length shown_control
echo_sound control p room is sound = go (code_allowed (close_of (take (length p) control)))
  where
    go : (t : Bool) → SoundClose (take (pick t (length p) 20) (pick t control (laid control 0 (close_bytes 1002 violation))))
    go true = subst SoundClose (sym is) sound
    go false = subst SoundClose (sym (ap (λ (k : ℕ). take k (laid control 0 (close_bytes 1002 violation))) (sym violation-length)
        ∙ front_laid control (close_bytes 1002 violation) (omega (arith, violation-length)))) violation-sound

shown-size : (control : List ℕ) (n : ℕ) → length (shown_control control n) ≡ length control
unfolding shown_control
shown-size control n = go (code_allowed (close_of (take n control)))
  where
    go : (t : Bool) → length (pick t control (laid control 0 (close_bytes 1002 violation))) ≡ length control
    go true = refl
    go false = length-laid control 0 (close_bytes 1002 violation)

-- ---- the part that an event shows is its payload, where that is all there
in_store : (store : List ℕ) (n : ℕ) (p : List ℕ) → take n store ≡ p → n ≡ length p → pick (eqb (beyond store n) 0) (take n store) [] ≡ p
unfolding beyond
in_store store n p e h =
    rw (le-ltb (length store) n (omega (arith, ap length e, length-take n store))) e

part-is : (a : Answer) (m c p : List ℕ) → shown a m c ≡ p → value a ≡ length p → part_of a m c ≡ p
unfolding part_of
part-is More m c p e h = e
part-is (Text n) m c p e h = in_store m n p e h
part-is (Binary n) m c p e h = in_store m n p e h
part-is (Ping n) m c p e h = in_store c n p e h
part-is (Pong n) m c p e h = in_store c n p e h
part-is (Close n) m c p e h = in_store c n p e h
part-is Closed m c p e h = e
part-is (Refused n) m c p e h = e

-- ---- the states in which an event may come
open_phase : (p : Phase) (c : Bool) → is_over p ≡ false → Heard p c → c ≡ false → (p ≡ active) ⊎ (p ≡ closed_by_us)
open_phase active c o h e = inl refl
open_phase closed_by_us c o h e = inr refl
open_phase closed_by_peer c o h e = never h e
open_phase acked c o h e = never h e
open_phase over c o h e = never refl o

-- an event is no refusal
data_kind : (d : DataKind) (n : ℕ) → (refusal_of (data_event d n) ≡ 0) × (kind (data_event d n) ≤ 3)
data_kind Continue n = (refl, omega arith)
data_kind TextFrame n = (refl, omega arith)
data_kind BinaryFrame n = (refl, omega arith)

control_kind : (k : ControlKind) (n : ℕ) → (refusal_of (control_event k n) ≡ 0) × (kind (control_event k n) ≤ 6)
control_kind CloseFrame n = (refl, omega arith)
control_kind PingFrame n = (refl, omega arith)
control_kind PongFrame n = (refl, omega arith)

unrefused_event : (g : Settings) (op : OpCode) (p : List ℕ) → LoadFits g op p → refusal_of (event_of op (length p)) ≡ 0
unrefused_event g (Data d) p h = (data_kind d (length p)).0
unrefused_event g (Control k) p h = (control_kind k (length p)).0
unrefused_event g (Reserved k) p h = absurd h

unrefused_kind : (g : Settings) (op : OpCode) (p : List ℕ) → LoadFits g op p → kind (event_of op (length p)) ≡ 8 → ⊥
unrefused_kind g (Data d) p h e = absurd (omega (arith, (data_kind d (length p)).1))
unrefused_kind g (Control k) p h e = absurd (omega (arith, (control_kind k (length p)).1))
unrefused_kind g (Reserved k) p h e = absurd h

-- what an event leaves is told as that event
close_kind : (s : Session) (control : List ℕ) (n : ℕ) → kind (close_came s control n).answer ≡ 6
unfolding close_came
close_kind s control n = by_test (is_active s.state) (λ t. rw t) (λ t. rw t)

conclude-kind : (a : Answer) (s : Session) (control : List ℕ) → kind (conclude a s control).answer ≡ kind a
unfolding ping_came
conclude-kind More s control = refl
conclude-kind (Text n) s control = refl
conclude-kind (Binary n) s control = refl
conclude-kind (Ping n) s control = refl
conclude-kind (Pong n) s control = refl
conclude-kind (Close n) s control = close_kind s control n
conclude-kind Closed s control = refl
conclude-kind (Refused k) s control = refl

link_acked : (w : Waiting) (c : Bool) → Link closed_by_us w c → Link acked w c
link_acked NoReply c h = h
link_acked PongReply c h = h
link_acked CloseReply c h = h

module _ (l r : Side) (v : Inv l r) (lives : is_over v.p ≡ false) (n : ℕ)
    (e : Ends (is_client r.end.session.settings) v.rl.part (piece l r v lives n) (more l r v lives n) v.rl.rest (come_to l r v lives n)) where
  abbrev s : Session
  s = l.end.session

  abbrev f : Frame
  f = e.frame

  abbrev size : ℕ
  size = length f.load

  abbrev m : List ℕ
  m = e.left.message

  abbrev c : List ℕ
  c = e.left.control

  -- what the event leaves, with the frame's bytes taken
  abbrev plain_by : Answer → Read
  plain_by a =
      let d : Concluded = conclude a (with_incoming s e.left.incoming) c in read (turn d.answer (length e.front) d.session) m d.control l.end.output

  abbrev Aim : Read → Type 0
  Aim u = (u.turn.session.refusal ≡ 0 → Kept (end_of u)) → Inv (reader l u) (read_from r u.turn.taken)

  waits : (op : OpCode) → f.op ≡ op → LoadFits s.settings op f.load → Waits s.settings e.left.incoming
  waits op is fits =
      let fine' : FineWorld s.settings e.left = subst (λ (x : At). FineWorld s.settings x.world) e.comes (fine l r v lives n) in
      fine'.waits (ap refusal_of (e.leaves.event ∙ ap (λ (o : OpCode). event_of o size) is) ∙ unrefused_event s.settings op f.load fits)

  heard : Heard v.p false
  heard = subst (Heard v.p) (none_before l r v lives n e) v.rl.reader.heard

  -- ---- an event that changes neither state nor reply
  quiet : (op : OpCode) (a : Answer) → f.op ≡ op → is_close op ≡ false → LoadFits s.settings op f.load → is_closed a ≡ false
      → counted a m c ≡ items_of nothing true op f.load
      → Kept (record { session = with_incoming s e.left.incoming; message = m; control = c; output = l.end.output })
      → Inv (reader l (read (turn a (length e.front) (with_incoming s e.left.incoming)) m c l.end.output)) (read_from r (length e.front))
  quiet op a is open' fits shut shows kept =
      let x = v.lr.sender in
      event_inv l r v lives n e v.p s.state v.is_p s.reply c a lives shut
      (shows ∙ ap (λ (o : OpCode). items_of nothing true o f.load) (sym is)) (waits op is fits) x.link x.sound
      (knows_on s.reply.waiting l.answers.handed (counted a m c) (load_of s.reply) x.knows)
      (subst (Heard v.p) (sym (ap is_close is ∙ open')) heard) kept

  data_aim : (d : DataKind) → f.op ≡ Data d → LoadFits s.settings (Data d) f.load → shown (data_event d size) m c ≡ f.load → Aim (plain_by (data_event d size))
  data_aim Continue is fits payload kept =
      quiet (Data Continue) (Binary size) is refl fits refl (ap (λ (p : List ℕ). item 3 p ∷ []) (part-is (Binary size) m c f.load payload refl))
      (kept v.kept-l.unrefused)
  data_aim TextFrame is fits payload kept =
      quiet (Data TextFrame) (Text size) is refl fits refl (ap (λ (p : List ℕ). item 2 p ∷ []) (part-is (Text size) m c f.load payload refl))
      (kept v.kept-l.unrefused)
  data_aim BinaryFrame is fits payload kept =
      quiet (Data BinaryFrame) (Binary size) is refl fits refl (ap (λ (p : List ℕ). item 3 p ∷ []) (part-is (Binary size) m c f.load payload refl))
      (kept v.kept-l.unrefused)

  pong_aim : f.op ≡ Control PongFrame → LoadFits s.settings (Control PongFrame) f.load → Aim (plain_by (Pong size))
  pong_aim is fits kept = quiet (Control PongFrame) (Pong size) is refl fits refl refl (kept v.kept-l.unrefused)

  -- ---- a ping: in Active its pong waits
  ping_aim : f.op ≡ Control PingFrame → LoadFits s.settings (Control PingFrame) f.load → take size c ≡ f.load → Aim (plain_by (Ping size))
  unfolding ping_came
  ping_aim is fits payload = ⊎_elim in_active' by_us (open_phase v.p (has_close v.rl.got) lives v.rl.reader.heard (none_before l r v lives n e))
    where
      answer_with : Bool → Read
      answer_with b =
          read
          (turn (Ping size) (length e.front)
          (pick b (with_reply (with_incoming s e.left.incoming) (with_pong s.reply (take size c))) (with_incoming s e.left.incoming))) m c l.end.output

      shows : counted (Ping size) m c ≡ items_of nothing true (Control PingFrame) f.load
      shows = ap (λ (p : List ℕ). item 4 p ∷ []) (part-is (Ping size) m c f.load payload refl)

      in_active' : v.p ≡ active → Aim (answer_with (is_active s.state))
      in_active' h =
          let state : s.state ≡ 0 = v.is_p ∙ ap number h in
          let a = in_active l r v (ap (λ (k : ℕ). is_active k) state) in
          let q : Reply = reply_of s.reply PongReply f.load in
          let full : length s.reply.payload ≡ 125 = v.kept-l.shaped.1 in
          let load : load_of q ≡ f.load = load_set s.reply PongReply f.load full fits.0 in
          let kind : q.waiting ≡ PongReply = set-kind s.reply PongReply f.load in
          let set : with_pong s.reply (take size c) ≡ q = ap (with_pong s.reply) payload ∙ pong_set s.reply f.load false a.link in
          let u : Read = read (turn (Ping size) (length e.front) (with_reply (with_incoming s e.left.incoming) q)) m c l.end.output in
          let same : answer_with (is_active s.state) ≡ u =
          ap answer_with (ap (λ (k : ℕ). is_active k) state)
          ∙ ap (λ (x : Reply). read (turn (Ping size) (length e.front) (with_reply (with_incoming s e.left.incoming) x)) m c l.end.output) set in
          subst Aim (sym same)
          (λ kept.
          event_inv l r v lives n e active s.state state q c (Ping size) refl refl
          (shows ∙ ap (λ (o : OpCode). items_of nothing true o f.load) (sym is)) (waits (Control PingFrame) is fits)
          (subst (λ (w : Waiting). Link active w (has_close v.lr.frames)) (sym kind) a.none)
          (subst (λ (w : Waiting). Sound w (load_of q)) (sym kind) (omega (arith, ap length load, fits.0)))
          (subst (λ (w : Waiting). Knows w (l.answers.handed ++ counted (Ping size) m c) (load_of q)) (sym kind)
          (answers l.answers.handed [] (ap (λ (p : List ℕ). l.answers.handed ++ (item 4 p ∷ [])) (load ∙ sym (part-is (Ping size) m c f.load payload refl)))))
          (ap is_close is) (kept v.kept-l.unrefused))

      by_us : v.p ≡ closed_by_us → Aim (answer_with (is_active s.state))
      by_us h =
          let state : s.state ≡ 1 = v.is_p ∙ ap number h in
          subst (λ (b : Bool). Aim (answer_with b)) (sym (ap (λ (k : ℕ). is_active k) state))
          (λ kept. quiet (Control PingFrame) (Ping size) is refl fits refl shows (kept v.kept-l.unrefused))

  -- ---- a close: in Active its echo waits, in ClosedByUs it is acknowledged
  abbrev given : Concluded → Read
  given d = read (turn d.answer (length e.front) d.session) m d.control l.end.output

  abbrev echo : List ℕ
  echo = take (shown_length c size) (shown_control c size)

  abbrev echoed : Concluded
  echoed =
      concluded (Close (shown_length c size)) (with_state (with_reply (with_incoming s e.left.incoming) (reply_of s.reply CloseReply echo)) 2) (shown_control c size)

  abbrev acknowledged : Bool → Concluded
  acknowledged b = concluded (Close size) (pick b (with_state (with_incoming s e.left.incoming) 3) (with_incoming s e.left.incoming)) c

  module _ (is : f.op ≡ Control CloseFrame) (fits : LoadFits s.settings (Control CloseFrame) f.load) (payload : take size c ≡ f.load) where
    none_counted : [] ≡ items_of nothing true f.op f.load
    none_counted = ap (λ (o : OpCode). items_of nothing true o f.load) (sym is)

    echo_waits_lem : v.p ≡ active → Aim (given echoed)
    echo_waits_lem h kept =
        let k = kept v.kept-l.unrefused in
        let a = in_active l r v (ap (λ (k : ℕ). is_active k) (v.is_p ∙ ap number h)) in
        let q : Reply = reply_of s.reply CloseReply echo in
        let kind : q.waiting ≡ CloseReply = set-kind s.reply CloseReply echo in
        let room : 125 ≤ length c = omega (arith, k.room.for_control, shown-size c size) in
        let sound : SoundClose echo = echo_sound c f.load room payload (fits.0, (fits.1 refl).0, (fits.1 refl).1) in
        let load : load_of q ≡ echo = load_set s.reply CloseReply echo v.kept-l.shaped.1 sound.0 in
        event_inv l r v lives n e closed_by_peer 2 refl q (shown_control c size) (Close (shown_length c size)) refl refl none_counted (waits (Control CloseFrame) is fits)
        (subst (λ (w : Waiting). Link closed_by_peer w (has_close v.lr.frames)) (sym kind) a.none)
        (subst (λ (w : Waiting). Sound w (load_of q)) (sym kind) (subst SoundClose (sym load) sound))
        (subst (λ (w : Waiting). Knows w (l.answers.handed ++ []) (load_of q)) (sym kind) tt) (ap is_close is) k

    is_acknowledged : v.p ≡ closed_by_us → Aim (given (acknowledged true))
    is_acknowledged h kept =
        let x = v.lr.sender in
        event_inv l r v lives n e acked 3 refl s.reply c (Close size) refl refl none_counted (waits (Control CloseFrame) is fits)
        (link_acked s.reply.waiting (has_close v.lr.frames) (subst (λ (p : Phase). Link p s.reply.waiting (has_close v.lr.frames)) h x.link)) x.sound
        (knows_on s.reply.waiting l.answers.handed [] (load_of s.reply) x.knows) (ap is_close is) (kept v.kept-l.unrefused)

    close_aim : Aim (plain_by (Close size))
    unfolding close_came
    close_aim =
        ⊎_elim
        (λ h.
        let state : s.state ≡ 0 = v.is_p ∙ ap number h in
        subst (λ (b : Bool). Aim (given (pick b echoed (acknowledged (is_closed_by_us s.state))))) (sym (ap (λ (k : ℕ). is_active k) state)) (echo_waits_lem h))
        (λ h.
        let state : s.state ≡ 1 = v.is_p ∙ ap number h in
        subst (λ (b : Bool). Aim (given (pick b echoed (acknowledged (is_closed_by_us s.state))))) (sym (ap (λ (k : ℕ). is_active k) state))
        (subst (λ (b : Bool). Aim (given (acknowledged b))) (sym (ap (λ (k : ℕ). is_closed_by_us k) state)) (is_acknowledged h)))
        (open_phase v.p (has_close v.rl.got) lives v.rl.reader.heard (none_before l r v lives n e))

  -- ---- every event
  control_aim : (k : ControlKind) → f.op ≡ Control k → LoadFits s.settings (Control k) f.load → shown (control_event k size) m c ≡ f.load
      → Aim (plain_by (control_event k size))
  control_aim CloseFrame is fits payload = close_aim is fits payload
  control_aim PingFrame is fits payload = ping_aim is fits payload
  control_aim PongFrame is fits payload = pong_aim is fits

  op_aim : (op : OpCode) → f.op ≡ op → LoadFits s.settings op f.load → shown (event_of op size) m c ≡ f.load → Aim (plain_by (event_of op size))
  op_aim (Data d) is fits payload = data_aim d is fits payload
  op_aim (Control k) is fits payload = control_aim k is fits payload
  op_aim (Reserved k) is fits payload = absurd fits

  no_more : (op : OpCode) → LoadFits s.settings op f.load → is_more (event_of op size) ≡ false
  no_more (Data d) h = data_answers d size
  no_more (Control k) h = control_answers k size
  no_more (Reserved k) h = absurd h

  -- with or without the end flag
  told : (flag : Bool) → outcome s flag l.end.output (come_to l r v lives n) ≡ plain_by (event_of f.op size)
  told flag =
      let a : Answer = event_of f.op size in
      let d : Concluded = conclude a (with_incoming s e.left.incoming) c in
      ap (outcome s flag l.end.output) e.comes
      ∙ ap (λ (x : Answer). outcome s flag l.end.output (after (world e.left.incoming m c x) (length e.front))) e.leaves.event
      ∙ ap (λ (t : Turn). read t m d.control l.end.output)
      (flagged-answered flag d (length e.front) (conclude-more a (with_incoming s e.left.incoming) c ∙ no_more f.op (valid_f l r v lives n e).fits))

  pub event_aim : (flag : Bool) → Aim (outcome s flag l.end.output (come_to l r v lives n))
  event_aim flag = subst Aim (sym (told flag)) (op_aim f.op refl (valid_f l r v lives n e).fits e.leaves.payload)

  -- it is no refusal
  pub event_kind : (flag : Bool) → kind (outcome s flag l.end.output (come_to l r v lives n)).turn.answer ≡ 8 → ⊥
  event_kind flag h =
      let a : Answer = event_of f.op size in
      unrefused_kind s.settings f.op f.load (valid_f l r v lives n e).fits
      (sym (conclude-kind a (with_incoming s e.left.incoming) c) ∙ sym (ap (λ (u : Read). kind u.turn.answer) (told flag)) ∙ h)
