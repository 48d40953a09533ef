-- Reading what the other end put out: a frame from its first byte to its last, in pieces that are cut anywhere.
use mathlib.Core.Path.{◌≡◌, refl, sym, ap, ap₂, subst, ◌∙◌}
use mathlib.Core.Bool.{Bool, true, false, not}
use mathlib.Core.List.{List, [], ◌∷◌, ◌++◌, append_assoc, append-nil}
use Prim.Native.Nat.{ℕ, ◌+◌, ◌<◌, ◌≤◌}
use native.Mathlib.Omega.{arith}
use lib.Dec.{eqb, ltb}
use lib.ListN.{length, length-append}
use borrow.Author.Tests.{ltb-true, ltb-false}
use Rattle.base.specs.Stores.{laid}
use Rattle.base.specs.Tests.{both}
use Rattle.base.proofs.Choice.{by_test}
use Rattle.coding.specs.declared.opcode.Control.{Control as ControlKind}
use Rattle.coding.specs.declared.opcode.Control.TheVariants.{Close, Ping, Pong}
use Rattle.coding.specs.declared.opcode.Data.{Data as DataKind}
use Rattle.coding.specs.declared.opcode.Data.TheVariants.{Continue, Text, Binary}
use Rattle.coding.specs.declared.opcode.OpCode.{OpCode}
use Rattle.coding.specs.declared.opcode.OpCode.TheVariants.{Data, Control, Reserved}
use Rattle.frame.specs.declared.header.FrameHeader.{FrameHeader}
use Rattle.frame.specs.Header.{header_bytes}
use Rattle.session.specs.declared.Answer.{Answer}
use Rattle.session.specs.declared.Answer.TheVariants.{More}
use Rattle.session.specs.declared.Incoming.{Incoming}
use Rattle.session.specs.declared.Settings.{Settings}
use Rattle.session.specs.Answers.{shown}
use Rattle.session.specs.Frames.{frame, doom_tests, doom, verdict}
use Rattle.session.specs.Reading.{World, world, At, after, keep, between as between_frames, control_event, stored, finish, rest, settle, byte_in, is_more, step, feed}
use Rattle.session.specs.Replies.{frame_header, encoded}
use Rattle.session.specs.Session.{is_server, is_client, is_peer_closed}
use Rattle.session.proofs.Choices.{both-none}
use Rattle.session.proofs.Fold.{is_more_lem, feed-append, feed-stopped, feed-cut}
use Rattle.steady.proofs.Again.{either-not}
use Rattle.steady.proofs.Feeding.{feed-taken, feed-all}
use Rattle.steady.proofs.Headers.{never}
use Rattle.message.proofs.Runs.{open_world}
use Rattle.link.proofs.CallBack.{data_admitted, control_admitted, header-admitted, data_number_lem, control_number_lem, data_answers, control_answers}
use Rattle.link.proofs.FrameBack.{data_event, begun_all, data_back, control_back, front_laid}
use Rattle.link.proofs.Frames.{Frame, bytes_of, wires, LoadFits, Valid, AllValid}
use Rattle.link.proofs.HeaderBack.{keep_all, header-kept, Between}
use Rattle.link.proofs.Overlap.{overlap, no_first, no_second}

-- ---- the state is looked at for 6 alone: where the peer has not closed, reading is the same in every state
module _ (g : Settings) (state : ℕ) (open' : is_peer_closed state ≡ false) where
  doom-tests_open : (f : FrameHeader) (i : Incoming) → doom_tests g state f i ≡ doom_tests g 0 f i
  unfolding doom_tests
  doom-tests_open f i = let e = either-not (eqb state 2) (eqb state 3) open' in rw (e.0, e.1)

  stored-open : (w : World) (vs : List ℕ) → stored g state w vs ≡ stored g 0 w vs
  unfolding stored doom
  stored-open w vs = rw (doom-tests_open (frame w.incoming) w.incoming)

  finish-open : (w : World) → finish g state w ≡ finish g 0 w
  unfolding finish verdict
  finish-open w = rw (doom-tests_open (frame w.incoming) w.incoming)

  rest-open : (w : World) → rest g state w ≡ rest g 0 w
  unfolding rest
  rest-open w = rw (finish-open w)

  settle-open : (w : World) → settle g state w ≡ settle g 0 w
  unfolding settle
  settle-open w = rw (rest-open w)

  byte_open : (w : World) (b : ℕ) → byte_in g state w b ≡ byte_in g 0 w b
  unfolding byte_in
  byte_open w b =
      rw (stored-open w (b ∷ []), rest-open (stored g 0 w (b ∷ [])), settle-open (world (keep w.incoming b) w.message w.control w.answer))

  pub feed-open : (x : At) (vs : List ℕ) → feed g state x vs ≡ feed g 0 x vs
  unfolding feed step
  feed-open x [] = refl
  feed-open x (b ∷ vs) = rw (byte_open x.world b) (feed-open (step g 0 x b) vs)

-- ---- a whole frame
abbrev pub event_of : OpCode → ℕ → Answer
event_of (Data d) n = data_event d n
event_of (Control k) n = control_event k n
event_of (Reserved k) n = More

-- what it leads to: its event, with its payload as that event's part, between two frames and with no message begun
pub record Leaves (op : OpCode) (p : List ℕ) (left : World) : Type 0 where
  pub between : Between left.incoming
  pub new : left.incoming.begun ≡ false
  pub event : left.answer ≡ event_of op (length p)
  pub answers : is_more left.answer ≡ false
  pub payload : shown (event_of op (length p)) left.message left.control ≡ p

record WholeRead (g : Settings) (op : OpCode) (p bytes : List ℕ) (i : Incoming) (m c : List ℕ) : Type 0 where
  left : World
  leaves : Leaves op p left
  fed : feed g 0 (after (world i m c More) 0) bytes ≡ after left (length bytes)

data_shown : (d : DataKind) (m c p : List ℕ) → length p ≤ length m → shown (data_event d (length p)) (laid m 0 p) c ≡ p
data_shown Continue m c p h = front_laid m p h
data_shown Text m c p h = front_laid m p h
data_shown Binary m c p h = front_laid m p h

control_shown : (k : ControlKind) (m c p : List ℕ) → length p ≤ length c → shown (control_event k (length p)) m (laid c 0 p) ≡ p
control_shown Close m c p h = front_laid c p h
control_shown Ping m c p h = front_laid c p h
control_shown Pong m c p h = front_laid c p h

-- the roles of the two ends, and the limit of the reading one
pub record Toward (client : Bool) (g : Settings) : Type 0 where
  pub to_server : is_server g ≡ client
  pub to_client : is_client g ≡ not client
  pub limit : g.frame ≤ 16777216

module _ (g : Settings) (client : Bool) (toward : Toward client g) (i : Incoming) (between : Between i) (new : i.begun ≡ false) (m c : List ℕ)
    (room_m : g.message ≤ length m) (room_c : 125 ≤ length c) (mask : List ℕ) (four : length mask ≡ 4) (p : List ℕ) (short : length p ≤ g.frame) where
  open_now : both (is_client g) (is_peer_closed 0) ≡ false
  open_now = both-none (is_client g)

  few : length p < 18446744073709551616
  few = omega (arith, toward.limit)

  read-data : (d : DataKind) → LoadFits g (Data d) p → WholeRead g (Data d) p (encoded client (Data d) mask p) i m c
  read-data d h =
      let f : FrameHeader = frame_header client (Data d) (length p) in
      let come : Incoming = keep_all i (header_bytes f mask) in
      record {
        left = world (between_frames come false false 0 0) (laid m 0 p) c (data_event d (length p));
        leaves =
            record {
              between = record { header-size = header-kept i (header_bytes f mask) ∙ between.header-size; none_kept = refl; none_counted = refl };
              new = refl;
              event = refl;
              answers = data_answers d (length p);
              payload = data_shown d m c p (omega (arith, h.1));
            };
        fed =
            data_back g 0 client (Data d) mask four p i between m c (data_number_lem d) few d refl h.0 new
            (data_admitted g 0 client (length p) toward.to_server toward.to_client open_now d come h.0
            (begun_all i (header_bytes f mask) ∙ new) h.1)
            h.2
            (header-admitted g 0 client (length p) toward.to_server toward.to_client open_now (Data d) refl short);
      }

  read-control : (k : ControlKind) → LoadFits g (Control k) p → WholeRead g (Control k) p (encoded client (Control k) mask p) i m c
  read-control k h =
      let f : FrameHeader = frame_header client (Control k) (length p) in
      let come : Incoming = keep_all i (header_bytes f mask) in
      record {
        left = world (between_frames come come.begun come.text come.fragments come.progress) m (laid c 0 p) (control_event k (length p));
        leaves =
            record {
              between = record { header-size = header-kept i (header_bytes f mask) ∙ between.header-size; none_kept = refl; none_counted = refl };
              new = begun_all i (header_bytes f mask) ∙ new;
              event = refl;
              answers = control_answers k (length p);
              payload = control_shown k m c p (omega (arith, h.0));
            };
        fed =
            control_back g 0 client (Control k) mask four p i between m c (control_number_lem k) few k refl
            (control_admitted g 0 client (length p) toward.to_server toward.to_client open_now k come h.0 (λ t. (h.1 t).0))
            (omega (arith, h.0)) (λ t. (h.1 t).1)
            (header-admitted g 0 client (length p) toward.to_server toward.to_client open_now (Control k) refl short);
      }

  read-op : (op : OpCode) → LoadFits g op p → WholeRead g op p (encoded client op mask p) i m c
  read-op (Data d) h = read-data d h
  read-op (Control k) h = read-control k h
  read-op (Reserved n) h = absurd h

-- ---- in the middle of a frame: where it began, and what its bytes so far have led to. What the message store holds of an unfinished
-- message is said here alone
pub record Spot (g : Settings) (part : List ℕ) (i : Incoming) (m c : List ℕ) : Type 0 where
  pub first : World
  pub between : Between first.incoming
  pub new : first.incoming.begun ≡ false
  pub room_m : g.message ≤ length first.message
  pub room_c : 125 ≤ length first.control
  pub fed : feed g 0 (after (world first.incoming first.message first.control More) 0) part ≡ after (world i m c More) (length part)

-- between two frames
pub spot_between : (g : Settings) (i : Incoming) (m c : List ℕ) → Between i → i.begun ≡ false → g.message ≤ length m → 125 ≤ length c → Spot g [] i m c
unfolding feed
spot_between g i m c b n hm hc = record { first = world i m c More; between = b; new = n; room_m = hm; room_c = hc; fed = refl }

-- ---- what a piece leads to
-- it is used up inside a frame
pub record Within (g : Settings) (part piece : List ℕ) (x : At) : Type 0 where
  pub incoming : Incoming
  pub message : List ℕ
  pub control : List ℕ
  pub comes : x ≡ after (world incoming message control More) (length piece)
  pub spot : Spot g (part ++ piece) incoming message control

-- or the first frame that is not read yet ends in it
pub record Ends (client : Bool) (part piece more : List ℕ) (rest' : List Frame) (x : At) : Type 0 where
  pub frame : Frame
  pub frames : List Frame
  pub is : rest' ≡ frame ∷ frames
  pub front : List ℕ
  pub back : List ℕ
  pub split : piece ≡ front ++ back
  pub whole : part ++ front ≡ bytes_of client frame
  pub on : back ++ more ≡ wires client frames
  pub left : World
  pub leaves : Leaves frame.op frame.load left
  pub comes : x ≡ after left (length front)

pub data Came (g : Settings) (client : Bool) (part piece more : List ℕ) (rest' : List Frame) (x : At) : Type 0 where
  within : Within g part piece x → Came g client part piece more rest' x
  ends : Ends client part piece more rest' x → Came g client part piece more rest' x

module _ (g : Settings) (client : Bool) (toward : Toward client g) (part : List ℕ) (i : Incoming) (m c : List ℕ) (spot : Spot g part i m c) where
  abbrev first : At
  first = after (world spot.first.incoming spot.first.message spot.first.control More) 0

  abbrev here : At
  here = after (world i m c More) 0

  -- what the first bytes of the frame led to goes on as if it had come in one piece
  on : (bs : List ℕ) → feed g 0 first (part ++ bs) ≡ after (feed g 0 here bs).world (length part + (feed g 0 here bs).taken)
  on bs = feed-cut g 0 (world spot.first.incoming spot.first.message spot.first.control More) (world i m c More) (length part) part bs spot.fed

  module _ (f : Frame) (valid : Valid g f) where
    abbrev all : List ℕ
    all = bytes_of client f

    read : WholeRead g f.op f.load all spot.first.incoming spot.first.message spot.first.control
    read =
        read-op g client toward spot.first.incoming spot.between spot.new spot.first.message spot.first.control spot.room_m spot.room_c f.mask
        valid.four f.load valid.short f.op valid.fits

    -- less than the frame gives no answer
    less : (bs cs : List ℕ) → bs ++ cs ≡ all → length bs < length all → is_more (feed g 0 first bs).world.answer ≡ true
    less bs cs e h =
        by_test (is_more (feed g 0 first bs).world.answer) (λ t. t)
        (λ t.
        let stops : feed g 0 first bs ≡ after read.left (length all) =
        sym (feed-stopped g 0 (feed g 0 first bs) cs t) ∙ sym (feed-append g 0 first bs cs) ∙ ap (feed g 0 first) e ∙ read.fed in
        absurd (omega (arith, ap (λ (x : At). x.taken) stops, (feed-taken g 0 first bs).1)))

    -- so what has come of it is less
    part-less : (b d : List ℕ) → part ++ b ≡ all ++ d → length part < length all
    part-less b d e =
        by_test (ltb (length part) (length all)) (ltb-true (length part) (length all))
        (λ t.
        let o = overlap all d part b (sym e) (ltb-false (length part) (length all) t) in
        let stops : feed g 0 first part ≡ after read.left (length all) =
        ap (feed g 0 first) (sym o.front)
        ∙ feed-append g 0 first all o.middle
        ∙ ap (λ (x : At). feed g 0 x o.middle) read.fed
        ∙ feed-stopped g 0 (after read.left (length all)) o.middle read.leaves.answers in
        never (sym (ap (λ (x : At). is_more x.world.answer) (sym spot.fed ∙ stops))) read.leaves.answers)

    module _ (fs : List Frame) (piece more : List ℕ) (flow : part ++ (piece ++ more) ≡ all ++ wires client fs) where
      abbrev joined : At
      joined = feed g 0 first (part ++ piece)

      abbrev now : At
      now = feed g 0 here piece

      sum : length (part ++ piece) ≡ length part + length piece
      sum = length-append part piece

      inside : length part + length piece < length all → Within g part piece now
      inside h =
          let o = overlap (part ++ piece) more all (wires client fs) (append_assoc part piece more ∙ flow) (omega (arith, sum)) in
          let open' : is_more joined.world.answer ≡ true = less (part ++ piece) o.middle o.front (omega (arith, sum)) in
          let none : now.world.answer ≡ More = is_more_lem now.world.answer (sym (ap (λ (x : At). is_more x.world.answer) (on piece)) ∙ open') in
          let same : world now.world.incoming now.world.message now.world.control More ≡ now.world = open_world g 0 now.world none in
          let count : now.taken ≡ length piece =
          omega (arith, ap (λ (x : At). x.taken) (on piece), feed-all g 0 first (part ++ piece) open', sum) in
          record {
            incoming = now.world.incoming;
            message = now.world.message;
            control = now.world.control;
            comes = ap₂ (λ (w : World) (n : ℕ). after w n) (sym same) count;
            spot =
                record {
                  first = spot.first;
                  between = spot.between;
                  new = spot.new;
                  room_m = spot.room_m;
                  room_c = spot.room_c;
                  fed = on piece ∙ ap₂ (λ (w : World) (n : ℕ). after w n) (sym same) (ap (λ (n : ℕ). length part + n) count ∙ sym sum);
                };
          }

      -- the frame's last bytes are the piece's first
      at_end : (front back : List ℕ) → part ++ front ≡ all → front ++ back ≡ piece → wires client fs ≡ back ++ more
          → Ends client part piece more (f ∷ fs) now
      at_end front back e d b =
          let left : after (feed g 0 here front).world (length part + (feed g 0 here front).taken) ≡ after read.left (length all) =
          sym (on front) ∙ ap (feed g 0 first) e ∙ read.fed in
          let count : (feed g 0 here front).taken ≡ length front =
          omega (arith, ap (λ (x : At). x.taken) left, ap length e, length-append part front) in
          let stops : feed g 0 here front ≡ after read.left (length front) =
          ap₂ (λ (w : World) (n : ℕ). after w n) (ap (λ (x : At). x.world) left) count in
          record {
            frame = f;
            frames = fs;
            is = refl;
            front = front;
            back = back;
            split = sym d;
            whole = e;
            on = sym b;
            left = read.left;
            leaves = read.leaves;
            comes =
                ap (feed g 0 here) (sym d)
                ∙ feed-append g 0 here front back
                ∙ ap (λ (x : At). feed g 0 x back) stops
                ∙ feed-stopped g 0 (after read.left (length front)) back read.leaves.answers;
          }

      through : length all ≤ length part + length piece → Ends client part piece more (f ∷ fs) now
      through h =
          let o = overlap part (piece ++ more) all (wires client fs) flow (omega (arith, part-less (piece ++ more) (wires client fs) flow)) in
          let long : length all ≡ length part + length o.middle = ap length (sym o.front) ∙ length-append part o.middle in
          let p = overlap o.middle (wires client fs) piece more (sym o.back) (omega arith) in
          at_end o.middle p.middle o.front p.front p.back

      came_frame : Came g client part piece more (f ∷ fs) now
      came_frame =
          by_test (ltb (length part + length piece) (length all))
          (λ t. within (inside (ltb-true (length part + length piece) (length all) t)))
          (λ t. ends (through (ltb-false (length part + length piece) (length all) t)))

  -- where all that was put out and not read before has come, and nothing of it is whole, there is nothing of it
  pub spot_whole : (rest' : List Frame) → AllValid g rest' → part ≡ wires client rest' → rest' ≡ []
  unfolding wires
  spot_whole [] v e = refl
  spot_whole (f ∷ fs) v e =
      absurd
      (omega (
        arith,
        part-less f v.0 [] (wires client fs) (append-nil part ∙ e),
        ap length e,
        length-append (bytes_of client f) (wires client fs),
      ))

  -- ---- a piece of what was put out, in a session that waits for it
  module _ (piece more : List ℕ) where
    -- nothing is there
    pub came_none : part ++ (piece ++ more) ≡ [] → (state : ℕ) → Within g part piece (feed g state here piece)
    unfolding feed
    came_none e state =
        let none : piece ≡ [] = no_first piece more (no_second part (piece ++ more) e) in
        record {
          incoming = i;
          message = m;
          control = c;
          comes = ap (feed g state here) none ∙ ap (λ (l : List ℕ). after (world i m c More) (length l)) (sym none);
          spot = subst (λ (l : List ℕ). Spot g l i m c) (sym (append-nil part) ∙ ap (λ (l : List ℕ). part ++ l) (sym none)) spot;
        }

    pub came : (rest' : List Frame) → AllValid g rest' → part ++ (piece ++ more) ≡ wires client rest' → Came g client part piece more rest' (feed g 0 here piece)
    unfolding wires
    came [] v e = within (came_none e 0)
    came (f ∷ fs) v e = came_frame f v.0 fs piece more e
