-- One read call on a piece, beside one on the piece with more bytes behind it.
use mathlib.Core.Path.{◌≡◌, refl, sym, ap, ap₂, subst, subst₂, ◌∙◌}
use mathlib.Core.Bool.{Bool, true, false}
use mathlib.Core.List.{List, ◌++◌}
use Prim.Native.Nat.{ℕ, ◌+◌, ◌<◌, ◌≤◌}
use native.Mathlib.Omega.{arith}
use lib.Dec.{eqb}
use lib.ListN.{length}
use borrow.Author.Tests.{eqb-true, eqb-false, eq-eqb}
use Rattle.base.specs.Table.{pick}
use Rattle.base.specs.Tests.{both, first_of}
use Rattle.base.proofs.Choice.{by_test}
use Rattle.session.specs.declared.Answer.{Answer}
use Rattle.session.specs.declared.Answer.TheVariants.{More, Text, Binary, Ping, Pong, Close, Closed, Refused}
use Rattle.session.specs.declared.Incoming.{Incoming}
use Rattle.session.specs.declared.Masks.{Masks}
use Rattle.session.specs.declared.Session.{Session}
use Rattle.session.specs.declared.Settings.{Settings}
use Rattle.session.specs.declared.Turn.{Turn}
use Rattle.session.specs.Calls.{Read, read, turn, read_tests, flagged, take_bytes, read_on, read_call}
use Rattle.session.specs.Reading.{World, world, At, after, settle, feed, is_more}
use Rattle.session.specs.Replies.{Out, out, move_reply, close_came, ping_came, Concluded, conclude}
use Rattle.session.specs.Session.{is_server, is_active, is_closed_by_us, is_peer_closed, is_terminated, with_state, with_incoming}
use Rattle.session.proofs.Choices.{both-none}
use Rattle.session.proofs.Fold.{is_more_lem, feed-append, feed-stopped, feed-cut}
use Rattle.steady.specs.Cutting.{is_event, is_final}
use Rattle.steady.specs.Shape.{Shaped}
use Rattle.steady.proofs.Again.{Moved, moved, Room, stores_room, room_stores}
use Rattle.steady.proofs.Feeding.{fed-sizes, feed-taken, feed-all, feed-moves, settle-still}
use Rattle.steady.proofs.Frames.{refusal_of, Fine, FineWorld}
use Rattle.steady.proofs.Headers.{Waits, never}
use Rattle.steady.proofs.InRangeStays.{fed, fed-fine}
use Rattle.steady.proofs.Moves.{by_move, move_range, move_shaped, conclude-range, conclude-number}
use Rattle.steady.proofs.Parts.{range_incoming}
use Rattle.steady.proofs.Passing.{Passed, read-passed, passed_read}

-- ---- what bytes lead to, as the call hands it on
abbrev pub outcome : Session → Bool → List ℕ → At → Read
outcome s end output x =
    let d : Concluded = conclude x.world.answer (with_incoming s x.world.incoming) x.world.control in
    read (flagged end d x.taken) x.world.message d.control output

-- with so many bytes taken before
abbrev pub later : ℕ → Read → Read
later n r = read (turn r.turn.answer (n + r.turn.taken) r.turn.session) r.message r.control r.output

-- ---- the flag
pub flagged-taken : (end : Bool) (d : Concluded) (n : ℕ) → (flagged end d n).taken ≡ n
unfolding flagged
flagged-taken end d n = by_test (both end (is_more d.answer)) (λ t. rw t) (λ t. rw t)

outcome_later : (s : Session) (end : Bool) (output : List ℕ) (w : World) (n k : ℕ)
    → outcome s end output (after w (n + k)) ≡ later n (outcome s end output (after w k))
unfolding flagged
outcome_later s end output w n k =
    let d : Concluded = conclude w.answer (with_incoming s w.incoming) w.control in
    by_test (both end (is_more d.answer)) (λ t. rw t) (λ t. rw t)

-- an answer other than more does not look at the flag
pub flagged-answered : (end : Bool) (d : Concluded) (n : ℕ) → is_more d.answer ≡ false → flagged end d n ≡ turn d.answer n d.session
unfolding flagged
flagged-answered end d n h = rw (h, both-none end)

flagged-off : (d : Concluded) (n : ℕ) → flagged false d n ≡ turn d.answer n d.session
unfolding flagged
flagged-off d n = refl

outcome_more : (s : Session) (output : List ℕ) (i : Incoming) (message control : List ℕ) (n : ℕ)
    → outcome s false output (after (world i message control More) n) ≡ read (turn More n (with_incoming s i)) message control output
unfolding flagged
outcome_more s output i message control n = refl

-- ---- an event's answer
close_more : (s : Session) (control : List ℕ) (n : ℕ) → is_more (close_came s control n).answer ≡ false
unfolding close_came
close_more s control n = by_test (is_active s.state) (λ t. rw t) (λ t. rw t)

pub conclude-more : (a : Answer) (s : Session) (control : List ℕ) → is_more (conclude a s control).answer ≡ is_more a
unfolding ping_came
conclude-more More s control = refl
conclude-more (Text n) s control = refl
conclude-more (Binary n) s control = refl
conclude-more (Ping n) s control = refl
conclude-more (Pong n) s control = refl
conclude-more (Close n) s control = close_more s control n
conclude-more Closed s control = refl
conclude-more (Refused k) s control = refl

-- what has come, the settings and what is held stay
abbrev pub Same : Session → Session → Type 0
Same s u = (u.settings ≡ s.settings) × (u.incoming ≡ s.incoming) × (u.held ≡ s.held)

close_same : (s : Session) (control : List ℕ) (n : ℕ) → Same s (close_came s control n).session
unfolding close_came
close_same s control n =
    by_test (is_active s.state) (λ t. rw t (refl, refl, refl))
    (λ t. by_test (is_closed_by_us s.state) (λ u. rw (t, u) (refl, refl, refl)) (λ u. rw (t, u) (refl, refl, refl)))

ping_same : (s : Session) (control : List ℕ) (n : ℕ) → Same s (ping_came s control n).session
unfolding ping_came
ping_same s control n = by_test (is_active s.state) (λ t. rw t (refl, refl, refl)) (λ t. rw t (refl, refl, refl))

pub conclude-same : (a : Answer) (s : Session) (control : List ℕ) → Same s (conclude a s control).session
conclude-same More s control = (refl, refl, refl)
conclude-same (Text n) s control = (refl, refl, refl)
conclude-same (Binary n) s control = (refl, refl, refl)
conclude-same (Ping n) s control = ping_same s control n
conclude-same (Pong n) s control = (refl, refl, refl)
conclude-same (Close n) s control = close_same s control n
conclude-same Closed s control = (refl, refl, refl)
conclude-same (Refused k) s control = (refl, refl, refl)

-- ---- the three ways of a call
module _ (s : Session) (masks : Masks) (message control output : List ℕ) where
  abbrev v : Out
  v = move_reply s masks.first output

  abbrev closes : Bool
  closes = both (is_server v.session.settings) (is_peer_closed v.session.state)

  -- it is refused by a test, it is closed, or it takes bytes: for every piece and flag alike
  pub data Way : Type 0 where
    refused : (n : ℕ) → first_of (read_tests s masks.first message control output) ≡ n → (n ≡ 0 → ⊥)
        → ((piece : List ℕ) (end : Bool) → read_call s piece end masks message control output ≡ read (turn (Refused n) 0 s) message control output) → Way
    closed : Passed s masks.first message control output → closes ≡ true
        → ((piece : List ℕ) (end : Bool)
        → read_call s piece end masks message control output ≡ read (turn Closed 0 (with_state v.session 4)) message control v.output) → Way
    taking : Passed s masks.first message control output → closes ≡ false
        → ((piece : List ℕ) (end : Bool)
        → read_call s piece end masks message control output ≡ outcome v.session end v.output (fed v.session piece message control)) → Way

  abbrev n : ℕ
  n = first_of (read_tests s masks.first message control output)

  pub way : Way
  unfolding read_call read_on take_bytes
  way =
      by_test (eqb n 0)
      (λ t.
      let passed : Passed s masks.first message control output = read-passed s masks.first message control output (eqb-true n 0 t) in
      by_test closes (λ u. closed passed u (λ piece end. rw (t, u))) (λ u. taking passed u (λ piece end. rw (t, u))))
      (λ t. refused n refl (eqb-false n 0 t) (λ piece end. rw t))

-- ---- how many bytes a call takes, and what an answer that is not final leaves
flagged-on : (end : Bool) (d : Concluded) (n : ℕ) → is_final (flagged end d n).answer ≡ false → flagged end d n ≡ turn d.answer n d.session
unfolding flagged
flagged-on end d n =
    by_test (both end (is_more d.answer)) (λ t. rw t (λ h. never (last (is_peer_closed d.session.state)) h)) (λ t. rw t (λ h. refl))
  where
    last : (p : Bool) → is_final (pick p Closed (Refused 16)) ≡ true
    last true = refl
    last false = refl

on_zero : (a : Answer) → is_final a ≡ false → refusal_of a ≡ 0
on_zero More h = refl
on_zero (Text n) h = refl
on_zero (Binary n) h = refl
on_zero (Ping n) h = refl
on_zero (Pong n) h = refl
on_zero (Close n) h = refl
on_zero Closed h = never refl h
on_zero (Refused k) h = never refl h

pub event_on : (a : Answer) → is_event a ≡ true → is_final a ≡ false
event_on More h = refl
event_on (Text n) h = refl
event_on (Binary n) h = refl
event_on (Ping n) h = refl
event_on (Pong n) h = refl
event_on (Close n) h = refl
event_on Closed h = sym h
event_on (Refused k) h = sym h

pub event_zero : (a : Answer) → is_event a ≡ true → (refusal_of a ≡ 0) × (is_more a ≡ false)
event_zero More h = never h refl
event_zero (Text n) h = (refl, refl)
event_zero (Binary n) h = (refl, refl)
event_zero (Ping n) h = (refl, refl)
event_zero (Pong n) h = (refl, refl)
event_zero (Close n) h = (refl, refl)
event_zero Closed h = never h refl
event_zero (Refused k) h = never h refl

module _ (s : Session) (masks : Masks) (message control output : List ℕ) (piece : List ℕ) (end : Bool) where
  abbrev u : Session
  u = (move_reply s masks.first output).session

  abbrev x : At
  x = fed u piece message control

  abbrev d : Concluded
  d = conclude x.world.answer (with_incoming u x.world.incoming) x.world.control

  abbrev call : Read
  call = read_call s piece end masks message control output

  pub call_taken : call.turn.taken ≤ length piece
  call_taken = go (way s masks message control output)
    where
      go : Way s masks message control output → call.turn.taken ≤ length piece
      go (refused n is owed e) = rw (e piece end) (omega arith)
      go (closed passed over e) = rw (e piece end) (omega arith)
      go (taking p c e) =
          rw (e piece end)
          (omega (arith, flagged-taken end d x.taken, feed-taken u.settings u.state (after (settle u.settings u.state (world u.incoming message control More)) 0) piece))

  module _ (h : is_final call.turn.answer ≡ false) where
    no_final : {r : Read} {A : Type 0} → call ≡ r → is_final r.turn.answer ≡ true → A
    no_final e f = never (ap (λ (r : Read). is_final r.turn.answer) e ∙ f) h

    -- an answer that is not final is that of the bytes, whatever the flag
    on_there : {output : List ℕ} → call ≡ outcome u end output x
        → (call.turn.session ≡ d.session) × (call.turn.taken ≡ x.taken) × (call.turn.answer ≡ d.answer)
    on_there e =
        let f : is_final (flagged end d x.taken).answer ≡ false = sym (ap (λ (r : Read). is_final r.turn.answer) e) ∙ h in
        let q : flagged end d x.taken ≡ turn d.answer x.taken d.session = flagged-on end d x.taken f in (
          ap (λ (r : Read). r.turn.session) e ∙ ap (λ (t : Turn). t.session) q,
          ap (λ (r : Read). r.turn.taken) e ∙ ap (λ (t : Turn). t.taken) q,
          ap (λ (r : Read). r.turn.answer) e ∙ ap (λ (t : Turn). t.answer) q,
        )

    -- the session waits for the next byte
    pub on_waits : Shaped s → Waits call.turn.session.settings call.turn.session.incoming
    on_waits sh = go (way s masks message control output)
      where
        go : Way s masks message control output → Waits call.turn.session.settings call.turn.session.incoming
        go (refused n is owed e) = no_final (e piece end) refl
        go (closed passed over e) = no_final (e piece end) refl
        go (taking p c e) =
            let f = on_there (e piece end) in
            let y : FineWorld u.settings x.world = fed-fine u piece message control (move_shaped s masks.first output sh) (move_range s masks.first output p.ranged) in
            let j : Session = with_incoming u x.world.incoming in
            let zero : refusal_of x.world.answer ≡ 0 =
            sym (conclude-number x.world.answer j x.world.control) ∙ on_zero d.answer (sym (ap is_final f.2) ∙ h) in
            let same = conclude-same x.world.answer j x.world.control in
            subst₂ (λ (g : Settings) (i : Incoming). Waits g i)
            (sym (ap (λ (t : Session). t.settings) f.0 ∙ same.0))
            (sym (ap (λ (t : Session). t.incoming) f.0 ∙ same.1))
            (y.waits zero)

  module _ (h : is_event call.turn.answer ≡ true) where
    pub event_waits : Shaped s → Waits call.turn.session.settings call.turn.session.incoming
    event_waits sh = on_waits (event_on call.turn.answer h) sh

    -- and an event that was not owed takes a byte
    pub event_takes : Waits s.settings s.incoming → 0 < call.turn.taken
    event_takes k = go (way s masks message control output)
      where
        final : is_final call.turn.answer ≡ false
        final = event_on call.turn.answer h

        go : Way s masks message control output → 0 < call.turn.taken
        go (refused n is owed e) = no_final final (e piece end) refl
        go (closed passed over e) = no_final final (e piece end) refl
        go (taking p c e) =
            let f = on_there final (e piece end) in
            let j : Session = with_incoming u x.world.incoming in
            let waits : Waits u.settings u.incoming = by_move (λ t. Waits t.settings t.incoming) s masks.first output (λ n. k) k in
            let still = settle-still u.settings u.state u.incoming message control waits in
            let answered : is_more x.world.answer ≡ false = sym (conclude-more x.world.answer j x.world.control) ∙ (event_zero d.answer (sym (ap is_event f.2) ∙ h)).1 in
            let start : World → At = λ w. feed u.settings u.state (after w 0) piece in
            let moves : 0 < x.taken =
            subst (λ (w : World). is_more (start w).world.answer ≡ false → 0 < (start w).taken) (sym still)
            (feed-moves u.settings u.state (after (world u.incoming message control More) 0) piece refl) answered in
            omega (arith, f.1)

-- ---- with the end flag no call answers more
flagged-ends : (d : Concluded) (n : ℕ) → is_more (flagged true d n).answer ≡ false
unfolding flagged
flagged-ends d n =
    by_test (is_more d.answer) (λ t. rw t (by_test (is_peer_closed d.session.state) (λ u. rw u) (λ u. rw u))) (λ t. rw t t)

pub ended-answers : (s : Session) (masks : Masks) (message control output piece : List ℕ)
    → is_more (read_call s piece true masks message control output).turn.answer ≡ false
ended-answers s masks message control output piece = go (way s masks message control output)
  where
    go : Way s masks message control output → is_more (read_call s piece true masks message control output).turn.answer ≡ false
    go (refused n is owed e) = ap (λ (r : Read). is_more r.turn.answer) (e piece true)
    go (closed passed over e) = ap (λ (r : Read). is_more r.turn.answer) (e piece true)
    go (taking p c e) = ap (λ (r : Read). is_more r.turn.answer) (e piece true) ∙ flagged-ends _ _

-- ---- the same call with more bytes behind the piece
module _ (s : Session) (masks : Masks) (message control output : List ℕ) (xs ys : List ℕ) (end : Bool) where
  abbrev short : Read
  short = read_call s xs false masks message control output

  abbrev long : Read
  long = read_call s (xs ++ ys) end masks message control output

  -- an answer other than more does not look at them
  pub early : is_more short.turn.answer ≡ false → long ≡ short
  early h = go (way s masks message control output)
    where
      go : Way s masks message control output → long ≡ short
      go (refused n is owed e) = e (xs ++ ys) end ∙ sym (e xs false)
      go (closed passed over e) = e (xs ++ ys) end ∙ sym (e xs false)
      go (taking p c e) =
          let v : Out = move_reply s masks.first output in
          let u : Session = v.session in
          let x : At = fed u xs message control in
          let j : Session = with_incoming u x.world.incoming in
          let d : Concluded = conclude x.world.answer j x.world.control in
          let f : is_more d.answer ≡ false =
          sym (ap (λ (r : Read). is_more r.turn.answer) (e xs false) ∙ ap (λ (t : Turn). is_more t.answer) (flagged-off d x.taken)) ∙ h in
          let same : fed u (xs ++ ys) message control ≡ x =
          feed-append u.settings u.state _ xs ys
          ∙ feed-stopped u.settings u.state x ys (sym (conclude-more x.world.answer j x.world.control) ∙ f) in
          e (xs ++ ys) end
          ∙ ap (outcome u end v.output) same
          ∙ ap (λ (t : Turn). read t x.world.message d.control v.output)
          (flagged-answered end d x.taken f ∙ sym (flagged-off d x.taken))
          ∙ sym (e xs false)

-- ---- a call that passes the tests, whose reply stays where it is
on_taking : (s : Session) (masks : Masks) (message control output piece : List ℕ) (end : Bool) → Passed s masks.first message control output
    → move_reply s masks.first output ≡ out s output → both (is_server s.settings) (is_peer_closed s.state) ≡ false
    → read_call s piece end masks message control output ≡ outcome s end output (fed s piece message control)
unfolding read_call read_on take_bytes
on_taking s masks message control output piece end p m c =
    let n : ℕ = first_of (read_tests s masks.first message control output) in
    rw (eq-eqb n 0 (passed_read s masks.first message control output p), m, c)

-- ---- a call that led to more, and then the next
module _ (s : Session) (masks : Masks) (message control output : List ℕ) (four : length masks.first ≡ 4) (sh : Shaped s)
    (p : Passed s masks.first message control output) (xs : List ℕ) where
  abbrev moving : Out
  moving = move_reply s masks.first output

  abbrev ready : Session
  ready = moving.session

  abbrev stop : At
  stop = fed ready xs message control

  abbrev onward : Session
  onward = with_incoming ready stop.world.incoming

  room : Room s.settings.message s.held message control output
  room = stores_room s message control output p.stores

  has_moved : Moved s output moving
  has_moved = moved s masks.first output four room.for_held p.fits-close

  module _ (more : stop.world.answer ≡ More) where
    fine_stop : Fine ready.settings stop.world.incoming More
    fine_stop =
        subst (λ (a : Answer). Fine ready.settings stop.world.incoming a) more
        (fed-fine ready xs message control (move_shaped s masks.first output sh) (move_range s masks.first output p.ranged))

    -- the next call's tests pass
    next-passed : (other : List ℕ) → length other ≡ 4 → Passed onward other stop.world.message stop.world.control moving.output
    next-passed other d =
        let z : onward.refusal ≡ 0 = has_moved.refusal ∙ p.unrefused in
        let sizes = fed-sizes ready.settings ready.state (world ready.incoming message control More) xs in
        record {
          ranged =
              conclude-range onward stop.world.control z More
              (range_incoming ready stop.world.incoming More (move_range s masks.first output p.ranged) fine_stop) tt;
          stores =
              room_stores onward stop.world.message stop.world.control moving.output
              (record {
                for_message = omega (arith, room.for_message, sizes.message, ap (λ (g : Settings). g.message) has_moved.settings);
                for_control = omega (arith, room.for_control, sizes.control);
                for_output = omega (arith, room.for_output, has_moved.size);
                for_held = omega (arith, has_moved.room, has_moved.size);
              });
          goes_on = ap is_terminated has_moved.state ∙ p.goes_on;
          unrefused = z;
          fits-close = has_moved.no_late_close stop.world.incoming other d;
        }

    -- all of the piece was taken
    all_taken : stop.taken ≡ length xs
    all_taken =
        let start : World = settle ready.settings ready.state (world ready.incoming message control More) in
        omega (arith, feed-all ready.settings ready.state (after start 0) xs (ap is_more more))

    settled : settle ready.settings ready.state (world stop.world.incoming stop.world.message stop.world.control More) ≡ stop.world
    settled =
        settle-still ready.settings ready.state stop.world.incoming stop.world.message stop.world.control (fine_stop.waits refl)
        ∙ ap (world stop.world.incoming stop.world.message stop.world.control) (sym more)

    -- it goes on where the first stopped
    next-fed : (ys : List ℕ) → fed ready (xs ++ ys) message control
        ≡ after (fed onward ys stop.world.message stop.world.control).world (length xs + (fed onward ys stop.world.message stop.world.control).taken)
    next-fed ys =
        let start : World = settle ready.settings ready.state (world ready.incoming message control More) in
        let on : World → At = λ w. feed ready.settings ready.state (after w 0) ys in
        feed-cut ready.settings ready.state start stop.world stop.taken xs ys refl
        ∙ ap₂ (λ (w : World) (n : ℕ). after (on w).world (n + (on w).taken)) (sym settled) all_taken

    next-call : (ys : List ℕ) (end : Bool) (others : Masks) → length others.first ≡ 4 → both (is_server ready.settings) (is_peer_closed ready.state) ≡ false
        → outcome ready end moving.output (fed ready (xs ++ ys) message control)
        ≡ later (length xs) (read_call onward ys end others stop.world.message stop.world.control moving.output)
    next-call ys end others d c =
        let i : Incoming = stop.world.incoming in
        let y : At = fed onward ys stop.world.message stop.world.control in
        ap (outcome ready end moving.output) (next-fed ys)
        ∙ outcome_later ready end moving.output y.world (length xs) y.taken
        ∙ ap (later (length xs))
        (sym
        (on_taking onward others stop.world.message stop.world.control moving.output ys end (next-passed others.first d) (has_moved.once i others.first d)
        c))

    first_call : outcome ready false moving.output stop ≡ read (turn More (length xs) onward) stop.world.message stop.world.control moving.output
    first_call =
        ap₂ (λ (a : Answer) (n : ℕ). outcome ready false moving.output (after (world stop.world.incoming stop.world.message stop.world.control a) n)) more all_taken
        ∙ outcome_more ready moving.output stop.world.incoming stop.world.message stop.world.control (length xs)

-- the long call is the next call of the short one
pub record Late (short long : Read) (xs ys : List ℕ) (end : Bool) (others : Masks) : Type 0 where
  pub taken : short.turn.taken ≡ length xs
  pub same : long ≡ later (length xs) (read_call short.turn.session ys end others short.message short.control short.output)

module _ (s : Session) (masks : Masks) (message control output : List ℕ) (xs ys : List ℕ) (end : Bool) where
  pub late : length masks.first ≡ 4 → Shaped s → is_more (read_call s xs false masks message control output).turn.answer ≡ true
      → (others : Masks) → length others.first ≡ 4
      → Late (read_call s xs false masks message control output) (read_call s (xs ++ ys) end masks message control output) xs ys end others
  late four sh h others d = go (way s masks message control output)
    where
      short : Read
      short = read_call s xs false masks message control output

      long : Read
      long = read_call s (xs ++ ys) end masks message control output

      u : Session
      u = (move_reply s masks.first output).session

      go : Way s masks message control output → Late short long xs ys end others
      go (refused n is owed e) = never h (ap (λ (r : Read). is_more r.turn.answer) (e xs false))
      go (closed passed over e) = never h (ap (λ (r : Read). is_more r.turn.answer) (e xs false))
      go (taking p c e) =
          let x : At = fed u xs message control in
          let j : Session = with_incoming u x.world.incoming in
          let k : Concluded = conclude x.world.answer j x.world.control in
          let f : is_more k.answer ≡ true =
          sym (ap (λ (r : Read). is_more r.turn.answer) (e xs false) ∙ ap (λ (t : Turn). is_more t.answer) (flagged-off k x.taken)) ∙ h in
          let more : x.world.answer ≡ More = is_more_lem x.world.answer (sym (conclude-more x.world.answer j x.world.control) ∙ f) in
          let first = e xs false ∙ first_call s masks message control output four sh p xs more in
          record {
            taken = ap (λ (r : Read). r.turn.taken) first;
            same =
                subst (λ (r : Read). long ≡ later (length xs) (read_call r.turn.session ys end others r.message r.control r.output)) (sym first)
                (e (xs ++ ys) end ∙ next-call s masks message control output four sh p xs more ys end others d c);
          }
