-- A read call keeps the invariant, once its waiting reply has moved: it takes a piece inside a frame, gives the event of a frame that ends, or
-- ends the session.
use mathlib.Core.Path.{◌≡◌, refl, sym, ap, ap₂, subst, ◌∙◌}
use mathlib.Core.Bool.{Bool, true, false}
use mathlib.Core.List.{List, [], ◌∷◌, ◌++◌, append_assoc, append-nil, nil≢cons}
use Prim.Native.Nat.{ℕ, ◌≤◌}
use lib.Dec.{eqb}
use lib.ListN.{length, take, drop, take-append-drop, drop_of_length-le}
use lib.Seq.{drop-append_seam}
use borrow.Author.Tests.{eqb-true}
use Rattle.base.specs.Table.{pick}
use Rattle.base.specs.Tests.{both, either}
use Rattle.base.proofs.Choice.{by_test}
use Rattle.session.specs.Calls.{Read, read, turn}
use Rattle.session.specs.declared.Answer.{Answer}
use Rattle.session.specs.declared.Answer.TheVariants.{More, Closed, Refused}
use Rattle.session.specs.declared.Incoming.{Incoming}
use Rattle.session.specs.declared.Reply.{Reply}
use Rattle.session.specs.declared.Session.{Session}
use Rattle.session.specs.declared.Settings.{Settings}
use Rattle.session.specs.declared.Waiting.{Waiting}
use Rattle.session.specs.declared.Waiting.TheVariants.{Nothing as NoReply, Pong as PongReply, Close as CloseReply}
use Rattle.session.specs.Reading.{World, world, At, after, feed}
use Rattle.session.specs.Replies.{is_close_reply}
use Rattle.session.specs.Session.{is_server, is_client, is_peer_closed}
use Rattle.session.proofs.Choices.{both-parts, either-all}
use Rattle.steady.proofs.Feeding.{settle-still}
use Rattle.steady.proofs.Headers.{Waits, never}
use Rattle.steady.proofs.Frames.{FineWorld}
use Rattle.steady.proofs.InRangeStays.{fed, fed-fine}
use Rattle.link.specs.System.{Item, End, Side, ended, counted, is_closed, reader, read_from}
use Rattle.link.proofs.Direction.{Phase, active, closed_by_us, closed_by_peer, acked, over, number, is_over, over_number, Link, Heard, load_of, Sound, Knows, knows_on, all_on, Kept, held_of, Reader, Dir, Fin, Inv}
use Rattle.link.proofs.FrameRead.{spot_between, Within, Ends, Came, within, spot_whole, came, came_none, feed-open}
use Rattle.link.proofs.Frames.{Frame, wires, nothing, items_of, told, told_on, one_told, Valid, AllValid, valid_front, valid_behind, closes, has_close, one_close, close_append, CloseLast, close_ends}

-- ---- small facts
pub said_still : (b : Bool) → either b false ≡ true → b ≡ true
said_still true e = refl
said_still false e = e

pub said_before : (b c : Bool) → c ≡ false → either b c ≡ true → b ≡ true
said_before b c e h = said_still b (ap (either b) (sym e) ∙ h)

pub heard_closed : (p : Phase) (c : Bool) → is_peer_closed (number p) ≡ true → Heard p c → c ≡ true
heard_closed active c z h = never z refl
heard_closed closed_by_us c z h = never z refl
heard_closed closed_by_peer c z h = h
heard_closed acked c z h = h
heard_closed over c z h = never z refl

pub heard_open : (p : Phase) (c : Bool) → is_over p ≡ false → is_peer_closed (number p) ≡ false → Heard p c → c ≡ false
heard_open active c o z h = h
heard_open closed_by_us c o z h = h
heard_open closed_by_peer c o z h = never refl z
heard_open acked c o z h = never refl z
heard_open over c o z h = never refl o

-- an end that has got a close, and whose own does not wait, has put it out
pub link_closed : (p : Phase) (w : Waiting) (c : Bool) → is_peer_closed (number p) ≡ true → is_close_reply w ≡ false → Link p w c → c ≡ true
link_closed active w c z k h = never z refl
link_closed closed_by_us w c z k h = never z refl
link_closed closed_by_peer NoReply c z k h = h
link_closed closed_by_peer PongReply c z k h = absurd h
link_closed closed_by_peer CloseReply c z k h = never refl k
link_closed acked NoReply c z k h = h
link_closed acked PongReply c z k h = absurd h
link_closed acked CloseReply c z k h = never refl k
link_closed over w c z k h = never z refl

-- a pipe that ends and was not cut is that of an end that is over and holds nothing
pub other_over : (r : Side) (q : Phase) → r.end.session.state ≡ number q → ended r ≡ true → r.pipe.cut ≡ false → (is_over q ≡ true) × (held_of r.end ≡ [])
unfolding ended
other_over r q is h whole =
    let b =
    both-parts (eqb r.end.session.state 4) (eqb r.end.session.held 0)
    (sym (ap (λ (t : Bool). either t (both (eqb r.end.session.state 4) (eqb r.end.session.held 0))) whole) ∙ h) in
    (over_number q ∙ ap (λ (k : ℕ). eqb k 4) (sym is) ∙ b.0, ap (λ (k : ℕ). take k r.end.output) (eqb-true r.end.session.held 0 b.1))

-- the session at another state, with another reply, and with more come
abbrev pub at : Session → ℕ → Incoming → Reply → Session
at s state i q = record { settings = s.settings; state = state; refusal = s.refusal; incoming = i; reply = q; held = s.held }

-- a session that waits for a byte reads on from where it stands
pub fed-here : (s : Session) (piece m c : List ℕ) → Waits s.settings s.incoming
    → fed s piece m c ≡ feed s.settings s.state (after (world s.incoming m c More) 0) piece
fed-here s piece m c waits =
    ap (λ (w : World). feed s.settings s.state (after w 0) piece) (settle-still s.settings s.state s.incoming m c waits)

-- the end that a read call leaves
abbrev pub end_of : Read → End
end_of u = record { session = u.turn.session; message = u.message; control = u.control; output = u.output }

-- ---- a step of the reading side: what it has got, what it has of the next frame, and what it answers
module _ (l r : Side) (v : Inv l r) where
  abbrev s : Session
  s = l.end.session

  abbrev g : Settings
  g = s.settings

  abbrev d : Dir r l v.q v.p
  d = v.rl

  abbrev pub answered : ℕ → Incoming → Reply → List ℕ → List ℕ → Answer → ℕ → Read
  answered state i q m c a k = read (turn a k (at s state i q)) m c l.end.output

  module _ (p : Phase) (state : ℕ) (is : state ≡ number p) (i : Incoming) (q : Reply) (m c : List ℕ) (a : Answer) (front behind : List ℕ)
      (bytes : r.pipe.bytes ≡ front ++ behind) (got rest : List Frame) (part : List ℕ) (split : got ++ rest ≡ d.frames)
      (flow : part ++ (behind ++ (d.lost ++ held_of r.end)) ≡ wires (is_client r.end.session.settings) rest) where
    abbrev items : List Item
    items = counted a m c

    abbrev said : Bool
    said = either l.answers.said (is_closed a)

    abbrev left : Side
    left = reader l (answered state i q m c a (length front))

    abbrev right : Side
    right = read_from r (length front)

    step-inv : Link p q.waiting (has_close v.lr.frames) → Sound q.waiting (load_of q) → (is_server g ≡ true → said ≡ true → has_close v.lr.frames ≡ true)
        → (is_server g ≡ true → is_over p ≡ true → is_close_reply q.waiting ≡ false) → Knows q.waiting (l.answers.handed ++ items) (load_of q)
        → Reader g got part i m c p (l.answers.handed ++ items) said
        → Kept (record { session = at s state i q; message = m; control = c; output = l.end.output })
        → Fin left right p v.q → Fin right left v.q p → Inv left right
    unfolding reader read_from
    step-inv link sound shut late knows told-reader kept fin_l fin_r =
        let x = v.lr.sender in
        record {
          p = p;
          q = v.q;
          is_p = is;
          is_q = v.is_q;
          kept-l = kept;
          kept-r = v.kept-r;
          lr =
              record {
                frames = v.lr.frames;
                got = v.lr.got;
                rest = v.lr.rest;
                part = v.lr.part;
                lost = v.lr.lost;
                split = v.lr.split;
                toward = v.lr.toward;
                wire = v.lr.wire;
                sender =
                    record {
                      valid = x.valid;
                      last = x.last;
                      link = link;
                      sound = sound;
                      accepts = x.accepts;
                      asks = x.asks;
                      shut = shut;
                      late = late;
                      knows = knows;
                      pongs = all_on l.answers.handed items v.lr.frames x.pongs;
                    };
                reader = v.lr.reader;
              };
          rl =
              record {
                frames = d.frames;
                got = got;
                rest = rest;
                part = part;
                lost = d.lost;
                split = split;
                toward = d.toward;
                wire =
                    record {
                      flow =
                          ap (λ (b : List ℕ). part ++ (b ++ (d.lost ++ held_of r.end))) (ap (drop (length front)) bytes ∙ drop-append_seam front behind) ∙ flow;
                      whole = d.wire.whole;
                      given = d.wire.given;
                    };
                sender = d.sender;
                reader = told-reader;
              };
          fin_l = fin_l;
          fin_r = fin_r;
        }

    -- of an end that lives on
    live_l : is_over p ≡ false → Fin left right p v.q
    live_l o = record { ends = λ a b e. never e o }

    live_r : is_over v.p ≡ false → Fin right left v.q p
    unfolding reader read_from
    live_r lives =
        record { ends = λ b a e. let f = v.fin_r.ends b a e in (f.0, λ h. never (f.1 h) lives) }

    live_inv : Link p q.waiting (has_close v.lr.frames) → Sound q.waiting (load_of q) → is_closed a ≡ false
        → Knows q.waiting (l.answers.handed ++ items) (load_of q) → Reader g got part i m c p (l.answers.handed ++ items) said
        → Kept (record { session = at s state i q; message = m; control = c; output = l.end.output }) → is_over p ≡ false → is_over v.p ≡ false → Inv left right
    live_inv link sound open' knows told-reader kept lives' lives =
        step-inv link sound (λ h b. v.lr.sender.shut h (said_before l.answers.said (is_closed a) open' b)) (λ h o. never o lives') knows told-reader kept
        (live_l lives') (live_r lives)

  -- ---- the piece that is offered
  module _ (lives : is_over v.p ≡ false) (n : ℕ) where
    abbrev client : Bool
    client = is_client r.end.session.settings

    abbrev pub piece : List ℕ
    piece = take n r.pipe.bytes

    abbrev pub behind-piece : List ℕ
    behind-piece = drop n r.pipe.bytes

    abbrev pub more : List ℕ
    more = behind-piece ++ (d.lost ++ held_of r.end)

    whole_flow : d.part ++ (piece ++ more) ≡ wires client d.rest
    whole_flow =
        ap (λ (b : List ℕ). d.part ++ b)
        (sym (append_assoc piece behind-piece (d.lost ++ held_of r.end)) ∙ ap (λ (b : List ℕ). b ++ (d.lost ++ held_of r.end)) (take-append-drop n r.pipe.bytes))
        ∙ d.wire.flow

    valid_rest : AllValid g d.rest
    valid_rest = valid_behind g d.got d.rest (subst (AllValid g) (sym d.split) d.sender.valid)

    none_left : has_close d.got ≡ true → d.rest ≡ []
    none_left h = close_ends d.got d.rest (subst CloseLast (sym d.split) d.sender.last) h

    abbrev pub come_to : At
    come_to = fed s piece l.end.message l.end.control

    -- behind a close there is nothing; else the piece is of what was put out
    abbrev pub Comes : Type 0
    Comes = Came g client d.part piece more d.rest come_to

    pub come : Comes
    unfolding wires
    come =
        let here = fed-here s piece l.end.message l.end.control d.reader.waits in
        by_test (is_peer_closed s.state)
        (λ t.
        let got : has_close d.got ≡ true =
        heard_closed v.p (has_close d.got) (ap (λ (k : ℕ). is_peer_closed k) (sym v.is_p) ∙ t) d.reader.heard in
        within
        (subst (Within g d.part piece) (sym here)
        (came_none g client d.toward d.part s.incoming l.end.message l.end.control d.reader.spot piece more
        (whole_flow ∙ ap (wires client) (none_left got)) s.state)))
        (λ t.
        subst (Came g client d.part piece more d.rest)
        (sym (here ∙ feed-open g s.state t (after (world s.incoming l.end.message l.end.control More) 0) piece))
        (came g client d.toward d.part s.incoming l.end.message l.end.control d.reader.spot piece more d.rest valid_rest whole_flow))

    -- what has come waits for the next byte
    pub fine : FineWorld g come_to.world
    fine = fed-fine s piece l.end.message l.end.control v.kept-l.shaped v.kept-l.ranged

    -- ---- a server that has its close out and has got one
    abbrev pub closed_read : Read
    closed_read = answered 4 s.incoming s.reply l.end.message l.end.control Closed 0

    pub closed_inv : is_server g ≡ true → is_peer_closed s.state ≡ true → is_close_reply s.reply.waiting ≡ false → Kept (end_of closed_read)
        → Inv (reader l closed_read) (read_from r 0)
    unfolding reader read_from
    closed_inv server peer moved kept =
        let x = v.lr.sender in
        let peer' : is_peer_closed (number v.p) ≡ true = ap (λ (k : ℕ). is_peer_closed k) (sym v.is_p) ∙ peer in
        step-inv over 4 refl s.incoming s.reply l.end.message l.end.control Closed [] r.pipe.bytes refl d.got d.rest d.part d.split
        d.wire.flow tt x.sound (λ h b. link_closed v.p s.reply.waiting (has_close v.lr.frames) peer' moved x.link) (λ h o. moved)
        (knows_on s.reply.waiting l.answers.handed [] (load_of s.reply) x.knows)
        (record {
          spot = d.reader.spot;
          waits = d.reader.waits;
          hands = append-nil l.answers.handed ∙ d.reader.hands;
          heard = tt;
          says = λ b. heard_closed v.p (has_close d.got) peer' d.reader.heard;
        })
        kept (record { ends = λ a b o. (either-all l.answers.said, λ h. never server h) })
        (record { ends = λ b a o. ((v.fin_r.ends b a o).0, λ h. refl) })

    -- ---- more: all of the piece is taken, inside a frame
    module _ (w : Within g d.part piece come_to) where
      waits-on : Waits g w.incoming
      waits-on = (subst (λ (x : At). FineWorld g x.world) w.comes fine).waits refl

      reader-on : (p : Phase) (said : Bool) → Heard p (has_close d.got) → (said ≡ true → has_close d.got ≡ true)
          → Reader g d.got (d.part ++ piece) w.incoming w.message w.control p (l.answers.handed ++ []) said
      reader-on p said heard says =
          record { spot = w.spot; waits = waits-on; hands = append-nil l.answers.handed ∙ d.reader.hands; heard = heard; says = says }

      abbrev pub more_read : Read
      more_read = answered s.state w.incoming s.reply w.message w.control More (length piece)

      pub more_inv : Kept (end_of more_read) → Inv (reader l more_read) (read_from r (length piece))
      more_inv kept =
          let x = v.lr.sender in
          live_inv v.p s.state v.is_p w.incoming s.reply w.message w.control More piece behind-piece (sym (take-append-drop n r.pipe.bytes))
          d.got d.rest (d.part ++ piece) d.split (append_assoc d.part piece more ∙ whole_flow) x.link x.sound refl
          (knows_on s.reply.waiting l.answers.handed [] (load_of s.reply) x.knows)
          (reader-on v.p _ d.reader.heard (λ e. d.reader.says (said_still l.answers.said e)))
          kept lives lives

      -- ---- the pipe's end, inside no event
      abbrev peer_closed : Bool
      peer_closed = is_peer_closed s.state

      abbrev pub last_answer : Answer
      last_answer = pick peer_closed Closed (Refused 16)

      abbrev pub end_read : Read
      end_read = answered 4 w.incoming s.reply w.message w.control last_answer (length piece)

      module _ (at_end : ended r ≡ true) (all : length r.pipe.bytes ≤ n) (not-server : both (is_server g) peer_closed ≡ false)
          (close_moved : is_server g ≡ true → is_close_reply s.reply.waiting ≡ false) where
        -- where nothing was cut, the other end is over, and so it was a server that said closed behind its own close, and all of that was got
        rest-got : r.pipe.cut ≡ false → held_of r.end ≡ [] → d.rest ≡ []
        rest-got whole none =
            spot_whole g client d.toward (d.part ++ piece) w.incoming w.message w.control w.spot d.rest valid_rest
            (sym (append-nil (d.part ++ piece))
            ∙ append_assoc d.part piece []
            ∙ ap (λ (b : List ℕ). d.part ++ (piece ++ b)) (sym nothing_more)
            ∙ whole_flow)
          where
            nothing_more : more ≡ []
            nothing_more =
                ap₂ (λ (x y : List ℕ). x ++ (y ++ held_of r.end)) (drop_of_length-le r.pipe.bytes all) (d.wire.whole whole) ∙ none

        closes_well : l.pipe.cut ≡ false → r.pipe.cut ≡ false → (peer_closed ≡ true) × (is_over v.q ≡ true)
        closes_well whole-l whole-r =
            let over' = other_over r v.q v.is_q at_end whole-r in
            let f = v.fin_r.ends whole-r whole-l over'.0 in
            let server : is_server r.end.session.settings ≡ true =
            by_test (is_server r.end.session.settings) (λ t. t) (λ t. never (f.1 t) lives) in
            let all_in : d.got ≡ d.frames =
            sym (append-nil d.got) ∙ ap (λ (b : List Frame). d.got ++ b) (sym (rest-got whole-r over'.1)) ∙ d.split in
            let got : has_close d.got ≡ true = ap (λ (b : List Frame). has_close b) all_in ∙ d.sender.shut server f.0 in (
              by_test peer_closed (λ t. t)
                  (λ t.
                  never got (heard_open v.p (has_close d.got) lives (ap (λ (k : ℕ). is_peer_closed k) (sym v.is_p) ∙ t) d.reader.heard)),
              over'.0,
            )

        pub end_inv : Kept (end_of end_read) → Inv (reader l end_read) (read_from r (length piece))
        unfolding reader read_from
        end_inv kept =
            let x = v.lr.sender in
            step-inv over 4 refl w.incoming s.reply w.message w.control last_answer piece behind-piece (sym (take-append-drop n r.pipe.bytes)) d.got
            d.rest (d.part ++ piece) d.split (append_assoc d.part piece more ∙ whole_flow) tt x.sound
            (λ h b. x.shut h (said_before l.answers.said (is_closed last_answer) (ap is_closed (open_answer h)) b))
            (λ h o. close_moved h)
            (subst (λ (i : List Item). Knows s.reply.waiting (l.answers.handed ++ i) (load_of s.reply)) (sym (none_shown peer_closed))
            (knows_on s.reply.waiting l.answers.handed [] (load_of s.reply) x.knows))
            (subst (λ (i : List Item). Reader g d.got (d.part ++ piece) w.incoming w.message w.control over (l.answers.handed ++ i) (either l.answers.said (is_closed last_answer)))
            (sym (none_shown peer_closed))
            (reader-on over (either l.answers.said (is_closed last_answer)) tt (says_end peer_closed refl)))
            kept
            (record {
              ends = λ a b o.
                  let c = closes_well a b in
                  (ap (λ (t : Bool). either l.answers.said (is_closed (pick t Closed (Refused 16)))) c.0 ∙ either-all l.answers.said, λ h. c.1);
            })
            (record { ends = λ b a o. ((v.fin_r.ends b a o).0, λ h. refl) })
          where
            none_shown : (t : Bool) → counted (pick t Closed (Refused 16)) w.message w.control ≡ []
            none_shown true = refl
            none_shown false = refl

            open_answer : is_server g ≡ true → last_answer ≡ Refused 16
            open_answer h = ap (λ (t : Bool). pick t Closed (Refused 16)) (sym (ap (λ (t : Bool). both t peer_closed) h) ∙ not-server)

            says_end : (t : Bool) → peer_closed ≡ t → either l.answers.said (is_closed (pick t Closed (Refused 16))) ≡ true → has_close d.got ≡ true
            says_end true e b = heard_closed v.p (has_close d.got) (ap (λ (k : ℕ). is_peer_closed k) (sym v.is_p) ∙ e) d.reader.heard
            says_end false e b = d.reader.says (said_still l.answers.said b)

        -- 16 is given only where something was cut
        pub end_cut : last_answer ≡ Refused 16 → either l.pipe.cut r.pipe.cut ≡ true
        end_cut h =
            by_test l.pipe.cut (λ t. ap (λ (b : Bool). either b r.pipe.cut) t)
            (λ t.
            by_test r.pipe.cut (λ k. ap (either l.pipe.cut) k ∙ either-all l.pipe.cut)
            (λ k. never refl (ap is_closed (ap (λ (b : Bool). pick b Closed (Refused 16)) (sym (closes_well t k).0) ∙ h))))

    -- ---- an event: the first frame that was not read is read
    module _ (e : Ends client d.part piece more d.rest come_to) where
      abbrev f : Frame
      f = e.frame

      abbrev got_now : List Frame
      got_now = d.got ++ (f ∷ [])

      pub valid_f : Valid g f
      valid_f = (subst (AllValid g) e.is valid_rest).0

      valid_got : AllValid g d.got
      valid_got = valid_front g d.got d.rest (subst (AllValid g) (sym d.split) d.sender.valid)

      -- no close came before it
      pub none_before : has_close d.got ≡ false
      none_before =
          by_test (has_close d.got) (λ t. absurd (nil≢cons (sym (none_left t) ∙ e.is))) (λ t. t)

      close_now : has_close got_now ≡ closes f
      close_now = close_append d.got (f ∷ []) ∙ ap (λ (b : Bool). either b (has_close (f ∷ []))) none_before ∙ one_close f

      split_now : got_now ++ e.frames ≡ d.frames
      split_now = append_assoc d.got (f ∷ []) e.frames ∙ ap (λ (b : List Frame). d.got ++ b) (sym e.is) ∙ d.split

      behind-now : List ℕ
      behind-now = e.back ++ behind-piece

      bytes_now : r.pipe.bytes ≡ e.front ++ behind-now
      unfolding behind-now
      bytes_now =
          sym (take-append-drop n r.pipe.bytes) ∙ ap (λ (b : List ℕ). b ++ behind-piece) e.split ∙ append_assoc e.front e.back behind-piece

      flow_now : behind-now ++ (d.lost ++ held_of r.end) ≡ wires client e.frames
      unfolding behind-now
      flow_now = append_assoc e.back behind-piece (d.lost ++ held_of r.end) ∙ e.on

      module _ (p : Phase) (state : ℕ) (is : state ≡ number p) (q : Reply) (c : List ℕ) (a : Answer) where
        abbrev pub event_read : Read
        event_read = answered state e.left.incoming q e.left.message c a (length e.front)

        pub event_inv : is_over p ≡ false → is_closed a ≡ false → counted a e.left.message c ≡ items_of nothing true f.op f.load
            → Waits g e.left.incoming → Link p q.waiting (has_close v.lr.frames) → Sound q.waiting (load_of q)
            → Knows q.waiting (l.answers.handed ++ counted a e.left.message c) (load_of q) → Heard p (closes f) → Kept (end_of event_read)
            → Inv (reader l event_read) (read_from r (length e.front))
        event_inv lives' open' shows waits link sound knows heard kept =
            live_inv p state is e.left.incoming q e.left.message c a e.front behind-now bytes_now got_now e.frames [] split_now flow_now link sound open' knows
            (record {
              spot = spot_between g e.left.incoming e.left.message c e.leaves.between e.leaves.new kept.room.for_message kept.room.for_control;
              waits = waits;
              hands =
                  ap₂ (λ (x y : List Item). x ++ y) d.reader.hands shows ∙ sym (told_on g d.got (f ∷ []) valid_got ∙ ap (λ (i : List Item). told nothing d.got ++ i) (one_told f valid_f.whole));
              heard = subst (Heard p) (sym close_now) heard;
              says = λ b. never (d.reader.says (said_before l.answers.said (is_closed a) open' b)) none_before;
            })
            kept lives' lives
