-- The last sentence of demand 3: where no read would change anything, both ends have answered closed.
use mathlib.Core.Path.{◌≡◌, refl, sym, ap, ap₂, subst, ◌∙◌}
use mathlib.Core.Bool.{Bool, true, false, not}
use mathlib.Core.List.{List, [], ◌++◌, append-nil}
use Prim.Native.Nat.{ℕ, ◌+◌, ◌-◌, ◌≤◌, ◌<◌}
use native.Mathlib.Omega.{arith}
use lib.Dec.{eqb}
use lib.ListN.{length, take}
use borrow.Author.Tests.{eq-eqb, le-leb}
use Rattle.base.specs.Table.{pick}
use Rattle.base.specs.Tests.{both, either, first_of}
use Rattle.base.proofs.Choice.{by_test}
use Rattle.session.specs.Calls.{Read, read, turn, flagged, read_tests, take_bytes, read_on, read_call}
use Rattle.session.specs.declared.Answer.TheVariants.{More, Closed}
use Rattle.session.specs.declared.Session.{Session}
use Rattle.session.specs.declared.Waiting.{Waiting}
use Rattle.session.specs.declared.Waiting.TheVariants.{Nothing as NoReply, Pong as PongReply, Close as CloseReply}
use Rattle.session.specs.Range.{waits}
use Rattle.session.specs.Reading.{world, At, after, feed, is_more}
use Rattle.session.specs.Replies.{fits, is_close_reply, reply_code, reply_frame, Out, out, appended, move_reply}
use Rattle.session.specs.Session.{is_server, is_client, is_peer_closed, is_terminated, with_state}
use Rattle.session.proofs.Choices.{both-none}
use Rattle.steady.proofs.Again.{length-encoded}
use Rattle.steady.proofs.Feeding.{feed-all, feed-moves}
use Rattle.steady.proofs.Headers.{never}
use Rattle.steady.proofs.InRangeStays.{fed}
use Rattle.steady.proofs.OneCall.{outcome, flagged-taken}
use Rattle.steady.proofs.Parts.{in_range_lem}
use Rattle.steady.proofs.Sizes.{Short, reply_small, close_fits, read_held}
use Rattle.link.specs.Demand.{Still, AtRest}
use Rattle.link.specs.System.{End, Side, Keys, four, masks, ended, offered}
use Rattle.link.proofs.Direction.{Phase, number, is_over, over_number, load_of, held_of, Dir, Inv, inv_swap}
use Rattle.link.proofs.FrameBack.{no_bytes}
use Rattle.link.proofs.FrameRead.{spot_whole}
use Rattle.link.proofs.Frames.{Frame, wires, AllValid, valid_behind, has_close}
use Rattle.link.proofs.HeaderBack.{size_least}
use Rattle.link.proofs.ReadAct.{tests}
use Rattle.link.proofs.ReadSteps.{heard_open, link_closed, fed-here}

-- ---- an end that lives, holds no output, and that a read of all that is there leaves as it is
zero_keys : Keys
zero_keys = record { first = record { a = 0; b = 0; c = 0; d = 0 }; second = record { a = 0; b = 0; c = 0; d = 0 } }

none_waits_lem : (w : Waiting) → waits w ≡ false → is_close_reply w ≡ false
none_waits_lem NoReply h = refl
none_waits_lem PongReply h = refl
none_waits_lem CloseReply h = never refl h

module _ (l r : Side) (v : Inv l r) (lives : is_over v.p ≡ false) (none : l.end.session.held ≡ 0) (still : Still l r) where
  abbrev e : End
  e = l.end

  abbrev s : Session
  s = e.session

  abbrev k : Keys
  k = zero_keys

  abbrev there : List ℕ
  there = r.pipe.bytes

  abbrev call : Read
  call = offered e there (ended r) k

  abbrev moved : Out
  moved = move_reply s (four k.first) e.output

  short : Short s
  short = (in_range_lem s v.kept-l.ranged).reply_short

  room : s.held + 131 ≤ length e.output
  room = omega (arith, v.kept-l.room.for_output)

  alive : is_terminated s.state ≡ false
  alive = ap (λ (n : ℕ). eqb n 4) v.is_p ∙ sym (over_number v.p) ∙ lives

  -- no number is owed
  clear : first_of (read_tests s (four k.first) e.message e.control e.output) ≡ 0
  clear =
      tests e k v.kept-l
      ∙ ap₂ (λ (a b : Bool). pick a 2 (pick b 19 0)) alive (close_fits s (four k.first) e.output refl short room)

  -- so a waiting reply would have moved
  reply_fits : waits s.reply.waiting ≡ true → fits s.held e.output (reply_frame s (four k.first)) ≡ true
  unfolding fits
  reply_fits h =
      le-leb (length (reply_frame s (four k.first))) (length e.output - s.held)
      (omega (arith, reply_small s (four k.first) refl (short h)))

  reply_long : 0 < length (reply_frame s (four k.first))
  unfolding reply_frame
  reply_long =
      omega (
        arith,
        length-encoded (is_client s.settings) (reply_code s.reply.waiting) (four k.first) (load_of s.reply) refl,
        size_least (is_client s.settings) (length (load_of s.reply)),
      )

  held_moved : waits s.reply.waiting ≡ true → moved.session.held ≡ s.held + length (reply_frame s (four k.first))
  unfolding move_reply appended
  held_moved h = rw (h, reply_fits h)

  pub no_reply_lem : waits s.reply.waiting ≡ false
  no_reply_lem =
      by_test (waits s.reply.waiting)
      (λ t.
      absurd
      (omega (
        arith,
        reply_long,
        held_moved t,
        read_held s there (ended r) (masks k) e.message e.control e.output clear,
        ap (λ (x : Session). x.held) (still.session k),
      )))
      (λ t. t)

  stays : moved ≡ out s e.output
  unfolding move_reply
  stays = rw no_reply_lem

  -- what the call comes to
  call_on : call ≡ read_on moved.session there (ended r) e.message e.control moved.output
  unfolding read_call
  call_on = rw (eq-eqb (first_of (read_tests s (four k.first) e.message e.control e.output)) 0 clear)

  call_is : call ≡ read_on s there (ended r) e.message e.control e.output
  call_is = call_on ∙ ap (λ (x : Out). read_on x.session there (ended r) e.message e.control x.output) stays

  not_four : s.state ≡ 4 → ⊥
  not_four h = never (ap (λ (n : ℕ). eqb n 4) h) alive

  -- it is no server that is to answer closed
  pub open_server : is_server s.settings ≡ true → is_peer_closed s.state ≡ false
  unfolding read_on
  open_server h =
      by_test (is_peer_closed s.state)
      (λ t.
      absurd
      (not_four
      (sym (ap (λ (x : Session). x.state) (still.session k))
      ∙ ap (λ (u : Read). u.turn.session.state) call_is
      ∙ ap₂
      (λ (a b : Bool).
      (pick (both a b) (read (turn Closed 0 (with_state s 4)) e.message e.control e.output) (take_bytes s there (ended r) e.message e.control e.output)).turn.session.state)
      h t)))
      (λ t. t)

  goes_on : both (is_server s.settings) (is_peer_closed s.state) ≡ false
  goes_on =
      by_test (is_server s.settings) (λ t. ap (both (is_server s.settings)) (open_server t) ∙ both-none (is_server s.settings))
      (λ t. ap (λ (b : Bool). both b (is_peer_closed s.state)) t)

  call_takes : call ≡ outcome s (ended r) e.output (fed s there e.message e.control)
  unfolding read_on take_bytes
  call_takes =
      call_is
      ∙ ap (λ (b : Bool). pick b (read (turn Closed 0 (with_state s 4)) e.message e.control e.output) (take_bytes s there (ended r) e.message e.control e.output)) goes_on

  reads_on : fed s there e.message e.control ≡ feed s.settings s.state (after (world s.incoming e.message e.control More) 0) there
  reads_on = fed-here s there e.message e.control v.rl.reader.waits

  -- it has read all that is there
  pub all_read : there ≡ []
  all_read =
      let start : At = after (world s.incoming e.message e.control More) 0 in
      let x : At = feed s.settings s.state start there in
      let count : x.taken ≡ 0 =
      sym (ap (λ (u : Read). u.turn.taken) call_takes ∙ flagged-taken (ended r) _ _ ∙ ap (λ (y : At). y.taken) reads_on) ∙ still.taken k in
      by_test (is_more x.world.answer) (λ t. no_bytes there (omega (arith, feed-all s.settings s.state start there t)))
      (λ t. absurd (omega (arith, feed-moves s.settings s.state start there refl t)))

  -- and its pipe does not end there
  pub not_ended : ended r ≡ false
  unfolding flagged feed
  not_ended =
      by_test (ended r)
      (λ t.
      absurd
      (not_four
      (sym (ap (λ (x : Session). x.state) (still.session k))
      ∙ ap (λ (u : Read). u.turn.session.state) call_takes
      ∙ ap (λ (x : At). (outcome s (ended r) e.output x).turn.session.state)
      (reads_on ∙ ap (feed s.settings s.state (after (world s.incoming e.message e.control More) 0)) all_read)
      ∙ ap (λ (b : Bool). (outcome s b e.output (after (world s.incoming e.message e.control More) 0)).turn.session.state) t)))
      (λ t. t)

-- ---- all that x put out was got, where nothing is on the way
got_all : (x y : Side) (p q : Phase) (d : Dir x y p q) → x.pipe.cut ≡ false → x.pipe.bytes ≡ [] → x.end.session.held ≡ 0 → d.got ≡ d.frames
got_all x y p q d whole empty none =
    let client : Bool = is_client x.end.session.settings in
    let held : held_of x.end ≡ [] = ap (λ (n : ℕ). take n x.end.output) none in
    let flow : d.part ≡ wires client d.rest =
    sym (append-nil d.part)
    ∙ ap (λ (b : List ℕ). d.part ++ b)
    (sym (ap₂ (λ (b c : List ℕ). b ++ (c ++ held_of x.end)) empty (d.wire.whole whole) ∙ held))
    ∙ d.wire.flow in
    let rest : d.rest ≡ [] =
    spot_whole y.end.session.settings client d.toward d.part y.end.session.incoming y.end.message y.end.control d.reader.spot d.rest
    (valid_behind y.end.session.settings d.got d.rest (subst (AllValid y.end.session.settings) (sym d.split) d.sender.valid)) flow in
    sym (append-nil d.got) ∙ ap (λ (f : List Frame). d.got ++ f) (sym rest) ∙ d.split

-- ---- c a client and d a server, at rest
module _ (c d : Side) (v : Inv c d) (client : is_server c.end.session.settings ≡ false) (server : is_server d.end.session.settings ≡ true)
    (rest : AtRest (record { left = c; right = d })) where
  abbrev w : Inv d c
  w = inv_swap c d v

  peer : (p : Phase) (n : ℕ) → n ≡ number p → is_peer_closed n ≡ is_peer_closed (number p)
  peer p n e = ap (λ (k : ℕ). is_peer_closed k) e

  -- where a client that lives has got a close, its own is out
  answered : is_over v.p ≡ false → has_close v.rl.got ≡ true → has_close v.lr.frames ≡ true
  answered o h =
      let closed : is_peer_closed (number v.p) ≡ true =
      by_test (is_peer_closed (number v.p)) (λ t. t) (λ t. never h (heard_open v.p (has_close v.rl.got) o t v.rl.reader.heard)) in
      link_closed v.p c.end.session.reply.waiting (has_close v.lr.frames) closed
      (none_waits_lem c.end.session.reply.waiting (no_reply_lem c d v o rest.all_left rest.still_left)) v.lr.sender.link

  -- a server that lives would have got the client's close
  got_close : is_over v.q ≡ false → has_close v.lr.got ≡ true
  got_close o =
      let got : v.lr.got ≡ v.lr.frames =
      got_all c d v.p v.q v.lr rest.whole_left (all_read d c w o rest.all_right rest.still_right) rest.all_left in
      ap (λ (f : List Frame). has_close f) got ∙ by_test c.answers.asked v.lr.sender.asks other
    where
      other : c.answers.asked ≡ false → has_close v.lr.frames ≡ true
      other a =
          by_test (is_over v.p) (λ t. never ((v.fin_l.ends rest.whole_left rest.whole_right t).1 client) o)
          (λ t.
          let back : v.rl.got ≡ v.rl.frames =
          got_all d c v.q v.p v.rl rest.whole_right (all_read c d v t rest.all_left rest.still_left) rest.all_right in
          answered t
          (ap (λ (f : List Frame). has_close f) back
          ∙ v.rl.sender.asks (sym (ap (λ (b : Bool). either b d.answers.asked) a) ∙ rest.asked)))

  over_server : is_over v.q ≡ true
  over_server =
      by_test (is_over v.q) (λ t. t)
      (λ t.
      never (got_close t)
      (heard_open v.q (has_close v.lr.got) t
      (sym (peer v.q d.end.session.state v.is_q) ∙ open_server d c w t rest.all_right rest.still_right server) v.lr.reader.heard))

  server_ended : ended d ≡ true
  unfolding ended
  server_ended =
      let four' : is_terminated d.end.session.state ≡ true = ap (λ (n : ℕ). eqb n 4) v.is_q ∙ sym (over_number v.q) ∙ over_server in
      rw (rest.whole_right, four', rest.all_right)

  said_server : d.answers.said ≡ true
  said_server = (v.fin_r.ends rest.whole_right rest.whole_left over_server).0

  said_client : c.answers.said ≡ true
  said_client =
      by_test (is_over v.p) (λ t. (v.fin_l.ends rest.whole_left rest.whole_right t).0)
      (λ t. never server_ended (not_ended c d v t rest.all_left rest.still_left))

-- ---- whichever of the two is the server
either-swap : (a b : Bool) → either a b ≡ true → either b a ≡ true
either-swap a true h = refl
either-swap true false h = refl
either-swap false false h = h

rest-swap : (l r : Side) → AtRest (record { left = l; right = r }) → AtRest (record { left = r; right = l })
rest-swap l r x =
    record {
      asked = either-swap l.answers.asked r.answers.asked x.asked;
      whole_left = x.whole_right;
      whole_right = x.whole_left;
      all_left = x.all_right;
      all_right = x.all_left;
      still_left = x.still_right;
      still_right = x.still_left;
    }

-- the other of a server is none, and the other of a client is one
roles : (l r : Side) (v : Inv l r) → is_server l.end.session.settings ≡ not (is_server r.end.session.settings)
roles l r v = v.rl.toward.to_server ∙ v.lr.toward.to_client ∙ ap not (sym v.lr.toward.to_server)

pub both-said : (l r : Side) → Inv l r → AtRest (record { left = l; right = r }) → (l.answers.said ≡ true) × (r.answers.said ≡ true)
both-said l r v rest =
    by_test (is_server r.end.session.settings)
    (λ t. let c = roles l r v ∙ ap not t in (said_client l r v c t rest, said_server l r v c t rest))
    (λ t.
    let s = roles l r v ∙ ap not t in
    let other = rest-swap l r rest in
    (said_server r l (inv_swap l r v) t s other, said_client r l (inv_swap l r v) t s other))
