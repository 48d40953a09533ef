-- A read call of one end, offered the next bytes of the other's pipe, keeps the invariant, and by which numbers it can be refused.
use mathlib.Core.Path.{◌≡◌, refl, sym, ap, ap₂, subst, ◌∙◌}
use mathlib.Core.Bool.{Bool, true, false, not}
use mathlib.Core.List.{List, [], ◌++◌, append-nil}
use mathlib.Core.Logic.{◌⊎◌, inl, inr, ⊎_elim}
use Prim.Native.Nat.{ℕ, ◌≤◌}
use native.Mathlib.Omega.{arith}
use lib.Dec.{eqb, leb}
use lib.ListN.{length, take}
use borrow.Author.Tests.{leb-true, ne_eqb}
use Rattle.base.specs.Table.{pick}
use Rattle.base.specs.Tests.{both, either, first_of}
use Rattle.base.proofs.Choice.{by_test}
use Rattle.session.specs.Answers.{kind, value}
use Rattle.session.specs.Calls.{Read, read, turn, flagged, read_tests, read_call}
use Rattle.session.specs.declared.Answer.{Answer}
use Rattle.session.specs.declared.Answer.TheVariants.{More, Closed, Refused}
use Rattle.session.specs.declared.Session.{Session}
use Rattle.session.specs.declared.Settings.{Settings}
use Rattle.session.specs.declared.Waiting.{Waiting}
use Rattle.session.specs.declared.Waiting.TheVariants.{Nothing as NoReply, Pong as PongReply, Close as CloseReply}
use Rattle.session.specs.Range.{waits}
use Rattle.session.specs.Replies.{fits, is_close_reply, reply_frame, no_reply, Out, appended, move_reply}
use Rattle.session.specs.Session.{is_server, is_peer_closed, is_terminated, with_state}
use Rattle.session.proofs.Choices.{both-parts}
use Rattle.steady.proofs.Again.{room_stores}
use Rattle.steady.proofs.Headers.{never}
use Rattle.steady.proofs.InRangeStays.{fed, range_stays_read, shape_stays_read}
use Rattle.steady.proofs.Moves.{move_settings, move_state}
use Rattle.steady.proofs.OneCall.{Way, way, refused, closed, taking, outcome}
use Rattle.steady.proofs.Passing.{late_close}
use Rattle.steady.proofs.Sizes.{read-room, read-settings}
use Rattle.link.specs.Demand.{close_stuck, Refusals}
use Rattle.link.specs.System.{Item, End, Answers, Side, Keys, four, masks, ended, read_by, reader, read_from}
use Rattle.link.proofs.Direction.{is_over, over_number, Kept, Inv}
use Rattle.link.proofs.Events.{event_aim, event_kind}
use Rattle.link.proofs.FrameRead.{Within, within, ends}
use Rattle.link.proofs.Frames.{either-none}
use Rattle.link.proofs.Puts.{at_out, move_inv}
use Rattle.link.proofs.ReadSteps.{end_of, piece, come_to, Comes, come, more_read, more_inv, end_read, end_inv, end_cut, closed_inv}
use Rattle.link.proofs.Sends.{lives_by}

-- a refusal is 16, and some pipe was cut
abbrev pub OnlyCut : Side → Side → Answer → Type 0
OnlyCut l r a = (k : ℕ) → a ≡ Refused k → (k ≡ 16) × (either l.pipe.cut r.pipe.cut ≡ true)

-- ---- a call that takes bytes, its reply moved
module _ (l r : Side) (v : Inv l r) (lives : is_over v.p ≡ false) (n : ℕ) (flag : Bool) (at_end : flag ≡ true → (ended r ≡ true) × (length r.pipe.bytes ≤ n))
    (goes_on : both (is_server l.end.session.settings) (is_peer_closed l.end.session.state) ≡ false)
    (close_moved : is_server l.end.session.settings ≡ true → is_close_reply l.end.session.reply.waiting ≡ false) where
  abbrev s : Session
  s = l.end.session

  abbrev says : Bool → Read
  says b = outcome s b l.end.output (come_to l r v lives n)

  abbrev Aim : Read → Type 0
  Aim u = (u.turn.session.refusal ≡ 0 → Kept (end_of u)) → Inv (reader l u) (read_from r u.turn.taken)

  within_more : (w : Within s.settings v.rl.part (piece l r v lives n) (come_to l r v lives n)) → says false ≡ more_read l r v lives n w
  unfolding flagged
  within_more w = ap (outcome s false l.end.output) w.comes

  within_end : (w : Within s.settings v.rl.part (piece l r v lives n) (come_to l r v lives n)) → says true ≡ end_read l r v lives n w
  unfolding flagged
  within_end w = ap (outcome s true l.end.output) w.comes

  no_answer : (k : ℕ) → More ≡ Refused k → ⊥
  no_answer k e = absurd (omega (arith, ap kind e))

  sixteen : (b : Bool) (k : ℕ) → pick b Closed (Refused 16) ≡ Refused k → (k ≡ 16) × (pick b Closed (Refused 16) ≡ Refused 16)
  sixteen true k e = absurd (omega (arith, ap kind e))
  sixteen false k e = (sym (ap value e), refl)

  go : (b : Bool) → flag ≡ b → Comes l r v lives n → Aim (says b) × OnlyCut l r (says b).turn.answer
  go b h (ends e) = (event_aim l r v lives n e b, λ k f. absurd (event_kind l r v lives n e b (ap kind f)))
  go false h (within w) =
      subst (λ (u : Read). Aim u × OnlyCut l r u.turn.answer) (sym (within_more w))
      ((λ kept. more_inv l r v lives n w (kept v.kept-l.unrefused)), λ k e. absurd (no_answer k e))
  go true h (within w) =
      let t = at_end h in
      subst (λ (u : Read). Aim u × OnlyCut l r u.turn.answer) (sym (within_end w)) (
        (λ kept. end_inv l r v lives n w t.0 t.1 goes_on close_moved (kept v.kept-l.unrefused)),
        λ k e.
            let x = sixteen (is_peer_closed s.state) k e in (x.0, end_cut l r v lives n w t.0 t.1 goes_on close_moved x.1),
      )

  pub on_inv : Aim (says flag) × OnlyCut l r (says flag).turn.answer
  on_inv = go flag refl (come l r v lives n)

-- ---- a waiting close of a server has moved, unless the call was refused with 19
close_moves : (s : Session) (mask o : List ℕ) → late_close s mask o ≡ false → is_server s.settings ≡ true
    → is_close_reply (move_reply s mask o).session.reply.waiting ≡ false
unfolding move_reply appended no_reply
close_moves s mask o late server =
    by_test (both (waits s.reply.waiting) (fits s.held o (reply_frame s mask))) (λ t. rw t)
    (λ t.
    rw t
    (go s.reply.waiting (fits s.held o (reply_frame s mask)) t
    (sym (ap (λ (b : Bool). both b (both (is_close_reply s.reply.waiting) (not (fits s.held o (reply_frame s mask))))) server) ∙ late)))
  where
    go : (w : Waiting) (f : Bool) → both (waits w) f ≡ false → both (is_close_reply w) (not f) ≡ false → is_close_reply w ≡ false
    go NoReply f a b = refl
    go PongReply f a b = refl
    go CloseReply true a b = never refl a
    go CloseReply false a b = never refl b

-- ---- the act
-- nothing was handed out or said
none_told : (x : Answers) → record { accepted = x.accepted; handed = x.handed ++ []; said = either x.said false; asked = x.asked } ≡ x
none_told x =
    ap₂ (λ (h : List Item) (b : Bool). record { accepted = x.accepted; handed = h; said = b; asked = x.asked }) (append-nil x.handed) (either-none x.said)

-- the tests of an end by itself: 2, and then 19
pub tests : (e : End) (k : Keys) → Kept e
    → first_of (read_tests e.session (four k.first) e.message e.control e.output) ≡ pick (is_terminated e.session.state) 2 (pick (close_stuck e k) 19 0)
unfolding read_tests first_of
tests e k kept =
    rw (kept.ranged, room_stores e.session e.message e.control e.output kept.room, kept.unrefused)

-- an end that is over has no close that waits, if it is a server
none_stuck : (l r : Side) (v : Inv l r) (k : Keys) → is_terminated l.end.session.state ≡ true → close_stuck l.end k ≡ false
none_stuck l r v k h =
    by_test (close_stuck l.end k)
    (λ t.
    let a = both-parts (is_server l.end.session.settings) _ t in
    let b = both-parts (is_close_reply l.end.session.reply.waiting) _ a.1 in
    never b.0 (v.lr.sender.late a.0 (over_number v.p ∙ ap (λ (n : ℕ). eqb n 4) (sym v.is_p) ∙ h)))
    (λ t. t)

module _ (l r : Side) (v : Inv l r) (n : ℕ) (want : Bool) (k : Keys) where
  abbrev e : End
  e = l.end

  abbrev stuck : Bool
  stuck = close_stuck e k

  abbrev over' : Bool
  over' = is_terminated e.session.state

  abbrev offer : List ℕ
  offer = take n r.pipe.bytes

  abbrev flag : Bool
  flag = both want (both (ended r) (leb (length r.pipe.bytes) n))

  abbrev call : Read
  call = read_call e.session offer flag (masks k) e.message e.control e.output

  -- the end that it leaves is one by itself
  call_kept : call.turn.session.refusal ≡ 0 → Kept (end_of call)
  call_kept h =
      let x = v.kept-l in
      record {
        shaped = shape_stays_read e.session offer flag (masks k) e.message e.control e.output x.shaped;
        ranged = range_stays_read e.session offer flag (masks k) e.message e.control e.output x.shaped x.ranged;
        unrefused = h;
        room = read-room e.session offer flag (masks k) e.message e.control e.output x.room;
        wide = subst (λ (g : Settings). 125 ≤ g.frame) (sym (read-settings e.session offer flag (masks k) e.message e.control e.output)) x.wide;
      }

  abbrev moved : Out
  moved = move_reply e.session (four k.first) e.output

  abbrev l' : Side
  l' = at_out l moved

  abbrev Fits : Read → Type 0
  Fits u = (u.turn.session.refusal ≡ 0 → Kept (end_of u)) → Inv (reader l u) (read_from r u.turn.taken)

  stays_inv : (j : ℕ) → Inv (reader l (read (turn (Refused j) 0 e.session) e.message e.control e.output)) (read_from r 0)
  unfolding reader read_from
  stays_inv j = subst (λ (x : Answers). Inv (record { end = e; pipe = l.pipe; answers = x }) r) (sym (none_told l.answers)) v

  module _ (goes : eqb e.session.state 4 ≡ false) (late : late_close e.session (four k.first) e.output ≡ false) where
    lives : is_over v.p ≡ false
    lives = lives_by l r v e.session.state refl goes

    v' : Inv l' r
    v' = move_inv l r v (four k.first) refl lives

    lives' : is_over v'.p ≡ false
    lives' = lives_by l' r v' e.session.state (move_state e.session (four k.first) e.output) goes

    close_moved : is_server moved.session.settings ≡ true → is_close_reply moved.session.reply.waiting ≡ false
    close_moved h = close_moves e.session (four k.first) e.output late (sym (ap (λ (g : Settings). is_server g) (move_settings e.session (four k.first) e.output)) ∙ h)

    closes : both (is_server moved.session.settings) (is_peer_closed moved.session.state) ≡ true
        → Fits (read (turn Closed 0 (with_state moved.session 4)) e.message e.control moved.output)
    unfolding reader
    closes h kept =
        let b = both-parts (is_server moved.session.settings) (is_peer_closed moved.session.state) h in
        closed_inv l' r v' lives' n b.0 b.1 (close_moved b.0) (kept v'.kept-l.unrefused)

    takes : both (is_server moved.session.settings) (is_peer_closed moved.session.state) ≡ false
        → Fits (outcome moved.session flag moved.output (fed moved.session offer e.message e.control))
        × OnlyCut l r (outcome moved.session flag moved.output (fed moved.session offer e.message e.control)).turn.answer
    unfolding reader
    takes h = on_inv l' r v' lives' n flag at_end h close_moved
      where
        at_end : flag ≡ true → (ended r ≡ true) × (length r.pipe.bytes ≤ n)
        at_end t =
            let b = both-parts (ended r) (leb (length r.pipe.bytes) n) (both-parts want (both (ended r) (leb (length r.pipe.bytes) n)) t).1 in
            (b.0, leb-true (length r.pipe.bytes) n b.1)

  pub read-inv : Inv (reader l (read_by l r n want k)) (read_from r (read_by l r n want k).turn.taken)
  unfolding read_by
  read-inv = go (way e.session (masks k) e.message e.control e.output)
    where
      go : Way e.session (masks k) e.message e.control e.output → Inv (reader l call) (read_from r call.turn.taken)
      go (refused j is owed f) = subst (λ (u : Read). Inv (reader l u) (read_from r u.turn.taken)) (sym (f offer flag)) (stays_inv j)
      go (closed p h f) = subst Fits (sym (f offer flag)) (closes p.goes_on p.fits-close h) call_kept
      go (taking p h f) = subst Fits (sym (f offer flag)) (takes p.goes_on p.fits-close h).0 call_kept

  -- ---- by which numbers it is refused
  refused_by_lem : (n : ℕ) → pick over' 2 (pick stuck 19 0) ≡ n → (n ≡ 0 → ⊥) → call.turn.answer ≡ Refused n
  unfolding read_call
  refused_by_lem n h owed = rw (tests e k v.kept-l ∙ h, ne_eqb n 0 owed)

  Told : Answer → Type 0
  Told a = (j : ℕ) → a ≡ Refused j → ((j ≡ 2) × (over' ≡ true)) ⊎ (((j ≡ 16) × (either l.pipe.cut r.pipe.cut ≡ true)) ⊎ ((j ≡ 19) × (stuck ≡ true)))

  told : Told call.turn.answer
  unfolding Told
  told = go (way e.session (masks k) e.message e.control e.output)
    where
      by_tests : (a b : Bool) (j : ℕ) → over' ≡ a → stuck ≡ b → pick a 2 (pick b 19 0) ≡ j → (j ≡ 0 → ⊥)
          → ((j ≡ 2) × (over' ≡ true)) ⊎ (((j ≡ 16) × (either l.pipe.cut r.pipe.cut ≡ true)) ⊎ ((j ≡ 19) × (stuck ≡ true)))
      by_tests true b j p q h n = inl (sym h, p)
      by_tests false true j p q h n = inr (inr (sym h, q))
      by_tests false false j p q h n = absurd (n (sym h))

      go : Way e.session (masks k) e.message e.control e.output → Told call.turn.answer
      go (refused n is owed f) j h =
          let same : n ≡ j = ap value (sym (ap (λ (u : Read). u.turn.answer) (f offer flag)) ∙ h) in
          by_tests over' stuck j refl refl (sym (tests e k v.kept-l) ∙ is ∙ same) (λ z. owed (same ∙ z))
      go (closed p c f) j h = absurd (omega (arith, ap kind (sym (ap (λ (u : Read). u.turn.answer) (f offer flag)) ∙ h)))
      go (taking p c f) j h =
          inr (inl ((takes p.goes_on p.fits-close c).1 j (sym (ap (λ (u : Read). u.turn.answer) (f offer flag)) ∙ h)))

  pub read-refusals : Refusals l r k (read_by l r n want k).turn.answer
  unfolding read_by Told
  read-refusals =
      record {
        only = λ j h. ⊎_elim (λ a. inl a.0) (λ x. ⊎_elim (λ b. inr (inl b.0)) (λ c. inr (inr c.0)) x) (told j h);
        by_two = λ h. ⊎_elim (λ a. a.1) (λ x. ⊎_elim (λ b. absurd (omega (arith, b.0))) (λ c. absurd (omega (arith, c.0))) x) (told 2 h);
        two = λ h. refused_by_lem 2 (ap (λ (b : Bool). pick b 2 (pick stuck 19 0)) h) (λ z. absurd (omega arith));
        by_nineteen = λ h. ⊎_elim (λ a. absurd (omega (arith, a.0))) (λ x. ⊎_elim (λ b. absurd (omega (arith, b.0))) (λ c. c.1) x) (told 19 h);
        nineteen = λ h.
            let lives : over' ≡ false = by_test over' (λ t. never h (none_stuck l r v k t)) (λ t. t) in
            refused_by_lem 19 (ap₂ (λ (a b : Bool). pick a 2 (pick b 19 0)) lives h) (λ z. absurd (omega arith));
        by_sixteen = λ h. ⊎_elim (λ a. absurd (omega (arith, a.0))) (λ x. ⊎_elim (λ b. b.1) (λ c. absurd (omega (arith, c.0))) x) (told 16 h);
      }
