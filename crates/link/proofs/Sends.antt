-- The sending calls keep the invariant.
use mathlib.Core.Path.{◌≡◌, refl, sym, ap, ap₂, subst, ◌∙◌}
use mathlib.Core.Bool.{Bool, true, false, not}
use mathlib.Core.List.{List, [], ◌∷◌, ◌++◌, append-nil}
use Prim.Native.Nat.{ℕ, ◌≤◌}
use native.Mathlib.Omega.{arith}
use lib.Dec.{eqb, ltb}
use lib.ListN.{length, drop}
use borrow.Author.Tests.{eqb-true, ltb-false, not-false}
use Rattle.std.specs.Prelude.{Option}
use Rattle.base.specs.Table.{pick}
use Rattle.base.specs.Tests.{either, first_of}
use Rattle.base.proofs.Choice.{by_test}
use Rattle.base.proofs.Stores.{length-laid}
use Rattle.coding.specs.declared.opcode.Control.TheVariants.{Close as CloseFrame, Ping as PingFrame}
use Rattle.coding.specs.declared.opcode.Data.TheVariants.{Text as TextFrame, Binary as BinaryFrame}
use Rattle.coding.specs.declared.opcode.OpCode.{OpCode}
use Rattle.coding.specs.declared.opcode.OpCode.TheVariants.{Data, Control}
use Rattle.session.specs.Calls.{Sending, sending, send_tests, send_frame, text_call, binary_call, ping_call, closing_bytes, close_call, pong_call, waits_call}
use Rattle.session.specs.declared.Reply.{Reply}
use Rattle.session.specs.declared.Session.{Session}
use Rattle.session.specs.declared.Settings.{Settings}
use Rattle.session.specs.declared.Waiting.{Waiting}
use Rattle.session.specs.declared.Waiting.TheVariants.{Nothing as NoReply, Pong as PongReply, Close as CloseReply}
use Rattle.session.specs.Frames.{is_close}
use Rattle.session.specs.Range.{in_range, waits}
use Rattle.session.specs.Refusals.{Done}
use Rattle.session.specs.Replies.{is_close_reply, reply_of, with_pong, Out, out, appended, move_reply}
use Rattle.session.specs.Session.{is_client, is_active, with_reply}
use Rattle.steady.specs.Taking.{is_done}
use Rattle.steady.proofs.Again.{either-not}
use Rattle.steady.proofs.Headers.{never}
use Rattle.steady.proofs.Parts.{range_state, range_reply}
use Rattle.steady.proofs.Passing.{send_passed}
use Rattle.utf8.specs.Progress.{progress_after, is_whole}
use Rattle.link.specs.Demand.{FitsOther, NoneWaits}
use Rattle.link.specs.System.{Item, item, End, Answers, Side, Keys, four, masks, sent, text_to, binary_to, ping_to, pong_to, close_to}
use Rattle.link.proofs.Direction.{Phase, active, closed_by_us, closed_by_peer, acked, over, number, is_over, over_number, Link, Heard, load_of, Sound, caller, Knows, FrameKnows, speaks, hears, heard_as, Inv}
use Rattle.link.proofs.FrameBack.{front_laid}
use Rattle.link.proofs.Frames.{Frame, bytes_of, one_wire, nothing, items_of, one_told, LoadFits, has_close, either-none, one_close, one_last}
use Rattle.link.proofs.Puts.{out_end, at_out, mk_live, put_inv, move_inv}
use Rattle.link.proofs.ReadBack.{not_one, holds}
use Rattle.link.proofs.Sent.{Way, refused, goes_out, way}

-- ---- the state that a call finds
pub active_is : (p : Phase) → is_active (number p) ≡ true → p ≡ active
active_is active e = refl
active_is closed_by_us e = never e refl
active_is closed_by_peer e = never e refl
active_is acked e = never e refl
active_is over e = never e refl

pub lives_by : (l r : Side) (v : Inv l r) (n : ℕ) → l.end.session.state ≡ n → eqb n 4 ≡ false → is_over v.p ≡ false
lives_by l r v n e h = over_number v.p ∙ ap (λ (k : ℕ). eqb k 4) (sym v.is_p ∙ e) ∙ h

link_active : (w : Waiting) (c : Bool) → Link active w c → (c ≡ false) × Link active w false
link_active NoReply c h = (h, refl)
link_active PongReply c h = (h, refl)
link_active CloseReply c h = absurd h

-- what is known in Active
pub record Active (l r : Side) (v : Inv l r) : Type 0 where
  pub is : v.p ≡ active
  pub state : l.end.session.state ≡ 0
  pub lives : is_over v.p ≡ false
  pub none : has_close v.lr.frames ≡ false
  pub link : Link active l.end.session.reply.waiting false
  pub unheard : has_close v.rl.got ≡ false

pub in_active : (l r : Side) (v : Inv l r) → is_active l.end.session.state ≡ true → Active l r v
in_active l r v h =
    let e : v.p ≡ active = active_is v.p (ap is_active (sym v.is_p) ∙ h) in
    let k =
    link_active l.end.session.reply.waiting (has_close v.lr.frames)
    (subst (λ (p : Phase). Link p l.end.session.reply.waiting (has_close v.lr.frames)) e v.lr.sender.link) in
    record {
      is = e;
      state = v.is_p ∙ ap number e;
      lives = ap is_over e;
      none = k.0;
      link = k.1;
      unheard = subst (λ (p : Phase). Heard p (has_close v.rl.got)) e v.rl.reader.heard;
    }

-- ---- one final frame is put out, and then the waiting reply moves
module _ (l r : Side) (v : Inv l r) (op : OpCode) (bad : Bool) (load : List ℕ) (k : Keys) (items : List Item) (close : Bool) where
  abbrev s : Session
  s = l.end.session

  abbrev frame : Frame
  frame = record { final = true; op = op; mask = four k.first; load = load }

  -- what its kind and the state that it leads to ask for
  pub record Goes (state : ℕ) (p : Phase) : Type 0 where
    pub is : state ≡ number p
    pub low : state ≤ 4
    pub lives : is_over p ≡ false
    pub short : length load ≤ r.end.session.settings.frame
    pub fits : LoadFits r.end.session.settings op load
    pub link : Link p s.reply.waiting (is_close op)
    pub heard : Heard p (has_close v.rl.got)
    pub counted : items ≡ items_of nothing true op load
    pub asks : close ≡ true → is_close op ≡ true
    pub knows : FrameKnows op l.answers.handed load

  abbrev answer : ℕ → Sending
  answer state = send_frame s state op bad load (masks k) l.end.output

  pub frame-inv : (state : ℕ) (p : Phase)
      → (is_active s.state ≡ true → bad ≡ false → is_done (answer state).handed.sent ≡ true → Active l r v → Goes state p)
      → Inv (sent l (answer state) items close) r
  unfolding sent appended
  frame-inv state p goes = go (way s state op bad load (masks k) l.end.output)
    where
      go : Way s state op bad load (masks k) l.end.output → Inv (sent l (answer state) items close) r
      go (refused n e) = subst (λ (u : Sending). Inv (sent l u items close) r) (sym e) v
      go (goes_out now fine room e) =
          let a = in_active l r v now in
          let g = goes now fine (ap (λ (u : Sending). is_done u.handed.sent) e) a in
          let put =
          put_inv l r v (frame ∷ []) (bytes_of (is_client s.settings) frame) (one_wire (is_client s.settings) frame)
          (record { whole = refl; four = refl; short = g.short; fits = g.fits }, tt) (one_last frame) a.none a.lives state s.reply p g.is
          (l.answers.accepted ++ items) (either l.answers.asked close) (subst (Link p s.reply.waiting) (sym (one_close frame)) g.link)
          v.lr.sender.sound (ap (λ (i : List Item). l.answers.accepted ++ i) (g.counted ∙ sym (one_told frame refl)))
          (λ b. one_close frame ∙ asked_now l.answers.asked v.lr.sender.asks a.none g.asks b) g.heard g.lives v.lr.sender.knows
          (g.knows, tt)
          (range_state s state v.kept-l.ranged g.low) v.kept-l.shaped.1 room in
          subst (λ (u : Sending). Inv (sent l u items close) r) (sym e)
          (move_inv _ r put (four k.second) refl (lives_by _ r put state refl (ap (λ (n : ℕ). eqb n 4) g.is ∙ sym (over_number p) ∙ g.lives)))
        where
          asked_now : (asked : Bool) → (asked ≡ true → has_close v.lr.frames ≡ true) → has_close v.lr.frames ≡ false → (close ≡ true → is_close op ≡ true)
              → either asked close ≡ true → is_close op ≡ true
          asked_now true x y z e = never (x refl) y
          asked_now false x y z e = z e

-- ---- messages, pings and closes
module _ (l r : Side) (v : Inv l r) (k : Keys) where
  abbrev other : Settings
  other = r.end.session.settings

  abbrev mine : End
  mine = l.end

  -- what stays in its state, Active
  stays : (op : OpCode) (bad : Bool) (load : List ℕ) (items : List Item) → is_close op ≡ false → Active l r v → length load ≤ other.frame → LoadFits other op load
      → items ≡ items_of nothing true op load → FrameKnows op l.answers.handed load → Goes l r v op bad load k items false mine.session.state active
  stays op bad load items message a short fits counted knows =
      record {
        is = a.state;
        low = omega (arith, a.state);
        lives = refl;
        short = short;
        fits = fits;
        link = subst (Link active mine.session.reply.waiting) (sym message) a.link;
        heard = a.unheard;
        counted = counted;
        asks = λ t. never t refl;
        knows = knows;
      }

  pub text_inv : (p : List ℕ) → FitsOther r.end (text_to mine p k) p → Inv (sent l (text_to mine p k) (item 2 p ∷ []) false) r
  unfolding text_call
  text_inv p good =
      let bad : Bool = not (is_whole (progress_after 0 p)) in
      frame-inv l r v (Data TextFrame) bad p k (item 2 p ∷ []) false mine.session.state active
      (λ now fine is-sent a.
      stays (Data TextFrame) bad p (item 2 p ∷ []) refl a (good is-sent).0 (refl, (good is-sent).1, λ t. not-false (is_whole (progress_after 0 p)) fine) refl tt)

  pub binary_inv : (p : List ℕ) → FitsOther r.end (binary_to mine p k) p → Inv (sent l (binary_to mine p k) (item 3 p ∷ []) false) r
  unfolding binary_call
  binary_inv p good =
      frame-inv l r v (Data BinaryFrame) false p k (item 3 p ∷ []) false mine.session.state active
      (λ now fine is-sent a.
      stays (Data BinaryFrame) false p (item 3 p ∷ []) refl a (good is-sent).0 (refl, (good is-sent).1, λ t. never t refl) refl tt)

  pub ping_inv : (p : List ℕ) → Inv (sent l (ping_to mine p k) (item 4 p ∷ []) false) r
  unfolding ping_call
  ping_inv p =
      frame-inv l r v (Control PingFrame) (ltb 125 (length p)) p k (item 4 p ∷ []) false mine.session.state active
      (λ now fine is-sent a.
      let few : length p ≤ 125 = ltb-false 125 (length p) fine in
      stays (Control PingFrame) (ltb 125 (length p)) p (item 4 p ∷ []) refl a (omega (arith, v.kept-r.wide)) (few, λ t. never t refl) refl tt)

  none_waits_lem : (w : Waiting) → waits w ≡ false → Link closed_by_us w true
  none_waits_lem NoReply h = refl
  none_waits_lem PongReply h = never refl h
  none_waits_lem CloseReply h = never refl h

  pub close_inv : (code : Option ℕ) (reason : List ℕ) → NoneWaits mine (close_to mine code reason k) → Inv (sent l (close_to mine code reason k) [] true) r
  unfolding close_call waits_call
  close_inv code reason good =
      let p : List ℕ = closing_bytes code reason in
      let whole : Bool = is_whole (progress_after 0 (drop 2 p)) in
      let bad : Bool = either (ltb 125 (length p)) (not whole) in
      frame-inv l r v (Control CloseFrame) bad p k [] true 1 closed_by_us
      (λ now fine is-sent a.
      let e = either-not (ltb 125 (length p)) (not whole) fine in
      let few : length p ≤ 125 = ltb-false 125 (length p) e.0 in
      record {
        is = refl;
        low = omega arith;
        lives = refl;
        short = omega (arith, v.kept-r.wide);
        fits = (few, λ t. (not_one code reason, holds p (not-false whole e.1)));
        link = none_waits_lem mine.session.reply.waiting (good is-sent);
        heard = a.unheard;
        counted = refl;
        asks = λ t. refl;
        knows = tt;
      })

-- ---- the caller's pong becomes the waiting reply
module _ (l r : Side) (v : Inv l r) (a : Active l r v) where
  -- another reply, in Active
  pub reply_inv : (q : Reply) → Link active q.waiting false → Sound q.waiting (load_of q) → Knows q.waiting l.answers.handed (load_of q)
      → in_range (with_reply l.end.session q) ≡ true → length q.payload ≡ 125 → Inv (at_out l (out (with_reply l.end.session q) l.end.output)) r
  reply_inv q link sound knows ranged full =
      let x = v.lr.sender in
      let now_side : Side = at_out l (out (with_reply l.end.session q) l.end.output) in
      mk_live l r now_side r v active a.state
      (record {
        shaped = (v.kept-l.shaped.0, full);
        ranged = ranged;
        unrefused = v.kept-l.unrefused;
        room = v.kept-l.room;
        wide = v.kept-l.wide;
      })
      (speaks l now_side r v.p active v.q v.lr v.lr.lost v.lr.toward v.lr.wire
      (record {
        valid = x.valid;
        last = x.last;
        link = subst (Link active q.waiting) (sym a.none) link;
        sound = sound;
        accepts = x.accepts;
        asks = x.asks;
        shut = x.shut;
        late = λ h o. never o refl;
        knows = knows;
        pongs = x.pongs;
      }))
      (hears r l now_side v.q v.p active v.rl v.rl.toward v.rl.sender (heard_as active v.rl.reader a.unheard))
      refl refl refl refl a.lives refl

-- a pong where no close waits
pub pong_set : (q : Reply) (p : List ℕ) (c : Bool) → Link active q.waiting c → with_pong q p ≡ reply_of q PongReply p
unfolding with_pong
pong_set q p c h = go q.waiting h
  where
    go : (w : Waiting) → Link active w c → pick (is_close_reply w) q (reply_of q PongReply p) ≡ reply_of q PongReply p
    go NoReply h = refl
    go PongReply h = refl
    go CloseReply h = absurd h

-- its payload is the one given
pub load_set : (q : Reply) (w : Waiting) (p : List ℕ) → length q.payload ≡ 125 → length p ≤ 125 → load_of (reply_of q w p) ≡ p
unfolding reply_of
load_set q w p full few = front_laid q.payload p (omega arith)

pub set-kind : (q : Reply) (w : Waiting) (p : List ℕ) → (reply_of q w p).waiting ≡ w
unfolding reply_of
set-kind q w p = refl

pub set-length : (q : Reply) (w : Waiting) (p : List ℕ) → (reply_of q w p).length ≡ length p
unfolding reply_of
set-length q w p = refl

pub full_set : (q : Reply) (w : Waiting) (p : List ℕ) → length q.payload ≡ 125 → length (reply_of q w p).payload ≡ 125
unfolding reply_of
full_set q w p full = length-laid q.payload 0 p ∙ full

-- nothing that counts was accepted
none_more : (x : Answers) → record { accepted = x.accepted ++ []; handed = x.handed; said = x.said; asked = either x.asked false } ≡ x
none_more x =
    ap₂ (λ (a : List Item) (b : Bool). record { accepted = a; handed = x.handed; said = x.said; asked = b }) (append-nil x.accepted) (either-none x.asked)

module _ (l r : Side) (v : Inv l r) (p : List ℕ) (k : Keys) where
  abbrev q : Reply
  q = reply_of l.end.session.reply PongReply p

  abbrev pong_out : Reply → Out
  pong_out x = move_reply (with_reply l.end.session x) (four k.first) l.end.output

  abbrev n : ℕ
  n = first_of (send_tests l.end.session l.end.output (ltb 125 (length p)))

  pong_waits_lem : Active l r v → length p ≤ 125 → Inv (at_out l (out (with_reply l.end.session q) l.end.output)) r
  pong_waits_lem a few =
      let full : length l.end.session.reply.payload ≡ 125 = v.kept-l.shaped.1 in
      let load : load_of q ≡ p = load_set l.end.session.reply PongReply p full few in
      reply_inv l r v a q (waits-as_pong) (subst (λ (w : Waiting). Sound w (load_of q)) (sym kind) (omega (arith, ap length load)))
      (subst (λ (w : Waiting). Knows w l.answers.handed (load_of q)) (sym kind) caller)
      (range_reply l.end.session q v.kept-l.ranged (λ w. omega (arith, size)))
      (full_set l.end.session.reply PongReply p full)
    where
      kind : q.waiting ≡ PongReply
      kind = set-kind l.end.session.reply PongReply p

      size : q.length ≡ length p
      size = set-length l.end.session.reply PongReply p

      waits-as_pong : Link active q.waiting false
      waits-as_pong = subst (λ (w : Waiting). Link active w false) (sym kind) refl

  pub pong_inv : Inv (sent l (pong_to l.end p k) [] false) r
  unfolding pong_call sent
  pong_inv =
      by_test (eqb n 0)
      (λ t.
      let fine = send_passed l.end.session l.end.output (ltb 125 (length p)) (eqb-true n 0 t) in
      let a = in_active l r v fine.1 in
      let base = pong_waits_lem a (ltb-false 125 (length p) fine.2) in
      let u : Sending = sending Done (pong_out q).session (pong_out q).output in
      let e : pong_to l.end p k ≡ u =
      rw t (ap (λ (x : Reply). sending Done (pong_out x).session (pong_out x).output) (pong_set l.end.session.reply p false a.link)) in
      subst (λ (u : Sending). Inv (sent l u [] false) r) (sym e)
      (subst (λ (x : Answers). Inv (record { end = out_end l.end (pong_out q); pipe = l.pipe; answers = x }) r) (sym (none_more l.answers))
      (move_inv _ r base (four k.first) refl (lives_by _ r base 0 a.state refl))))
      (λ t. rw t v)
