-- A frame is put out, and the waiting reply moves: both keep the invariant.
use mathlib.Core.Path.{◌≡◌, refl, sym, ap, ap₂, subst, ◌∙◌}
use mathlib.Core.Bool.{Bool, true, false}
use mathlib.Core.List.{List, [], ◌∷◌, ◌++◌, append_assoc, append-nil}
use Prim.Native.Nat.{ℕ, ◌+◌, ◌-◌, ◌≤◌}
use native.Mathlib.Omega.{arith}
use lib.ListN.{length, take, drop, length-append}
use lib.Seq.{take_at, length-take-le}
use borrow.Author.Tests.{leb-true}
use Rattle.base.specs.Stores.{laid}
use Rattle.base.specs.Table.{pick}
use Rattle.base.specs.Tests.{both, either}
use Rattle.base.proofs.Choice.{by_test}
use Rattle.base.proofs.Stores.{length-laid, laid-split}
use Rattle.session.specs.declared.Reply.{Reply}
use Rattle.session.specs.declared.Session.{Session}
use Rattle.session.specs.declared.Settings.{Settings}
use Rattle.session.specs.declared.Waiting.{Waiting}
use Rattle.session.specs.declared.Waiting.TheVariants.{Nothing as NoReply, Pong as PongReply, Close as CloseReply}
use Rattle.session.specs.Frames.{is_close}
use Rattle.session.specs.Range.{in_range, waits}
use Rattle.session.specs.Replies.{fits, no_reply, reply_code, reply_frame, Out, out, appended, move_reply}
use Rattle.session.specs.Session.{is_server, is_client, with_reply}
use Rattle.session.proofs.Choices.{both-parts}
use Rattle.steady.proofs.Headers.{never}
use Rattle.steady.proofs.Parts.{range_held, range_reply}
use Rattle.link.specs.System.{Item, End, Answers, Side}
use Rattle.link.proofs.Direction.{Phase, active, closed_by_us, closed_by_peer, acked, over, number, is_over, Link, Heard, load_of, Sound, Knows, FrameKnows, AllKnow, know_append, Kept, held_of, Wire, Sender, Dir, hears, heard_as, Inv}
use Rattle.link.proofs.Frames.{Frame, wires, wires_append, one_wire, nothing, items_of, told, told_on, one_told, LoadFits, AllValid, valid_append, has_close, one_close, close_append, CloseLast, close_on, one_last}

-- ---- an end of which a call left another session and output
abbrev pub out_end : End → Out → End
out_end e v = record { session = v.session; message = e.message; control = e.control; output = v.output }

abbrev pub at_out : Side → Out → Side
at_out x v = record { end = out_end x.end v; pipe = x.pipe; answers = x.answers }

-- the session in a state and with a reply
abbrev pub turned : Session → ℕ → Reply → Session
turned s state q = record { settings = s.settings; state = state; refusal = s.refusal; incoming = s.incoming; reply = q; held = s.held }

-- what is held is what was held, and behind it what was put out
pub held_laid : (output : List ℕ) (held : ℕ) (bytes : List ℕ) → held + length bytes ≤ length output
    → take (held + length bytes) (laid output held bytes) ≡ take held output ++ bytes
held_laid output held bytes h =
    let behind : List ℕ = drop (held + length bytes) output in
    let size : length (take held output ++ bytes) ≡ held + length bytes =
    length-append (take held output) bytes ∙ ap (λ (n : ℕ). n + length bytes) (length-take-le held output (omega arith)) in
    ap (take (held + length bytes)) (laid-split output held bytes h)
    ∙ take_at (take held output ++ bytes) behind (held + length bytes) size

-- ---- an end that lived and lives; of the other only the pipe changed
pub mk_live : (l r l' r' : Side) (v : Inv l r) (p : Phase) → l'.end.session.state ≡ number p → Kept l'.end → Dir l' r' p v.q → Dir r' l' v.q p
    → r'.end ≡ r.end → r'.answers.said ≡ r.answers.said → l'.pipe.cut ≡ l.pipe.cut → r'.pipe.cut ≡ r.pipe.cut
    → is_over v.p ≡ false → is_over p ≡ false → Inv l' r'
mk_live l r l' r' v p is kept a b he hs hl hr o o' =
    record {
      p = p;
      q = v.q;
      is_p = is;
      is_q = ap (λ (e : End). e.session.state) he ∙ v.is_q;
      kept-l = kept;
      kept-r = subst Kept (sym he) v.kept-r;
      lr = a;
      rl = b;
      fin_l = record { ends = λ c d e. never e o' };
      fin_r =
          record {
            ends = λ c d e.
                let f = v.fin_r.ends (sym hr ∙ c) (sym hl ∙ d) e in
                (hs ∙ f.0, λ s. never (f.1 (sym (ap (λ (e : End). is_server e.session.settings) he) ∙ s)) o);
          };
    }

-- ---- frames are put out, by a sending call or of what waited: one of them, or more
module _ (l r : Side) (v : Inv l r) (fs : List Frame) (bytes : List ℕ) (is-bytes : bytes ≡ wires (is_client l.end.session.settings) fs)
    (valid : AllValid r.end.session.settings fs) (last : CloseLast fs) (none : has_close v.lr.frames ≡ false) (lives : is_over v.p ≡ false)
    (state : ℕ) (reply : Reply) where
  abbrev s : Session
  s = l.end.session

  abbrev put : End
  put = out_end l.end (appended (turned s state reply) l.end.output bytes)

  has_put : has_close (v.lr.frames ++ fs) ≡ has_close fs
  has_put = close_append v.lr.frames fs ∙ ap (λ (b : Bool). either b (has_close fs)) none

  put_kept : in_range (turned s state reply) ≡ true → length reply.payload ≡ 125 → s.held + length bytes ≤ length l.end.output → Kept put
  unfolding appended
  put_kept ranged full room =
      let k = v.kept-l in
      record {
        shaped = (k.shaped.0, full);
        ranged = range_held (turned s state reply) (s.held + length bytes) ranged;
        unrefused = k.unrefused;
        room =
            record {
              for_message = k.room.for_message;
              for_control = k.room.for_control;
              for_output = omega (arith, length-laid l.end.output s.held bytes, k.room.for_output);
              for_held = omega (arith, length-laid l.end.output s.held bytes);
            };
        wide = k.wide;
      }

  put_held : s.held + length bytes ≤ length l.end.output → held_of put ≡ held_of l.end ++ bytes
  unfolding appended
  put_held room = held_laid l.end.output s.held bytes room

  put_wire : s.held + length bytes ≤ length l.end.output
      → Wire (is_client s.settings) (v.lr.frames ++ fs) (v.lr.rest ++ fs) v.lr.part v.lr.lost l.pipe (held_of put)
  put_wire room =
      let w = v.lr.wire in
      let client : Bool = is_client s.settings in
      let held : List ℕ = held_of l.end in
      record {
        flow =
            ap (λ (b : List ℕ). v.lr.part ++ (l.pipe.bytes ++ (v.lr.lost ++ b))) (put_held room)
            ∙ sym (shift v.lr.part l.pipe.bytes v.lr.lost held)
            ∙ ap₂ (λ (b c : List ℕ). b ++ c) w.flow is-bytes
            ∙ sym (wires_append client v.lr.rest fs);
        whole = w.whole;
        given =
            ap (λ (b : List ℕ). l.pipe.given ++ b) (put_held room)
            ∙ sym (append_assoc l.pipe.given held bytes)
            ∙ ap₂ (λ (b c : List ℕ). b ++ c) w.given is-bytes
            ∙ sym (wires_append client v.lr.frames fs);
      }
    where
      shift : (a b c d : List ℕ) → (a ++ (b ++ (c ++ d))) ++ bytes ≡ a ++ (b ++ (c ++ (d ++ bytes)))
      shift a b c d = simp append_assoc

  -- the new side, in the state p
  module _ (p : Phase) (is : state ≡ number p) (accepted : List Item) (asked : Bool) (link : Link p reply.waiting (has_close fs))
      (sound : Sound reply.waiting (load_of reply)) (counted : accepted ≡ l.answers.accepted ++ told nothing fs)
      (asks : asked ≡ true → has_close fs ≡ true) (heard : Heard p (has_close v.rl.got)) (lives' : is_over p ≡ false)
      (knows : Knows reply.waiting l.answers.handed (load_of reply)) (pongs : AllKnow l.answers.handed fs) where
    abbrev said_now : Answers
    said_now = record { accepted = accepted; handed = l.answers.handed; said = l.answers.said; asked = asked }

    abbrev now_side : Side
    now_side = record { end = put; pipe = l.pipe; answers = said_now }

    put_sender : Sender r.end.session.settings (is_server s.settings) (v.lr.frames ++ fs) p reply.waiting (load_of reply) said_now
    put_sender =
        let x = v.lr.sender in
        record {
          valid = valid_append r.end.session.settings v.lr.frames fs x.valid valid;
          last = close_on v.lr.frames fs none last;
          link = subst (Link p reply.waiting) (sym has_put) link;
          sound = sound;
          accepts =
              counted ∙ ap (λ (a : List Item). a ++ told nothing fs) x.accepts ∙ sym (told_on r.end.session.settings v.lr.frames fs x.valid);
          asks = λ k. has_put ∙ asks k;
          shut = λ a b. never (x.shut a b) none;
          late = λ a b. never b lives';
          knows = knows;
          pongs = know_append l.answers.handed v.lr.frames fs x.pongs pongs;
        }

    pub put_inv : in_range (turned s state reply) ≡ true → length reply.payload ≡ 125 → s.held + length bytes ≤ length l.end.output
        → Inv now_side r
    unfolding appended
    put_inv ranged full room =
        mk_live l r now_side r v p is (put_kept ranged full room)
        (record {
          frames = v.lr.frames ++ fs;
          got = v.lr.got;
          rest = v.lr.rest ++ fs;
          part = v.lr.part;
          lost = v.lr.lost;
          split = sym (append_assoc v.lr.got v.lr.rest fs) ∙ ap (λ (a : List Frame). a ++ fs) v.lr.split;
          toward = v.lr.toward;
          wire = put_wire room;
          sender = put_sender;
          reader = v.lr.reader;
        })
        (hears r l now_side v.q v.p p v.rl v.rl.toward v.rl.sender (heard_as p v.rl.reader heard))
        refl refl refl refl lives lives'

-- ---- the waiting reply moves: a list of frames, which has one of them or none
reply_open : (p : Phase) (w : Waiting) (c : Bool) → is_over p ≡ false → waits w ≡ true → Link p w c → (c ≡ false) × Link p NoReply (is_close (reply_code w))
reply_open p NoReply c o h k = never h refl
reply_open active PongReply c o h k = (k, refl)
reply_open closed_by_us PongReply c o h k = absurd k
reply_open closed_by_peer PongReply c o h k = absurd k
reply_open acked PongReply c o h k = absurd k
reply_open over PongReply c o h k = never refl o
reply_open active CloseReply c o h k = absurd k
reply_open closed_by_us CloseReply c o h k = absurd k
reply_open closed_by_peer CloseReply c o h k = (k, refl)
reply_open acked CloseReply c o h k = absurd k
reply_open over CloseReply c o h k = never refl o

reply_fits : (g : Settings) (w : Waiting) (load : List ℕ) → waits w ≡ true → Sound w load → LoadFits g (reply_code w) load
reply_fits g NoReply load h k = never h refl
reply_fits g PongReply load h k = (k, λ t. never t refl)
reply_fits g CloseReply load h k = (k.0, λ t. (k.1, k.2))

reply_short : (w : Waiting) (load : List ℕ) → waits w ≡ true → Sound w load → length load ≤ 125
reply_short NoReply load h k = never h refl
reply_short PongReply load h k = k
reply_short CloseReply load h k = k.0

reply_counts : (w : Waiting) (load : List ℕ) → items_of nothing true (reply_code w) load ≡ []
reply_counts NoReply load = refl
reply_counts PongReply load = refl
reply_counts CloseReply load = refl

reply_knows : (w : Waiting) (handed : List Item) (load : List ℕ) → waits w ≡ true → Knows w handed load → FrameKnows (reply_code w) handed load
reply_knows NoReply handed load h k = never h refl
reply_knows PongReply handed load h k = k
reply_knows CloseReply handed load h k = k

-- the frame that it is
abbrev reply_as_frame : Reply → List ℕ → Frame
reply_as_frame q mask = record { final = true; op = reply_code q.waiting; mask = mask; load = load_of q }

pub fits-room : (held : ℕ) (output bytes : List ℕ) → held ≤ length output → fits held output bytes ≡ true → held + length bytes ≤ length output
unfolding fits
fits-room held output bytes k h = omega (arith, leb-true (length bytes) (length output - held) h)

module _ (l r : Side) (v : Inv l r) (mask : List ℕ) (four : length mask ≡ 4) (lives : is_over v.p ≡ false) where
  abbrev now : Session
  now = l.end.session

  abbrev moved : Out
  moved = move_reply now mask l.end.output

  abbrev waiting : Waiting
  waiting = now.reply.waiting

  abbrev frame : Frame
  frame = reply_as_frame now.reply mask

  reply_bytes_lem : reply_frame now mask ≡ wires (is_client now.settings) (frame ∷ [])
  unfolding reply_frame
  reply_bytes_lem = one_wire (is_client now.settings) frame

  moves : waits waiting ≡ true → fits now.held l.end.output (reply_frame now mask) ≡ true
      → Inv (at_out l (appended (with_reply now (no_reply now.reply)) l.end.output (reply_frame now mask))) r
  unfolding no_reply
  moves h k =
      let x = v.lr.sender in
      let load : List ℕ = load_of now.reply in
      let free = reply_open v.p waiting (has_close v.lr.frames) lives h x.link in
      put_inv l r v (frame ∷ []) (reply_frame now mask) reply_bytes_lem (
        record {
          whole = refl;
          four = four;
          short = omega (arith, reply_short waiting load h x.sound, v.kept-r.wide);
          fits = reply_fits r.end.session.settings waiting load h x.sound;
        },
        tt,
      )
      (one_last frame) free.0 lives now.state (no_reply now.reply) v.p v.is_p l.answers.accepted l.answers.asked
      (subst (Link v.p NoReply) (sym (one_close frame)) free.1) tt
      (sym (append-nil l.answers.accepted)
      ∙ ap (λ (a : List Item). l.answers.accepted ++ a) (sym (one_told frame refl ∙ reply_counts waiting load)))
      (λ a. never (x.asks a) free.0) v.rl.reader.heard lives tt (reply_knows waiting l.answers.handed load h x.knows, tt)
      (range_reply now (no_reply now.reply) v.kept-l.ranged (λ w. omega arith)) v.kept-l.shaped.1
      (fits-room now.held l.end.output (reply_frame now mask) v.kept-l.room.for_held k)

  pub move_inv : Inv (at_out l moved) r
  unfolding move_reply
  move_inv =
      by_test (both (waits waiting) (fits now.held l.end.output (reply_frame now mask)))
      (λ t.
      let b = both-parts (waits waiting) (fits now.held l.end.output (reply_frame now mask)) t in
      subst (λ (x : Bool). Inv (at_out l (pick x (appended (with_reply now (no_reply now.reply)) l.end.output (reply_frame now mask)) (out now l.end.output))) r) (sym t)
      (moves b.0 b.1))
      (λ t.
      subst (λ (x : Bool). Inv (at_out l (pick x (appended (with_reply now (no_reply now.reply)) l.end.output (reply_frame now mask)) (out now l.end.output))) r) (sym t) v)
