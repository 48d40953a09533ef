-- One direction, from an end x to the other, y: what x has put out, what is on the way, and what y has got of it. And both together.
use mathlib.Core.Path.{◌≡◌, refl, sym, ap, ◌∙◌}
use mathlib.Core.Bool.{Bool, true, false}
use mathlib.Core.List.{List, [], ◌∷◌, ◌++◌, append_assoc, append-nil}
use Prim.Native.Nat.{ℕ, ◌≤◌}
use lib.Dec.{eqb}
use lib.ListN.{length, take}
use Rattle.coding.specs.declared.opcode.Control.{Control as ControlKind}
use Rattle.coding.specs.declared.opcode.Control.TheVariants.{Close, Ping, Pong}
use Rattle.coding.specs.declared.opcode.OpCode.{OpCode}
use Rattle.coding.specs.declared.opcode.OpCode.TheVariants.{Data, Control, Reserved}
use Rattle.session.specs.declared.Incoming.{Incoming}
use Rattle.session.specs.declared.Reply.{Reply}
use Rattle.session.specs.declared.Settings.{Settings}
use Rattle.session.specs.declared.Waiting.{Waiting}
use Rattle.session.specs.declared.Waiting.TheVariants.{Nothing as NoReply, Pong as PongReply, Close as CloseReply}
use Rattle.session.specs.Frames.{reason_holds}
use Rattle.session.specs.Range.{in_range}
use Rattle.session.specs.Replies.{is_close_reply}
use Rattle.session.specs.Session.{is_server, is_client}
use Rattle.steady.specs.Shape.{Shaped}
use Rattle.steady.proofs.Again.{Room}
use Rattle.steady.proofs.Headers.{Waits}
use Rattle.link.specs.Demand.{FirstOf}
use Rattle.link.specs.System.{Item, item, End, Pipe, Answers, Side}
use Rattle.link.proofs.FrameRead.{Spot, Toward}
use Rattle.link.proofs.Frames.{Frame, wires, nothing, told, open_all, told_append, AllValid, has_close, CloseLast, close_ends}

-- ---- the five states
pub data Phase : Type 0 where
  active closed_by_us closed_by_peer acked over : Phase

abbrev pub number : Phase → ℕ
number active = 0
number closed_by_us = 1
number closed_by_peer = 2
number acked = 3
number over = 4

abbrev pub is_over : Phase → Bool
is_over active = false
is_over closed_by_us = false
is_over closed_by_peer = false
is_over acked = false
is_over over = true

pub over_number : (p : Phase) → is_over p ≡ eqb (number p) 4
over_number active = refl
over_number closed_by_us = refl
over_number closed_by_peer = refl
over_number acked = refl
over_number over = refl

-- how an end's state and waiting reply go with whether a close is among what it put out
abbrev pub Link : Phase → Waiting → Bool → Type 0
Link active NoReply c = c ≡ false
Link active PongReply c = c ≡ false
Link active CloseReply c = ⊥
Link closed_by_us NoReply c = c ≡ true
Link closed_by_us PongReply c = ⊥
Link closed_by_us CloseReply c = ⊥
Link closed_by_peer NoReply c = c ≡ true
Link closed_by_peer PongReply c = ⊥
Link closed_by_peer CloseReply c = c ≡ false
Link acked NoReply c = c ≡ true
Link acked PongReply c = ⊥
Link acked CloseReply c = ⊥
Link over w c = Unit {0}

-- how an end's state goes with whether it has got a close
abbrev pub Heard : Phase → Bool → Type 0
Heard active c = c ≡ false
Heard closed_by_us c = c ≡ false
Heard closed_by_peer c = c ≡ true
Heard acked c = c ≡ true
Heard over c = Unit {0}

-- ---- a waiting reply
abbrev pub load_of : Reply → List ℕ
load_of q = take q.length q.payload

-- a close's payload that a reader takes
abbrev pub SoundClose : List ℕ → Type 0
SoundClose p = (length p ≤ 125) × (length p ≡ 1 → ⊥) × (reason_holds p ≡ true)

abbrev pub Sound : Waiting → List ℕ → Type 0
Sound NoReply p = Unit {0}
Sound PongReply p = length p ≤ 125
Sound CloseReply p = SoundClose p

-- where a pong comes from: the caller, or one of the pings that were handed out
pub data Origin (handed : List Item) (load : List ℕ) : Type 0 where
  caller : Origin handed load
  answers : (before behind : List Item) → before ++ (item 4 load ∷ behind) ≡ handed → Origin handed load

abbrev pub Knows : Waiting → List Item → List ℕ → Type 0
Knows NoReply handed p = Unit {0}
Knows PongReply handed p = Origin handed p
Knows CloseReply handed p = Unit {0}

abbrev KindKnows : ControlKind → List Item → List ℕ → Type 0
KindKnows Close handed p = Unit {0}
KindKnows Ping handed p = Unit {0}
KindKnows Pong handed p = Origin handed p

abbrev pub FrameKnows : OpCode → List Item → List ℕ → Type 0
FrameKnows (Data d) handed p = Unit {0}
FrameKnows (Control k) handed p = KindKnows k handed p
FrameKnows (Reserved n) handed p = Unit {0}

abbrev pub AllKnow : List Item → List Frame → Type 0
AllKnow handed [] = Unit {0}
AllKnow handed (f ∷ fs) = FrameKnows f.op handed f.load × AllKnow handed fs

pub know_append : (handed : List Item) (a b : List Frame) → AllKnow handed a → AllKnow handed b → AllKnow handed (a ++ b)
know_append handed [] b x y = y
know_append handed (f ∷ a) b x y = (x.0, know_append handed a b x.1 y)

-- more is handed out, and they stay what they are
origin_on : (handed more : List Item) (p : List ℕ) → Origin handed p → Origin (handed ++ more) p
origin_on handed more p caller = caller
origin_on handed more p (answers before behind e) =
    answers before (behind ++ more) (sym (append_assoc before (item 4 p ∷ behind) more) ∙ ap (λ (l : List Item). l ++ more) e)

pub knows_on : (w : Waiting) (handed more : List Item) (p : List ℕ) → Knows w handed p → Knows w (handed ++ more) p
knows_on NoReply handed more p k = tt
knows_on PongReply handed more p k = origin_on handed more p k
knows_on CloseReply handed more p k = tt

kind-on : (k : ControlKind) (handed more : List Item) (p : List ℕ) → KindKnows k handed p → KindKnows k (handed ++ more) p
kind-on Close handed more p x = tt
kind-on Ping handed more p x = tt
kind-on Pong handed more p x = origin_on handed more p x

frame_on : (op : OpCode) (handed more : List Item) (p : List ℕ) → FrameKnows op handed p → FrameKnows op (handed ++ more) p
frame_on (Data d) handed more p x = tt
frame_on (Control k) handed more p x = kind-on k handed more p x
frame_on (Reserved n) handed more p x = tt

pub all_on : (handed more : List Item) (fs : List Frame) → AllKnow handed fs → AllKnow (handed ++ more) fs
all_on handed more [] a = tt
all_on handed more (f ∷ fs) a = (frame_on f.op handed more f.load a.0, all_on handed more fs a.1)

-- ---- an end by itself: its session is in range and not refused, and its stores have room
pub record Kept (e : End) : Type 0 where
  pub shaped : Shaped e.session
  pub ranged : in_range e.session ≡ true
  pub unrefused : e.session.refusal ≡ 0
  pub room : Room e.session.settings.message e.session.held e.message e.control e.output
  pub wide : 125 ≤ e.session.settings.frame

abbrev pub held_of : End → List ℕ
held_of e = take e.session.held e.output

-- ---- the parts of a direction. They are records over the values that they speak of, so that a part whose values did not change is used
-- again as it stands
-- what was put out and not read yet is in the hands of y, on the pipe, lost or held
pub record Wire (client : Bool) (frames rest : List Frame) (part lost : List ℕ) (pipe : Pipe) (held : List ℕ) : Type 0 where
  pub flow : part ++ (pipe.bytes ++ (lost ++ held)) ≡ wires client rest
  pub whole : pipe.cut ≡ false → lost ≡ []
  pub given : pipe.given ++ held ≡ wires client frames

pub record Sender (g : Settings) (server : Bool) (frames : List Frame) (p : Phase) (w : Waiting) (load : List ℕ) (a : Answers) : Type 0 where
  pub valid : AllValid g frames
  pub last : CloseLast frames
  pub link : Link p w (has_close frames)
  pub sound : Sound w load
  pub accepts : a.accepted ≡ told nothing frames
  pub asks : a.asked ≡ true → has_close frames ≡ true
  pub shut : server ≡ true → a.said ≡ true → has_close frames ≡ true
  pub late : server ≡ true → is_over p ≡ true → is_close_reply w ≡ false
  pub knows : Knows w a.handed load
  pub pongs : AllKnow a.handed frames

pub record Reader (g : Settings) (got : List Frame) (part : List ℕ) (i : Incoming) (m c : List ℕ) (p : Phase) (handed : List Item) (said : Bool) : Type 0 where
  pub spot : Spot g part i m c
  pub waits : Waits g i
  pub hands : handed ≡ told nothing got
  pub heard : Heard p (has_close got)
  pub says : said ≡ true → has_close got ≡ true

-- all frames of x, those that y has got, those that it has not, what it has of the first of these, and what a cut took
pub record Dir (x y : Side) (p q : Phase) : Type 0 where
  pub frames : List Frame
  pub got : List Frame
  pub rest : List Frame
  pub part : List ℕ
  pub lost : List ℕ
  pub split : got ++ rest ≡ frames
  pub toward : Toward (is_client x.end.session.settings) y.end.session.settings
  pub wire : Wire (is_client x.end.session.settings) frames rest part lost x.pipe (held_of x.end)
  pub sender : Sender y.end.session.settings (is_server x.end.session.settings) frames p x.end.session.reply.waiting (load_of x.end.session.reply) x.answers
  pub reader : Reader y.end.session.settings got part y.end.session.incoming y.end.message y.end.control q y.answers.handed y.answers.said

-- a direction of which only the side changed that speaks, or that hears. What the other parts speak of is the same
pub speaks : (x x' y : Side) (p p' q : Phase) (d : Dir x y p q) (lost : List ℕ) → Toward (is_client x'.end.session.settings) y.end.session.settings
    → Wire (is_client x'.end.session.settings) d.frames d.rest d.part lost x'.pipe (held_of x'.end)
    → Sender y.end.session.settings (is_server x'.end.session.settings) d.frames p' x'.end.session.reply.waiting (load_of x'.end.session.reply) x'.answers
    → Dir x' y p' q
speaks x x' y p p' q d lost toward wire sender =
    record {
      frames = d.frames;
      got = d.got;
      rest = d.rest;
      part = d.part;
      lost = lost;
      split = d.split;
      toward = toward;
      wire = wire;
      sender = sender;
      reader = d.reader;
    }

pub hears : (x y y' : Side) (p q q' : Phase) (d : Dir x y p q) → Toward (is_client x.end.session.settings) y'.end.session.settings
    → Sender y'.end.session.settings (is_server x.end.session.settings) d.frames p x.end.session.reply.waiting (load_of x.end.session.reply) x.answers
    → Reader y'.end.session.settings d.got d.part y'.end.session.incoming y'.end.message y'.end.control q' y'.answers.handed y'.answers.said
    → Dir x y' p q'
hears x y y' p q q' d toward sender reader =
    record {
      frames = d.frames;
      got = d.got;
      rest = d.rest;
      part = d.part;
      lost = d.lost;
      split = d.split;
      toward = toward;
      wire = d.wire;
      sender = sender;
      reader = reader;
    }

-- in another state
pub heard_as : {g : Settings} {got : List Frame} {part : List ℕ} {i : Incoming} {m c : List ℕ} {p : Phase} {handed : List Item} {said : Bool} (q : Phase)
    → Reader g got part i m c p handed said → Heard q (has_close got) → Reader g got part i m c q handed said
heard_as q x h = record { spot = x.spot; waits = x.waits; hands = x.hands; heard = h; says = x.says }

-- how x came to its end where nothing was cut: it said closed, and a client the server before it
pub record Fin (x y : Side) (p q : Phase) : Type 0 where
  pub ends : x.pipe.cut ≡ false → y.pipe.cut ≡ false → is_over p ≡ true
      → (x.answers.said ≡ true) × (is_server x.end.session.settings ≡ false → is_over q ≡ true)

pub record Inv (l r : Side) : Type 0 where
  pub p : Phase
  pub q : Phase
  pub is_p : l.end.session.state ≡ number p
  pub is_q : r.end.session.state ≡ number q
  pub kept-l : Kept l.end
  pub kept-r : Kept r.end
  pub lr : Dir l r p q
  pub rl : Dir r l q p
  pub fin_l : Fin l r p q
  pub fin_r : Fin r l q p

abbrev pub inv_swap : (l r : Side) → Inv l r → Inv r l
inv_swap l r v =
    record {
      p = v.q;
      q = v.p;
      is_p = v.is_q;
      is_q = v.is_p;
      kept-l = v.kept-r;
      kept-r = v.kept-l;
      lr = v.rl;
      rl = v.lr;
      fin_l = v.fin_r;
      fin_r = v.fin_l;
    }

-- ---- what a direction gives
module _ (x y : Side) (p q : Phase) (d : Dir x y p q) where
  -- what was handed out is the first of what was accepted
  pub first_dir : FirstOf y.answers.handed x.answers.accepted
  first_dir =
      record {
        others = told (open_all nothing d.got) d.rest;
        joined =
            ap (λ (l : List Item). l ++ told (open_all nothing d.got) d.rest) d.reader.hands
            ∙ sym (told_append nothing d.got d.rest)
            ∙ ap (told nothing) d.split
            ∙ sym d.sender.accepts;
      }

  -- where a close was got, all was got
  pub all_got : has_close d.got ≡ true → d.got ≡ d.frames
  all_got h =
      let none : d.rest ≡ [] = close_ends d.got d.rest (rw d.split d.sender.last) h in
      sym (append-nil d.got) ∙ ap (λ (l : List Frame). d.got ++ l) (sym none) ∙ d.split

  -- so an end that said closed has handed out all
  pub said_dir : y.answers.said ≡ true → y.answers.handed ≡ x.answers.accepted
  said_dir h = d.reader.hands ∙ ap (told nothing) (all_got (d.reader.says h)) ∙ sym d.sender.accepts
