-- Two ends joined by two pipes (demand 3). Every act is a public call's definition applied to the side's own session and stores, and what
-- counts is read off its answers.
use Rattle.std.specs.Prelude.{Bool, true, false, List, [], ◌∷◌, ◌++◌, ℕ, Option, eqb, leb, length, take, drop}
use Rattle.base.specs.Table.{pick, within}
use Rattle.base.specs.Tests.{both, either}
use Rattle.session.specs.Answers.{kind, part_of}
use Rattle.session.specs.Calls.{Read, read_call, Sending, text_call, binary_call, ping_call, pong_call, close_call, held_part, take_call, new_call}
use Rattle.session.specs.declared.Answer.{Answer}
use Rattle.session.specs.declared.Masks.{Masks}
use Rattle.session.specs.declared.Role.{Role}
use Rattle.session.specs.declared.Role.TheVariants.{Server, Client}
use Rattle.session.specs.declared.Session.{Session}
use Rattle.session.specs.Session.{is_terminated}
use Rattle.steady.specs.Taking.{is_done}

-- ---- what counts: "the data messages and pings", kind and bytes. The kind is the answer's place in document 01's list
pub record Item : Type 0 where
  pub kind : ℕ
  pub bytes : List ℕ

abbrev pub item : ℕ → List ℕ → Item
item k p = record { kind = k; bytes = p }

-- ---- a side
-- a session and the three stores that are lent to it
pub record End : Type 0 where
  pub session : Session
  pub message : List ℕ
  pub control : List ℕ
  pub output : List ℕ

-- the pipe out of it: all that was ever given to it, what it still holds, and whether it was cut
pub record Pipe : Type 0 where
  pub given : List ℕ
  pub bytes : List ℕ
  pub cut : Bool

-- what its calls have answered: the messages and pings accepted for sending, those handed out, whether it said closed, and whether a close
-- of its caller was accepted
pub record Answers : Type 0 where
  pub accepted : List Item
  pub handed : List Item
  pub said : Bool
  pub asked : Bool

pub record Side : Type 0 where
  pub end : End
  pub pipe : Pipe
  pub answers : Answers

pub record System : Type 0 where
  pub left : Side
  pub right : Side

-- ---- the masks of a call, any four bytes each
pub record Four : Type 0 where
  pub a : ℕ
  pub b : ℕ
  pub c : ℕ
  pub d : ℕ

pub record Keys : Type 0 where
  pub first : Four
  pub second : Four

abbrev pub four : Four → List ℕ
four k = k.a ∷ k.b ∷ k.c ∷ k.d ∷ []

abbrev pub masks : Keys → Masks
masks k = record { first = four k.first; second = four k.second }

-- ---- a sending call: "accepted for sending" means that it was not refused
unfoldable pub sent : Side → Sending → List Item → Bool → Side
sent x u items close =
    record {
      end = record { session = u.handed.session; message = x.end.message; control = x.end.control; output = u.output };
      pipe = x.pipe;
      answers =
          pick (is_done u.handed.sent)
          (record { accepted = x.answers.accepted ++ items; handed = x.answers.handed; said = x.answers.said; asked = either x.answers.asked close })
          x.answers;
    }

-- ---- a take: the first n of the bytes that are shown as held go onto the pipe, and are lost where it was cut; a take that is refused gives
-- none
unfoldable pub given_bytes : End → ℕ → List ℕ
given_bytes e n = pick (is_done (take_call e.session n e.output).handed.sent) (take n (held_part e.session e.output)) []

unfoldable pub taken : Side → ℕ → Side
taken x n =
    let u : Sending = take_call x.end.session n x.end.output in
    let bytes : List ℕ = given_bytes x.end n in
    record {
      end = record { session = u.handed.session; message = x.end.message; control = x.end.control; output = u.output };
      pipe =
          record { given = x.pipe.given ++ bytes; bytes = pick x.pipe.cut x.pipe.bytes (x.pipe.bytes ++ bytes); cut = x.pipe.cut };
      answers = x.answers;
    }

-- ---- a cut "for good at any byte": what is on the pipe behind it is lost
unfoldable pub cut_at : Side → ℕ → Side
cut_at x n =
    record { end = x.end; pipe = record { given = x.pipe.given; bytes = take n x.pipe.bytes; cut = true }; answers = x.answers }

-- ---- a read: "Each read is offered the next bytes of its pipe, and the end flag only where the pipe ends behind them."
-- "an end that is Terminated ends its pipe behind its last byte": once all that it held was taken
unfoldable pub ended : Side → Bool
ended y = either y.pipe.cut (both (is_terminated y.end.session.state) (eqb y.end.session.held 0))

abbrev pub offered : End → List ℕ → Bool → Keys → Read
offered e piece end k = read_call e.session piece end (masks k) e.message e.control e.output

unfoldable pub read_by : Side → Side → ℕ → Bool → Keys → Read
read_by x y n flag k =
    offered x.end (take n y.pipe.bytes) (both flag (both (ended y) (leb (length y.pipe.bytes) n))) k

-- "handed out": the answer's kind with the part that is shown of the store as the call left it. Text, binary and ping are counted
abbrev pub counted : Answer → List ℕ → List ℕ → List Item
counted a message control = pick (within 2 4 (kind a)) (item (kind a) (part_of a message control) ∷ []) []

-- the answer closed
abbrev pub is_closed : Answer → Bool
is_closed a = eqb (kind a) 7

-- the side that read, and the side whose pipe was read
unfoldable pub reader : Side → Read → Side
reader x r =
    record {
      end = record { session = r.turn.session; message = r.message; control = r.control; output = r.output };
      pipe = x.pipe;
      answers =
          record {
            accepted = x.answers.accepted;
            handed = x.answers.handed ++ counted r.turn.answer r.message r.control;
            said = either x.answers.said (is_closed r.turn.answer);
            asked = x.answers.asked;
          };
    }

unfoldable pub read_from : Side → ℕ → Side
read_from y n =
    record { end = y.end; pipe = record { given = y.pipe.given; bytes = drop n y.pipe.bytes; cut = y.pipe.cut }; answers = y.answers }

-- ---- what the caller of a side, or chance, does with it
pub data Act : Type 0 where
  send_text send_binary send_ping send_pong : List ℕ → Keys → Act
  send_close : Option ℕ → List ℕ → Keys → Act
  takes : ℕ → Act
  reads : ℕ → Bool → Keys → Act
  cuts : ℕ → Act

-- the answer of a sending call
abbrev pub text_to : End → List ℕ → Keys → Sending
text_to e p k = text_call e.session p (masks k) e.output

abbrev pub binary_to : End → List ℕ → Keys → Sending
binary_to e p k = binary_call e.session p (masks k) e.output

abbrev pub ping_to : End → List ℕ → Keys → Sending
ping_to e p k = ping_call e.session p (masks k) e.output

abbrev pub pong_to : End → List ℕ → Keys → Sending
pong_to e p k = pong_call e.session p (masks k) e.output

abbrev pub close_to : End → Option ℕ → List ℕ → Keys → Sending
close_to e code reason k = close_call e.session code reason (masks k) e.output

-- the system after an act of the left side
unfoldable pub done : System → Act → System
done s (send_text p k) = record { left = sent s.left (text_to s.left.end p k) (item 2 p ∷ []) false; right = s.right }
done s (send_binary p k) = record { left = sent s.left (binary_to s.left.end p k) (item 3 p ∷ []) false; right = s.right }
done s (send_ping p k) = record { left = sent s.left (ping_to s.left.end p k) (item 4 p ∷ []) false; right = s.right }
done s (send_pong p k) = record { left = sent s.left (pong_to s.left.end p k) [] false; right = s.right }
done s (send_close code reason k) = record { left = sent s.left (close_to s.left.end code reason k) [] true; right = s.right }
done s (takes n) = record { left = taken s.left n; right = s.right }
done s (reads n flag k) =
    let r : Read = read_by s.left s.right n flag k in
    record { left = reader s.left r; right = read_from s.right r.turn.taken }
done s (cuts n) = record { left = cut_at s.left n; right = s.right }

-- ---- acts of either side, one after the other
abbrev pub swap : System → System
swap s = record { left = s.right; right = s.left }

pub data Turn : Type 0 where
  on_left on_right : Act → Turn

unfoldable pub next : System → Turn → System
next s (on_left a) = done s a
next s (on_right a) = swap (done (swap s) a)

unfoldable pub run : System → List Turn → System
run s [] = s
run s (t ∷ ts) = run (next s t) ts

-- ---- the outset: "a fresh client and a fresh server"
-- limits, whether frames without a mask are permitted, and the stores that the caller lends
pub record Lends : Type 0 where
  pub frame : ℕ
  pub message : ℕ
  pub unmasked : Bool
  pub message_store : List ℕ
  pub control_store : List ℕ
  pub output_store : List ℕ

unfoldable pub fresh_side : Role → Lends → Side
fresh_side role g =
    record {
      end =
          record {
            session = (new_call role g.frame g.message g.unmasked).session;
            message = g.message_store;
            control = g.control_store;
            output = g.output_store;
          };
      pipe = record { given = []; bytes = []; cut = false };
      answers = record { accepted = []; handed = []; said = false; asked = false };
    }

unfoldable pub outset : Lends → Lends → System
outset client server = record { left = fresh_side Client client; right = fresh_side Server server }
