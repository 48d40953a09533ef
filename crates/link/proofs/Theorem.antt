-- Demand 3, over every list of acts that meets its premises.
use mathlib.Core.Path.{◌≡◌, refl, sym, ap, subst, ◌∙◌}
use mathlib.Core.Bool.{Bool, true, false}
use mathlib.Core.List.{List, [], ◌∷◌, ◌++◌}
use Prim.Native.Nat.{ℕ, ◌≤◌}
use native.Mathlib.Omega.{arith}
use borrow.Author.Tests.{leb-true}
use Rattle.session.specs.Calls.{no_incoming, empty_reply, fresh, role_number, held_part, new_call}
use Rattle.session.specs.declared.Role.{Role}
use Rattle.session.specs.declared.Role.TheVariants.{Server, Client}
use Rattle.session.specs.declared.Session.{Session}
use Rattle.session.specs.declared.Settings.{Settings}
use Rattle.session.specs.Range.{limits_hold, in_range}
use Rattle.session.specs.Session.{is_client}
use Rattle.session.proofs.Choices.{both-parts}
use Rattle.session.proofs.InRange.{new_range}
use Rattle.steady.specs.Shape.{Shaped}
use Rattle.steady.proofs.Headers.{never}
use Rattle.steady.proofs.InRangeStays.{shape_new}
use Rattle.link.specs.Demand.{Fit, Allowed, AllowedTurn, AllAllowed, FirstOf, Refusals, AtRest}
use Rattle.link.specs.System.{End, Side, System, Keys, Lends, Act, send_text, send_binary, send_ping, send_pong, send_close, takes, reads, cuts, read_by, done, swap, Turn, on_left, on_right, next, run, fresh_side, outset}
use Rattle.link.proofs.Direction.{active, Kept, Dir, Inv, inv_swap, first_dir, said_dir}
use Rattle.link.proofs.FrameRead.{Toward, spot_between}
use Rattle.link.proofs.Frames.{Frame, wires, told, AllValid}
use Rattle.link.proofs.HeaderBack.{Between, unread}
use Rattle.link.proofs.ReadAct.{read-inv, read-refusals}
use Rattle.link.proofs.Rest.{both-said}
use Rattle.link.proofs.Sends.{text_inv, binary_inv, ping_inv, pong_inv, close_inv}
use Rattle.link.proofs.Takes.{take-inv, cut_inv, shown-held}

-- ---- every act keeps the invariant
act_inv : (s : System) (a : Act) → Allowed s a → Inv s.left s.right → Inv (done s a).left (done s a).right
unfolding done
act_inv s (send_text p k) good v = text_inv s.left s.right v k p good
act_inv s (send_binary p k) good v = binary_inv s.left s.right v k p good
act_inv s (send_ping p k) good v = ping_inv s.left s.right v k p
act_inv s (send_pong p k) good v = pong_inv s.left s.right v p k
act_inv s (send_close code reason k) good v = close_inv s.left s.right v k code reason good
act_inv s (takes n) good v = take-inv s.left s.right v n
act_inv s (reads n flag k) good v = read-inv s.left s.right v n flag k
act_inv s (cuts n) good v = cut_inv s.left s.right v n

next-inv : (s : System) (t : Turn) → AllowedTurn s t → Inv s.left s.right → Inv (next s t).left (next s t).right
unfolding next
next-inv s (on_left a) good v = act_inv s a good v
next-inv s (on_right a) good v = inv_swap _ _ (act_inv (swap s) a good (inv_swap _ _ v))

run-inv : (s : System) (ts : List Turn) → AllAllowed s ts → Inv s.left s.right → Inv (run s ts).left (run s ts).right
unfolding run AllAllowed
run-inv s [] good v = v
run-inv s (t ∷ ts) good v = run-inv (next s t) ts good.1 (next-inv s t good.0 v)

-- ---- the outset
abbrev settings : Role → Lends → Settings
settings role g = record { role = role_number role; frame = g.frame; message = g.message; unmasked = g.unmasked }

new_is : (role : Role) (g : Lends) → limits_hold g.frame g.message ≡ true
    → (new_call role g.frame g.message g.unmasked).session ≡ fresh (settings role g) 0
unfolding new_call
new_is role g h = rw h

abbrev fresh_end : Role → Lends → End
fresh_end role g = record { session = fresh (settings role g) 0; message = g.message_store; control = g.control_store; output = g.output_store }

abbrev fresh_made : Role → Lends → Side
fresh_made role g =
    record {
      end = fresh_end role g;
      pipe = record { given = []; bytes = []; cut = false };
      answers = record { accepted = []; handed = []; said = false; asked = false };
    }

fresh-is : (role : Role) (g : Lends) → Fit g → fresh_side role g ≡ fresh_made role g
unfolding fresh_side
fresh-is role g fit =
    ap
    (λ (s : Session).
    record {
      end = record { session = s; message = g.message_store; control = g.control_store; output = g.output_store };
      pipe = record { given = []; bytes = []; cut = false };
      answers = record { accepted = []; handed = []; said = false; asked = false };
    })
    (new_is role g fit.limits)

between_first : Between no_incoming
unfolding no_incoming
between_first = record { header-size = refl; none_kept = refl; none_counted = refl }

fresh_kept : (role : Role) (g : Lends) → Fit g → Kept (fresh_end role g)
unfolding fresh
fresh_kept role g fit =
    record {
      shaped = subst (λ (s : Session). Shaped s) (new_is role g fit.limits) (shape_new role g.frame g.message g.unmasked);
      ranged = subst (λ (s : Session). in_range s ≡ true) (new_is role g fit.limits) (new_range role g.frame g.message g.unmasked);
      unrefused = refl;
      room =
          record { for_message = fit.message_room; for_control = fit.control_room; for_output = fit.output_room; for_held = omega arith };
      wide = fit.wide;
    }

frame_limit : (g : Lends) → Fit g → g.frame ≤ 16777216
unfolding limits_hold
frame_limit g fit = leb-true g.frame 16777216 (both-parts _ _ fit.limits).0

fresh-dir : (x y : Role) (g h : Lends) → Fit h → Toward (is_client (settings x g)) (settings y h) → Dir (fresh_made x g) (fresh_made y h) active active
unfolding fresh wires told empty_reply no_incoming
fresh-dir x y g h fit toward =
    record {
      frames = [];
      got = [];
      rest = [];
      part = [];
      lost = [];
      split = refl;
      toward = toward;
      wire = record { flow = refl; whole = λ e. refl; given = refl };
      sender =
          record {
            valid = tt;
            last = tt;
            link = refl;
            sound = tt;
            accepts = refl;
            asks = λ e. e;
            shut = λ a e. e;
            late = λ a e. refl;
            knows = tt;
            pongs = tt;
          };
      reader =
          record {
            spot = spot_between (settings y h) no_incoming h.message_store h.control_store between_first refl fit.message_room fit.control_room;
            waits = λ e. never e (unread no_incoming between_first);
            hands = refl;
            heard = refl;
            says = λ e. e;
          };
    }

first_inv : (c d : Lends) → Fit c → Fit d → Inv (fresh_made Client c) (fresh_made Server d)
unfolding fresh
first_inv c d fit-c fit-d =
    record {
      p = active;
      q = active;
      is_p = refl;
      is_q = refl;
      kept-l = fresh_kept Client c fit-c;
      kept-r = fresh_kept Server d fit-d;
      lr = fresh-dir Client Server c d fit-d (record { to_server = refl; to_client = refl; limit = frame_limit d fit-d });
      rl = fresh-dir Server Client d c fit-c (record { to_server = refl; to_client = refl; limit = frame_limit c fit-c });
      fin_l = record { ends = λ a b e. never e refl };
      fin_r = record { ends = λ a b e. never e refl };
    }

-- ---- all that an end ever put out: what was taken of its output, and behind it what is held
pub record WholeFrames (x y : Side) : Type 0 where
  pub frames : List Frame
  pub bytes : x.pipe.given ++ held_part x.end.session x.end.output ≡ wires (is_client x.end.session.settings) frames
  pub admitted : AllValid y.end.session.settings frames

frames_of : (l r : Side) → Inv l r → WholeFrames l r
frames_of l r v =
    record {
      frames = v.lr.frames;
      bytes = ap (λ (b : List ℕ). l.pipe.given ++ b) (shown-held l.end v.kept-l) ∙ v.lr.wire.given;
      admitted = v.lr.sender.valid;
    }

-- ---- the demand, of a fresh client and a fresh server, with any limits, settings and stores that fit, and any list of acts that is allowed
module _ (client server : Lends) (fit-client : Fit client) (fit-server : Fit server) (turns : List Turn) (allowed : AllAllowed (outset client server) turns) where
  abbrev pub now : System
  now = run (outset client server) turns

  pub holds : Inv now.left now.right
  unfolding outset
  holds =
      run-inv (outset client server) turns allowed
      (subst (λ (x : Side). Inv x (fresh_side Server server)) (sym (fresh-is Client client fit-client))
      (subst (Inv (fresh_made Client client)) (sym (fresh-is Server server fit-server)) (first_inv client server fit-client fit-server)))

  -- 1. "At every moment, the data messages and pings handed out at one end are the first ones the other accepted for sending, in order."
  pub in_order : FirstOf now.right.answers.handed now.left.answers.accepted × FirstOf now.left.answers.handed now.right.answers.accepted
  in_order = (first_dir _ _ _ _ holds.lr, first_dir _ _ _ _ holds.rl)

  -- 2. "An end that answers "closed" holds all of them."
  pub closed_holds_all : (now.right.answers.said ≡ true → now.right.answers.handed ≡ now.left.answers.accepted)
      × (now.left.answers.said ≡ true → now.left.answers.handed ≡ now.right.answers.accepted)
  closed_holds_all = (said_dir _ _ _ _ holds.lr, said_dir _ _ _ _ holds.rl)

  -- 3. "Where one end's close was accepted, nothing was cut, all output was taken and delivered, and no further read of either end, offered all
  -- that its pipe still holds and the pipe's end once it is there, would change anything, both have answered "closed"."
  pub both-closed : AtRest now → (now.left.answers.said ≡ true) × (now.right.answers.said ≡ true)
  both-closed rest = both-said now.left now.right holds rest

  -- 4. a read of either end, of any number of the next bytes, with or without the flag, and with any masks
  pub refusals : (n : ℕ) (flag : Bool) (k : Keys) → Refusals now.left now.right k (read_by now.left now.right n flag k).turn.answer
      × Refusals now.right now.left k (read_by now.right now.left n flag k).turn.answer
  refusals n flag k =
      (read-refusals now.left now.right holds n flag k, read-refusals now.right now.left (inv_swap _ _ holds) n flag k)

  -- all that an end ever put out is whole frames, each of which the other's settings admit
  pub whole_frames : WholeFrames now.left now.right × WholeFrames now.right now.left
  whole_frames = (frames_of now.left now.right holds, frames_of now.right now.left (inv_swap _ _ holds))
