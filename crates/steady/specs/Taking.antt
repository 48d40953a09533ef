-- Output that is taken between the calls, and what of a call and of a run does not hang on it.
use Rattle.std.specs.Prelude.{Bool, true, false, not, List, [], ◌∷◌, ◌++◌, ℕ, zero, suc, ◌+◌, eqb, length, take, drop}
use Rattle.base.specs.Table.{pick}
use Rattle.base.specs.Tests.{both, either}
use Rattle.session.specs.declared.Answer.{Answer}
use Rattle.session.specs.declared.Answer.TheVariants.{More, Text, Binary, Ping, Pong, Close, Closed, Refused}
use Rattle.session.specs.declared.Masks.{Masks}
use Rattle.session.specs.declared.Session.{Session}
use Rattle.session.specs.Calls.{empty_reply, Read, turn, read, Sending, take_call}
use Rattle.session.specs.Refusals.{Sent, Done, Refused as NotSent}
use Rattle.session.specs.Session.{is_server, with_reply, with_held}
use Rattle.steady.specs.Cutting.{is_event, Seen, Run, call_at, read_once}

-- ---- what is compared
-- the session but for its waiting reply and what it holds
unfoldable pub apart : Session → Session
apart s = with_held (with_reply s empty_reply) 0

-- what a call leaves, but for these and the output
unfoldable pub apart_read : Read → Read
apart_read r = read (turn r.turn.answer r.turn.taken (apart r.turn.session)) r.message r.control []

unfoldable pub apart_run : Run → Run
apart_run run =
    record {
      session = apart run.session;
      message = run.message;
      control = run.control;
      output = [];
      place = run.place;
      trace = run.trace;
      over = run.over;
    }

-- ---- what is left out: a call that is refused for a store, for want of room, or for a session out of range
abbrev pub refused_by : ℕ → Answer → Bool
refused_by k More = false
refused_by k (Text n) = false
refused_by k (Binary n) = false
refused_by k (Ping n) = false
refused_by k (Pong n) = false
refused_by k (Close n) = false
refused_by k Closed = false
refused_by k (Refused n) = eqb n k

unfoldable pub hindered : Answer → Bool
hindered a = either (refused_by 1 a) (either (refused_by 19 a) (refused_by 20 a))

-- none of these answers is 19, "output has no room"
unfoldable pub had_room : List Seen → Bool
had_room [] = true
had_room (x ∷ xs) = both (not (refused_by 19 x.answer)) (had_room xs)

-- and 19 is a server's: a run of a client, or one without that answer
unfoldable pub spared : Run → Bool
spared run = either (not (is_server run.session.settings)) (had_room run.trace)

-- ---- a caller
-- what it does, by the count of the calls before: the masks that it brings to a call, and how much it takes behind it, one take after the
-- other. It may look at all that it has in hand
pub record Caller : Type 0 where
  pub masks : ℕ → Masks
  pub takes : ℕ → Run → List ℕ

-- what the calls have led to, how many they were, and all the bytes that were taken from the output
pub record Flow : Type 0 where
  pub run : Run
  pub calls : ℕ
  pub put : List ℕ

abbrev pub is_done : Sent → Bool
is_done Done = true
is_done (NotSent k) = false

-- ---- a take
unfoldable pub taken_run : Run → ℕ → Run
taken_run run n =
    let t : Sending = take_call run.session n run.output in
    record {
      session = t.handed.session;
      message = run.message;
      control = run.control;
      output = t.output;
      place = run.place;
      trace = run.trace;
      over = run.over;
    }

-- "taking n removes the first n"; one that is refused removes nothing
unfoldable pub taken_bytes : Run → ℕ → List ℕ
taken_bytes run n = pick (is_done (take_call run.session n run.output).handed.sent) (take n run.output) []

unfoldable pub take_each : Flow → List ℕ → Flow
take_each x [] = x
take_each x (n ∷ ns) =
    take_each (record { run = taken_run x.run n; calls = x.calls; put = x.put ++ taken_bytes x.run n }) ns

-- ---- reading and taking: as in Cutting.antt, with takes behind every call
unfoldable pub flow_call : Caller → Flow → List ℕ → Bool → Read
flow_call c x piece end = call_at (λ place. c.masks x.calls) x.run piece end

unfoldable pub flow_once : Caller → Flow → List ℕ → Bool → Flow
flow_once c x piece end =
    let run : Run = read_once (λ place. c.masks x.calls) x.run piece end in
    take_each (record { run = run; calls = x.calls + 1; put = x.put }) (c.takes x.calls run)

unfoldable pub flow_all : ℕ → Caller → Flow → List ℕ → Bool → Flow
flow_all zero c x piece end = x
flow_all (suc fuel) c x piece end =
    pick (is_event (flow_call c x piece end).turn.answer)
    (flow_all fuel c (flow_once c x piece end) (drop (flow_call c x piece end).turn.taken piece) end)
    (flow_once c x piece end)

unfoldable pub flow_piece : Caller → Flow → List ℕ → Bool → Flow
flow_piece c x piece end = pick x.run.over x (flow_all (suc (suc (length piece))) c x piece end)

unfoldable pub flow_pieces : Caller → Flow → List (List ℕ) → Bool → Flow
flow_pieces c x [] end = x
flow_pieces c x (p ∷ []) end = flow_piece c x p end
flow_pieces c x (p ∷ (q ∷ ps)) end = flow_pieces c (flow_piece c x p false) (q ∷ ps) end
