-- A stream that comes in pieces, and what is seen of it call by call.
use Rattle.std.specs.Prelude.{Bool, true, false, List, [], ◌∷◌, ◌++◌, ℕ, zero, suc, ◌+◌, length, drop}
use Rattle.base.specs.Table.{pick}
use Rattle.session.specs.declared.Answer.{Answer}
use Rattle.session.specs.declared.Answer.TheVariants.{More, Text, Binary, Ping, Pong, Close, Closed, Refused}
use Rattle.session.specs.declared.Masks.{Masks}
use Rattle.session.specs.declared.Session.{Session}
use Rattle.session.specs.Calls.{Read, read_call}
use Rattle.session.specs.Reading.{is_more}

-- ---- answers
-- an event: the same piece is read on behind it
abbrev pub is_event : Answer → Bool
is_event More = false
is_event (Text n) = true
is_event (Binary n) = true
is_event (Ping n) = true
is_event (Pong n) = true
is_event (Close n) = true
is_event Closed = false
is_event (Refused k) = false

-- closed, or refused: nothing is read behind it
abbrev pub is_final : Answer → Bool
is_final More = false
is_final (Text n) = false
is_final (Binary n) = false
is_final (Ping n) = false
is_final (Pong n) = false
is_final (Close n) = false
is_final Closed = true
is_final (Refused k) = true

-- ---- what the calls so far have led to
-- an answer other than more, and the place in the stream behind the bytes that it took
pub record Seen : Type 0 where
  pub answer : Answer
  pub place : ℕ

-- the session, the three stores, the place in the stream that is reached, all that was answered but more, and whether that was final
pub record Run : Type 0 where
  pub session : Session
  pub message : List ℕ
  pub control : List ℕ
  pub output : List ℕ
  pub place : ℕ
  pub trace : List Seen
  pub over : Bool

-- an answer other than more is written down behind the others
unfoldable pub noted : List Seen → Answer → ℕ → List Seen
noted trace a place = pick (is_more a) trace (trace ++ (record { answer = a; place = place } ∷ []))

-- what a call leaves, at this place
unfoldable pub landed : List Seen → Read → ℕ → Run
landed trace r place =
    record {
      session = r.turn.session;
      message = r.message;
      control = r.control;
      output = r.output;
      place = place;
      trace = noted trace r.turn.answer place;
      over = is_final r.turn.answer;
    }

-- the place moves on by the bytes that the call took
unfoldable pub behind : Run → Read → Run
behind run r = landed run.trace r (run.place + r.turn.taken)

-- ---- reading
-- one call. Its masks hang on the place in the stream, and not on the count of calls
unfoldable pub call_at : (ℕ → Masks) → Run → List ℕ → Bool → Read
call_at masks run piece end = read_call run.session piece end (masks run.place) run.message run.control run.output

-- and what it leaves
unfoldable pub read_once : (ℕ → Masks) → Run → List ℕ → Bool → Run
read_once masks run piece end = behind run (call_at masks run piece end)

-- call after call on what is left of the piece, until more or a final answer; at most as many calls as the first number says
unfoldable pub read_all : ℕ → (ℕ → Masks) → Run → List ℕ → Bool → Run
read_all zero masks run piece end = run
read_all (suc fuel) masks run piece end =
    pick (is_event (call_at masks run piece end).turn.answer)
    (read_all fuel masks (read_once masks run piece end) (drop (call_at masks run piece end).turn.taken piece) end)
    (read_once masks run piece end)

-- a whole piece, unless all is over. Every event takes a byte, but for one that a session may still owe, and the last call gives none
unfoldable pub read_piece : (ℕ → Masks) → Run → List ℕ → Bool → Run
read_piece masks run piece end = pick run.over run (read_all (suc (suc (length piece))) masks run piece end)

-- piece after piece; the end flag comes with the last
unfoldable pub read_pieces : (ℕ → Masks) → Run → List (List ℕ) → Bool → Run
read_pieces masks run [] end = run
read_pieces masks run (p ∷ []) end = read_piece masks run p end
read_pieces masks run (p ∷ (q ∷ ps)) end = read_pieces masks (read_piece masks run p false) (q ∷ ps) end

-- the pieces as one
unfoldable pub joined : List (List ℕ) → List ℕ
joined [] = []
joined (p ∷ ps) = p ++ joined ps
