-- A step of a replay as a function on values: at most one line of the listing, one answer, one content of every store.
use Rattle.std.specs.Prelude.{Bool, true, false, List, [], ℕ, ◌+◌, ◌-◌, ltb, length, take}
use Rattle.base.specs.Stores.{laid}
use Rattle.base.specs.Table.{pick}
use Rattle.session.specs.Answers.{part_of}
use Rattle.session.specs.Calls.{Read, read_call, Sending, held_part, take_call}
use Rattle.session.specs.declared.Answer.{Answer}
use Rattle.session.specs.declared.Answer.TheVariants.{More, Text, Binary, Ping, Pong, Close, Closed, Refused}
use Rattle.session.specs.declared.Role.{Role}
use Rattle.session.specs.declared.Role.TheVariants.{Server, Client}
use Rattle.session.specs.declared.Session.{Session}
use Rattle.capture.specs.declared.place.FilePlace.{FilePlace}
use Rattle.capture.specs.declared.place.StreamPlace.{StreamPlace}
use Rattle.capture.specs.declared.record.Found.{Found}
use Rattle.capture.specs.declared.record.Found.TheVariants.{Lacking, Bad, Server as ServerFound, Client as ClientFound, Input, End}
use Rattle.capture.specs.declared.step.Came.{Came}
use Rattle.capture.specs.declared.step.Came.TheVariants.{Lacking as CameLacking, Full, Line, Last}
use Rattle.capture.specs.declared.step.Due.{Due}
use Rattle.capture.specs.declared.step.Due.TheVariants.{Role as RoleDue, Record as RecordDue, Call as CallDue, Put as PutDue, Told as ToldDue, Nothing as NothingDue}
use Rattle.capture.specs.declared.step.Replay.{Replay}
use Rattle.capture.specs.declared.step.Stepped.{Stepped}
use Rattle.capture.specs.Listing.{made, zero_masks, put_text, answer_text, bad_text}
use Rattle.capture.specs.Places.{file_place, stream_place, file_onward, stream_onward}
use Rattle.capture.specs.Records.{found_in}
use Rattle.steady.specs.Cutting.{is_final}

-- ---- what a step gives: its result, and the content of every store
pub record Step : Type 0 where
  pub stepped : Stepped
  pub message : List ℕ
  pub control : List ℕ
  pub output : List ℕ
  pub out : List ℕ

abbrev pub stepped : Came → ℕ → Replay → Stepped
stepped came n r = record { came = came; used = n; replay = r }

abbrev pub step : Stepped → List ℕ → List ℕ → List ℕ → List ℕ → Step
step x m c o out = record { stepped = x; message = m; control = c; output = o; out = out }

abbrev pub replay : Session → Due → ℕ → Bool → FilePlace → StreamPlace → Replay
replay s due left end file stream = record { session = s; due = due; left = left; end = end; file = file; stream = stream }

-- the replay with another session and something else due
abbrev pub with_due : Replay → Session → Due → Replay
with_due r s due = replay s due r.left r.end r.file r.stream

-- ---- before the first step. No role is known yet: the session is there to fill its place
unfoldable pub begun : Replay
begun = replay (made Server) RoleDue 0 false (file_place 0) (stream_place 0)

-- ---- the role record, and the others: what is said, and what follows
-- "Last line: `closed`, `refused N at P` .., or `capture bad at P` ..; nothing follows it."
unfoldable pub lastly : Replay → ℕ → Stepped
lastly r n = stepped (Last n) 0 (with_due r r.session NothingDue)

unfoldable pub in_role : Replay → Role → Stepped
in_role r role = stepped (Line 0) 2 (replay (made role) RecordDue 0 false (file_onward r.file 2) r.stream)

unfoldable pub in_record : Replay → ℕ → ℕ → Bool → Stepped
in_record r head n end = stepped (Line 0) head (replay r.session CallDue n end (file_onward r.file head) r.stream)

-- "`RS` or `RC` first and once (role)"
abbrev pub role_text : Replay → Found → List ℕ
role_text r Lacking = []
role_text r Bad = bad_text r.file.0
role_text r ServerFound = []
role_text r ClientFound = []
role_text r (Input n) = bad_text r.file.0
role_text r End = bad_text r.file.0

abbrev pub role_stepped : Replay → Found → Stepped
role_stepped r Lacking = stepped CameLacking 0 r
role_stepped r Bad = lastly r (length (bad_text r.file.0))
role_stepped r ServerFound = in_role r Server
role_stepped r ClientFound = in_role r Client
role_stepped r (Input n) = lastly r (length (bad_text r.file.0))
role_stepped r End = lastly r (length (bad_text r.file.0))

abbrev pub record_text : Replay → Found → List ℕ
record_text r Lacking = []
record_text r Bad = bad_text r.file.0
record_text r ServerFound = bad_text r.file.0
record_text r ClientFound = bad_text r.file.0
record_text r (Input n) = []
record_text r End = []

abbrev pub record_stepped : Replay → Found → Stepped
record_stepped r Lacking = stepped CameLacking 0 r
record_stepped r Bad = lastly r (length (bad_text r.file.0))
record_stepped r ServerFound = lastly r (length (bad_text r.file.0))
record_stepped r ClientFound = lastly r (length (bad_text r.file.0))
record_stepped r (Input n) = in_record r 4 n false
record_stepped r End = in_record r 2 0 true

-- ---- a call on what is left of the record
unfoldable pub call_stepped : Replay → Read → Stepped
call_stepped r x =
    stepped (Line 0) x.turn.taken
    (replay x.turn.session (PutDue x.turn.answer) (r.left - x.turn.taken) r.end (file_onward r.file x.turn.taken)
    (stream_onward r.stream x.turn.taken))

-- ---- the output that it left is taken
unfoldable pub put_stepped : Replay → Answer → Session → ℕ → Stepped
put_stepped r a s n = stepped (Line n) 0 (with_due r s (ToldDue a))

-- ---- its answer is told: behind an event the next call is due, behind more the next record, and nothing behind the last line
abbrev pub due_after : Answer → Due
due_after More = RecordDue
due_after (Text n) = CallDue
due_after (Binary n) = CallDue
due_after (Ping n) = CallDue
due_after (Pong n) = CallDue
due_after (Close n) = CallDue
due_after Closed = NothingDue
due_after (Refused k) = NothingDue

unfoldable pub told_stepped : Replay → Answer → ℕ → Stepped
told_stepped r a n =
    stepped (pick (is_final a) (Last n) (Line n)) 0 (with_due r r.session (due_after a))

-- ---- a step
abbrev pub by_due : Due → Replay → List ℕ → Bool → List ℕ → List ℕ → List ℕ → List ℕ → ℕ → Step
by_due RoleDue r window ended m c o out at =
    let f : Found = found_in window ended in
    step (role_stepped r f) m c o (laid out at (role_text r f))
by_due RecordDue r window ended m c o out at =
    let f : Found = found_in window ended in
    step (record_stepped r f) m c o (laid out at (record_text r f))
by_due CallDue r window ended m c o out at =
    let x : Read = read_call r.session (take r.left window) r.end zero_masks m c o in
    pick (ltb (length window) r.left) (step (stepped CameLacking 0 r) m c o out)
    (step (call_stepped r x) x.message x.control x.output out)
by_due (PutDue a) r window ended m c o out at =
    let text : List ℕ = put_text (held_part r.session o) in
    let u : Sending = take_call r.session r.session.held o in
    step (put_stepped r a u.handed.session (length text)) m c u.output (laid out at text)
by_due (ToldDue a) r window ended m c o out at =
    let text : List ℕ = answer_text a (part_of a m c) r.stream.0 in
    step (told_stepped r a (length text)) m c o (laid out at text)
by_due NothingDue r window ended m c o out at = step (stepped (Last 0) 0 r) m c o out

-- room for the longest line is asked for first
unfoldable pub step_call : Replay → List ℕ → Bool → List ℕ → List ℕ → List ℕ → List ℕ → ℕ → Step
step_call r window ended m c o out at =
    pick (ltb (length out) (at + 65600)) (step (stepped Full 0 r) m c o out) (by_due r.due r window ended m c o out at)
