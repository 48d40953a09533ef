-- How many calls and how many records are enough, and the listing one call and one record at a time.
use mathlib.Core.Path.{◌≡◌, refl, sym, ap, ◌∙◌}
use mathlib.Core.Bool.{Bool, true, false}
use mathlib.Core.List.{List, [], ◌++◌}
use mathlib.Core.Logic.{◌⊎◌, inl, inr, ⊎_elim}
use Prim.Native.Nat.{ℕ, zero, suc, ◌+◌, ◌<◌, ◌≤◌}
use native.Mathlib.Omega.{arith}
use lib.Dec.{eqb, ltb}
use lib.ListN.{length, get_or, drop, length-drop}
use borrow.Author.Tests.{ltb-false}
use Rattle.std.proofs.Common.{Option, Some, None}
use Rattle.base.specs.Table.{pick}
use Rattle.base.proofs.Choice.{by_test}
use Rattle.base.specs.Tests.{first_of}
use Rattle.session.specs.Calls.{Read, read_call, take_tests, take_call}
use Rattle.session.specs.declared.Answer.{Answer}
use Rattle.session.specs.declared.Answer.TheVariants.{More, Text, Binary, Ping, Pong, Close, Closed, Refused}
use Rattle.session.specs.declared.Incoming.{Incoming}
use Rattle.session.specs.declared.Session.{Session}
use Rattle.session.specs.declared.Settings.{Settings}
use Rattle.session.specs.Reading.{is_more}
use Rattle.steady.specs.Cutting.{is_event, is_final}
use Rattle.steady.specs.Shape.{Shaped}
use Rattle.steady.proofs.Headers.{Waits, never}
use Rattle.steady.proofs.InRangeStays.{shape_stays_read, shape_stays_take}
use Rattle.steady.proofs.OneCall.{call_taken, event_waits, event_takes, ended-answers, late}
use Rattle.capture.specs.declared.record.Found.{Found}
use Rattle.capture.specs.declared.record.Found.TheVariants.{Lacking, Bad, Server, Client, Input, End}
use Rattle.capture.specs.declared.record.Mark.{Mark}
use Rattle.capture.specs.declared.record.Mark.TheVariants.{Server as ServerMark, Client as ClientMark, Input as InputMark, End as EndMark}
use Rattle.capture.specs.Listing.{Tape, zero_masks, called, after_call, after_take, call_lines, Fed, behind, calls_from, fed, Next, bad_record, next_of, records_from, records}
use Rattle.capture.specs.Places.{onward}
use Rattle.capture.specs.Records.{mark_of, short, input_length, input_in, by_mark, found_in}
use Rattle.listing.proofs.Texts.{onward-twice}

-- ---- calls
abbrev pub next_tape : Tape → List ℕ → Bool → Tape
next_tape t piece end = after_take (after_call t (called t piece end))

pub call_within : (t : Tape) (piece : List ℕ) (end : Bool) → (called t piece end).turn.taken ≤ length piece
unfolding called
call_within t piece end = call_taken t.session zero_masks t.message t.control t.output piece end

pub next-shaped : (t : Tape) (piece : List ℕ) (end : Bool) → Shaped t.session → Shaped (next_tape t piece end).session
unfolding called after_call after_take
next-shaped t piece end sh =
    let r : Read = read_call t.session piece end zero_masks t.message t.control t.output in
    shape_stays_take r.turn.session r.turn.session.held r.output
    (shape_stays_read t.session piece end zero_masks t.message t.control t.output sh)

-- more is answered with all taken
pub more_takes : (t : Tape) (piece : List ℕ) (end : Bool) → Shaped t.session → is_more (called t piece end).turn.answer ≡ true
    → (called t piece end).turn.taken ≡ length piece
unfolding called zero_masks
more_takes t piece true sh h = never h (ended-answers t.session zero_masks t.message t.control t.output piece)
more_takes t piece false sh h = (late t.session zero_masks t.message t.control t.output piece [] false refl sh h zero_masks refl).taken

-- the place moves on by the bytes that the call took
next_place : (t : Tape) (piece : List ℕ) (end : Bool) → (next_tape t piece end).stream ≡ onward t.stream (called t piece end).turn.taken
unfolding after_call after_take
next_place t piece end = refl

pub else_more : (a : Answer) → is_event a ≡ false → is_final a ≡ false → is_more a ≡ true
else_more More e f = refl
else_more (Text n) e f = sym e
else_more (Binary n) e f = sym e
else_more (Ping n) e f = sym e
else_more (Pong n) e f = sym e
else_more (Close n) e f = sym e
else_more Closed e f = sym f
else_more (Refused k) e f = sym f

-- one for each byte, one that gives no event, and one for an event that a session may still owe
abbrev Enough : ℕ → Tape → List ℕ → Type 0
Enough k t piece = (length piece + 2 ≤ k) ⊎ ((length piece + 1 ≤ k) × Waits t.session.settings t.session.incoming)

none_enough : {A : Type 0} (t : Tape) (piece : List ℕ) → Enough 0 t piece → A
none_enough t piece = ⊎_elim (λ h. absurd (omega arith)) (λ h. absurd (omega (arith, h.0)))

-- a take leaves the settings and what has come as they were
pub take-keeps : (P : Settings → Incoming → Type 0) (s : Session) (n : ℕ) (output : List ℕ) → P s.settings s.incoming
    → P (take_call s n output).handed.session.settings (take_call s n output).handed.session.incoming
unfolding take_call
take-keeps P s n output h = by_test (eqb (first_of (take_tests s n output)) 0) (λ t. rw t h) (λ t. rw t h)

module _ (t : Tape) (piece : List ℕ) (end : Bool) where
  abbrev r : Read
  r = called t piece end

  abbrev u : Tape
  u = next_tape t piece end

  abbrev left : List ℕ
  left = drop r.turn.taken piece

  next-waits : Shaped t.session → is_event r.turn.answer ≡ true → Waits u.session.settings u.session.incoming
  unfolding called after_call after_take
  next-waits sh e =
      let x : Read = read_call t.session piece end zero_masks t.message t.control t.output in
      take-keeps (λ g i. Waits g i) x.turn.session x.turn.session.held x.output
      (event_waits t.session zero_masks t.message t.control t.output piece end e sh)

  next-takes : is_event r.turn.answer ≡ true → Waits t.session.settings t.session.incoming → 0 < r.turn.taken
  unfolding called
  next-takes e w = event_takes t.session zero_masks t.message t.control t.output piece end e w

  next-enough : (k : ℕ) → Shaped t.session → is_event r.turn.answer ≡ true → Enough (suc k) t piece → Enough k u left
  next-enough k sh e =
      ⊎_elim (λ h. inr (omega (arith, length-drop r.turn.taken piece), next-waits sh e))
      (λ h. inr (omega (arith, length-drop r.turn.taken piece, next-takes e h.1, call_within t piece end, h.0), next-waits sh e))

  calls_on : (k : ℕ) → is_event r.turn.answer ≡ true → calls_from (suc k) t piece end ≡ behind (call_lines t r) (calls_from k u left end)
  unfolding calls_from
  calls_on k e = rw e

  calls_stop : (k : ℕ) → is_event r.turn.answer ≡ false
      → calls_from (suc k) t piece end ≡ record { text = call_lines t r; tape = u; over = is_final r.turn.answer }
  unfolding calls_from
  calls_stop k e = rw e

-- enough is as good as more
same_calls : (k j : ℕ) (t : Tape) (piece : List ℕ) (end : Bool) → Shaped t.session → Enough k t piece → Enough j t piece
    → calls_from k t piece end ≡ calls_from j t piece end
same_calls zero j t piece end sh x y = none_enough t piece x
same_calls (suc k) zero t piece end sh x y = none_enough t piece y
same_calls (suc k) (suc j) t piece end sh x y =
    by_test (is_event (called t piece end).turn.answer)
    (λ e.
    calls_on t piece end k e
    ∙ ap (behind (call_lines t (called t piece end)))
    (same_calls k j (next_tape t piece end) (drop (called t piece end).turn.taken piece) end (next-shaped t piece end sh) (next-enough t piece end k sh e x)
    (next-enough t piece end j sh e y))
    ∙ sym (calls_on t piece end j e))
    (λ e. calls_stop t piece end k e ∙ sym (calls_stop t piece end j e))

module _ (t : Tape) (piece : List ℕ) (end : Bool) where
  pub fed-on : Shaped t.session → is_event (called t piece end).turn.answer ≡ true
      → fed t piece end ≡ behind (call_lines t (called t piece end)) (fed (next_tape t piece end) (drop (called t piece end).turn.taken piece) end)
  unfolding fed
  fed-on sh e =
      let k : ℕ = suc (length piece) in
      let rest : List ℕ = drop (called t piece end).turn.taken piece in
      let start : Enough (suc k) t piece = inl (omega arith) in
      calls_on t piece end k e
      ∙ ap (behind (call_lines t (called t piece end)))
      (same_calls k (suc (suc (length rest))) (next_tape t piece end) rest end (next-shaped t piece end sh) (next-enough t piece end k sh e start) (inl (omega arith)))

  pub fed-stop : is_event (called t piece end).turn.answer ≡ false
      → fed t piece end ≡ record { text = call_lines t (called t piece end); tape = next_tape t piece end; over = is_final (called t piece end).turn.answer }
  unfolding fed
  fed-stop e = calls_stop t piece end (suc (length piece)) e

-- ---- the place in the stream: a record that is not the last is taken whole
calls_place : (k : ℕ) (t : Tape) (piece : List ℕ) (end : Bool) → Shaped t.session → Enough k t piece → (calls_from k t piece end).over ≡ false
    → (calls_from k t piece end).tape.stream ≡ onward t.stream (length piece)
unfolding behind
calls_place zero t piece end sh x h = none_enough t piece x
calls_place (suc k) t piece end sh x h =
    let n : ℕ = (called t piece end).turn.taken in
    let left : List ℕ = drop n piece in
    by_test (is_event (called t piece end).turn.answer)
    (λ e.
    let on = calls_on t piece end k e in
    let further : onward (onward t.stream n) (length left) ≡ onward t.stream (length piece) =
    let sum : n + length left ≡ length piece = omega (arith, length-drop n piece, call_within t piece end) in
    onward-twice t.stream n (length left) ∙ ap (onward t.stream) sum in
    ap (λ (f : Fed). f.tape.stream) on
    ∙ calls_place k (next_tape t piece end) left end (next-shaped t piece end sh) (next-enough t piece end k sh e x)
    (sym (ap (λ (f : Fed). f.over) on) ∙ h)
    ∙ ap (λ (p : ℕ). onward p (length left)) (next_place t piece end)
    ∙ further)
    (λ e.
    let stop = calls_stop t piece end k e in
    let more : is_more (called t piece end).turn.answer ≡ true = else_more (called t piece end).turn.answer e (sym (ap (λ (f : Fed). f.over) stop) ∙ h) in
    ap (λ (f : Fed). f.tape.stream) stop ∙ next_place t piece end ∙ ap (onward t.stream) (more_takes t piece end sh more))

pub record_taken : (t : Tape) (piece : List ℕ) (end : Bool) → Shaped t.session → (fed t piece end).over ≡ false
    → (fed t piece end).tape.stream ≡ onward t.stream (length piece)
unfolding fed
record_taken t piece end sh h = calls_place (suc (suc (length piece))) t piece end sh (inl (omega arith)) h

-- ---- records
-- a record that is found is all there
abbrev pub Within : Found → List ℕ → Type 0
Within Lacking rest = Unit
Within Bad rest = Unit
Within Server rest = 2 ≤ length rest
Within Client rest = 2 ≤ length rest
Within (Input n) rest = 4 + n ≤ length rest
Within End rest = 2 ≤ length rest

short-within : (ended : Bool) (rest : List ℕ) → Within (short ended) rest
unfolding short
short-within true rest = tt
short-within false rest = tt

input_within : (rest : List ℕ) (ended : Bool) → Within (input_in rest ended) rest
unfolding input_in
input_within rest ended =
    by_test (ltb (length rest) 4) (λ t. rw t (short-within ended rest))
    (λ t.
    by_test (ltb (length rest) (4 + input_length rest)) (λ u. rw (t, u) (short-within ended rest))
    (λ u. rw (t, u) (ltb-false (length rest) (4 + input_length rest) u)))

mark_within : (m : Option Mark) (rest : List ℕ) (ended : Bool) → 2 ≤ length rest → Within (by_mark m rest ended) rest
mark_within (Some ServerMark) rest ended h = h
mark_within (Some ClientMark) rest ended h = h
mark_within (Some InputMark) rest ended h = input_within rest ended
mark_within (Some EndMark) rest ended h = h
mark_within None rest ended h = tt

pub found_within : (rest : List ℕ) (ended : Bool) → Within (found_in rest ended) rest
unfolding found_in
found_within rest ended =
    by_test (ltb (length rest) 2) (λ t. rw t (short-within ended rest))
    (λ t. rw t (mark_within (mark_of (get_or rest 0 0) (get_or rest 1 0)) rest ended (ltb-false (length rest) 2 t)))

-- what follows a record that is not the last is shorter
next-less : (f : Found) (t : Tape) (place : ℕ) (rest : List ℕ) → Within f rest → (next_of f t place rest).fed.over ≡ false
    → length (drop (next_of f t place rest).size rest) < length rest
unfolding bad_record
next-less Lacking t place rest w h = never refl h
next-less Bad t place rest w h = never refl h
next-less Server t place rest w h = never refl h
next-less Client t place rest w h = never refl h
next-less (Input n) t place rest w h = omega (arith, length-drop (4 + n) rest)
next-less End t place rest w h = omega (arith, length-drop 2 rest)

abbrev pub next_at : Tape → ℕ → List ℕ → Next
next_at t place rest = next_of (found_in rest true) t place rest

pub next-shorter : (t : Tape) (place : ℕ) (rest : List ℕ) → (next_at t place rest).fed.over ≡ false
    → length (drop (next_at t place rest).size rest) < length rest
next-shorter t place rest h = next-less (found_in rest true) t place rest (found_within rest true) h

-- what follows a record, if it is not the last
followed : (x : Next) (rest more : List ℕ) → (x.fed.over ≡ false → rest ≡ more)
    → x.fed.text ++ pick x.fed.over [] rest ≡ x.fed.text ++ pick x.fed.over [] more
followed x rest more h = ap (λ (l : List ℕ). x.fed.text ++ l) (go x.fed.over h)
  where
    go : (b : Bool) → (b ≡ false → rest ≡ more) → pick b [] rest ≡ pick b [] more
    go true k = refl
    go false k = k refl

same_records : (k j : ℕ) (t : Tape) (place : ℕ) (rest : List ℕ) → length rest < k → length rest < j
    → records_from k t place rest ≡ records_from j t place rest
unfolding records_from
same_records zero j t place rest x y = absurd (omega arith)
same_records (suc k) zero t place rest x y = absurd (omega arith)
same_records (suc k) (suc j) t place rest x y =
    let n : Next = next_at t place rest in
    followed n _ _
    (λ h.
    let less = next-shorter t place rest h in
    same_records k j n.fed.tape (onward place n.size) (drop n.size rest) (omega arith) (omega arith))

-- what a record adds, and what follows
abbrev pub continued : Next → ℕ → List ℕ → List ℕ
continued x place rest = x.fed.text ++ pick x.fed.over [] (records x.fed.tape (onward place x.size) (drop x.size rest))

pub records-on : (t : Tape) (place : ℕ) (rest : List ℕ) → records t place rest ≡ continued (next_of (found_in rest true) t place rest) place rest
unfolding records records_from
records-on t place rest =
    let n : Next = next_at t place rest in
    followed n _ _
    (λ h.
    same_records (length rest) (suc (length (drop n.size rest))) n.fed.tape (onward place n.size) (drop n.size rest) (next-shorter t place rest h)
    (omega arith))
