-- Every listing is lines of the six words and then one last line.
use mathlib.Core.Path.{◌≡◌, refl, sym, ap, subst, ◌∙◌}
use mathlib.Core.Bool.{Bool, true, false}
use mathlib.Core.List.{List, [], ◌++◌, append_assoc, append-nil}
use Prim.Native.Nat.{ℕ, zero, suc, ◌<◌}
use native.Mathlib.Omega.{arith}
use lib.Dec.{eqb}
use lib.ListN.{length, drop}
use Rattle.base.specs.Bytes.{part}
use Rattle.base.specs.Table.{pick}
use Rattle.base.proofs.Choice.{by_test}
use Rattle.lines.specs.Text.{counted}
use Rattle.session.specs.Calls.{Read}
use Rattle.session.specs.declared.Answer.{Answer}
use Rattle.session.specs.declared.Answer.TheVariants.{More, Text, Binary, Ping, Pong, Close, Closed, Refused}
use Rattle.session.specs.declared.Role.TheVariants.{Server as ServerRole, Client as ClientRole}
use Rattle.steady.specs.Cutting.{is_event, is_final}
use Rattle.steady.proofs.Headers.{never}
use Rattle.steady.proofs.OneCall.{event_on}
use Rattle.capture.specs.declared.record.Found.{Found}
use Rattle.capture.specs.declared.record.Found.TheVariants.{Lacking, Bad, Server, Client, Input, End}
use Rattle.capture.specs.Listing.{Tape, tape_of, put_word, text_word, binary_word, ping_word, pong_word, close_word, put_text, answer_text, called, after_call, held_text, after_take, told_text, Fed, behind, call_lines, calls_from, fed, Next, bad_record, next_of, records_from, records, first_record, listing_with}
use Rattle.capture.specs.Places.{onward}
use Rattle.capture.specs.Records.{found_in}
use Rattle.listing.specs.LastLine.{Word, Lines, LastLine, Listed}
use Rattle.listing.specs.LastLine.Word.{put, text, binary, ping, pong, close}
use Rattle.listing.specs.LastLine.Lines.{none, line}
use Rattle.listing.specs.LastLine.LastLine.{closed, refused, bad}
use Rattle.listing.proofs.Fuel.{next_at, next-shorter}

-- ---- lines behind lines
lines_append : {a b : List ℕ} → Lines a → Lines b → Lines (a ++ b)
lines_append none y = y
lines_append {b = b} (line word bytes more w x) y =
    subst Lines (sym (append_assoc (counted word bytes) more b)) (line word bytes (more ++ b) w (lines_append x y))

one_line : (word bytes : List ℕ) → Word word → Lines (counted word bytes)
one_line word bytes w = subst Lines (append-nil (counted word bytes)) (line word bytes [] w none)

listed_behind : {a b : List ℕ} → Lines a → Listed b → Listed (a ++ b)
listed_behind {a} {b} x y =
    record {
      before = a ++ y.before;
      last = y.last;
      whole = ap (λ (l : List ℕ). a ++ l) y.whole ∙ sym (append_assoc a y.before y.last);
      lines = lines_append x y.lines;
      last_line = y.last_line;
    }

only_last : {a : List ℕ} → LastLine a → Listed a
only_last {a} x = record { before = []; last = a; whole = refl; lines = none; last_line = x }

-- ---- a call
put_lines : (bytes : List ℕ) → Lines (put_text bytes)
unfolding put_text
put_lines bytes = by_test (eqb (length bytes) 0) (λ t. rw t none) (λ t. rw t (one_line put_word bytes put))

answer_lines : (a : Answer) (bytes : List ℕ) (place : ℕ) → is_final a ≡ false → Lines (answer_text a bytes place)
answer_lines More bytes place h = none
answer_lines (Text n) bytes place h = one_line text_word bytes text
answer_lines (Binary n) bytes place h = one_line binary_word bytes binary
answer_lines (Ping n) bytes place h = one_line ping_word bytes ping
answer_lines (Pong n) bytes place h = one_line pong_word bytes pong
answer_lines (Close n) bytes place h = one_line close_word bytes close
answer_lines Closed bytes place h = never refl h
answer_lines (Refused k) bytes place h = never refl h

answer_last : (a : Answer) (bytes : List ℕ) (place : ℕ) → is_final a ≡ true → LastLine (answer_text a bytes place)
answer_last More bytes place h = never h refl
answer_last (Text n) bytes place h = never h refl
answer_last (Binary n) bytes place h = never h refl
answer_last (Ping n) bytes place h = never h refl
answer_last (Pong n) bytes place h = never h refl
answer_last (Close n) bytes place h = never h refl
answer_last Closed bytes place h = closed
answer_last (Refused k) bytes place h = refused k place

call_lines_lem : (t : Tape) (r : Read) → is_final r.turn.answer ≡ false → Lines (call_lines t r)
unfolding call_lines held_text told_text
call_lines_lem t r h = lines_append (put_lines _) (answer_lines r.turn.answer _ _ h)

call_last : (t : Tape) (r : Read) → is_final r.turn.answer ≡ true → Listed (call_lines t r)
unfolding call_lines held_text told_text
call_last t r h = listed_behind (put_lines _) (only_last (answer_last r.turn.answer _ _ h))

-- ---- the calls of a record: lines, and the last one where all is over
abbrev Ended : Bool → List ℕ → Type 0
Ended over said = pick over (Listed said) (Lines said)

stop_ends : (t : Tape) (r : Read) (b : Bool) → is_final r.turn.answer ≡ b → Ended b (call_lines t r)
stop_ends t r true h = call_last t r h
stop_ends t r false h = call_lines_lem t r h

on_ends : (b : Bool) {a : List ℕ} (l : List ℕ) → Lines a → Ended b l → Ended b (a ++ l)
on_ends true l x y = listed_behind x y
on_ends false l x y = lines_append x y

calls_end : (k : ℕ) (t : Tape) (piece : List ℕ) (end : Bool) → Ended (calls_from k t piece end).over (calls_from k t piece end).text
unfolding calls_from behind
calls_end zero t piece end = none
calls_end (suc k) t piece end =
    let r : Read = called t piece end in
    let further : Fed = calls_from k (after_take (after_call t r)) (drop r.turn.taken piece) end in
    by_test (is_event r.turn.answer)
    (λ e.
    rw e
    (on_ends further.over further.text (call_lines_lem t r (event_on r.turn.answer e))
    (calls_end k (after_take (after_call t r)) (drop r.turn.taken piece) end)))
    (λ e. rw e (stop_ends t r (is_final r.turn.answer) refl))

-- ---- the records
next-ends : (f : Found) (t : Tape) (place : ℕ) (rest : List ℕ) → Ended (next_of f t place rest).fed.over (next_of f t place rest).fed.text
unfolding bad_record fed
next-ends Lacking t place rest = only_last (bad place)
next-ends Bad t place rest = only_last (bad place)
next-ends Server t place rest = only_last (bad place)
next-ends Client t place rest = only_last (bad place)
next-ends (Input n) t place rest = calls_end (suc (suc (length (part 4 n rest)))) t (part 4 n rest) false
next-ends End t place rest = calls_end 2 t [] true

followed_ends : (b : Bool) (said more : List ℕ) → Ended b said → (b ≡ false → Listed more) → Listed (said ++ pick b [] more)
followed_ends true said more x y = subst Listed (sym (append-nil said)) x
followed_ends false said more x y = listed_behind x (y refl)

records-end : (k : ℕ) (t : Tape) (place : ℕ) (rest : List ℕ) → length rest < k → Listed (records_from k t place rest)
unfolding records_from
records-end zero t place rest h = absurd (omega arith)
records-end (suc k) t place rest h =
    let n : Next = next_at t place rest in
    followed_ends n.fed.over n.fed.text _ (next-ends (found_in rest true) t place rest)
    (λ e.
    let less = next-shorter t place rest e in
    records-end k n.fed.tape (onward place n.size) (drop n.size rest) (omega arith))

all_end : (t : Tape) (place : ℕ) (rest : List ℕ) → Listed (records t place rest)
unfolding records
all_end t place rest = records-end (suc (length rest)) t place rest (omega arith)

first_ends : (f : Found) (m c o : List ℕ) (place : ℕ) (rest : List ℕ) → Listed (first_record f m c o place rest)
first_ends Lacking m c o place rest = only_last (bad place)
first_ends Bad m c o place rest = only_last (bad place)
first_ends Server m c o place rest = all_end (tape_of ServerRole m c o) (onward place 2) (drop 2 rest)
first_ends Client m c o place rest = all_end (tape_of ClientRole m c o) (onward place 2) (drop 2 rest)
first_ends (Input n) m c o place rest = only_last (bad place)
first_ends End m c o place rest = only_last (bad place)

-- the last line of every listing is one of the three, and nothing follows it
pub one_last_line : (m c o file : List ℕ) → Listed (listing_with m c o file)
unfolding listing_with
one_last_line m c o file = first_ends (found_in file true) m c o 0 file
