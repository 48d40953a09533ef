-- Laws of a step: the lines that it lays, and what it comes to, case by case.
use mathlib.Core.Path.{◌≡◌, sym, ap, ap₂, subst, ◌∙◌}
use mathlib.Core.Bool.{Bool, true, false, not}
use mathlib.Core.List.{List, []}
use Prim.Native.Nat.{ℕ, ◌+◌, ◌-◌, ◌≤◌, ◌<◌}
use native.Mathlib.Nat.{min-le_right}
use native.Mathlib.Omega.{arith}
use lib.Dec.{eqb, ltb}
use lib.ListN.{length, take, length-take}
use borrow.Author.Tests.{lt-ltb, le-ltb, eq-eqb, ne_eqb, ltb-false, not-true, not-false}
use Rattle.base.specs.Stores.{laid}
use Rattle.base.specs.Table.{pick}
use Rattle.base.proofs.Choice.{by_test}
use Rattle.lines.specs.Text.{Wrote, decimal, counted, at_place}
use Rattle.lines.proofs.Laws.{wrote_none, wrote_on}
use Rattle.session.specs.Answers.{shown, part_number, part_of}
use Rattle.session.specs.Calls.{Read, read, read_call, Handed, Sending, sending, held_number, held_part, take_call}
use Rattle.session.specs.declared.Answer.{Answer}
use Rattle.session.specs.declared.Answer.TheVariants.{More, Text, Binary, Ping, Pong, Close, Closed, Refused}
use Rattle.session.specs.declared.Masks.{Masks}
use Rattle.session.specs.declared.Session.{Session}
use Rattle.session.specs.declared.Turn.{Turn}
use Rattle.steady.specs.Cutting.{is_final}
use Rattle.steady.proofs.OneCall.{call_taken}
use Rattle.capture.specs.declared.place.FilePlace.{FilePlace}
use Rattle.capture.specs.declared.place.StreamPlace.{StreamPlace}
use Rattle.capture.specs.declared.record.Found.{Found}
use Rattle.capture.specs.declared.step.Came.{Came}
use Rattle.capture.specs.declared.step.Came.TheVariants.{Lacking, Full, Line, Last}
use Rattle.capture.specs.declared.step.Due.{Due}
use Rattle.capture.specs.declared.step.Due.TheVariants.{Role, Record, Call, Put, Told, Nothing}
use Rattle.capture.specs.declared.step.Replay.{Replay}
use Rattle.capture.specs.declared.step.Stepped.{Stepped}
use Rattle.capture.specs.Listing.{zero_masks, put_word, refused_word, bad_words, put_text, refused_text, bad_text, answer_text}
use Rattle.capture.specs.Places.{file_onward, stream_onward}
use Rattle.capture.specs.Records.{found_in}
use Rattle.capture.specs.Steps.{Step, stepped, step, replay, with_due, lastly, role_text, role_stepped, record_text, record_stepped, call_stepped, put_stepped, due_after, told_stepped, by_due, step_call}

-- ---- lines, part by part
pub put_none : (d : List ℕ) (at : ℕ) (bytes : List ℕ) → length bytes ≡ 0 → Wrote d at (put_text bytes) d at
unfolding put_text
put_none d at bytes h = rw (eq-eqb (length bytes) 0 h) (wrote_none d at)

pub put_some : (d : List ℕ) (at : ℕ) (bytes : List ℕ) {e : List ℕ} {n : ℕ} → (length bytes ≡ 0 → ⊥) → Wrote d at (counted put_word bytes) e n
    → Wrote d at (put_text bytes) e n
unfolding put_text
put_some d at bytes h q = rw (ne_eqb (length bytes) 0 h) q

pub refused_on : (d : List ℕ) (at n place : ℕ) {e f g : List ℕ} {j k l : ℕ} → Wrote d at refused_word e j → Wrote e j (decimal n) f k
    → Wrote f k (at_place [] place) g l → Wrote d at (refused_text n place) g l
unfolding refused_text
refused_on d at n place {e} {f} {g} {j} p q r = wrote_on d at refused_word _ p (wrote_on e j (decimal n) _ q r)

-- how long a line is that was laid
line_size : (d : List ℕ) (at : ℕ) (s : List ℕ) {e : List ℕ} {behind : ℕ} → Wrote d at s e behind → behind - at ≡ length s
line_size d at s p = omega (arith, p.0)

-- ---- the bytes that a line shows are no more than a store has
take-most : (n : ℕ) (s : List ℕ) → length (take n s) ≤ length s
take-most n s = rw (length-take n s) (min-le_right n (length s))

pub held_most : (s : Session) (output : List ℕ) {bytes : List ℕ} → bytes ≡ held_part s output → length bytes ≤ length output
unfolding held_part
held_most s output e =
    rw e (by_test (eqb (held_number s output) 0) (λ t. rw t (take-most s.held output)) (λ t. rw t (omega arith)))

shown-most : (a : Answer) (m c : List ℕ) (n : ℕ) → length m ≤ n → length c ≤ n → length (shown a m c) ≤ n
shown-most More m c n h k = omega arith
shown-most (Text i) m c n h k = omega (arith, take-most i m)
shown-most (Binary i) m c n h k = omega (arith, take-most i m)
shown-most (Ping i) m c n h k = omega (arith, take-most i c)
shown-most (Pong i) m c n h k = omega (arith, take-most i c)
shown-most (Close i) m c n h k = omega (arith, take-most i c)
shown-most Closed m c n h k = omega arith
shown-most (Refused i) m c n h k = omega arith

pub part-most : (a : Answer) (m c : List ℕ) (n : ℕ) {bytes : List ℕ} → length m ≤ n → length c ≤ n → bytes ≡ part_of a m c → length bytes ≤ n
unfolding part_of
part-most a m c n h k e = rw e (by_test (eqb (part_number a m c) 0) (λ t. rw t (shown-most a m c n h k)) (λ t. rw t (omega arith)))

-- ---- the capture is bad
pub bad_said : (r : Replay) (d : List ℕ) (at : ℕ) {e : List ℕ} {behind : ℕ} {x : Replay} → Wrote d at (at_place bad_words r.file.0) e behind
    → x ≡ with_due r r.session Nothing
    → (stepped (Last (behind - at)) 0 x ≡ lastly r (length (bad_text r.file.0))) × (e ≡ laid d at (bad_text r.file.0))
unfolding lastly bad_text
bad_said r d at p q = (
  ap₂ (λ (n : ℕ) (y : Replay). stepped (Last n) 0 y) (line_size d at (at_place bad_words r.file.0) p) q,
  p.1,
)

-- ---- a call: bytes of its record are lacking, or it is made
pub call_lacking : (r : Replay) (window m c o : List ℕ) {x : Stepped} → length window < r.left → x ≡ stepped Lacking 0 r
    → (out : List ℕ) (at : ℕ) (ended : Bool) → step x m c o out ≡ by_due Call r window ended m c o out at
call_lacking r window m c o h q out at ended = rw (lt-ltb (length window) r.left h) (ap (λ (x : Stepped). step x m c o out) q)

-- it takes no more than it is given
pub call_within : (s : Session) (piece : List ℕ) (end : Bool) (masks : Masks) (m c o : List ℕ) {t : Turn} {m' c' o' : List ℕ}
    → read t m' c' o' ≡ read_call s piece end masks m c o → t.taken ≤ length piece
call_within s piece end masks m c o e =
    subst (λ (x : Read). x.turn.taken ≤ length piece) (sym e) (call_taken s masks m c o piece end)

pub call_made : (r : Replay) (window m c o : List ℕ) {masks : Masks} {t : Turn} {m' c' o' : List ℕ} {f : FilePlace} {g : StreamPlace}
    → r.left ≤ length window → masks ≡ zero_masks → read t m' c' o' ≡ read_call r.session (take r.left window) r.end masks m c o
    → f ≡ file_onward r.file t.taken → g ≡ stream_onward r.stream t.taken → (out : List ℕ) (at : ℕ) (ended : Bool)
    → step (stepped (Line 0) t.taken (replay t.session (Put t.answer) (r.left - t.taken) r.end f g)) m' c' o' out
    ≡ by_due Call r window ended m c o out at
unfolding call_stepped
call_made r window m c o {masks} {t} {m'} {c'} {o'} h z e p q out at ended =
    let call : Masks → Read = λ k. read_call r.session (take r.left window) r.end k m c o in
    let ends : Read → Step = λ x. step (call_stepped r x) x.message x.control x.output out in
    rw (le-ltb (length window) r.left h)
    (ap₂ (λ (f : FilePlace) (g : StreamPlace). step (stepped (Line 0) t.taken (replay t.session (Put t.answer) (r.left - t.taken) r.end f g)) m' c' o' out) p q
    ∙ ap ends (e ∙ ap call z))

-- ---- the output is taken
pub put_made : (r : Replay) (a : Answer) (o d : List ℕ) (at : ℕ) {bytes e o' : List ℕ} {behind : ℕ} {h : Handed} {x : Replay}
    → bytes ≡ held_part r.session o → Wrote d at (put_text bytes) e behind
    → sending h.sent h.session o' ≡ take_call r.session r.session.held o → x ≡ with_due r h.session (Told a)
    → (m c window : List ℕ) (ended : Bool) → step (stepped (Line (behind - at)) 0 x) m c o' e ≡ by_due (Put a) r window ended m c o d at
unfolding put_stepped
put_made r a o d at {bytes} {e} {o'} {behind} {h} {x} p w u q m c window ended =
    let text : List ℕ = put_text (held_part r.session o) in
    let v : Wrote d at text e behind = subst (λ (b : List ℕ). Wrote d at (put_text b) e behind) p w in
    let n : behind - at ≡ length text = line_size d at text v in
    let taken : Sending → Step = λ y. step (put_stepped r a y.handed.session (length text)) m c y.output (laid d at text) in
    (λ i. step (stepped (Line (n i)) 0 (q i)) m c o' (v.1 i)) ∙ ap taken u

-- ---- the answer is told
pub told_made : (r : Replay) (a : Answer) (m c d : List ℕ) (at : ℕ) {bytes e : List ℕ} {behind : ℕ} {came : Came} {due : Due} {x : Replay}
    → bytes ≡ part_of a m c → Wrote d at (answer_text a bytes r.stream.0) e behind
    → came ≡ pick (is_final a) (Last (behind - at)) (Line (behind - at)) → due ≡ due_after a → x ≡ with_due r r.session due
    → (o window : List ℕ) (ended : Bool) → step (stepped came 0 x) m c o e ≡ by_due (Told a) r window ended m c o d at
unfolding told_stepped
told_made r a m c d at {bytes} {e} {behind} {came} {due} {x} p w f g q o window ended =
    let text : List ℕ = answer_text a (part_of a m c) r.stream.0 in
    let v : Wrote d at text e behind = subst (λ (b : List ℕ). Wrote d at (answer_text a b r.stream.0) e behind) p w in
    let last : came ≡ pick (is_final a) (Last (length text)) (Line (length text)) =
    f ∙ ap (λ (n : ℕ). pick (is_final a) (Last n) (Line n)) (line_size d at text v) in
    let next : x ≡ with_due r r.session (due_after a) = q ∙ ap (with_due r r.session) g in
    λ i. step (stepped (last i) 0 (next i)) m c o (v.1 i)

-- ---- a step: there is no room, or it goes by what is due
pub room_there : (n at : ℕ) {room : Bool} → room ≡ not (ltb n (at + 65600)) → not room ≡ false → at + 65600 ≤ n
room_there n at {room} e h =
    ltb-false n (at + 65600) (not-true (ltb n (at + 65600)) (sym e ∙ not-false room h))

module _ (r : Replay) (window : List ℕ) (ended : Bool) (m c o out : List ℕ) (at : ℕ) where
  pub step-full : {room : Bool} → room ≡ not (ltb (length out) (at + 65600)) → not room ≡ true
      → step (stepped Full 0 r) m c o out ≡ step_call r window ended m c o out at
  unfolding step_call
  step-full {room} e h = rw (not-false (ltb (length out) (at + 65600)) (sym e ∙ not-true room h))

  pub step_by : {x : Step} (k : Due) → at + 65600 ≤ length out → r.due ≡ k → x ≡ by_due k r window ended m c o out at
      → x ≡ step_call r window ended m c o out at
  unfolding step_call
  step_by {x} k h e q =
      let due : by_due r.due r window ended m c o out at ≡ by_due k r window ended m c o out at =
      ap (λ (d : Due). by_due d r window ended m c o out at) e in
      rw (le-ltb (length out) (at + 65600) h) (q ∙ sym due)

  pub step-role : {x : Stepped} {f : Found} {e : List ℕ} → f ≡ found_in window ended
      → (x ≡ role_stepped r f) × (e ≡ laid out at (role_text r f)) → step x m c o e ≡ by_due Role r window ended m c o out at
  step-role {x} {f} {e} p q =
      (λ i. step (q.0 i) m c o (q.1 i)) ∙ ap (λ (f : Found). step (role_stepped r f) m c o (laid out at (role_text r f))) p

  pub step-record : {x : Stepped} {f : Found} {e : List ℕ} → f ≡ found_in window ended
      → (x ≡ record_stepped r f) × (e ≡ laid out at (record_text r f)) → step x m c o e ≡ by_due Record r window ended m c o out at
  step-record {x} {f} {e} p q =
      (λ i. step (q.0 i) m c o (q.1 i)) ∙ ap (λ (f : Found). step (record_stepped r f) m c o (laid out at (record_text r f))) p
