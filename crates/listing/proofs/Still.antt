-- What a desk has still to say, and that a step says the next of it.
use mathlib.Core.Path.{◌≡◌, refl, sym, ap, ap₂, ◌∙◌}
use mathlib.Core.Bool.{Bool, true, false}
use mathlib.Core.List.{List, [], ◌++◌, append_assoc}
use Prim.Native.Nat.{ℕ, ◌+◌, ◌-◌, ◌≤◌}
use native.Mathlib.Omega.{arith}
use lib.ListN.{take, drop}
use lib.Seq.{drop-drop}
use Rattle.base.specs.Bytes.{part}
use Rattle.base.specs.Table.{pick}
use Rattle.base.proofs.Bytes.{take-drop}
use Rattle.base.proofs.Choice.{by_test}
use Rattle.session.specs.Calls.{Read}
use Rattle.session.specs.declared.Answer.{Answer}
use Rattle.session.specs.declared.Answer.TheVariants.{More, Text, Binary, Ping, Pong, Close, Closed, Refused}
use Rattle.session.specs.Reading.{is_more}
use Rattle.steady.specs.Cutting.{is_event, is_final}
use Rattle.steady.specs.Shape.{Shaped}
use Rattle.capture.specs.declared.record.Found.{Found}
use Rattle.capture.specs.declared.record.Found.TheVariants.{Input, End}
use Rattle.capture.specs.declared.step.Due.{Due}
use Rattle.capture.specs.declared.step.Due.TheVariants.{Role as RoleDue, Record as RecordDue, Call as CallDue, Put as PutDue, Told as ToldDue, Nothing as NothingDue}
use Rattle.capture.specs.Listing.{Tape, called, after_call, held_text, after_take, told_text, bad_text, call_lines, Fed, behind, fed, Next, next, bad_record, next_of, records, first_record}
use Rattle.capture.specs.Places.{onward}
use Rattle.capture.specs.Records.{found_in}
use Rattle.capture.specs.Steps.{due_after}
use Rattle.listing.proofs.Fuel.{next_tape, else_more, fed-on, fed-stop, continued, records-on}
use Rattle.listing.proofs.Texts.{onward-twice}

-- ---- by what is due
-- a call on what is left of a record, and all that follows
abbrev pub from_call : Tape → ℕ → Bool → ℕ → List ℕ → List ℕ
from_call t left end place rest = continued (next (fed t (take left rest) end) left) place rest

-- behind a call's answer: the next call, the next record, or nothing
abbrev pub after_told : Answer → Tape → ℕ → Bool → ℕ → List ℕ → List ℕ
after_told a t left end place rest = pick (is_event a) (from_call t left end place rest) (pick (is_final a) [] (records t place rest))

abbrev pub due_text : Due → Tape → ℕ → Bool → ℕ → List ℕ → List ℕ
due_text RoleDue t left end place rest = first_record (found_in rest true) t.message t.control t.output place rest
due_text RecordDue t left end place rest = records t place rest
due_text CallDue t left end place rest = from_call t left end place rest
due_text (PutDue a) t left end place rest = held_text t ++ (told_text a (after_take t) ++ after_told a (after_take t) left end place rest)
due_text (ToldDue a) t left end place rest = told_text a t ++ after_told a t left end place rest
due_text NothingDue t left end place rest = []

-- ---- a record
-- a call is due on the record's bytes
pub input_says : (t : Tape) (n place : ℕ) (rest : List ℕ) → found_in rest true ≡ Input n
    → from_call t n false (onward place 4) (drop 4 rest) ≡ records t place rest
unfolding part
input_says t n place rest e =
    let f : Fed = fed t (take n (drop 4 rest)) false in
    ap₂ (λ (p : ℕ) (l : List ℕ). f.text ++ pick f.over [] (records f.tape p l)) (onward-twice place 4 n) (drop-drop n 4 rest)
    ∙ sym (records-on t place rest ∙ ap (λ (x : Found). continued (next_of x t place rest) place rest) e)

pub end_says : (t : Tape) (place : ℕ) (rest : List ℕ) → found_in rest true ≡ End
    → from_call t 0 true (onward place 2) (drop 2 rest) ≡ records t place rest
end_says t place rest e =
    let f : Fed = fed t [] true in
    ap₂ (λ (p : ℕ) (l : List ℕ). f.text ++ pick f.over [] (records f.tape p l)) (onward-twice place 2 0) (drop-drop 0 2 rest)
    ∙ sym (records-on t place rest ∙ ap (λ (x : Found). continued (next_of x t place rest) place rest) e)

-- no record, or a second role, is the last line
bad_says : (t : Tape) (place : ℕ) (rest : List ℕ) → next_of (found_in rest true) t place rest ≡ bad_record t place → bad_text place ++ [] ≡ records t place rest
unfolding bad_record
bad_says t place rest e = sym (records-on t place rest ∙ ap (λ (x : Next). continued x place rest) e)

pub wrong_says : (f : Found) (t : Tape) (place : ℕ) (rest : List ℕ) → found_in rest true ≡ f → next_of f t place rest ≡ bad_record t place
    → bad_text place ++ [] ≡ records t place rest
wrong_says f t place rest e h = bad_says t place rest (ap (λ (x : Found). next_of x t place rest) e ∙ h)

-- ---- a call
module _ (t : Tape) (left : ℕ) (end : Bool) (place : ℕ) (rest : List ℕ) where
  abbrev piece : List ℕ
  piece = take left rest

  abbrev r : Read
  r = called t piece end

  abbrev u : Tape
  u = next_tape t piece end

  abbrev n : ℕ
  n = r.turn.taken

  abbrev a : Answer
  a = r.turn.answer

  call_event : Shaped t.session → n ≤ left → is_event a ≡ true
      → call_lines t r ++ from_call u (left - n) end (onward place n) (drop n rest) ≡ from_call t left end place rest
  unfolding behind
  call_event sh h e =
      let f : Fed = fed u (drop n piece) end in
      let g : Fed = fed u (take (left - n) (drop n rest)) end in
      let same : g ≡ f = ap (λ (l : List ℕ). fed u l end) (sym (take-drop n left rest h)) in
      let sum : n + (left - n) ≡ left = omega arith in
      let places : onward (onward place n) (left - n) ≡ onward place left = onward-twice place n (left - n) ∙ ap (onward place) sum in
      let rests : drop (left - n) (drop n rest) ≡ drop left rest = drop-drop (left - n) n rest ∙ ap (λ (k : ℕ). drop k rest) sum in
      ap₂ (λ (p : ℕ) (l : List ℕ). call_lines t r ++ (g.text ++ pick g.over [] (records g.tape p l))) places rests
      ∙ ap (λ (x : Fed). call_lines t r ++ (x.text ++ pick x.over [] (records x.tape (onward place left) (drop left rest)))) same
      ∙ sym (append_assoc (call_lines t r) f.text (pick f.over [] (records f.tape (onward place left) (drop left rest))))
      ∙ sym (ap (λ (x : Fed). continued (next x left) place rest) (fed-on t piece end sh e))

  call_stop : is_event a ≡ false
      → call_lines t r ++ pick (is_final a) [] (records u (onward place left) (drop left rest)) ≡ from_call t left end place rest
  call_stop e = sym (ap (λ (x : Fed). continued (next x left) place rest) (fed-stop t piece end e))

  pub call_says : Shaped t.session → n ≤ left → (is_more a ≡ true → n ≡ left)
      → due_text (PutDue a) (after_call t r) (left - n) end (onward place n) (drop n rest) ≡ from_call t left end place rest
  unfolding call_lines
  call_says sh h more =
      sym (append_assoc (held_text (after_call t r)) (told_text a u) (after_told a u (left - n) end (onward place n) (drop n rest)))
      ∙ by_test (is_event a) (λ e. rw e (call_event sh h e))
      (λ e.
      by_test (is_final a) (λ f. rw (e, f) (sym_final e f))
      (λ f.
      let all : n ≡ left = more (else_more a e f) in
      rw (e, f) (ap (λ (k : ℕ). call_lines t r ++ records u (onward place k) (drop k rest)) all ∙ at_more e f)))
    where
      sym_final : is_event a ≡ false → is_final a ≡ true → call_lines t r ++ [] ≡ from_call t left end place rest
      sym_final e f =
          sym (ap (λ (b : Bool). call_lines t r ++ pick b [] (records u (onward place left) (drop left rest))) f) ∙ call_stop e

      at_more : is_event a ≡ false → is_final a ≡ false
          → call_lines t r ++ records u (onward place left) (drop left rest) ≡ from_call t left end place rest
      at_more e f =
          sym (ap (λ (b : Bool). call_lines t r ++ pick b [] (records u (onward place left) (drop left rest))) f) ∙ call_stop e

-- ---- an answer is told
pub told_due : (a : Answer) (t : Tape) (left : ℕ) (end : Bool) (place : ℕ) (rest : List ℕ)
    → due_text (due_after a) t left end place rest ≡ after_told a t left end place rest
told_due More t left end place rest = refl
told_due (Text n) t left end place rest = refl
told_due (Binary n) t left end place rest = refl
told_due (Ping n) t left end place rest = refl
told_due (Pong n) t left end place rest = refl
told_due (Close n) t left end place rest = refl
told_due Closed t left end place rest = refl
told_due (Refused k) t left end place rest = refl
