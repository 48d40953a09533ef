-- What the steps hand out is the listing.
use mathlib.Core.Path.{◌≡◌, refl, sym, ap, ap₂, ◌∙◌}
use mathlib.Core.Bool.{Bool, true, false}
use mathlib.Core.List.{List, [], ◌∷◌, ◌++◌, append_assoc, append-nil}
use mathlib.Core.Logic.{⊎_elim}
use Prim.Native.Nat.{ℕ, ◌+◌, ◌-◌, ◌≤◌}
use native.Mathlib.Omega.{arith}
use lib.Dec.{ltb, leb}
use lib.ListN.{length, take, drop, length-drop, length-take}
use lib.Seq.{take-take, length-take-le}
use borrow.Author.Tests.{ltb-false}
use Rattle.base.specs.Bytes.{part}
use Rattle.base.specs.Stores.{laid}
use Rattle.base.specs.Table.{pick}
use Rattle.base.specs.Tests.{both}
use Rattle.base.proofs.Choice.{by_test}
use Rattle.session.specs.Answers.{part_of}
use Rattle.session.specs.Calls.{Read, read_call, held_part, take_call}
use Rattle.session.specs.declared.Answer.{Answer}
use Rattle.session.specs.declared.Answer.TheVariants.{More, Text, Binary, Ping, Pong, Close, Closed, Refused}
use Rattle.session.specs.declared.Role.{Role}
use Rattle.session.specs.declared.Role.TheVariants.{Server as ServerRole, Client as ClientRole}
use Rattle.session.specs.Reading.{is_more}
use Rattle.steady.specs.Cutting.{is_final}
use Rattle.steady.specs.Shape.{Shaped}
use Rattle.steady.proofs.InRangeStays.{shape_new, shape_stays_read, shape_stays_take}
use Rattle.steady.proofs.OneCall.{call_taken}
use Rattle.steady.proofs.Sizes.{read-size, read-sizes, take-size}
use Rattle.capture.specs.declared.record.Found.{Found}
use Rattle.capture.specs.declared.record.Found.TheVariants.{Lacking, Bad, Server, Client, Input, End}
use Rattle.capture.specs.declared.step.Came.{Came}
use Rattle.capture.specs.declared.step.Came.TheVariants.{Lacking as CameLacking, Line, Last}
use Rattle.capture.specs.declared.step.Due.{Due}
use Rattle.capture.specs.declared.step.Due.TheVariants.{Role as RoleDue, Record as RecordDue, Call as CallDue, Put as PutDue, Told as ToldDue, Nothing as NothingDue}
use Rattle.capture.specs.declared.step.Replay.{Replay}
use Rattle.capture.proofs.Stepping.{held_most, part-most}
use Rattle.capture.specs.Listing.{Tape, made, tape_of, zero_masks, called, after_call, held_text, after_take, put_text, told_text, answer_text, bad_text, records, first_record, listing_with}
use Rattle.capture.specs.Places.{onward, file_onward, stream_onward}
use Rattle.capture.specs.Records.{found_in}
use Rattle.capture.specs.Steps.{Step, step, stepped, begun, with_due, lastly, in_role, in_record, role_text, role_stepped, record_text, record_stepped, call_stepped, put_stepped, due_after, told_stepped, by_due, step_call}
use Rattle.listing.specs.Handing.{Desk, Offer, laid_text, step_on, handed, handed_all, opened}
use Rattle.listing.proofs.Fuel.{more_takes, Within, found_within}
use Rattle.listing.proofs.Still.{due_text, after_told, input_says, end_says, wrong_says, call_says, told_due}
use Rattle.listing.proofs.Texts.{short-bad, short-put, short-answer, laid_said}
use Rattle.listing.proofs.Windows.{found_offered, Settled, found_settled}

-- ---- a desk
abbrev tape_at : Replay → List ℕ → List ℕ → List ℕ → Tape
tape_at r m c o = record { session = r.session; message = m; control = c; output = o; stream = r.stream.0 }

-- what a replay with these stores and this rest of the file has still to say
abbrev still_of : Replay → List ℕ → List ℕ → List ℕ → List ℕ → List ℕ
still_of r m c o rest = due_text r.due (tape_at r m c o) r.left r.end r.file.0 rest

abbrev pub still : Desk → List ℕ
still d = still_of d.replay d.message d.control d.output d.rest

-- what holds of it, by what is due
abbrev pub Apt : Due → Replay → List ℕ → Type 0
Apt RoleDue r rest = r.stream.0 ≡ 0
Apt RecordDue r rest = Unit
Apt CallDue r rest = r.left ≤ length rest
Apt (PutDue a) r rest = r.left ≤ length rest
Apt (ToldDue a) r rest = r.left ≤ length rest
Apt NothingDue r rest = Unit

pub record Sound (r : Replay) (m c o rest : List ℕ) : Type 0 where
  pub shaped : Shaped r.session
  pub for_message : length m ≤ 32768
  pub for_control : length c ≤ 32768
  pub for_output : length o ≤ 32768
  pub apt : Apt r.due r rest

-- what a step owes: what it says and what is still to be said are what was to be said, and all stays sound
record Owes (target rest : List ℕ) (at : ℕ) (x : Step) : Type 0 where
  says : laid_text x.stepped.came at x.out
      ++ still_of x.stepped.replay x.message x.control x.output (drop x.stepped.used rest) ≡ target
  sound : Sound x.stepped.replay x.message x.control x.output (drop x.stepped.used rest)

made_shaped : (role : Role) → Shaped (made role)
unfolding made
made_shaped role = shape_new role 32768 32768 false

-- a line of none is nothing
no_line : (at : ℕ) (buffer : List ℕ) → part at 0 buffer ≡ []
unfolding part
no_line at buffer = refl

module _ (r : Replay) (m c o rest buffer : List ℕ) (at : ℕ) (s : Sound r m c o rest) (room : at + 65600 ≤ length buffer) where
  abbrev target : Due → List ℕ
  target due = due_text due (tape_at r m c o) r.left r.end r.file.0 rest

  -- nothing is done
  idle_owes : (due : Due) (came : Came) (out : List ℕ) → r.due ≡ due → laid_text came at out ≡ [] → Owes (target due) rest at (step (stepped came 0 r) m c o out)
  idle_owes due came out e h = record { says = ap₂ (λ (l : List ℕ) (x : Due). l ++ target x) h e; sound = s }

  -- the last line
  last_owes : (due : Due) (text : List ℕ) → length text ≤ 65600 → text ++ [] ≡ target due
      → Owes (target due) rest at (step (lastly r (length text)) m c o (laid buffer at text))
  unfolding lastly
  last_owes due text h e =
      record {
        says = ap (λ (l : List ℕ). l ++ []) (laid_said buffer at text room h) ∙ e;
        sound =
            record { shaped = s.shaped; for_message = s.for_message; for_control = s.for_control; for_output = s.for_output; apt = tt };
      }

  -- ---- the role
  role_owes : (role : Role) → r.stream.0 ≡ 0 → records (tape_of role m c o) (onward r.file.0 2) (drop 2 rest) ≡ target RoleDue
      → Owes (target RoleDue) rest at (step (in_role r role) m c o (laid buffer at []))
  unfolding in_role file_onward tape_of
  role_owes role z e =
      let stream : records (tape_at (in_role r role).replay m c o) (onward r.file.0 2) (drop 2 rest) ≡ target RoleDue =
      ap (λ (n : ℕ). records (record { session = made role; message = m; control = c; output = o; stream = n }) (onward r.file.0 2) (drop 2 rest)) z ∙ e in
      record {
        says = ap (λ (l : List ℕ). l ++ records (tape_at (in_role r role).replay m c o) (onward r.file.0 2) (drop 2 rest)) (no_line at (laid buffer at [])) ∙ stream;
        sound =
            record { shaped = made_shaped role; for_message = s.for_message; for_control = s.for_control; for_output = s.for_output; apt = tt };
      }

  -- what the whole file has there
  abbrev found : Found
  found = found_in rest true

  as_first : {f : Found} → found ≡ f → first_record f m c o r.file.0 rest ≡ target RoleDue
  as_first e = sym (ap (λ (x : Found). first_record x m c o r.file.0 rest) e)

  at_role : (f : Found) → Settled f → found ≡ f → r.stream.0 ≡ 0
      → Owes (target RoleDue) rest at (step (role_stepped r f) m c o (laid buffer at (role_text r f)))
  at_role Lacking k e z = absurd k
  at_role Bad k e z = last_owes RoleDue (bad_text r.file.0) (short-bad r.file.0) (append-nil _ ∙ as_first e)
  at_role Server k e z = role_owes ServerRole z (as_first e)
  at_role Client k e z = role_owes ClientRole z (as_first e)
  at_role (Input n) k e z = last_owes RoleDue (bad_text r.file.0) (short-bad r.file.0) (append-nil _ ∙ as_first e)
  at_role End k e z = last_owes RoleDue (bad_text r.file.0) (short-bad r.file.0) (append-nil _ ∙ as_first e)

  -- ---- a record
  record_owes : (head n : ℕ) (end : Bool) → n ≤ length (drop head rest)
      → due_text CallDue (tape_at r m c o) n end (onward r.file.0 head) (drop head rest) ≡ target RecordDue
      → Owes (target RecordDue) rest at (step (in_record r head n end) m c o (laid buffer at []))
  unfolding in_record file_onward
  record_owes head n end h e =
      record {
        says = ap (λ (l : List ℕ). l ++ due_text CallDue (tape_at r m c o) n end (onward r.file.0 head) (drop head rest)) (no_line at (laid buffer at [])) ∙ e;
        sound =
            record { shaped = s.shaped; for_message = s.for_message; for_control = s.for_control; for_output = s.for_output; apt = h };
      }

  at_record : (f : Found) → Settled f → Within f rest → found ≡ f
      → Owes (target RecordDue) rest at (step (record_stepped r f) m c o (laid buffer at (record_text r f)))
  at_record Lacking k w e = absurd k
  at_record Bad k w e = last_owes RecordDue (bad_text r.file.0) (short-bad r.file.0) (wrong_says Bad (tape_at r m c o) r.file.0 rest e refl)
  at_record Server k w e = last_owes RecordDue (bad_text r.file.0) (short-bad r.file.0) (wrong_says Server (tape_at r m c o) r.file.0 rest e refl)
  at_record Client k w e = last_owes RecordDue (bad_text r.file.0) (short-bad r.file.0) (wrong_says Client (tape_at r m c o) r.file.0 rest e refl)
  at_record (Input n) k w e =
      record_owes 4 n false (omega (arith, length-drop 4 rest)) (input_says (tape_at r m c o) n r.file.0 rest e)
  at_record End k w e = record_owes 2 0 true (omega arith) (end_says (tape_at r m c o) r.file.0 rest e)

  -- ---- a call
  abbrev piece : List ℕ
  piece = take r.left rest

  abbrev x : Read
  x = read_call r.session piece r.end zero_masks m c o

  all_taken : length piece ≡ r.left → is_more x.turn.answer ≡ true → x.turn.taken ≡ r.left
  unfolding called
  all_taken h q = more_takes (tape_at r m c o) piece r.end s.shaped q ∙ h

  call_said : x.turn.taken ≤ r.left → (is_more x.turn.answer ≡ true → x.turn.taken ≡ r.left)
      → due_text (PutDue x.turn.answer) (tape_at (call_stepped r x).replay x.message x.control x.output) (r.left - x.turn.taken) r.end (onward r.file.0 x.turn.taken) (drop x.turn.taken rest)
      ≡ target CallDue
  unfolding call_stepped stream_onward after_call called
  call_said k q = call_says (tape_at r m c o) r.left r.end r.file.0 rest s.shaped k q

  call_owes : r.left ≤ length rest → Owes (target CallDue) rest at (step (call_stepped r x) x.message x.control x.output buffer)
  unfolding call_stepped file_onward stream_onward
  call_owes h =
      let size : length piece ≡ r.left = length-take-le r.left rest h in
      let within : x.turn.taken ≤ length piece = call_taken r.session zero_masks m c o piece r.end in
      let sizes = read-sizes r.session piece r.end zero_masks m c o in
      let put = read-size r.session piece r.end zero_masks m c o in
      record {
        says =
            ap (λ (l : List ℕ). l ++ due_text (PutDue x.turn.answer) (tape_at (call_stepped r x).replay x.message x.control x.output) (r.left - x.turn.taken) r.end (onward r.file.0 x.turn.taken) (drop x.turn.taken rest)) (no_line at buffer)
            ∙ call_said (omega arith) (all_taken size);
        sound =
            record {
              shaped = shape_stays_read r.session piece r.end zero_masks m c o s.shaped;
              for_message = omega (arith, s.for_message, sizes.0);
              for_control = omega (arith, s.for_control, sizes.1);
              for_output = omega (arith, s.for_output, put);
              apt = omega (arith, length-drop x.turn.taken rest);
            };
      }

  -- ---- the output is taken
  put_owes : (a : Answer) → r.left ≤ length rest
      → Owes (target (PutDue a)) rest at
      (step (put_stepped r a (take_call r.session r.session.held o).handed.session (length (put_text (held_part r.session o)))) m c
      (take_call r.session r.session.held o).output (laid buffer at (put_text (held_part r.session o))))
  unfolding put_stepped after_take held_text
  put_owes a h =
      let text : List ℕ = put_text (held_part r.session o) in
      record {
        says =
            ap (λ (l : List ℕ). l ++ (told_text a (after_take (tape_at r m c o)) ++ after_told a (after_take (tape_at r m c o)) r.left r.end r.file.0 rest))
            (laid_said buffer at text room (short-put (held_part r.session o) (omega (arith, s.for_output, held_most r.session o refl))));
        sound =
            record {
              shaped = shape_stays_take r.session r.session.held o s.shaped;
              for_message = s.for_message;
              for_control = s.for_control;
              for_output = omega (arith, s.for_output, take-size r.session r.session.held o);
              apt = h;
            };
      }

  -- ---- the answer is told
  told_owes : (a : Answer) → r.left ≤ length rest
      → Owes (target (ToldDue a)) rest at
      (step (told_stepped r a (length (answer_text a (part_of a m c) r.stream.0))) m c o (laid buffer at (answer_text a (part_of a m c) r.stream.0)))
  unfolding told_stepped told_text
  told_owes a h =
      let text : List ℕ = answer_text a (part_of a m c) r.stream.0 in
      let n : ℕ = length text in
      let came : laid_text (pick (is_final a) (Last n) (Line n)) at (laid buffer at text) ≡ text =
      by_test (is_final a) (λ t. rw t said) (λ t. rw t said) in
      record {
        says = ap₂ (λ (l k : List ℕ). l ++ k) came (told_due a (tape_at r m c o) r.left r.end r.file.0 rest);
        sound =
            record { shaped = s.shaped; for_message = s.for_message; for_control = s.for_control; for_output = s.for_output; apt = after a };
      }
    where
      said : part at (length (answer_text a (part_of a m c) r.stream.0)) (laid buffer at (answer_text a (part_of a m c) r.stream.0))
          ≡ answer_text a (part_of a m c) r.stream.0
      said =
          laid_said buffer at (answer_text a (part_of a m c) r.stream.0) room
          (short-answer a (part_of a m c) r.stream.0 (part-most a m c 32768 s.for_message s.for_control refl))

      after : (b : Answer) → Apt (due_after b) (with_due r r.session (due_after b)) rest
      after More = tt
      after (Text n) = h
      after (Binary n) = h
      after (Ping n) = h
      after (Pong n) = h
      after (Close n) = h
      after Closed = tt
      after (Refused k) = tt

  -- ---- any step
  module _ (count : ℕ) (flag : Bool) where
    abbrev window : List ℕ
    window = take count rest

    abbrev ended : Bool
    ended = both flag (leb (length rest) count)

    -- the window shows the record that the file has there, or bytes are lacking
    role_step : r.due ≡ RoleDue → r.stream.0 ≡ 0 → Owes (target RoleDue) rest at (by_due RoleDue r window ended m c o buffer at)
    role_step e z =
        ⊎_elim (λ l. rw l (idle_owes RoleDue CameLacking (laid buffer at []) e refl)) (λ l. rw l (at_role found (found_settled rest) refl z))
        (found_offered count flag rest)

    record_step : r.due ≡ RecordDue → Owes (target RecordDue) rest at (by_due RecordDue r window ended m c o buffer at)
    record_step e =
        ⊎_elim (λ l. rw l (idle_owes RecordDue CameLacking (laid buffer at []) e refl))
        (λ l. rw l (at_record found (found_settled rest) (found_within rest true) refl)) (found_offered count flag rest)

    call_step : r.due ≡ CallDue → r.left ≤ length rest → Owes (target CallDue) rest at (by_due CallDue r window ended m c o buffer at)
    call_step e h =
        by_test (ltb (length window) r.left) (λ t. rw t (idle_owes CallDue CameLacking buffer e refl))
        (λ t.
        let k : r.left ≤ count = omega (arith, ltb-false (length window) r.left t, length-take count rest) in
        rw (t, take-take r.left count rest k) (call_owes h))

    due_step : (due : Due) → r.due ≡ due → Apt due r rest → Owes (target due) rest at (by_due due r window ended m c o buffer at)
    due_step RoleDue e h = role_step e h
    due_step RecordDue e h = record_step e
    due_step CallDue e h = call_step e h
    due_step (PutDue a) e h = put_owes a h
    due_step (ToldDue a) e h = told_owes a h
    due_step NothingDue e h = idle_owes NothingDue (Last 0) buffer e (no_line at buffer)

step-owes : (r : Replay) (m c o rest buffer : List ℕ) (at count : ℕ) (flag : Bool) → Sound r m c o rest
    → Owes (still_of r m c o rest) rest at (step_call r (take count rest) (both flag (leb (length rest) count)) m c o buffer at)
unfolding step_call
step-owes r m c o rest buffer at count flag s =
    by_test (ltb (length buffer) (at + 65600))
    (λ t. rw t (record { says = refl; sound = s }))
    (λ t. rw t (due_step r m c o rest buffer at s (ltb-false (length buffer) (at + 65600) t) count flag r.due refl s.apt))

-- ---- a desk
abbrev pub SoundDesk : Desk → Type 0
SoundDesk d = Sound d.replay d.message d.control d.output d.rest

handed-says : (d : Desk) (f : Offer) → SoundDesk d → (handed d f).text ++ still (handed d f) ≡ d.text ++ still d
unfolding handed step_on
handed-says d f s =
    let x = step-owes d.replay d.message d.control d.output d.rest f.buffer f.place f.count f.flag s in
    append_assoc d.text _ _ ∙ ap (λ (l : List ℕ). d.text ++ l) x.says

pub handed-sound : (d : Desk) (f : Offer) → SoundDesk d → SoundDesk (handed d f)
unfolding handed step_on
handed-sound d f s =
    (step-owes d.replay d.message d.control d.output d.rest f.buffer f.place f.count f.flag s).sound

all_says : (d : Desk) (fs : List Offer) → SoundDesk d → (handed_all d fs).text ++ still (handed_all d fs) ≡ d.text ++ still d
unfolding handed_all
all_says d [] s = refl
all_says d (f ∷ fs) s = all_says (handed d f) fs (handed-sound d f s) ∙ handed-says d f s

-- ---- from the start
pub opened-sound : (m c o file : List ℕ) → length m ≤ 32768 → length c ≤ 32768 → length o ≤ 32768 → SoundDesk (opened m c o file)
unfolding opened begun
opened-sound m c o file h j k =
    record { shaped = made_shaped ServerRole; for_message = h; for_control = j; for_output = k; apt = refl }

opened-still : (m c o file : List ℕ) → (opened m c o file).text ++ still (opened m c o file) ≡ listing_with m c o file
unfolding opened begun listing_with
opened-still m c o file = refl

-- whatever portions of the file the steps are offered, the text that they have handed out is the beginning of the listing, and what is
-- left of it is still due
pub text_is_beginning : (m c o file : List ℕ) (offers : List Offer) → length m ≤ 32768 → length c ≤ 32768 → length o ≤ 32768
    → (handed_all (opened m c o file) offers).text ++ still (handed_all (opened m c o file) offers) ≡ listing_with m c o file
text_is_beginning m c o file offers h j k =
    all_says (opened m c o file) offers (opened-sound m c o file h j k) ∙ opened-still m c o file

-- where nothing more is due, it is the whole listing
pub text_is_listing : (m c o file : List ℕ) (offers : List Offer) → length m ≤ 32768 → length c ≤ 32768 → length o ≤ 32768
    → (handed_all (opened m c o file) offers).replay.due ≡ NothingDue → (handed_all (opened m c o file) offers).text ≡ listing_with m c o file
text_is_listing m c o file offers h j k over =
    let d : Desk = handed_all (opened m c o file) offers in
    sym (append-nil d.text)
    ∙ ap (λ (x : Due). d.text ++ due_text x (tape_at d.replay d.message d.control d.output) d.replay.left d.replay.end d.replay.file.0 d.rest) (sym over)
    ∙ text_is_beginning m c o file offers h j k
