-- Offered the whole file at each step, the steps come to the last line: four steps for each byte, and one more, are enough.
use mathlib.Core.Path.{◌≡◌, refl, sym, ap, subst, ◌∙◌}
use mathlib.Core.Bool.{Bool, true, false}
use mathlib.Core.List.{List}
use mathlib.Core.Logic.{◌⊎◌, inl, inr, ⊎_elim}
use Prim.Native.Nat.{ℕ, zero, suc, ◌+◌, ◌*◌, ◌<◌, ◌≤◌}
use native.Mathlib.Omega.{arith}
use lib.ListN.{length, take, drop, replicate, length-drop}
use lib.Seq.{take_all, length-take-le}
use borrow.Author.Tests.{le-leb, le-ltb}
use Rattle.base.specs.Stores.{laid}
use Rattle.base.specs.Table.{pick}
use Rattle.base.proofs.Choice.{by_test}
use Rattle.session.specs.Calls.{Read, no_incoming, fresh, new_call, read_call, take_call}
use Rattle.session.specs.declared.Answer.{Answer}
use Rattle.session.specs.declared.Answer.TheVariants.{More, Text, Binary, Ping, Pong, Close, Closed, Refused}
use Rattle.session.specs.declared.Role.{Role}
use Rattle.session.specs.declared.Role.TheVariants.{Server as ServerRole, Client as ClientRole}
use Rattle.session.specs.declared.Session.{Session}
use Rattle.session.specs.Frames.{header_whole}
use Rattle.session.specs.Range.{limits_hold}
use Rattle.frame.specs.Header.{missing}
use Rattle.steady.specs.Cutting.{is_event, is_final}
use Rattle.steady.proofs.Headers.{Waits, never}
use Rattle.steady.proofs.OneCall.{call_taken, on_waits, event_takes}
use Rattle.capture.specs.declared.record.Found.{Found}
use Rattle.capture.specs.declared.record.Found.TheVariants.{Lacking, Bad, Server, Client, Input, End}
use Rattle.capture.specs.declared.step.Due.{Due}
use Rattle.capture.specs.declared.step.Due.TheVariants.{Role as RoleDue, Record as RecordDue, Call as CallDue, Put as PutDue, Told as ToldDue, Nothing as NothingDue}
use Rattle.capture.specs.declared.step.Replay.{Replay}
use Rattle.capture.specs.Listing.{made, zero_masks, listing_with}
use Rattle.capture.specs.Records.{found_in}
use Rattle.capture.specs.Steps.{Step, step, begun, lastly, in_role, in_record, role_text, role_stepped, record_text, record_stepped, call_stepped, put_stepped, told_stepped, by_due, step_call}
use Rattle.listing.specs.Handing.{Desk, Offer, step_on, handed, handed_all, opened}
use Rattle.listing.proofs.Fuel.{take-keeps, Within, found_within}
use Rattle.listing.proofs.Handed.{SoundDesk, Sound, Apt, opened-sound, handed-sound, text_is_listing}
use Rattle.listing.proofs.Windows.{Settled, found_settled}

-- ---- what is left to do, as a number that every step makes less
abbrev weight : Due → ℕ
weight RoleDue = 1
weight RecordDue = 1
weight CallDue = 4
weight (PutDue a) = pick (is_event a) 6 3
weight (ToldDue a) = pick (is_event a) 5 2
weight NothingDue = 0

abbrev size_of : Replay → List ℕ → ℕ
size_of r rest = weight r.due + 4 * length rest

-- a session that is read on waits for a byte, so that every event takes one
abbrev Awaits : Session → Type 0
Awaits s = Waits s.settings s.incoming

abbrev Live : Due → Session → Type 0
Live RoleDue s = Unit
Live RecordDue s = Awaits s
Live CallDue s = Awaits s
Live (PutDue a) s = is_final a ≡ false → Awaits s
Live (ToldDue a) s = is_final a ≡ false → Awaits s
Live NothingDue s = Unit

made-awaits : (role : Role) → Awaits (made role)
unfolding made new_call fresh no_incoming limits_hold header_whole missing
made-awaits role = λ h. never h refl

record Less (n : ℕ) (rest : List ℕ) (x : Step) : Type 0 where
  less : size_of x.stepped.replay (drop x.stepped.used rest) < n
  live : Live x.stepped.replay.due x.stepped.replay.session

module _ (r : Replay) (m c o rest buffer : List ℕ) (at : ℕ) where
  abbrev whole : ℕ → ℕ
  whole w = w + 4 * length rest

  last_less : (n w : ℕ) (out : List ℕ) → Less (whole (suc w)) rest (step (lastly r n) m c o out)
  unfolding lastly
  last_less n w out = record { less = omega arith; live = tt }

  role_less : (f : Found) → Settled f → Within f rest → Less (whole 1) rest (step (role_stepped r f) m c o (laid buffer at (role_text r f)))
  unfolding in_role
  role_less Lacking k w = absurd k
  role_less Bad k w = last_less _ 0 _
  role_less Server k w = record { less = omega (arith, length-drop 2 rest); live = made-awaits ServerRole }
  role_less Client k w = record { less = omega (arith, length-drop 2 rest); live = made-awaits ClientRole }
  role_less (Input n) k w = last_less _ 0 _
  role_less End k w = last_less _ 0 _

  record_less : (f : Found) → Settled f → Within f rest → Awaits r.session
      → Less (whole 1) rest (step (record_stepped r f) m c o (laid buffer at (record_text r f)))
  unfolding in_record
  record_less Lacking k w l = absurd k
  record_less Bad k w l = last_less _ 0 _
  record_less Server k w l = last_less _ 0 _
  record_less Client k w l = last_less _ 0 _
  record_less (Input n) k w l = record { less = omega (arith, length-drop 4 rest); live = l }
  record_less End k w l = record { less = omega (arith, length-drop 2 rest); live = l }

  module _ (s : Sound r m c o rest) where
    abbrev piece : List ℕ
    piece = take r.left rest

    abbrev x : Read
    x = read_call r.session piece r.end zero_masks m c o

    call_less : r.left ≤ length rest → Awaits r.session → Less (whole 4) rest (step (call_stepped r x) x.message x.control x.output buffer)
    unfolding call_stepped
    call_less h l =
        let n : ℕ = x.turn.taken in
        let most : n ≤ length piece = call_taken r.session zero_masks m c o piece r.end in
        let size : length piece ≡ r.left = length-take-le r.left rest h in
        record {
          less =
              by_test (is_event x.turn.answer)
              (λ t. let one : 0 < n = event_takes r.session zero_masks m c o piece r.end t l in rw t (omega (arith, length-drop n rest)))
              (λ t. rw t (omega (arith, length-drop n rest)));
          live = λ f. on_waits r.session zero_masks m c o piece r.end f s.shaped;
        }

  put_less : (a : Answer) (n : ℕ) (out : List ℕ) → (is_final a ≡ false → Awaits r.session)
      → Less (whole (weight (PutDue a))) rest (step (put_stepped r a (take_call r.session r.session.held o).handed.session n) m c (take_call r.session r.session.held o).output out)
  unfolding put_stepped
  put_less a n out l =
      record {
        less = by_test (is_event a) (λ t. rw t (omega arith)) (λ t. rw t (omega arith));
        live = λ f. take-keeps (λ g i. Waits g i) r.session r.session.held o (l f);
      }

  told_less : (a : Answer) (n : ℕ) (out : List ℕ) → (is_final a ≡ false → Awaits r.session)
      → Less (whole (weight (ToldDue a))) rest (step (told_stepped r a n) m c o out)
  unfolding told_stepped
  told_less More n out l = record { less = omega arith; live = l refl }
  told_less (Text k) n out l = record { less = omega arith; live = l refl }
  told_less (Binary k) n out l = record { less = omega arith; live = l refl }
  told_less (Ping k) n out l = record { less = omega arith; live = l refl }
  told_less (Pong k) n out l = record { less = omega arith; live = l refl }
  told_less (Close k) n out l = record { less = omega arith; live = l refl }
  told_less Closed n out l = record { less = omega arith; live = tt }
  told_less (Refused k) n out l = record { less = omega arith; live = tt }

  -- a step that is offered the whole file
  due_less : (due : Due) → Sound r m c o rest → Apt due r rest → Live due r.session
      → (due ≡ NothingDue) ⊎ Less (whole (weight due)) rest (by_due due r rest true m c o buffer at)
  due_less RoleDue s h l = inr (role_less (found_in rest true) (found_settled rest) (found_within rest true))
  due_less RecordDue s h l = inr (record_less (found_in rest true) (found_settled rest) (found_within rest true) l)
  due_less CallDue s h l = inr (rw (le-ltb (length rest) r.left h) (call_less s h l))
  due_less (PutDue a) s h l = inr (put_less a _ _ l)
  due_less (ToldDue a) s h l = inr (told_less a _ _ l)
  due_less NothingDue s h l = inl refl

-- ---- offer after offer
module _ (count : ℕ) (buffer : List ℕ) (at : ℕ) (room : at + 65600 ≤ length buffer) where
  -- all that is left, with the end flag
  abbrev offer : Offer
  offer = record { count = count; flag = true; buffer = buffer; place = at }

  step-whole : (d : Desk) → length d.rest ≤ count
      → step_on d offer ≡ by_due d.replay.due d.replay d.rest true d.message d.control d.output buffer at
  unfolding step_on step_call
  step-whole d h = rw (le-ltb (length buffer) (at + 65600) room, le-leb (length d.rest) count h, take_all count d.rest h)

  abbrev size_at : Desk → ℕ
  size_at d = size_of d.replay d.rest

  abbrev LiveDesk : Desk → Type 0
  LiveDesk d = Live d.replay.due d.replay.session

  -- the last line was said, or the step does something
  moves : (d : Desk) → SoundDesk d → LiveDesk d → length d.rest ≤ count
      → (d.replay.due ≡ NothingDue) ⊎ ((size_at (handed d offer) < size_at d) × LiveDesk (handed d offer))
  unfolding handed
  moves d s l h =
      ⊎_elim (λ e. inl e)
      (λ x.
      let y = subst (Less (size_at d) d.rest) (sym (step-whole d h)) x in
      inr (y.less, y.live))
      (due_less d.replay d.message d.control d.output d.rest buffer at d.replay.due s s.apt l)

  shrinks : (d : Desk) → length (handed d offer).rest ≤ length d.rest
  unfolding handed
  shrinks d = omega (arith, length-drop (step_on d offer).stepped.used d.rest)

  -- nothing follows the last line
  rests : (d : Desk) → d.replay.due ≡ NothingDue → length d.rest ≤ count → (handed d offer).replay.due ≡ NothingDue
  unfolding handed
  rests d e h =
      let x : Step = by_due NothingDue d.replay d.rest true d.message d.control d.output buffer at in
      ap (λ (y : Step). y.stepped.replay.due)
      (step-whole d h ∙ ap (λ (due : Due). by_due due d.replay d.rest true d.message d.control d.output buffer at) e)
      ∙ e

  stays : (k : ℕ) (d : Desk) → d.replay.due ≡ NothingDue → length d.rest ≤ count
      → (handed_all d (replicate k offer)).replay.due ≡ NothingDue
  unfolding handed_all
  stays zero d e h = e
  stays (suc k) d e h = stays k (handed d offer) (rests d e h) (omega (arith, shrinks d))

  some : (b : Bool) (i j n : ℕ) → pick b (suc i) (suc j) + n ≤ 0 → ⊥
  some true i j n h = absurd (omega arith)
  some false i j n h = absurd (omega arith)

  -- a size of 0 is that of a replay that is over
  spent : (due : Due) (n : ℕ) → weight due + 4 * n ≤ 0 → due ≡ NothingDue
  spent RoleDue n h = absurd (omega arith)
  spent RecordDue n h = absurd (omega arith)
  spent CallDue n h = absurd (omega arith)
  spent (PutDue a) n h = absurd (some (is_event a) 5 2 (4 * n) h)
  spent (ToldDue a) n h = absurd (some (is_event a) 4 1 (4 * n) h)
  spent NothingDue n h = refl

  reaches : (k : ℕ) (d : Desk) → SoundDesk d → LiveDesk d → length d.rest ≤ count → size_at d ≤ k
      → (handed_all d (replicate k offer)).replay.due ≡ NothingDue
  unfolding handed_all
  reaches zero d s l h q = spent d.replay.due (length d.rest) q
  reaches (suc k) d s l h q =
      ⊎_elim (λ e. stays k (handed d offer) (rests d e h) (omega (arith, shrinks d)))
      (λ x. reaches k (handed d offer) (handed-sound d offer s) x.1 (omega (arith, shrinks d)) (omega (arith, x.0)))
      (moves d s l h)

opened-live : (m c o file : List ℕ) → Live (opened m c o file).replay.due (opened m c o file).replay.session
unfolding opened begun
opened-live m c o file = tt

opened-size : (m c o file : List ℕ) → size_of (opened m c o file).replay (opened m c o file).rest ≡ 1 + 4 * length file
unfolding opened begun
opened-size m c o file = refl

opened-rest : (m c o file : List ℕ) → (opened m c o file).rest ≡ file
unfolding opened
opened-rest m c o file = refl

-- so many steps, each offered all that is left of the file, hand the whole listing out
pub whole_file : (m c o file buffer : List ℕ) (at : ℕ) → length m ≤ 32768 → length c ≤ 32768 → length o ≤ 32768 → at + 65600 ≤ length buffer
    → (handed_all (opened m c o file) (replicate (1 + 4 * length file) (record { count = length file; flag = true; buffer = buffer; place = at }))).text
    ≡ listing_with m c o file
whole_file m c o file buffer at h j k room =
    let d : Desk = opened m c o file in
    let rest : length d.rest ≡ length file = ap length (opened-rest m c o file) in
    text_is_listing m c o file _ h j k
    (reaches (length file) buffer at room (1 + 4 * length file) d (opened-sound m c o file h j k) (opened-live m c o file) (omega arith)
    (omega (arith, opened-size m c o file)))
