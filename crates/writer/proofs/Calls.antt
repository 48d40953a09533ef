-- The calls case by case: a number is owed, or there is no room, or it is done.
use mathlib.Core.Path.{◌≡◌, refl, ap}
use mathlib.Core.Bool.{Bool, true, false, not}
use mathlib.Core.List.{List, [], ◌++◌}
use Prim.Native.Nat.{ℕ, suc, ◌+◌, ◌-◌, ◌≤◌, ◌<◌}
use native.Mathlib.Omega.{arith}
use borrow.Author.Tests.{lt-ltb, le-ltb, ltb-true, ltb-false, ne_eqb}
use lib.Dec.{ltb}
use lib.ListN.{length, take}
use Rattle.std.specs.Prelude.{None, Some}
use Rattle.base.specs.Bytes.{part, to_big}
use Rattle.base.specs.Stores.{laid}
use Rattle.base.specs.Tests.{either, first_of}
use Rattle.base.proofs.Tests.{met, first_clear}
use Rattle.coding.specs.declared.opcode.Control.TheVariants.{Close as CloseFrame}
use Rattle.coding.specs.declared.opcode.OpCode.{OpCode}
use Rattle.coding.specs.declared.opcode.OpCode.TheVariants.{Control}
use Rattle.frame.specs.Close.{close_bytes}
use Rattle.session.specs.declared.Masks.{Masks}
use Rattle.session.specs.declared.Reply.{Reply}
use Rattle.session.specs.declared.Session.{Session}
use Rattle.session.specs.Calls.{output_short, sending, send_tests, send_frame, close_call, pong_call, held_number, held_part, take_tests, take_call}
use Rattle.session.specs.Range.{in_range}
use Rattle.session.specs.Refusals.{Done, Refused as NotSent}
use Rattle.session.specs.Replies.{encoded, fits, with_pong, Out, out, appended, move_reply}
use Rattle.session.specs.Session.{is_client, with_state, with_reply, with_held}
use Rattle.session.proofs.Choices.{either-all}
use Rattle.utf8.specs.Progress.{progress_after, is_whole}
use Rattle.replies.specs.Moves.{moving, move_of}
use Rattle.replies.proofs.Moving.{parts_move}
use Rattle.writer.proofs.Numbers.{long_parts}

-- what a reply that moved, or not, leaves
handed-over : (s : Session) (mask output : List ℕ) {q : Reply} {n : ℕ} {o : List ℕ}
    → moving q n o ≡ move_of (is_client s.settings) s.reply s.held mask output
    → sending Done (with_held (with_reply s q) n) o ≡ sending Done (move_reply s mask output).session (move_reply s mask output).output
handed-over s mask output m = ap (λ (v : Out). sending Done v.session v.output) (parts_move s mask output m)

-- the same of a session that holds what a frame left
pub moved_behind : (s : Session) (mask o : List ℕ) {held behind : ℕ} {t : Session} {o' : List ℕ} → held ≡ behind
    → out t o' ≡ move_reply (with_held s held) mask o
    → sending Done t o' ≡ sending Done (move_reply (with_held s behind) mask o).session (move_reply (with_held s behind) mask o).output
moved_behind s mask o e m = ap (λ (v : Out). sending Done v.session v.output) (rw e at m)

-- ---- a frame
module _ (s : Session) (state : ℕ) (op : OpCode) (bad : Bool) (p : List ℕ) (masks : Masks) (output : List ℕ) where
  pub send_owed : {n : ℕ} → n ≡ first_of (send_tests s output bad) → (n ≡ 0 → ⊥) → sending (NotSent n) s output ≡ send_frame s state op bad p masks output
  unfolding send_frame
  send_owed {n} q h = rw (← q, ne_eqb n 0 h, ne_eqb n 0 h)

  module _ (early : first_of (send_tests s output bad) ≡ 0) where
    pub send_no_room : fits s.held output (encoded (is_client s.settings) op masks.first p) ≡ false
        → sending (NotSent 19) s output ≡ send_frame s state op bad p masks output
    unfolding send_frame first_of
    send_no_room f = rw (early, f)

    pub send_done : fits s.held output (encoded (is_client s.settings) op masks.first p) ≡ true
        → {behind n : ℕ} {o o' : List ℕ} {q : Reply}
        → behind ≡ s.held + length (encoded (is_client s.settings) op masks.first p)
        → o ≡ laid output s.held (encoded (is_client s.settings) op masks.first p)
        → moving q n o' ≡ move_of (is_client s.settings) s.reply behind masks.second o
        → sending Done (with_held (with_reply (with_state s state) q) n) o' ≡ send_frame s state op bad p masks output
    unfolding send_frame first_of appended
    send_done f {behind} {n} {o} u v m = rw (early, f, ← u, ← v) (handed-over (with_held (with_state s state) behind) masks.second o m)

-- ---- a pong
module _ (s : Session) (p : List ℕ) (masks : Masks) (output : List ℕ) where
  pub pong_owed : {n : ℕ} → n ≡ first_of (send_tests s output (ltb 125 (length p))) → (n ≡ 0 → ⊥) → sending (NotSent n) s output ≡ pong_call s p masks output
  unfolding pong_call
  pong_owed {n} q h = rw (← q, ne_eqb n 0 h)

  pub pong_done : first_of (send_tests s output (ltb 125 (length p))) ≡ 0
      → {asked q : Reply} {n : ℕ} {o : List ℕ} → asked ≡ with_pong s.reply p
      → moving q n o ≡ move_of (is_client s.settings) asked s.held masks.first output
      → sending Done (with_held (with_reply s q) n) o ≡ pong_call s p masks output
  unfolding pong_call
  pong_done e {asked} u m = rw (e, ← u) (handed-over (with_reply s asked) masks.first output m)

-- a reason may have two bytes less than a payload, since its code goes before it
past_two : (n : ℕ) → ltb 125 (suc (suc n)) ≡ ltb 123 n
past_two n = go (ltb 123 n) refl
  where
    go : (t : Bool) → ltb 123 n ≡ t → ltb 125 (suc (suc n)) ≡ t
    go true e = lt-ltb 125 (suc (suc n)) (omega (arith, ltb-true 123 n e))
    go false e = le-ltb 125 (suc (suc n)) (omega (arith, ltb-false 123 n e))

-- ---- a close: an empty one, and one whose payload is a code and a reason
module _ (s : Session) (reason : List ℕ) (masks : Masks) (output : List ℕ) where
  pub close_empty : send_frame s 1 (Control CloseFrame) false [] masks output ≡ close_call s None reason masks output
  unfolding close_call progress_after is_whole
  close_empty = refl

  pub close_code : (n : ℕ) {lead : List ℕ} {bad : Bool} → lead ≡ to_big 2 n
      → bad ≡ either (ltb 123 (length reason)) (not (is_whole (progress_after 0 reason)))
      → send_frame s 1 (Control CloseFrame) bad (lead ++ reason) masks output ≡ close_call s (Some n) reason masks output
  unfolding close_call close_bytes to_big
  close_code n u v = rw (u, v, past_two (length reason))

-- ---- handing over
module _ (s : Session) (output : List ℕ) where
  pub held_none : (held_number s output ≡ 0 → ⊥) → [] ≡ held_part s output
  unfolding held_part
  held_none h = rw (ne_eqb (held_number s output) 0 h)

  pub held_all : held_number s output ≡ 0 → take s.held output ≡ held_part s output
  unfolding held_part
  held_all e = rw e

  pub held_within : held_number s output ≡ 0 → s.held ≤ length output
  unfolding held_number output_short
  held_within e = (long_parts (length output) s.held (first_clear 1 _ _ (omega arith) (first_clear 20 _ _ (omega arith) e).1).0).1

either-none : (a : Bool) → either a false ≡ a
either-none true = refl
either-none false = refl

module _ (s : Session) (n : ℕ) (output : List ℕ) where
  pub take-owed : {k : ℕ} → k ≡ first_of (take_tests s n output) → (k ≡ 0 → ⊥) → sending (NotSent k) s output ≡ take_call s n output
  unfolding take_call
  take-owed {k} q h = rw (← q, ne_eqb k 0 h)

  -- more than are held, and no more
  pub take-many : s.held < n → 20 ≡ first_of (take_tests s n output)
  unfolding take_tests
  take-many h = met 20 _ (rw (lt-ltb s.held n h) (either-all (not (in_range s))))

  pub take-few : n ≤ s.held → first_of (take_tests s n output) ≡ held_number s output
  unfolding take_tests held_number
  take-few h = rw (le-ltb s.held n h, either-none (not (in_range s)))

  pub take_done : first_of (take_tests s n output) ≡ 0 → {o : List ℕ} → o ≡ laid output 0 (part n (s.held - n) output)
      → sending Done (with_held s (s.held - n)) o ≡ take_call s n output
  unfolding take_call
  take_done q u = rw (q, u)
