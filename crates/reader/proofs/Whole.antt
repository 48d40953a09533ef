-- Laws of the whole read call: a number is owed, or a waiting close does not fit, or the reply moves and the call goes on.
use mathlib.Core.Path.{◌≡◌, sym, ap, subst, ◌∙◌}
use mathlib.Core.Bool.{Bool, true, false, not}
use mathlib.Core.List.{List, [], ◌∷◌}
use Prim.Native.Nat.{ℕ}
use native.Mathlib.Omega.{arith}
use borrow.Author.Tests.{eq-eqb, ne_eqb, eqb-true, not-false}
use lib.Dec.{eqb}
use Rattle.base.specs.Tests.{Test, ◌when◌, first_of}
use Rattle.base.proofs.Choice.{by_test}
use Rattle.base.proofs.Tests.{settled, first_clear}
use Rattle.session.specs.declared.Answer.TheVariants.{Refused}
use Rattle.session.specs.declared.Masks.{Masks}
use Rattle.session.specs.declared.Reply.{Reply}
use Rattle.session.specs.declared.Session.{Session}
use Rattle.session.specs.declared.Turn.{Turn}
use Rattle.session.specs.Calls.{stores_short, turn, read, read_tests, read_on, read_call}
use Rattle.session.specs.Range.{range_of, in_range}
use Rattle.session.specs.Replies.{Out, move_reply}
use Rattle.session.specs.Session.{is_client, is_terminated, with_reply, with_held}
use Rattle.session.proofs.InRange.{range_session}
use Rattle.steady.proofs.Again.{Room, stores_room}
use Rattle.steady.proofs.Moves.{move_range}
use Rattle.steady.proofs.Passing.{late_close}
use Rattle.replies.specs.Moves.{moving, move_of}
use Rattle.replies.proofs.Moving.{parts_move}

-- ---- a session's own refusal is the number, or there is none
pub repeated : (n : ℕ) → n ≡ first_of ((n when not (eqb n 0)) ∷ [])
unfolding first_of
repeated n = by_test (eqb n 0) (λ t. rw t (eqb-true n 0 t)) (λ t. rw t)

-- ---- the tests before a waiting close is measured
abbrev pub early : Session → List ℕ → List ℕ → List ℕ → List Test
early s message control output =
    (20 when not (in_range s))
    ∷ (1 when stores_short s message control output)
    ∷ (2 when is_terminated s.state)
    ∷ (s.refusal when not (eqb s.refusal 0))
    ∷ []

pub record Sound (s : Session) (message control output : List ℕ) : Type 0 where
  pub ranged : in_range s ≡ true
  pub stores : stores_short s message control output ≡ false
  pub goes_on : is_terminated s.state ≡ false
  pub unrefused : s.refusal ≡ 0
  pub room : Room s.settings.message s.held message control output

pub sound : (s : Session) (message control output : List ℕ) → first_of (early s message control output) ≡ 0 → Sound s message control output
sound s message control output e =
    let range = first_clear 20 _ _ (omega arith) e in
    let stores = first_clear 1 _ _ (omega arith) range.1 in
    let on = first_clear 2 _ _ (omega arith) stores.1 in
    record {
      ranged = not-false (in_range s) range.0;
      stores = stores.0;
      goes_on = on.0;
      unrefused = repeated s.refusal ∙ on.1;
      room = stores_room s message control output stores.0;
    }

-- ---- a reply that moved, or not, leaves the session in range
pub moved_range : (s : Session) (mask output : List ℕ) {q : Reply} {n : ℕ} {o : List ℕ}
    → moving q n o ≡ move_of (is_client s.settings) s.reply s.held mask output → in_range s ≡ true
    → range_of s.settings s.state s.refusal s.incoming q.waiting q.length ≡ true
moved_range s mask output {q} {n} m e =
    sym (range_session (with_held (with_reply s q) n))
    ∙ subst (λ (x : Out). in_range x.session ≡ true) (sym (parts_move s mask output m)) (move_range s mask output e)

-- ---- the call
module _ (s : Session) (piece : List ℕ) (end : Bool) (masks : Masks) (message control output : List ℕ) where
  pub read-owed : {n : ℕ} → n ≡ first_of (early s message control output) → (n ≡ 0 → ⊥)
      → read (turn (Refused n) 0 s) message control output ≡ read_call s piece end masks message control output
  unfolding read_call read_tests
  read-owed {n} q h = rw (← settled (early s message control output) ((19 when late_close s masks.first output) ∷ []) q h, ne_eqb n 0 h)

  module _ (clear : first_of (early s message control output) ≡ 0) where
    abbrev clears : Sound s message control output
    clears = sound s message control output clear

    -- only the waiting close is left to be tested
    last : first_of (read_tests s masks.first message control output) ≡ first_of ((19 when late_close s masks.first output) ∷ [])
    unfolding read_tests first_of
    last = rw (clears.ranged, clears.stores, clears.goes_on, eq-eqb s.refusal 0 clears.unrefused)

    pub read-stuck : late_close s masks.first output ≡ true
        → read (turn (Refused 19) 0 s) message control output ≡ read_call s piece end masks message control output
    unfolding read_call first_of
    read-stuck l = rw (last, l)

    pub read-goes_on : late_close s masks.first output ≡ false → {q : Reply} {n : ℕ} {m c o : List ℕ} {r : Turn}
        → moving q n o ≡ move_of (is_client s.settings) s.reply s.held masks.first output
        → ((k : List ℕ) → read r m c k ≡ read_on (with_held (with_reply s q) n) piece end message control k)
        → read r m c o ≡ read_call s piece end masks message control output
    unfolding read_call first_of
    read-goes_on l {q} {n} {m} {c} {o} moved on =
        let all : read_on (with_held (with_reply s q) n) piece end message control o
        ≡ read_on (move_reply s masks.first output).session piece end message control (move_reply s masks.first output).output =
        ap (λ (x : Out). read_on x.session piece end message control x.output) (parts_move s masks.first output moved) in
        rw (last, l) (on o ∙ all)
