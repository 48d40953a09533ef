-- Laws of the numbers 20, 1, 2, 17 and 18, which come before a frame is measured, and of what a session and an output have where none is owed.
use mathlib.Core.Path.{◌≡◌, refl, sym}
use mathlib.Core.Bool.{Bool, true, false}
use mathlib.Core.List.{List, ◌∷◌, []}
use Prim.Native.Nat.{ℕ, ◌≤◌, ◌<◌}
use native.Mathlib.Omega.{arith}
use borrow.Author.Tests.{lt-ltb, le-ltb, ltb-false, eqb-true, not-false}
use lib.Dec.{ltb}
use lib.ListN.{length}
use Rattle.base.specs.Table.{pick}
use Rattle.base.specs.Tests.{either, first_of}
use Rattle.base.proofs.Tests.{first_clear, settled}
use Rattle.session.specs.declared.refusal.Refusal.{Refusal}
use Rattle.session.specs.declared.Session.{Session}
use Rattle.session.specs.Calls.{output_short, held_number, send_tests}
use Rattle.session.specs.Range.{waits, in_range}
use Rattle.session.specs.Refusals.{number_of}
use Rattle.session.specs.Session.{is_active}
use Rattle.session.proofs.InRange.{good}
use Rattle.session.proofs.Refusals.{number_some}

-- ---- number 1
abbrev pub short : ℕ → ℕ → Bool
short size held = either (ltb size 131) (ltb size held)

module _ (size held : ℕ) where
  pub short-small : size < 131 → short size held ≡ true
  short-small h = rw (lt-ltb size 131 h)

  pub short-held : 131 ≤ size → size < held → short size held ≡ true
  short-held h k = rw (le-ltb size 131 h, lt-ltb size held k)

  pub long : 131 ≤ size → held ≤ size → short size held ≡ false
  long h k = rw (le-ltb size 131 h, le-ltb size held k)

  pub long_parts : short size held ≡ false → (131 ≤ size) × (held ≤ size)
  long_parts e = go (ltb size 131) refl e
    where
      go : (t : Bool) → ltb size 131 ≡ t → pick t true (ltb size held) ≡ false → (131 ≤ size) × (held ≤ size)
      go true f e = absurd (let z : ◌≡◌ {A = ℕ} 0 1 = cc in omega arith)
      go false f e = (ltb-false size 131 f, ltb-false size held e)

-- ---- what is owed first is the number of every sending call
pub owed_first : (s : Session) (output : List ℕ) (bad : Bool) (e : Refusal) → number_of e ≡ held_number s output → number_of e ≡ first_of (send_tests s output bad)
unfolding held_number send_tests
owed_first s output bad e q = settled (_ ∷ (_ ∷ [])) _ q (number_some e)

-- ---- a session in range
pub reply_short : (s : Session) → in_range s ≡ true → waits s.reply.waiting ≡ true → s.reply.length ≤ 125
unfolding in_range
reply_short s r w = (good r).reply_short w

-- ---- no number is owed
pub record Clear (s : Session) (output : List ℕ) (bad : Bool) : Type 0 where
  pub ranged : in_range s ≡ true
  pub reply_short : waits s.reply.waiting ≡ true → s.reply.length ≤ 125
  pub room : 131 ≤ length output
  pub held_within : s.held ≤ length output
  pub active : s.state ≡ 0
  pub not_bad : bad ≡ false

pub clear : (s : Session) (output : List ℕ) (bad : Bool) → 0 ≡ first_of (send_tests s output bad) → Clear s output bad
unfolding send_tests output_short
clear s output bad e =
    let range = first_clear 20 _ _ (omega arith) (sym e) in
    let long = first_clear 1 _ _ (omega arith) range.1 in
    let on = first_clear 2 _ _ (omega arith) long.1 in
    let active = first_clear 17 _ _ (omega arith) on.1 in
    let bad = first_clear 18 _ _ (omega arith) active.1 in
    let ranged : in_range s ≡ true = not-false (in_range s) range.0 in
    let sizes = long_parts (length output) s.held long.0 in
    record {
      ranged = ranged;
      reply_short = reply_short s ranged;
      room = sizes.0;
      held_within = sizes.1;
      active = eqb-true s.state 0 (not-false (is_active s.state) active.0);
      not_bad = bad.0;
    }
