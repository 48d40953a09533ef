-- What is known behind the tests that a call starts with.
use mathlib.Core.Path.{◌≡◌, refl}
use mathlib.Core.Bool.{Bool, true, false, not}
use mathlib.Core.List.{List, [], ◌∷◌}
use mathlib.Core.Logic.{⊎_elim}
use Prim.Native.Nat.{ℕ, ◌<◌, ◌≤◌}
use native.Mathlib.Omega.{arith}
use lib.Dec.{eqb, ltb}
use borrow.Author.Rules.{rules}
use borrow.Author.Tests.{eqb-true, eqb-false, ltb-true, ltb-false, not-false}
use Rattle.base.specs.Table.{pick}
use Rattle.base.specs.Tests.{both, Test, ◌when◌, first_of}
use Rattle.base.proofs.Choice.{by_test}
use Rattle.base.proofs.Tests.{first_clear, first_most, all_clear}
use Rattle.session.specs.declared.Session.{Session}
use Rattle.session.specs.Calls.{output_short, stores_short, read_tests, send_tests, take_tests}
use Rattle.session.specs.Range.{in_range}
use Rattle.session.specs.Replies.{fits, is_close_reply, reply_frame}
use Rattle.session.specs.Session.{is_server, is_active, is_terminated}
use Rattle.steady.proofs.Parts.{in_range_lem}

-- a test whose number may be 0
first_zero : (n : ℕ) (rest : List Test) → first_of ((n when not (eqb n 0)) ∷ rest) ≡ 0 → (n ≡ 0) × (first_of rest ≡ 0)
unfolding first_of
first_zero n rest = by_test (eqb n 0) (λ t. rw t (λ h. (eqb-true n 0 t, h))) (λ t. rw t (λ h. absurd (eqb-false n 0 t h)))

-- ---- reading
abbrev pub late_close : Session → List ℕ → List ℕ → Bool
late_close s mask output = both (is_server s.settings) (both (is_close_reply s.reply.waiting) (not (fits s.held output (reply_frame s mask))))

pub record Passed (s : Session) (mask message control output : List ℕ) : Type 0 where
  pub ranged : in_range s ≡ true
  pub stores : stores_short s message control output ≡ false
  pub goes_on : is_terminated s.state ≡ false
  pub unrefused : s.refusal ≡ 0
  pub fits-close : late_close s mask output ≡ false

pub read-passed : (s : Session) (mask message control output : List ℕ) → first_of (read_tests s mask message control output) ≡ 0
    → Passed s mask message control output
unfolding read_tests
read-passed s mask message control output h =
    let a = first_clear 20 (not (in_range s)) _ (search rules) h in
    let b = first_clear 1 (stores_short s message control output) _ (search rules) a.1 in
    let c = first_clear 2 (is_terminated s.state) _ (search rules) b.1 in
    let d = first_zero s.refusal ((19 when late_close s mask output) ∷ []) c.1 in
    let e = first_clear 19 (late_close s mask output) [] (search rules) d.1 in
    record { ranged = not-false (in_range s) a.0; stores = b.0; goes_on = c.0; unrefused = d.0; fits-close = e.0 }

pub passed_read : (s : Session) (mask message control output : List ℕ) → Passed s mask message control output
    → first_of (read_tests s mask message control output) ≡ 0
unfolding read_tests first_of
passed_read s mask message control output p =
    rw (p.ranged, p.stores, p.goes_on, p.fits-close) (go (not (eqb s.refusal 0)) p.unrefused)
  where
    go : (t : Bool) → s.refusal ≡ 0 → pick t s.refusal 0 ≡ 0
    go true e = e
    go false e = refl

-- ---- no test gives 20 to a session in range
module _ (s : Session) (e : in_range s ≡ true) where
  pub read_number_lem : (mask message control output : List ℕ) → first_of (read_tests s mask message control output) ≤ 19
  unfolding read_tests first_of
  read_number_lem mask message control output =
      let tests : List Test = (1 when stores_short s message control output)
      ∷ (2 when is_terminated s.state)
      ∷ (s.refusal when not (eqb s.refusal 0))
      ∷ (19 when late_close s mask output) ∷ [] in
      let known : s.refusal ≤ 19 = ⊎_elim (λ z. omega arith) (λ p. omega arith) (in_range_lem s e).refusal_known in
      rw e (first_most 19 tests (omega arith))

  pub send_number_lem : (output : List ℕ) (bad : Bool) → first_of (send_tests s output bad) ≤ 18
  unfolding send_tests first_of
  send_number_lem output bad =
      let tests : List Test = (1 when output_short s output) ∷ (2 when is_terminated s.state) ∷ (17 when not (is_active s.state)) ∷ (18 when bad) ∷ [] in
      rw e (first_most 18 tests (omega arith))

  pub take-number : (n : ℕ) (output : List ℕ) → first_of (take_tests s n output) ≡ 20 → s.held < n
  unfolding take_tests first_of
  take-number n output =
      rw e (by_test (ltb s.held n) (λ t h. ltb-true s.held n t)
      (λ t. rw t (λ h. absurd (omega (arith, first_most 1 ((1 when output_short s output) ∷ []) (omega arith))))))

-- ---- a sending call that passes the tests: the output store is not short, the state is Active, and nothing is sent that 18 names
pub send_passed : (s : Session) (output : List ℕ) (bad : Bool) → first_of (send_tests s output bad) ≡ 0
    → (output_short s output ≡ false) × (is_active s.state ≡ true) × (bad ≡ false)
unfolding send_tests
send_passed s output bad h =
    let c = all_clear (send_tests s output bad) (search rules) h in
    (c.1.0, not-false (is_active s.state) c.1.1.1.0, c.1.1.1.1.0)

pub send_clear : (s : Session) (output : List ℕ) (n : ℕ) → first_of (send_tests s output (ltb 125 n)) ≡ 0 → n ≤ 125
send_clear s output n h = ltb-false 125 n (send_passed s output (ltb 125 n) h).2
