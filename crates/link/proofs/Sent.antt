-- What an accepted sending call puts into the output store: its frame behind the held bytes, and then the waiting reply's, if that moved.
use mathlib.Core.Path.{◌≡◌, refl, sym, ap, ap₂, subst, ◌∙◌}
use mathlib.Core.Bool.{Bool, true, false, not}
use mathlib.Core.List.{List, [], ◌∷◌, ◌++◌, append-nil}
use mathlib.Core.Logic.{◌⊎◌, inl, inr}
use Prim.Native.Nat.{ℕ, ◌+◌, ◌-◌, ◌≤◌}
use native.Mathlib.Omega.{arith}
use lib.Dec.{eqb, ltb}
use lib.ListN.{length, take, drop, length-append}
use lib.Seq.{take-take, take_at}
use borrow.Author.Tests.{eq-eqb, eqb-true, leb-true, ltb-false, not-false}
use Rattle.base.specs.Bytes.{part}
use Rattle.base.specs.Stores.{laid}
use Rattle.base.specs.Table.{pick}
use Rattle.base.specs.Tests.{both, ◌when◌, first_of}
use Rattle.base.proofs.Choice.{by_test}
use Rattle.base.proofs.Stores.{length-laid, laid-append, laid-part}
use Rattle.base.proofs.Tests.{first_clear}
use Rattle.coding.specs.declared.opcode.OpCode.{OpCode}
use Rattle.session.specs.Calls.{output_short, Sending, sending, send_tests, send_frame}
use Rattle.session.specs.declared.Masks.{Masks}
use Rattle.session.specs.declared.Session.{Session}
use Rattle.session.specs.Range.{waits}
use Rattle.session.specs.Refusals.{Sent, Done, Refused}
use Rattle.session.specs.Replies.{encoded, fits, reply_frame, Out, appended, move_reply}
use Rattle.session.specs.Session.{is_client, is_active, with_state, with_held}
use Rattle.session.proofs.Choices.{both-parts}
use Rattle.steady.proofs.Again.{either-not}
use Rattle.steady.proofs.Passing.{send_passed}

-- the frame is laid behind the held bytes, and behind it nothing, or the waiting reply's frame
pub record Put (held : ℕ) (output bytes reply : List ℕ) (x : Out) : Type 0 where
  pub behind : List ℕ
  pub which : (behind ≡ []) ⊎ (behind ≡ reply)
  pub there : x.output ≡ laid output held (bytes ++ behind)
  pub count : x.session.held ≡ held + length (bytes ++ behind)
  pub room : held + length (bytes ++ behind) ≤ length output

-- ---- what the tests say
abbrev Accepted : Sent → Type 0
Accepted Done = Unit
Accepted (Refused k) = ⊥

fit_room : (held : ℕ) (output bytes : List ℕ) → fits held output bytes ≡ true → length bytes ≤ length output - held
unfolding fits
fit_room held output bytes h = leb-true (length bytes) (length output - held) h

not_refused : (b : Bool) (a r : Sending) (k : ℕ) → r.handed.sent ≡ Refused k → (pick b a r).handed.sent ≡ Done → b ≡ true
not_refused true a r k e h = refl
not_refused false a r k e h = absurd (subst Accepted (sym h ∙ e) tt)

-- ---- a reply moves or not
move_puts : (s : Session) (mask output : List ℕ) (held : ℕ) (bytes : List ℕ) (o : List ℕ) → output ≡ laid o held bytes → s.held ≡ held + length bytes
    → held + length bytes ≤ length o → Put held o bytes (reply_frame s mask) (move_reply s mask output)
unfolding move_reply appended
move_puts s mask output held bytes o e h k =
    by_test (both (waits s.reply.waiting) (fits s.held output (reply_frame s mask)))
    (λ t.
    let r : List ℕ = reply_frame s mask in
    let size : length output ≡ length o = ap length e ∙ length-laid o held bytes in
    let room : length r ≤ length output - s.held = fit_room s.held output r (both-parts (waits s.reply.waiting) (fits s.held output (reply_frame s mask)) t).1 in
    let sum : length (bytes ++ r) ≡ length bytes + length r = length-append bytes r in
    rw t
    (record {
      behind = r;
      which = inr refl;
      there = ap₂ (λ (l : List ℕ) (n : ℕ). laid l n r) e h ∙ sym (laid-append o held bytes r);
      count = omega arith;
      room = omega arith;
    }))
    (λ t.
    let none : bytes ++ [] ≡ bytes = append-nil bytes in
    rw t
    (record {
      behind = [];
      which = inl refl;
      there = e ∙ ap (laid o held) (sym none);
      count = h ∙ ap (λ (l : List ℕ). held + length l) (sym none);
      room = subst (λ (l : List ℕ). held + length l ≤ length o) (sym none) k;
    }))

-- ---- an accepted call
module _ (s : Session) (state : ℕ) (op : OpCode) (bad : Bool) (p : List ℕ) (masks : Masks) (output : List ℕ) where
  abbrev bytes : List ℕ
  bytes = encoded (is_client s.settings) op masks.first p

  abbrev x : Sending
  x = send_frame s state op bad p masks output

  abbrev early : ℕ
  early = first_of (send_tests s output bad)

  abbrev late : ℕ
  late = first_of ((19 when not (fits s.held output bytes)) ∷ [])

  abbrev number : ℕ
  number = pick (eqb early 0) late early

  -- no number was owed
  none_owed : x.handed.sent ≡ Done → number ≡ 0
  unfolding send_frame
  none_owed h = eqb-true number 0 (not_refused (eqb number 0) _ _ number refl h)

  none_early : number ≡ 0 → early ≡ 0
  none_early h = by_test (eqb early 0) (λ t. eqb-true early 0 t) (λ t. sym (ap (λ (b : Bool). pick b late early) t) ∙ h)

  none_late : number ≡ 0 → late ≡ 0
  none_late h = sym (ap (λ (b : Bool). pick b late early) (eq-eqb early 0 (none_early h))) ∙ h

  has_room : number ≡ 0 → s.held + length bytes ≤ length output
  unfolding output_short
  has_room h =
      let fit : not (fits s.held output bytes) ≡ false = (first_clear 19 (not (fits s.held output bytes)) [] (λ e. absurd (omega arith)) (none_late h)).0 in
      let short = (send_passed s output bad (none_early h)).0 in
      let held : s.held ≤ length output = ltb-false (length output) s.held (either-not (ltb (length output) 131) (ltb (length output) s.held) short).1 in
      omega (arith, fit_room s.held output bytes (not-false (fits s.held output bytes) fit))

  -- what was to be sent is not bad: 18 was not given
  pub not_bad : x.handed.sent ≡ Done → bad ≡ false
  not_bad h = (send_passed s output bad (none_early (none_owed h))).2

  -- the frame is in the output, behind what was held, and the state is the one given
  pub sent-puts : x.handed.sent ≡ Done → Put s.held output bytes (reply_frame s masks.second) (record { session = x.handed.session; output = x.output })
  unfolding send_frame appended reply_frame
  sent-puts h =
      let z = none_owed h in
      rw (eq-eqb number 0 z)
      (move_puts (with_held (with_state s state) (s.held + length bytes)) masks.second (laid output s.held bytes) s.held bytes output refl refl (has_room z))

  -- a call is refused and nothing changes, or its frame is put out and then the waiting reply moves
  abbrev puts : Out
  puts = appended (with_state s state) output bytes

  abbrev moved : Out
  moved = move_reply puts.session masks.second puts.output

  pub data Way : Type 0 where
    refused : (k : ℕ) → x ≡ sending (Refused k) s output → Way
    goes_out : is_active s.state ≡ true → bad ≡ false → s.held + length bytes ≤ length output → x ≡ sending Done moved.session moved.output → Way

  pub way : Way
  unfolding send_frame
  way =
      by_test (eqb number 0)
      (λ t.
      let z : number ≡ 0 = eqb-true number 0 t in
      let fine = send_passed s output bad (none_early z) in
      goes_out fine.1 fine.2 (has_room z) (rw t))
      (λ t. refused number (rw t))

-- ---- the frame's bytes can be read off the store
pub put_bytes : (held : ℕ) (output bytes : List ℕ) {reply : List ℕ} (x : Out) → Put held output bytes reply x → part held (length bytes) x.output ≡ bytes
unfolding part
put_bytes held output bytes x y =
    let all : List ℕ = bytes ++ y.behind in
    let sum : length all ≡ length bytes + length y.behind = length-append bytes y.behind in
    ap (λ (l : List ℕ). take (length bytes) (drop held l)) y.there
    ∙ sym (take-take (length bytes) (length all) (drop held (laid output held all)) (omega arith))
    ∙ ap (take (length bytes)) (laid-part output held all y.room)
    ∙ take_at bytes y.behind (length bytes) refl
