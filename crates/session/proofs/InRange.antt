-- What a session in range gives, as plain facts, and back.
use mathlib.Core.Path.{◌≡◌, refl, ◌∙◌}
use mathlib.Core.Bool.{Bool, true, false, not}
use mathlib.Core.Logic.{◌⊎◌, inl, inr, ⊎_elim}
use Prim.Native.Nat.{ℕ, ◌≤◌}
use native.Mathlib.Omega.{arith}
use lib.Dec.{eqb, leb}
use lib.ListN.{get_or}
use borrow.Author.Tests.{le-leb, leb-true, eq-eqb, eqb-true}
use Rattle.base.specs.Table.{within}
use Rattle.base.specs.Tests.{either, first_of}
use Rattle.frame.specs.Header.{size_by, missing}
use Rattle.session.specs.declared.Incoming.{Incoming}
use Rattle.session.specs.declared.Role.{Role}
use Rattle.session.specs.declared.Role.TheVariants.{Server, Client}
use Rattle.session.specs.declared.Session.{Session}
use Rattle.session.specs.declared.Settings.{Settings}
use Rattle.session.specs.declared.Waiting.{Waiting}
use Rattle.session.specs.Calls.{no_incoming, empty_reply, fresh, role_number, new_call}
use Rattle.session.specs.Frames.{header_whole, frame, header_tests}
use Rattle.session.specs.Range.{limits_hold, settings_hold, header_holds, count_holds, incoming_holds, waits, reply_holds, numbers_hold, range_of, in_range}
use Rattle.session.proofs.Choices.{both-parts, either-parts, either-all, asked, chosen}
use Rattle.session.proofs.Holds.{few, few_test, few_within, few_most}

pub record Good (g : Settings) (state refusal : ℕ) (i : Incoming) (k : Waiting) (n : ℕ) : Type 0 where
  pub frame_limit : g.frame ≤ 16777216
  pub message_limit : g.message ≤ 67108864
  pub role_known : g.role ≤ 1
  pub state_known : state ≤ 4
  pub refusal_known : (refusal ≡ 0) ⊎ ((3 ≤ refusal) × (refusal ≤ 15))
  pub kept-most : i.kept ≤ 14
  pub kept-within : i.kept ≤ size_by (get_or i.header 1 0)
  pub unrefused : header_whole i ≡ true → refusal ≡ 0 → first_of (header_tests g (frame i)) ≡ 0
  pub counted-whole : header_whole i ≡ true → i.counted ≤ (frame i).length
  pub counted-lacking : header_whole i ≡ false → i.counted ≡ 0
  pub progress_known : i.progress ≤ 8
  pub fragments_within : i.fragments ≤ g.message
  pub reply_short : waits k ≡ true → n ≤ 125

-- a session is in range where these parts of it are
pub range_session : (s : Session) → in_range s ≡ range_of s.settings s.state s.refusal s.incoming s.reply.waiting s.reply.length
unfolding in_range
range_session s = refl

refusal_parts : (n : ℕ) → either (eqb n 0) (within 3 15 n) ≡ true → (n ≡ 0) ⊎ ((3 ≤ n) × (n ≤ 15))
refusal_parts n e =
    ⊎_elim (λ z. inl (eqb-true n 0 z)) (λ w. let p = both-parts (leb 3 n) (leb n 15) w in inr (leb-true 3 n p.0, leb-true n 15 p.1))
    (either-parts (eqb n 0) (within 3 15 n) e)

pub good : {g : Settings} {state refusal : ℕ} {i : Incoming} {k : Waiting} {n : ℕ} → range_of g state refusal i k n ≡ true → Good g state refusal i k n
unfolding range_of settings_hold limits_hold numbers_hold incoming_holds header_holds count_holds reply_holds
good {g} {state} {refusal} {i} {k} {n} e =
    let all = both-parts (settings_hold g) _ e in
    let settings = both-parts (limits_hold g.frame g.message) _ all.0 in
    let limits = both-parts (leb g.frame 16777216) _ settings.0 in
    let others = both-parts (numbers_hold state refusal) _ all.1 in
    let numbers = both-parts (leb state 4) _ others.0 in
    let rest = both-parts (incoming_holds g refusal i) _ others.1 in
    let incoming = both-parts (header_holds g refusal i) _ rest.0 in
    let header = both-parts (few i) _ incoming.0 in
    let counts = both-parts (count_holds i) _ incoming.1 in
    let last = both-parts (leb i.progress 8) _ counts.1 in
    record {
      frame_limit = leb-true _ _ limits.0;
      message_limit = leb-true _ _ limits.1;
      role_known = leb-true _ _ settings.1;
      state_known = leb-true _ _ numbers.0;
      refusal_known = refusal_parts refusal numbers.1;
      kept-most = few_most i header.0;
      kept-within = few_within i header.0;
      unrefused = λ w z. eqb-true _ _ (rw (w, eq-eqb refusal 0 z) at header.1);
      counted-whole = λ w. leb-true _ _ (rw w at counts.0);
      counted-lacking = λ w. eqb-true _ _ (rw w at counts.0);
      progress_known = leb-true _ _ last.0;
      fragments_within = leb-true _ _ last.1;
      reply_short = λ w. leb-true _ _ (rw w at rest.1);
    }

-- ---- back
refusal_test : (n : ℕ) → (n ≡ 0) ⊎ ((3 ≤ n) × (n ≤ 15)) → either (eqb n 0) (within 3 15 n) ≡ true
refusal_test n (inl e) = rw (eq-eqb n 0 e)
refusal_test n (inr h) = rw (le-leb 3 n h.0, le-leb n 15 h.1) (either-all (eqb n 0))

pub good_range : {g : Settings} {state refusal : ℕ} {i : Incoming} {k : Waiting} {n : ℕ} → Good g state refusal i k n → range_of g state refusal i k n ≡ true
unfolding range_of settings_hold limits_hold numbers_hold incoming_holds header_holds count_holds reply_holds
good_range {g} {state} {refusal} {i} {k} {n} x =
    let kept : few i ≡ true = few_test i ∙ le-leb _ _ x.kept-within in
    let tests : Bool = eqb (first_of (header_tests g (frame i))) 0 in
    let header : either (not (header_whole i)) (either (not (eqb refusal 0)) tests) ≡ true =
    asked (header_whole i) _ (λ w. asked (eqb refusal 0) tests (λ z. eq-eqb _ 0 (x.unrefused w (eqb-true refusal 0 z)))) in
    let count : count_holds i ≡ true =
    chosen (header_whole i) _ _ (λ w. le-leb _ _ (x.counted-whole w)) (λ w. eq-eqb _ 0 (x.counted-lacking w)) in
    let reply : reply_holds k n ≡ true = asked (waits k) _ (λ w. le-leb n 125 (x.reply_short w)) in
    rw (
      le-leb g.frame 16777216 x.frame_limit,
      le-leb g.message 67108864 x.message_limit,
      le-leb g.role 1 x.role_known,
      le-leb state 4 x.state_known,
      refusal_test refusal x.refusal_known,
      kept,
      header,
      count,
      le-leb i.progress 8 x.progress_known,
      le-leb i.fragments g.message x.fragments_within,
    )
    reply

-- ---- a new session is in range
pub fresh-range : (g : Settings) (state : ℕ) → settings_hold g ≡ true → state ≤ 4 → in_range (fresh g state) ≡ true
unfolding in_range range_of numbers_hold incoming_holds header_holds count_holds reply_holds header_whole missing fresh no_incoming empty_reply
fresh-range g state e h = rw (e, le-leb state 4 h, le-leb 0 g.message (omega arith))

role_fits : (role : Role) → leb (role_number role) 1 ≡ true
role_fits Server = refl
role_fits Client = refl

-- with bad limits too: what stands in its place then is Terminated
pub new_range : (role : Role) (frame message : ℕ) (unmasked : Bool) → in_range (new_call role frame message unmasked).session ≡ true
unfolding new_call settings_hold limits_hold
new_range role frame message unmasked = go (limits_hold frame message) refl
  where
    go : (t : Bool) → limits_hold frame message ≡ t → in_range (new_call role frame message unmasked).session ≡ true
    go true e = rw e (fresh-range _ 0 (rw (e, role_fits role)) (omega arith))
    go false e = rw e (fresh-range _ 4 refl (omega arith))
