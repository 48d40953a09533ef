-- The bytes that a call takes run through the one that decided: with these bytes alone the call is the same, and with fewer it says more.
use mathlib.Core.Path.{◌≡◌, sym, ap, subst, ◌∙◌}
use mathlib.Core.Bool.{Bool, true, false}
use mathlib.Core.List.{List, [], ◌∷◌}
use Prim.Native.Nat.{ℕ, zero, suc, ◌+◌, ◌<◌, ◌≤◌}
use native.Mathlib.Omega.{arith}
use lib.ListN.{length, take, drop, length-take, take-append-drop}
use lib.Seq.{take-nil}
use Rattle.base.proofs.Choice.{by_test}
use Rattle.session.specs.Calls.{Read, read_call}
use Rattle.session.specs.declared.Answer.TheVariants.{More}
use Rattle.session.specs.declared.Masks.{Masks}
use Rattle.session.specs.declared.Session.{Session}
use Rattle.session.specs.declared.Settings.{Settings}
use Rattle.session.specs.Reading.{world, At, after, settle, is_more, step, feed}
use Rattle.session.specs.Replies.{Concluded, conclude, move_reply}
use Rattle.session.specs.Session.{with_incoming}
use Rattle.session.proofs.Fold.{feed-stopped}
use Rattle.steady.proofs.Feeding.{feed-taken, step-one}
use Rattle.steady.proofs.InRangeStays.{fed}
use Rattle.steady.proofs.OneCall.{Way, way, refused, closed, taking, outcome, flagged-taken, call_taken, early}

module _ (g : Settings) (state : ℕ) where
  -- bytes behind the last one taken change nothing
  feed-front : (x : At) (vs : List ℕ) (j : ℕ) → (feed g state x vs).taken ≤ x.taken + j → feed g state x (take j vs) ≡ feed g state x vs
  unfolding feed
  feed-front x [] j h = ap (feed g state x) (take-nil j)
  feed-front x (b ∷ vs) zero h =
      by_test (is_more x.world.answer) (λ t. absurd (omega (arith, step-one g state x b t, feed-taken g state (step g state x b) vs)))
      (λ t. sym (feed-stopped g state x (b ∷ vs) t))
  feed-front x (b ∷ vs) (suc j) h =
      by_test (is_more x.world.answer)
      (λ t. let e = step-one g state x b t in feed-front (step g state x b) vs j (omega arith))
      (λ t. feed-stopped g state x (b ∷ take j vs) t ∙ sym (feed-stopped g state x (b ∷ vs) t))

module _ (s : Session) (masks : Masks) (message control output piece : List ℕ) (end : Bool) where
  abbrev r : Read
  r = read_call s piece end masks message control output

  abbrev u : Session
  u = (move_reply s masks.first output).session

  -- with the bytes taken alone, the call is the same
  pub decided_there : read_call s (take r.turn.taken piece) end masks message control output ≡ r
  decided_there = go (way s masks message control output)
    where
      go : Way s masks message control output → read_call s (take r.turn.taken piece) end masks message control output ≡ r
      go (refused n is owed e) = e (take r.turn.taken piece) end ∙ sym (e piece end)
      go (closed passed over e) = e (take r.turn.taken piece) end ∙ sym (e piece end)
      go (taking p c e) =
          let x : At = fed u piece message control in
          let d : Concluded = conclude x.world.answer (with_incoming u x.world.incoming) x.world.control in
          let n : r.turn.taken ≡ x.taken = ap (λ (y : Read). y.turn.taken) (e piece end) ∙ flagged-taken end d x.taken in
          let front = feed-front u.settings u.state (after (settle u.settings u.state (world u.incoming message control More)) 0) piece r.turn.taken (omega arith) in
          e (take r.turn.taken piece) end ∙ ap (outcome u end (move_reply s masks.first output).output) front ∙ sym (e piece end)

  -- with fewer, it says more
  pub decided_not_before : (k : ℕ) → k < r.turn.taken → is_more (read_call s (take k piece) false masks message control output).turn.answer ≡ true
  decided_not_before k h =
      by_test (is_more (read_call s (take k piece) false masks message control output).turn.answer) (λ t. t)
      (λ t.
      let short : Read = read_call s (take k piece) false masks message control output in
      let same : r ≡ short =
      subst (λ (l : List ℕ). read_call s l end masks message control output ≡ short) (take-append-drop k piece)
      (early s masks message control output (take k piece) (drop k piece) end t) in
      let most : short.turn.taken ≤ length (take k piece) = call_taken s masks message control output (take k piece) false in
      let taken : r.turn.taken ≡ short.turn.taken = ap (λ (y : Read). y.turn.taken) same in
      absurd (omega (arith, length-take k piece)))
