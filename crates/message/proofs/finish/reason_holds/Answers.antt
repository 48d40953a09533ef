-- `message::finish::reason_holds` meets its contract.
use mathlib.Core.Path.{◌≡◌, sym, ap, ◌∙◌}
use mathlib.Core.Logic.{⊎_elim}
use Prim.Native.Nat.{◌-◌}
use lib.ListN.{length, take, drop, length-drop}
use lib.Seq.{take_all}
use native.Mathlib.Omega.{arith}
use Rattle.session.specs.Frames.{reason_holds}
use Rattle.message.proofs.Ends.{has_reason, reason_none, reason_there}
use Rattle.message.proofs.finish.reason_holds.Goals as goal

pub slice_bounds-is_text-count : goal.slice_bounds-is_text-count
slice_bounds-is_text-count c = reason_there _ (ap has_reason (sym c.into_close.ensures ∙ c.in-CodeAndReason.is))

pub slice_bounds-is_text-start : goal.slice_bounds-is_text-start
slice_bounds-is_text-start c = omega (arith, reason_there _ (ap has_reason (sym c.into_close.ensures ∙ c.in-CodeAndReason.is)))

pub returns-in-CodeAndReason : goal.returns-in-CodeAndReason
unfolding reason_holds
returns-in-CodeAndReason c =
    let all : take (length c.args.payload.now - 2) (drop 2 c.args.payload.now) ≡ drop 2 c.args.payload.now = take_all (length c.args.payload.now - 2) (drop 2 c.args.payload.now) (rw length-drop (omega arith)) in
    c.is_text.ensures ∙ rw all

pub returns-in-Empty : goal.returns-in-Empty
returns-in-Empty c =
    reason_none _ (⊎_elim (λ e. ap has_reason (sym c.into_close.ensures ∙ e)) (λ e. ap has_reason (sym c.into_close.ensures ∙ e)) c.in-Empty.is)
