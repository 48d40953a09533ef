-- `flag` is handed the session itself; of one that takes its parts alone, this says that it does the same.
use mathlib.Core.Path.{◌≡◌}
use mathlib.Core.Bool.{Bool}
use Prim.Native.Nat.{ℕ}
use Rattle.base.specs.Tests.{both}
use Rattle.base.proofs.Choice.{by_test}
use Rattle.session.specs.Calls.{turn, flagged}
use Rattle.session.specs.Reading.{is_more}
use Rattle.session.specs.Replies.{Concluded}
use Rattle.session.specs.Session.{with_state}
use Rattle.reader.specs.Whole.{flag_answer, flag_state}

pub flag_parts : (end : Bool) (d : Concluded) (n : ℕ)
    → turn (flag_answer end d.answer d.session.state) n (with_state d.session (flag_state end d.answer d.session.state)) ≡ flagged end d n
unfolding flagged flag_answer flag_state
flag_parts end d n = by_test (both end (is_more d.answer)) (λ t. rw t) (λ t. rw t)
