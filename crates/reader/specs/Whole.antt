-- The end flag of the parts of a session that it looks at: its answer and state hang on no other part. `flag_parts` says that this is
-- `flagged`.
use Rattle.std.specs.Prelude.{Bool, ℕ}
use Rattle.base.specs.Table.{pick}
use Rattle.base.specs.Tests.{both}
use Rattle.session.specs.declared.Answer.{Answer}
use Rattle.session.specs.declared.Answer.TheVariants.{Closed, Refused}
use Rattle.session.specs.Reading.{is_more}
use Rattle.session.specs.Session.{is_peer_closed}

-- "With the piece used up, the end flag set and no event in this call: closed in ClosedByPeer or CloseAcknowledged, else 16. Both end in
-- Terminated."
unfoldable pub flag_answer : Bool → Answer → ℕ → Answer
flag_answer end a state = pick (both end (is_more a)) (pick (is_peer_closed state) Closed (Refused 16)) a

unfoldable pub flag_state : Bool → Answer → ℕ → ℕ
flag_state end a state = pick (both end (is_more a)) 4 state
