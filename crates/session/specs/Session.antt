-- The session's words (document 01, "The session"): roles, states, and a session with a part replaced.
use Rattle.std.specs.Prelude.{Bool, ℕ, eqb}
use Rattle.base.specs.Tests.{either}
use Rattle.session.specs.declared.Incoming.{Incoming}
use Rattle.session.specs.declared.Reply.{Reply}
use Rattle.session.specs.declared.Session.{Session}
use Rattle.session.specs.declared.Settings.{Settings}

-- "a role"
abbrev pub is_server : Settings → Bool
is_server g = eqb g.role 0

abbrev pub is_client : Settings → Bool
is_client g = eqb g.role 1

-- "one of five states: Active, ClosedByUs, ClosedByPeer, CloseAcknowledged, Terminated"
abbrev pub is_active : ℕ → Bool
is_active state = eqb state 0

abbrev pub is_closed_by_us : ℕ → Bool
is_closed_by_us state = eqb state 1

-- "ClosedByPeer or CloseAcknowledged"
abbrev pub is_peer_closed : ℕ → Bool
is_peer_closed state = either (eqb state 2) (eqb state 3)

abbrev pub is_terminated : ℕ → Bool
is_terminated state = eqb state 4

-- ---- a session with a part replaced
abbrev pub with_state : Session → ℕ → Session
with_state s n =
    record { settings = s.settings; state = n; refusal = s.refusal; incoming = s.incoming; reply = s.reply; held = s.held }

abbrev pub with_refusal : Session → ℕ → Session
with_refusal s n =
    record { settings = s.settings; state = s.state; refusal = n; incoming = s.incoming; reply = s.reply; held = s.held }

abbrev pub with_incoming : Session → Incoming → Session
with_incoming s i =
    record { settings = s.settings; state = s.state; refusal = s.refusal; incoming = i; reply = s.reply; held = s.held }

abbrev pub with_reply : Session → Reply → Session
with_reply s q =
    record { settings = s.settings; state = s.state; refusal = s.refusal; incoming = s.incoming; reply = q; held = s.held }

abbrev pub with_held : Session → ℕ → Session
with_held s n =
    record { settings = s.settings; state = s.state; refusal = s.refusal; incoming = s.incoming; reply = s.reply; held = n }
