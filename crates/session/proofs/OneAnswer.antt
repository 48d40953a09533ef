-- Each public function's contract leaves one answer.
use mathlib.Core.Path.{◌≡◌, sym, ap, ◌∙◌}
use Rattle.base.proofs.Promise.{OneAnswer}
use Rattle.session.specs.declared.Handed.{Handed}
use Rattle.session.specs.Calls.{Handed as Given, handed}
use Rattle.session.specs.Refusals.{sent_of}
use Rattle.session.proofs.Refusals.{numbered_one, sent_one}
use Rattle.session.proofs.Session.is_client.Kinds as client-kinds
use Rattle.session.proofs.Session.is_client.Reads as client-reads
use Rattle.session.proofs.Session.is_server.Kinds as server-kinds
use Rattle.session.proofs.Session.is_server.Reads as server-reads
use Rattle.session.proofs.Session.is_peer_closed.Kinds as closed-kinds
use Rattle.session.proofs.Session.is_peer_closed.Reads as closed-reads
use Rattle.session.proofs.new.new.Kinds as new-kinds
use Rattle.session.proofs.new.new.Reads as new-reads
use Rattle.session.proofs.new.U8FromRole.from.Kinds as role-kinds
use Rattle.session.proofs.new.U8FromRole.from.Reads as role-reads
use Rattle.session.proofs.range.header_verdict.Kinds as verdict-kinds
use Rattle.session.proofs.range.header_verdict.Reads as verdict-reads
use Rattle.session.proofs.range.in_range_by.Kinds as range-by-kinds
use Rattle.session.proofs.range.in_range_by.Reads as range-by-reads
use Rattle.session.proofs.range.kept_header.Kinds as kept-kinds
use Rattle.session.proofs.range.kept_header.Reads as kept-reads
use Rattle.session.proofs.range.in_range.Kinds as range-kinds
use Rattle.session.proofs.range.in_range.Reads as range-reads
use Rattle.session.proofs.range.waits.Kinds as waits-kinds
use Rattle.session.proofs.range.waits.Reads as waits-reads
use Rattle.session.proofs.refusal.Refusal.number.Kinds as refusal-kinds
use Rattle.session.proofs.refusal.Refusal.number.Reads as refusal-reads

-- an answer to a sending call and the session that is handed back, which the promise has as the definitions say them
pub handed_one : (h h' : Handed) → handed (sent_of h.sent) h.session ≡ handed (sent_of h'.sent) h'.session → h ≡ h'
handed_one h h' e =
    let sent : h.sent ≡ h'.sent = sent_one h.sent h'.sent (ap (λ (x : Given). x.sent) e) in
    λ i. record { sent = sent i; session = (e i).session }

pub new_one : OneAnswer 0 new-kinds.ps new-kinds.r new-reads.Post
new_one κs a r r' e e' p q = handed_one r r' (p ∙ sym q)

pub is_client_one : OneAnswer 1 client-kinds.ps client-kinds.r client-reads.Post
is_client_one κs a r r' e e' p q = p ∙ sym q

pub is_server_one : OneAnswer 1 server-kinds.ps server-kinds.r server-reads.Post
is_server_one κs a r r' e e' p q = p ∙ sym q

pub is_peer_closed_one : OneAnswer 1 closed-kinds.ps closed-kinds.r closed-reads.Post
is_peer_closed_one κs a r r' e e' p q = p ∙ sym q

pub role_number_one : OneAnswer 0 role-kinds.ps role-kinds.r role-reads.Post
role_number_one κs a r r' e e' p q = p ∙ sym q

pub refusal_number_one : OneAnswer 0 refusal-kinds.ps refusal-kinds.r refusal-reads.Post
refusal_number_one κs a r r' e e' p q = p ∙ sym q

pub header_verdict_one : OneAnswer 1 verdict-kinds.ps verdict-kinds.r verdict-reads.Post
header_verdict_one κs a r r' e e' p q = numbered_one r r' (p ∙ sym q)

pub in_range_one : OneAnswer 1 range-kinds.ps range-kinds.r range-reads.Post
in_range_one κs a r r' e e' p q = p ∙ sym q

pub in_range_by_one : OneAnswer 1 range-by-kinds.ps range-by-kinds.r range-by-reads.Post
in_range_by_one κs a r r' e e' p q = p ∙ sym q

pub kept-header_one : OneAnswer 1 kept-kinds.ps kept-kinds.r kept-reads.Post
kept-header_one κs a r r' e e' p q = p ∙ sym q

pub waits_one : OneAnswer 0 waits-kinds.ps waits-kinds.r waits-reads.Post
waits_one κs a r r' e e' p q = p ∙ sym q
