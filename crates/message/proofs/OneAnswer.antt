-- Any two results that meet the promise are equal, for each public function.
use mathlib.Core.Path.{◌≡◌, sym, ap, ◌∙◌}
use mathlib.Core.List.{List}
use Prim.Native.Nat.{ℕ}
use contract.Lifetimes.{Lfts}
use denote.Triple.Clauses.{AtExit}
use borrow.Fn.Kinds.{ParamKind, ResultKind, Dens, res_t, ended_of, Out}
use Rattle.base.proofs.Promise.{OneAnswer, OneLent, OneStore}
use Rattle.session.specs.Reading.{At}
use Rattle.session.specs.Session.{with_incoming}
use Rattle.message.proofs.pump.is_more.Kinds as is-more
use Rattle.message.proofs.pump.is_more.Reads as is-more-reads
use Rattle.message.proofs.pump.take_bytes.Kinds as take-bytes
use Rattle.message.proofs.pump.take_bytes.Reads as take-bytes-reads

pub is_more_one : OneAnswer 0 is-more.ps is-more.r is-more-reads.Post
is_more_one κs a z z' e e' p q = p ∙ sym q

pub take-bytes_one : OneAnswer 4 take-bytes.ps take-bytes.r take-bytes-reads.Post
take-bytes_one κs a z z' e e' p q =
    let same = p.0 ∙ sym q.0 in
    λ i. record { answer = (same i).world.answer; at = (same i).taken }

-- the session that is left, and the message store and the control store
pub take-bytes_one_session : OneLent 4 take-bytes.ps take-bytes.r (λ κs e. e.0.now) take-bytes-reads.Post
take-bytes_one_session κs a z z' e e' p q =
    p.1 ∙ ap (λ (x : At). with_incoming a.0.now x.world.incoming) (p.0 ∙ sym q.0) ∙ sym q.1

pub take-bytes_one_message : OneStore 4 take-bytes.ps take-bytes.r (λ κs e. e.1.1.0.now) take-bytes-reads.Post
take-bytes_one_message κs a z z' e e' p q = ap (λ (x : At). x.world.message) (p.0 ∙ sym q.0)

pub take-bytes_one_control : OneStore 4 take-bytes.ps take-bytes.r (λ κs e. e.1.1.1.0.now) take-bytes-reads.Post
take-bytes_one_control κs a z z' e e' p q = ap (λ (x : At). x.world.control) (p.0 ∙ sym q.0)
