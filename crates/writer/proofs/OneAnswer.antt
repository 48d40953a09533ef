-- Any two results that meet a promise are equal, for each public function.
use mathlib.Core.Path.{sym, ap, ◌∙◌}
use Rattle.base.proofs.Promise.{OneAnswer, OneStore, OnePart}
use Rattle.session.specs.Calls.{Sending}
use Rattle.session.proofs.OneAnswer.{handed_one}
use Rattle.session.proofs.Refusals.{numbered_one}
use Rattle.writer.proofs.output.held.Kinds as held
use Rattle.writer.proofs.output.held.Reads as held_reads
use Rattle.writer.proofs.output.held_number.Kinds as held_number
use Rattle.writer.proofs.output.held_number.Reads as held-number-reads
use Rattle.writer.proofs.output.take.Kinds as take
use Rattle.writer.proofs.output.take.Reads as take-reads
use Rattle.writer.proofs.output.waits.Kinds as waits
use Rattle.writer.proofs.output.waits.Reads as waits-reads
use Rattle.writer.proofs.send.binary.Kinds as binary
use Rattle.writer.proofs.send.binary.Reads as binary-reads
use Rattle.writer.proofs.send.close.Kinds as close
use Rattle.writer.proofs.send.close.Reads as close-reads
use Rattle.writer.proofs.send.ping.Kinds as ping
use Rattle.writer.proofs.send.ping.Reads as ping-reads
use Rattle.writer.proofs.send.pong.Kinds as pong
use Rattle.writer.proofs.send.pong.Reads as pong-reads
use Rattle.writer.proofs.send.text.Kinds as text
use Rattle.writer.proofs.send.text.Reads as text-reads

-- ---- sending: what is answered, with the session, and the output store, its last argument
pub text_one : OneAnswer 2 text.ps text.r text-reads.Post
text_one κs a z z' e e' p q = handed_one z z' (ap (λ (x : Sending). x.handed) (p ∙ sym q))

pub text_one_store : OneStore 2 text.ps text.r (λ κs e. e.1.1.1.0.now) text-reads.Post
text_one_store κs a z z' e e' p q = ap (λ (x : Sending). x.output) (p ∙ sym q)

pub binary_one : OneAnswer 2 binary.ps binary.r binary-reads.Post
binary_one κs a z z' e e' p q = handed_one z z' (ap (λ (x : Sending). x.handed) (p ∙ sym q))

pub binary_one_store : OneStore 2 binary.ps binary.r (λ κs e. e.1.1.1.0.now) binary-reads.Post
binary_one_store κs a z z' e e' p q = ap (λ (x : Sending). x.output) (p ∙ sym q)

pub ping_one : OneAnswer 2 ping.ps ping.r ping-reads.Post
ping_one κs a z z' e e' p q = handed_one z z' (ap (λ (x : Sending). x.handed) (p ∙ sym q))

pub ping_one_store : OneStore 2 ping.ps ping.r (λ κs e. e.1.1.1.0.now) ping-reads.Post
ping_one_store κs a z z' e e' p q = ap (λ (x : Sending). x.output) (p ∙ sym q)

pub close_one : OneAnswer 2 close.ps close.r close-reads.Post
close_one κs a z z' e e' p q = handed_one z z' (ap (λ (x : Sending). x.handed) (p ∙ sym q))

pub close_one_store : OneStore 2 close.ps close.r (λ κs e. e.1.1.1.1.0.now) close-reads.Post
close_one_store κs a z z' e e' p q = ap (λ (x : Sending). x.output) (p ∙ sym q)

pub pong_one : OneAnswer 2 pong.ps pong.r pong-reads.Post
pong_one κs a z z' e e' p q = handed_one z z' (ap (λ (x : Sending). x.handed) (p ∙ sym q))

pub pong_one_store : OneStore 2 pong.ps pong.r (λ κs e. e.1.1.1.0.now) pong-reads.Post
pong_one_store κs a z z' e e' p q = ap (λ (x : Sending). x.output) (p ∙ sym q)

-- ---- handing over
pub waits_one : OneAnswer 0 waits.ps waits.r waits-reads.Post
waits_one κs a z z' e e' p q = p ∙ sym q

pub held_number_one : OneAnswer 1 held_number.ps held_number.r held-number-reads.Post
held_number_one κs a z z' e e' p q = numbered_one z z' (p ∙ sym q)

-- the bytes that the part shows
pub held_one : OnePart 1 held.ps held.r (λ κs z. (z.now, z.ref_ptr)) held_reads.Post
held_one κs a z z' e e' p q = λ i. ((p.0 ∙ sym q.0) i, (p.1 ∙ sym q.1) i)

pub take-one : OneAnswer 1 take.ps take.r take-reads.Post
take-one κs a z z' e e' p q = handed_one z z' (ap (λ (x : Sending). x.handed) (p ∙ sym q))

pub take-one_store : OneStore 1 take.ps take.r (λ κs e. e.1.1.0.now) take-reads.Post
take-one_store κs a z z' e e' p q = ap (λ (x : Sending). x.output) (p ∙ sym q)
