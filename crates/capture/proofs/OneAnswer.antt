-- Any two results that meet a promise are equal, for each public function.
use mathlib.Core.Path.{sym, ap, ◌∙◌}
use Rattle.base.proofs.Promise.{OneAnswer, OneStore}
use Rattle.capture.specs.Steps.{Step}
use Rattle.capture.proofs.record.find.Kinds as find
use Rattle.capture.proofs.record.find.Reads as find-reads
use Rattle.capture.proofs.step.begin.Kinds as begin
use Rattle.capture.proofs.step.begin.Reads as begin-reads
use Rattle.capture.proofs.step.step.Kinds as step
use Rattle.capture.proofs.step.step.Reads as step-reads

pub find_one : OneAnswer 1 find.ps find.r find-reads.Post
find_one κs a z z' e e' p q = p ∙ sym q

pub begin_one : OneAnswer 0 begin.ps begin.r begin-reads.Post
begin_one κs a z z' e e' p q = p ∙ sym q

-- ---- a step: what it came to, the bytes used and the replay, and the four stores that it is lent
pub step-one : OneAnswer 5 step.ps step.r step-reads.Post
step-one κs a z z' e e' p q = ap (λ (x : Step). x.stepped) (p ∙ sym q)

pub step-one_message : OneStore 5 step.ps step.r (λ κs e. e.1.1.1.0.now) step-reads.Post
step-one_message κs a z z' e e' p q = ap (λ (x : Step). x.message) (p ∙ sym q)

pub step-one_control : OneStore 5 step.ps step.r (λ κs e. e.1.1.1.1.0.now) step-reads.Post
step-one_control κs a z z' e e' p q = ap (λ (x : Step). x.control) (p ∙ sym q)

pub step-one_output : OneStore 5 step.ps step.r (λ κs e. e.1.1.1.1.1.0.now) step-reads.Post
step-one_output κs a z z' e e' p q = ap (λ (x : Step). x.output) (p ∙ sym q)

pub step-one_out : OneStore 5 step.ps step.r (λ κs e. e.1.1.1.1.1.1.0.now) step-reads.Post
step-one_out κs a z z' e e' p q = ap (λ (x : Step). x.out) (p ∙ sym q)
