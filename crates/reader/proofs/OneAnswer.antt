-- Any two results that meet a promise are equal, for each public function.
use mathlib.Core.Path.{sym, ap, ◌∙◌}
use Rattle.base.proofs.Promise.{OneAnswer, OneStore, OnePart}
use Rattle.session.specs.Calls.{Read}
use Rattle.session.proofs.Refusals.{numbered_one}
use Rattle.reader.proofs.part.part.Kinds as part
use Rattle.reader.proofs.part.part.Reads as part-reads
use Rattle.reader.proofs.part.part_number.Kinds as part-number
use Rattle.reader.proofs.part.part_number.Reads as part-number-reads
use Rattle.reader.proofs.read.read.Kinds as read
use Rattle.reader.proofs.read.read.Reads as read-reads

-- ---- reading: the turn, and the three stores, its last arguments
pub read_one : OneAnswer 4 read.ps read.r read-reads.Post
read_one κs a z z' e e' p q = ap (λ (x : Read). x.turn) (p ∙ sym q)

pub read-one_message : OneStore 4 read.ps read.r (λ κs e. e.1.1.1.1.0.now) read-reads.Post
read-one_message κs a z z' e e' p q = ap (λ (x : Read). x.message) (p ∙ sym q)

pub read-one_control : OneStore 4 read.ps read.r (λ κs e. e.1.1.1.1.1.0.now) read-reads.Post
read-one_control κs a z z' e e' p q = ap (λ (x : Read). x.control) (p ∙ sym q)

pub read-one_output : OneStore 4 read.ps read.r (λ κs e. e.1.1.1.1.1.1.0.now) read-reads.Post
read-one_output κs a z z' e e' p q = ap (λ (x : Read). x.output) (p ∙ sym q)

-- ---- the part that an event shows: its bytes, and its place
pub part-one : OnePart 1 part.ps part.r (λ κs z. (z.now, z.ref_ptr)) part-reads.Post
part-one κs a z z' e e' p q = λ i. ((p.0 ∙ sym q.0) i, (p.1 ∙ sym q.1) i)

pub part-number_one : OneAnswer 2 part-number.ps part-number.r part-number-reads.Post
part-number_one κs a z z' e e' p q = numbered_one z z' (p ∙ sym q)
