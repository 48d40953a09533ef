-- Any two results that meet a promise are equal, for each public function but `refill`: no contract can say what is read.
use mathlib.Core.Path.{sym, ◌∙◌}
use Rattle.base.proofs.Promise.{OneAnswer, OnePart}
use Rattle.input.proofs.front.Kinds as front
use Rattle.input.proofs.front.Reads as front_reads
use Rattle.input.proofs.none.Kinds as none
use Rattle.input.proofs.none.Reads as none_reads
use Rattle.input.proofs.Window.next_line.Kinds as next_line
use Rattle.input.proofs.Window.next_line.Reads as next_line_reads
use Rattle.input.proofs.Window.shown.Kinds as shown
use Rattle.input.proofs.Window.shown.Reads as shown-reads
use Rattle.input.proofs.sum.Kinds as sum
use Rattle.input.proofs.sum.Reads as sum-reads
use Rattle.input.proofs.Window.used.Kinds as used
use Rattle.input.proofs.Window.used.Reads as used-reads

pub none_one : OneAnswer 0 none.ps none.r none_reads.Post
none_one κs a z z' e e' p q = p ∙ sym q

pub sum_one : OneAnswer 0 sum.ps sum.r sum-reads.Post
sum_one κs a z z' e e' p q = p ∙ sym q

pub used_one : OneAnswer 0 used.ps used.r used-reads.Post
used_one κs a z z' e e' p q = p ∙ sym q

pub next_line_one : OneAnswer 1 next_line.ps next_line.r next_line_reads.Post
next_line_one κs a z z' e e' p q = p ∙ sym q

pub front_one : OnePart 1 front.ps front.r (λ κs z. (z.now, z.ref_ptr)) front_reads.Post
front_one κs a z z' e e' p q = λ i. ((p.0 ∙ sym q.0) i, (p.1 ∙ sym q.1) i)

-- its bytes; the promise leaves the place open
pub shown-one : OnePart 1 shown.ps shown.r (λ κs z. (z.now, (0, 0))) shown-reads.Post
shown-one κs a z z' e e' p q = λ i. ((p ∙ sym q) i, (0, 0))
