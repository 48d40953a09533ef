-- `script::values::lay` meets its contract. The loop's invariant: the first i bytes are laid over the store.
use native.Mathlib.Omega.{arith}
use Rattle.base.proofs.Stores.{laid_none, laid-all}
use Rattle.script.specs.Values.{bytes_of}
use Rattle.script.proofs.Reading.{length-bytes, lay_more}
use Rattle.script.proofs.values.lay.Goals as goal

pub loop-i-init : goal.loop-i-init
loop-i-init c = laid_none _ _

pub loop-i-preserved : goal.loop-i-preserved
loop-i-preserved c =
    let read = c.joined.ensures in
    lay_more _ _ c.loop-i.i (omega arith) (rw c.as_chunks.ensures.front at read) c.loop-i.invariant

pub returns : goal.returns
returns c =
    let many = length-bytes c.args.word.now in
    laid-all _ _ (bytes_of c.args.word.now) c.loop-i.i (omega arith) c.loop-i.invariant
