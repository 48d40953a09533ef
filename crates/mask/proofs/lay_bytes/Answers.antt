-- `mask::lay_bytes` meets its contract: a turn of the loop lays a byte more.
use Rattle.std.proofs.Common.{arith, zero-add}
use Rattle.base.proofs.Stores.{laid_none, laid_more, laid-all}
use Rattle.mask.proofs.Laws.{length-masked, masked-at}
use Rattle.mask.proofs.lay_bytes.Goals as goal

pub loop-i-init : goal.loop-i-init
loop-i-init c = laid_none _ _

pub loop-i-preserved : goal.loop-i-preserved
loop-i-preserved c =
    let n = length-masked c.args.key 0 c.args.piece.now in
    laid_more _ _ _ c.loop-i.i _ (omega arith) (rw (masked-at c.args.key 0 c.args.piece.now c.loop-i.i (omega arith), zero-add)) c.loop-i.invariant

pub returns : goal.returns
returns c =
    let n = length-masked c.args.key 0 c.args.piece.now in
    laid-all _ _ _ c.loop-i.i (omega arith) c.loop-i.invariant
