-- `stores::to_front` meets its contract: a turn of the loop moves a byte more.
use Rattle.std.proofs.Common.{◌-◌, arith}
use Rattle.base.proofs.Bytes.{length_part}
use Rattle.base.proofs.Stores.{laid_none, laid-all}
use Rattle.stores.proofs.Moves.{moved_more}
use Rattle.stores.proofs.to_front.Goals as goal

pub loop-i-init : goal.loop-i-init
loop-i-init c = laid_none _ _

pub loop-i-preserved : goal.loop-i-preserved
loop-i-preserved c = moved_more c.args.store.now c.args.n (c.args.held - c.args.n) c.loop-i.i (omega arith) (omega arith) c.loop-i.invariant

pub returns : goal.returns
returns c =
    let all = length_part c.args.n (c.args.held - c.args.n) c.args.store.now (omega arith) in
    laid-all _ _ _ c.loop-i.i (omega arith) c.loop-i.invariant
