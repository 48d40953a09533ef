-- `stores::copy` meets its contract: a turn of the loop lays a byte more.
use Rattle.std.proofs.Common.{refl, arith}
use Rattle.base.proofs.Stores.{laid_none, laid_more, laid-all}
use Rattle.stores.proofs.copy.Goals as goal

pub loop-i-init : goal.loop-i-init
loop-i-init c = laid_none _ _

pub loop-i-preserved : goal.loop-i-preserved
loop-i-preserved c = laid_more _ _ _ c.loop-i.i _ (omega arith) refl c.loop-i.invariant

pub returns : goal.returns
returns c = laid-all _ _ _ c.loop-i.i (omega arith) c.loop-i.invariant
