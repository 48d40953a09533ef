-- `stores::copy` meets its contract. The loop's invariant: the first i bytes of the piece are laid over the store.
use Rattle.std.proofs.Common.{◌≡◌, take}
use Rattle.base.specs.Stores.{laid}
use Rattle.stores.proofs.copy.Given as goal

abbrev pub invariant-loop-i : goal.invariant-loop-i
invariant-loop-i l = l.store ≡ laid l.initial.store l.at (take l.i l.piece)
