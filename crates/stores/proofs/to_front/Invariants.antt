-- `stores::to_front` meets its contract. The loop's invariant: the first i bytes of what is kept are laid over the front.
use Rattle.std.proofs.Common.{◌≡◌, ◌-◌, take}
use Rattle.base.specs.Bytes.{part}
use Rattle.base.specs.Stores.{laid}
use Rattle.stores.proofs.to_front.Given as goal

abbrev pub invariant-loop-i : goal.invariant-loop-i
invariant-loop-i l = l.store ≡ laid l.initial.store 0 (take l.i (part l.n (l.held - l.n) l.initial.store))
