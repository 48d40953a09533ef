-- `mask::lay_bytes` meets its contract. The loop's invariant: the first i bytes of the masked piece are laid over the store.
use Rattle.std.proofs.Common.{◌≡◌, take}
use Rattle.base.specs.Stores.{laid}
use Rattle.mask.specs.Mask.{masked}
use Rattle.mask.proofs.lay_bytes.Given as goal

abbrev pub invariant-loop-i : goal.invariant-loop-i
invariant-loop-i l = l.store ≡ laid l.initial.store l.at (take l.i (masked l.key 0 l.piece))
