-- `mask::apply_mask` meets its contract. The loop's invariant: the first i blocks of the piece are laid over the store, masked with the key.
use Rattle.std.proofs.Common.{◌≡◌, ◌*◌, take}
use Rattle.base.specs.Stores.{laid}
use Rattle.mask.specs.Mask.{masked}
use Rattle.mask.proofs.apply_mask.Given as goal

abbrev pub invariant-loop-i : goal.invariant-loop-i
invariant-loop-i l = l.store ≡ laid l.initial.store l.at (masked l.key 0 (take (8 * l.i) l.piece))
