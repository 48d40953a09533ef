-- `script::values::lay` meets its contract. The loop's invariant: the first i bytes are laid over the store.
use Rattle.std.proofs.Common.{◌≡◌, take}
use Rattle.base.specs.Stores.{laid}
use Rattle.script.specs.Values.{bytes_of}
use Rattle.script.proofs.values.lay.Given as goal

abbrev pub invariant-loop-i : goal.invariant-loop-i
invariant-loop-i l = l.given ≡ laid l.initial.given 0 (take l.i (bytes_of l.word))
