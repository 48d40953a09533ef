-- `script::values::decimal` meets its contract. The loop's invariant: the number that is read, with what is left of the word behind it.
use Rattle.std.proofs.Common.{◌≡◌, Some, drop}
use Rattle.script.specs.Values.{read_on}
use Rattle.script.proofs.values.decimal.Given as goal

abbrev pub invariant-loop-digit : goal.invariant-loop-digit
invariant-loop-digit l = read_on (Some 0) l.word ≡ read_on (Some l.n) (drop l.digit-index l.word)
