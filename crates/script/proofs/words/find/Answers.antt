-- `script::words::find` meets its contract.
use mathlib.Core.Logic.{◌≢◌}
use Rattle.std.proofs.Common.{◌≡◌, get_or, arith, rules, tests}
use Rattle.std.proofs.lemmas.Iterator.{first_from_Range}
use Rattle.std.proofs.lemmas.List.{get_or_read}
use Rattle.script.proofs.Splitting.{first_of}
use Rattle.script.proofs.words.find.Goals as goal

pub returns : goal.returns
returns c =
    let s = c.args.all.now in
    first_of s c.args.byte c.find.result (
    first_from_Range _ _ _ _ (λ i. get_or s i 0 ≡ c.args.byte) (λ i. get_or s i 0 ≢ c.args.byte) c.find.ensures.ran
    (λ x q k. grind (arith, tests, get_or_read))
    (λ x q k. (search rules, grind (arith, tests, get_or_read))))
