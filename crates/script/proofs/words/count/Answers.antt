-- `script::words::count` meets its contract.
use Rattle.std.proofs.Common.{◌==◌, arith, rules, tests}
use Rattle.std.proofs.lemmas.Iterator.Consumers.{count_from_yields_List}
use Rattle.std.proofs.lemmas.Iterator.Splits.{YieldsList-from_slice_split}
use Rattle.script.proofs.words.count.Goals as goal

pub returns : goal.returns
returns c =
    omega (
      arith,
      count_from_yields_List _ _ c.count.ensures.ran
          (YieldsList-from_slice_split _ (λ b. b == 32) c.args.line.now c.split.ensures.rest c.split.ensures.done c.split.ensures.closure
          (λ x b q k. search (rules, tests))),
    )
