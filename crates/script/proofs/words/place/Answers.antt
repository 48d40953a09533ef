-- `script::words::place` meets its contract.
use Rattle.std.proofs.Common.{◌==◌, arith, rules, tests}
use Rattle.std.specs.Str.{bytes_eq}
use Rattle.std.proofs.lemmas.Iterator.Search.{position_from_yields_List}
use Rattle.std.proofs.lemmas.Iterator.Splits.{YieldsList-from_slice_split}
use Rattle.script.proofs.words.place.Goals as goal

pub returns : goal.returns
returns c =
    let found = position_from_yields_List (λ name. bytes_eq name c.args.word.now) _ _ c.position.result c.position.ensures.ran
    (YieldsList-from_slice_split _ (λ b. b == 32) c.args.names.now c.split.ensures.rest c.split.ensures.done c.split.ensures.closure
    (λ x b q k. search (rules, tests))) (λ x b q k. search (rules, tests)) in
    grind (arith, found)
