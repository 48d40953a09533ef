-- `script::words::word` meets its contract.
use mathlib.Core.Path.{◌∙◌, ap}
use denote.Ref.{Bor}
use Rattle.std.proofs.Common.{◌==◌, List, ℕ, rules, tests}
use Rattle.std.proofs.lemmas.Iterator.Consumers.{nth_from_yields_List}
use Rattle.std.proofs.lemmas.Iterator.Splits.{YieldsList-from_slice_split}
use Rattle.script.specs.Words.{words_of}
use Rattle.script.proofs.Lent.{bytes_of_lent}
use Rattle.script.proofs.words.word.Goals as goal

pub returns : goal.returns
returns c =
    ap (λ (r : Bor (List ℕ)). r.now) c.unwrap_or.ensures ∙ bytes_of_lent _ _ (words_of c.args.line.now) c.args.k
    (nth_from_yields_List _ _ c.args.k c.nth.ensures.ran
    (YieldsList-from_slice_split _ (λ b. b == 32) c.args.line.now c.split.ensures.rest c.split.ensures.done c.split.ensures.closure
    (λ x b q k. search (rules, tests))))
