use mathlib.Core.Path.{ap, ◌∙◌}
use Rattle.coding.specs.CloseCodes.{allowed_class}
use Rattle.coding.proofs.Laws.{allowed-class}
use Rattle.coding.proofs.close_code.is_allowed.Goals as goal

pub returns : goal.returns
returns c = c.is_allowed.ensures ∙ ap allowed_class c.from.ensures ∙ allowed-class c.args.code
