-- `message::payload::keep_run` meets its contract.
use mathlib.Core.Path.{sym, ap, ◌∙◌}
use mathlib.Core.List.{List}
use Prim.Native.Nat.{ℕ, ◌+◌}
use lib.ListN.{length}
use Rattle.message.proofs.Steps.{keeps-laid}
use Rattle.message.proofs.payload.keep_run.Goals as goal

pub returns : goal.returns
returns c =
    ap (λ (l : List ℕ). record { header = l; kept = c.args.incoming.now.kept + length c.args.run.now; counted = c.args.incoming.now.counted; begun = c.args.incoming.now.begun; text = c.args.incoming.now.text; fragments = c.args.incoming.now.fragments; progress = c.args.incoming.now.progress }) c.copy.ensures
    ∙ sym (keeps-laid c.args.incoming.now c.args.run.now)
