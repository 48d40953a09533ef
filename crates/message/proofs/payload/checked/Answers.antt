-- `message::payload::checked` meets its contract.
use mathlib.Core.Path.{◌≡◌, ap, ◌∙◌}
use Prim.Native.Nat.{◌+◌, ◌-◌}
use native.Mathlib.Omega.{arith}
use Rattle.base.specs.Bytes.{part}
use Rattle.utf8.specs.declared.Scanned.{Scanned}
use Rattle.utf8.specs.Progress.{scanned}
use Rattle.message.proofs.payload.checked.Goals as goal

pub returns-then-text : goal.returns-then-text
unfolding part scanned
returns-then-text c =
    let n : c.args.at + c.args.n - c.args.at ≡ c.args.n = omega arith in
    ap (λ (x : Scanned). x.progress) c.scan.ensures ∙ rw (c.progress_of.ensures, n, c.if-text.true)
