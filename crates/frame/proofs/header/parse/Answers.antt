-- `frame::header::parse` meets its contract.
use mathlib.Core.Path.{sym, ap, ◌∙◌}
use native.Mathlib.Omega.{arith}
use lib.ListN.{get_or}
use Rattle.std.specs.Prelude.{Some, ℕ}
use Rattle.frame.specs.Header.{length_of}
use Rattle.frame.proofs.Headers.{code_low, extra_within, whole_size, parsed-lacking, parsed-whole, header_parts}
use Rattle.frame.proofs.header.parse.Goals as goal

pub returns-then-missing-ne0 : goal.returns-then-missing-ne0
returns-then-missing-ne0 c = sym (parsed-lacking _ (λ e. c.if-missing-ne0.true (c.missing.ensures ∙ e)))

pub length_of-requires : goal.length_of-requires
length_of-requires c =
    let whole = whole_size c.args.bytes.now (sym c.missing.ensures ∙ c.if-missing-ne0.false) in
    rw code_low (omega (arith, extra_within (get_or c.args.bytes.now 1 0), whole))

pub returns : goal.returns
returns c =
    let n = c.length_of.ensures ∙ ap (λ (code : ℕ). length_of code c.args.bytes.now) (code_low _) in
    ap Some (header_parts c.args.bytes.now c.from.ensures n) ∙ sym (parsed-whole c.args.bytes.now (sym c.missing.ensures ∙ c.if-missing-ne0.false))
