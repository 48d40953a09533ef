-- `reader::read::readable` meets its contract: where no other test holds, the waiting close decides.
use mathlib.Core.Path.{◌≡◌, sym, ◌∙◌}
use mathlib.Core.Bool.{true, false}
use native.Mathlib.Omega.{arith}
use borrow.Author.Rules.{rules}
use Rattle.base.specs.Tests.{first_of}
use Rattle.session.specs.Calls.{read_tests}
use Rattle.session.specs.Range.{in_range}
use Rattle.steady.proofs.Passing.{late_close}
use Rattle.steady.proofs.Again.{stores_room}
use Rattle.reader.proofs.Reading.{late_by, last-test}
use Rattle.reader.proofs.read.readable.Goals as goal

pub is_stuck-requires : goal.is_stuck-requires
is_stuck-requires c = (stores_room _ _ _ _ (sym c.is_short.ensures ∙ c.if-is_short.false)).for_held

pub returns-then-is_stuck : goal.returns-then-is_stuck
returns-then-is_stuck c mask four =
    let range : in_range c.args.session.now ≡ true = search rules in
    let late : late_close c.args.session.now mask c.args.output.now ≡ true =
    sym (late_by _ _ _ four c.requires.shaped.1 range) ∙ sym c.is_stuck.ensures ∙ c.if-is_stuck.true in
    let number : first_of (read_tests c.args.session.now mask c.args.message.now c.args.control.now c.args.output.now) ≡ 19 =
    last-test _ _ _ _ _ range (search rules) (search rules) (search rules) true late in
    (omega (arith, c.number-then-is_stuck.ensures), c.number-then-is_stuck.ensures ∙ sym number)

pub returns : goal.returns
returns c mask four =
    let range : in_range c.args.session.now ≡ true = search rules in
    let fits : late_close c.args.session.now mask c.args.output.now ≡ false =
    sym (late_by _ _ _ four c.requires.shaped.1 range) ∙ sym c.is_stuck.ensures ∙ c.if-is_stuck.false in
    last-test _ mask c.args.message.now c.args.control.now c.args.output.now range (search rules) (search rules) (search rules) false fits
