-- `frame::length::write_length` meets its contract, form by form.
use mathlib.Core.Path.{◌≡◌, sym, ◌∙◌}
use native.Mathlib.Omega.{arith}
use Rattle.base.proofs.Stores.{laid_none}
use Rattle.frame.specs.Header.{length_bytes}
use Rattle.frame.proofs.Lengths.{bytes_short, bytes_middle, bytes_long, be_two, be_eight}
use Rattle.frame.proofs.length.write_length.Goals as goal

pub lay-requires : goal.lay-requires
lay-requires c =
    let middle : length_bytes c.args.n ≡ c.to_be_bytes.result =
    bytes_middle c.args.n (omega arith) (omega arith) ∙ sym (be_two _) ∙ sym c.to_be_bytes.ensures in
    rw (← middle) c.requires

pub lay-requires-in_default : goal.lay-requires-in_default
lay-requires-in_default c =
    let long : length_bytes c.args.n ≡ c.to_be_bytes-in_default.result =
    bytes_long c.args.n (omega arith) ∙ sym (be_eight _) ∙ sym c.to_be_bytes-in_default.ensures in
    rw (← long) c.requires

pub returns-in-0-to-125 : goal.returns-in-0-to-125
returns-in-0-to-125 c = rw (bytes_short c.args.n (omega arith)) (omega arith, laid_none _ _)

pub returns-in-126-to-65535 : goal.returns-in-126-to-65535
returns-in-126-to-65535 c =
    let middle : length_bytes c.args.n ≡ c.to_be_bytes.result =
    bytes_middle c.args.n (omega arith) (omega arith) ∙ sym (be_two _) ∙ sym c.to_be_bytes.ensures in
    rw middle c.lay.ensures

pub returns-in_default : goal.returns-in_default
returns-in_default c =
    let long : length_bytes c.args.n ≡ c.to_be_bytes-in_default.result =
    bytes_long c.args.n (omega arith) ∙ sym (be_eight _) ∙ sym c.to_be_bytes-in_default.ensures in
    rw long c.lay-in_default.ensures
