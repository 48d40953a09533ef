-- `frame::header::format` meets its contract: two bytes, the length's and the mask's, laid one after the other.
use mathlib.Core.Path.{◌≡◌, refl, ap, ◌∙◌}
use native.Mathlib.Omega.{arith}
use lib.ListN.{length, length-set}
use Rattle.base.proofs.Stores.{length-laid, laid_none}
use Rattle.frame.proofs.Headers.{room, size_split, laid-header}
use Rattle.frame.proofs.header.format.Goals as goal

pub bounds-store-at : goal.bounds-store-at
bounds-store-at c = omega (arith, room _ _ _ _ refl c.requires)

pub bounds-store-at-2 : goal.bounds-store-at-2
bounds-store-at-2 c = simp length-set (omega (arith, room _ _ _ _ refl c.requires))

pub write_length-behind-requires : goal.write_length-behind-requires
write_length-behind-requires c = simp length-set (omega (arith, room _ _ _ _ refl c.requires))

pub copy-requires : goal.copy-requires
copy-requires c =
    let kept : length c.write_length-behind.new.store ≡ length c.args.store.now =
    ap length c.write_length-behind.ensures.1 ∙ simp (length-laid, length-set) in
    omega (arith, kept, c.write_length-behind.ensures.0, room _ _ _ _ c.if-header.true c.requires)

pub overflow_add-result : goal.overflow_add-result
overflow_add-result c = omega (arith, c.write_length-behind.ensures.0, room _ _ _ _ c.if-header.true c.requires)

pub shape_of-store-then-header : goal.shape_of-store-then-header
shape_of-store-then-header c =
    ap length (c.copy.ensures) ∙ rw length-laid (ap length c.write_length-behind.ensures.1 ∙ simp (length-laid, length-set))

pub returns-then-header : goal.returns-then-header
returns-then-header c = (
  omega (arith, c.write_length-behind.ensures.0, size_split c.args.header.masked c.args.header.length c.if-header.true),
  c.copy.ensures ∙ laid-header _ _ c.args.header _ c.first_byte.ensures c.second_byte.ensures c.if-header.true c.write_length-behind.ensures.0 c.write_length-behind.ensures.1,
)

pub shape_of-store : goal.shape_of-store
shape_of-store c = ap length c.write_length-behind.ensures.1 ∙ simp (length-laid, length-set)

pub returns : goal.returns
returns c = (
  omega (arith, c.write_length-behind.ensures.0, size_split c.args.header.masked c.args.header.length c.if-header.false),
  laid_none _ _
      ∙ laid-header _ _ c.args.header _ c.first_byte.ensures c.second_byte.ensures c.if-header.false c.write_length-behind.ensures.0 c.write_length-behind.ensures.1,
)
