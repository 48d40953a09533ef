-- `frame::length::big` meets its contract.
use mathlib.Core.Path.{◌≡◌, refl, ◌∙◌}
use Prim.Native.Nat.{◌<◌}
use native.Mathlib.Omega.{arith}
use native.Mathlib.Numerals.{add-one}
use lib.Dec.{lit<}
use lib.ListN.{length}
use lib.Seq.{take-suc, take-length}
use Rattle.base.specs.Bytes.{from_big}
use Rattle.base.proofs.Bytes.{from_big-snoc, pow_more, pow_room}
use Rattle.frame.proofs.length.big.Goals as goal

pub loop-byte-init : goal.loop-byte-init
unfolding from_big
loop-byte-init c = (refl, lit< tt)

pub overflow_mul-n : goal.overflow_mul-n
overflow_mul-n c = omega (arith, pow_room c.loop-byte.byte-index (omega arith))

pub overflow_add-n : goal.overflow_add-n
overflow_add-n c = omega (arith, pow_room c.loop-byte.byte-index (omega arith))

pub loop-byte-preserved : goal.loop-byte-preserved
loop-byte-preserved c =
    let h : c.loop-byte.byte-index < length c.args.bytes.now = omega arith in (
      rw (add-one, take-suc c.args.bytes.now c.loop-byte.byte-index 0, from_big-snoc, c.from.ensures, c.loop-byte.invariant.0),
      omega (arith, pow_more c.loop-byte.byte-index),
    )

pub returns : goal.returns
returns c =
    let e : c.loop-byte.byte-index ≡ length c.args.bytes.now = omega arith in
    c.loop-byte.invariant.0 ∙ rw (e, take-length)
