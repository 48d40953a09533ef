-- `utf8::scan` meets its contract. The loop keeps `Left`: what it has still to find.
use Rattle.std.proofs.Common.{◌≡◌, ℕ, ◌<◌, List, length, get_or, refl, sym, ap, ◌∙◌}
use Rattle.std.proofs.lemmas.List.{get_or_read_under}
use borrow.Author.Tests.{ltb-true, ltb-false}
use Rattle.utf8.specs.Progress.{stepped}
use Rattle.utf8.proofs.Loop.{left_on, left_ends, left_stops}
use Rattle.utf8.proofs.scan.Goals as goal

-- a step by the byte that `get` gave
got : (s : List ℕ) (q i n b : ℕ) → i < length s → n ≡ stepped q b → b ≡ get_or s i b → n ≡ stepped q (get_or s i 0)
got s q i n b h e f = e ∙ ap (stepped q) (get_or_read_under s i (length s) b 0 f h refl)

pub loop-byte-preserved : goal.loop-byte-preserved
loop-byte-preserved c =
    let inside : c.loop-byte.i < length c.args.piece.now = ltb-true _ _ (sym c.in-Some.ensures.lookup.0) in
    left_on c.loop-byte.invariant inside (got _ _ _ _ _ inside c.step-reached.ensures c.in-Some.ensures.lookup.1) c.if-reached-eq-BAD.false

pub returns-in_default : goal.returns-in_default
returns-in_default c = left_ends c.loop-byte.invariant (ltb-false _ _ (sym c.in_default.ensures.lookup.0))

pub returns-then-reached-eq-BAD : goal.returns-then-reached-eq-BAD
returns-then-reached-eq-BAD c =
    let inside : c.loop-byte.i < length c.args.piece.now = ltb-true _ _ (sym c.in-Some.ensures.lookup.0) in
    left_stops c.loop-byte.invariant inside (got _ _ _ _ _ inside c.step-reached.ensures c.in-Some.ensures.lookup.1) c.if-reached-eq-BAD.true
