-- A refusal is told by its number, and so is an answer that may be one.
use mathlib.Core.Path.{◌≡◌, refl, sym, ap, ◌∙◌}
use mathlib.Core.List.{[], ◌∷◌}
use Prim.Native.Nat.{ℕ}
use native.Mathlib.Omega.{arith}
use Rattle.std.specs.Prelude.{Result, Ok, Err}
use Rattle.base.specs.Table.{◌to◌is◌, value_at}
use Rattle.session.specs.declared.refusal.Refusal.{Refusal}
use Rattle.session.specs.declared.refusal.Refusal.TheVariants.{ShortStore, Terminated, ReservedOpcode, FrameTooLong, Unmasked, AfterClose, ReservedBit, Masked, ControlNotFinal, ControlTooLong, OneByteClose, NotUtf8, NothingBegun, InsideMessage, MessageTooLong, NoHandshake, NotActive, BadPayload, NoRoom, OutOfRange}
use Rattle.session.specs.Refusals.{number_of, numbered, Sent, Done, Refused, sent_of}

-- the refusal of a number; those that have none go with the last
refusal_at : ℕ → Refusal
refusal_at n =
    value_at
    ((1 to 1 is ShortStore)
    ∷ (2 to 2 is Terminated)
    ∷ (3 to 3 is ReservedOpcode)
    ∷ (4 to 4 is FrameTooLong)
    ∷ (5 to 5 is Unmasked)
    ∷ (6 to 6 is AfterClose)
    ∷ (7 to 7 is ReservedBit)
    ∷ (8 to 8 is Masked)
    ∷ (9 to 9 is ControlNotFinal)
    ∷ (10 to 10 is ControlTooLong)
    ∷ (11 to 11 is OneByteClose)
    ∷ (12 to 12 is NotUtf8)
    ∷ (13 to 13 is NothingBegun)
    ∷ (14 to 14 is InsideMessage)
    ∷ (15 to 15 is MessageTooLong)
    ∷ (16 to 16 is NoHandshake)
    ∷ (17 to 17 is NotActive)
    ∷ (18 to 18 is BadPayload)
    ∷ (19 to 19 is NoRoom)
    ∷ [])
    OutOfRange n

back : (e : Refusal) → refusal_at (number_of e) ≡ e
unfolding refusal_at value_at
back ShortStore = refl
back Terminated = refl
back ReservedOpcode = refl
back FrameTooLong = refl
back Unmasked = refl
back AfterClose = refl
back ReservedBit = refl
back Masked = refl
back ControlNotFinal = refl
back ControlTooLong = refl
back OneByteClose = refl
back NotUtf8 = refl
back NothingBegun = refl
back InsideMessage = refl
back MessageTooLong = refl
back NoHandshake = refl
back NotActive = refl
back BadPayload = refl
back NoRoom = refl
back OutOfRange = refl

pub number_one : (e e' : Refusal) → number_of e ≡ number_of e' → e ≡ e'
number_one e e' p = sym (back e) ∙ ap refusal_at p ∙ back e'

-- no refusal has the number of what is not refused
pub number_some : (e : Refusal) → number_of e ≡ 0 → ⊥
number_some ShortStore e = omega arith
number_some Terminated e = omega arith
number_some ReservedOpcode e = omega arith
number_some FrameTooLong e = omega arith
number_some Unmasked e = omega arith
number_some AfterClose e = omega arith
number_some ReservedBit e = omega arith
number_some Masked e = omega arith
number_some ControlNotFinal e = omega arith
number_some ControlTooLong e = omega arith
number_some OneByteClose e = omega arith
number_some NotUtf8 e = omega arith
number_some NothingBegun e = omega arith
number_some InsideMessage e = omega arith
number_some MessageTooLong e = omega arith
number_some NoHandshake e = omega arith
number_some NotActive e = omega arith
number_some BadPayload e = omega arith
number_some NoRoom e = omega arith
number_some OutOfRange e = omega arith

pub numbered_one : (r r' : Result (Unit {0}) Refusal) → numbered r ≡ numbered r' → r ≡ r'
numbered_one (Ok u) (Ok u') p = refl
numbered_one (Ok u) (Err e) p = absurd (number_some e (sym p))
numbered_one (Err e) (Ok u) p = absurd (number_some e p)
numbered_one (Err e) (Err e') p = ap Err (number_one e e' p)

-- ---- an answer to a sending call
number_sent : Sent → ℕ
number_sent Done = 0
number_sent (Refused n) = n

same_number : (r : Result (Unit {0}) Refusal) → number_sent (sent_of r) ≡ numbered r
unfolding number_sent
same_number (Ok u) = refl
same_number (Err e) = refl

pub sent_one : (r r' : Result (Unit {0}) Refusal) → sent_of r ≡ sent_of r' → r ≡ r'
sent_one r r' p = numbered_one r r' (sym (same_number r) ∙ ap number_sent p ∙ same_number r')
