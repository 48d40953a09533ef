-- Refusals and their numbers (document 01, "Numbers"), and what a sending call or a take answers.
use Rattle.std.specs.Prelude.{ℕ, Result, Ok, Err}
use Rattle.session.specs.declared.refusal.Refusal.{Refusal}
use Rattle.session.specs.declared.refusal.Refusal.TheVariants.{ShortStore, Terminated, ReservedOpcode, FrameTooLong, Unmasked, AfterClose, ReservedBit, Masked, ControlNotFinal, ControlTooLong, OneByteClose, NotUtf8, NothingBegun, InsideMessage, MessageTooLong, NoHandshake, NotActive, BadPayload, NoRoom, OutOfRange}

-- the first column of the table
abbrev pub number_of : Refusal → ℕ
number_of ShortStore = 1
number_of Terminated = 2
number_of ReservedOpcode = 3
number_of FrameTooLong = 4
number_of Unmasked = 5
number_of AfterClose = 6
number_of ReservedBit = 7
number_of Masked = 8
number_of ControlNotFinal = 9
number_of ControlTooLong = 10
number_of OneByteClose = 11
number_of NotUtf8 = 12
number_of NothingBegun = 13
number_of InsideMessage = 14
number_of MessageTooLong = 15
number_of NoHandshake = 16
number_of NotActive = 17
number_of BadPayload = 18
number_of NoRoom = 19
number_of OutOfRange = 20

-- the number of what is refused, and 0 where nothing is: what tests in order give
abbrev pub numbered : Result (Unit {0}) Refusal → ℕ
numbered (Ok u) = 0
numbered (Err e) = number_of e

-- an answer to a sending call or to a take
pub data Sent : Type 0 where
  Done : Sent
  Refused : ℕ → Sent

abbrev pub sent_of : Result (Unit {0}) Refusal → Sent
sent_of (Ok u) = Done
sent_of (Err e) = Refused (number_of e)
