-- What an answer is in document 01's words: "An answer of the reader is one of eight kinds: more, text, binary, ping, pong, close, closed,
-- refused." Its kind by its place in that list, and its value: a length, or the number of a refusal.
use Rattle.std.specs.Prelude.{List, [], ℕ, eqb, ltb, length, take}
use Rattle.base.specs.Table.{pick}
use Rattle.session.specs.declared.Answer.{Answer}
use Rattle.session.specs.declared.Answer.TheVariants.{More, Text, Binary, Ping, Pong, Close, Closed, Refused}

abbrev pub kind : Answer → ℕ
kind More = 1
kind (Text n) = 2
kind (Binary n) = 3
kind (Ping n) = 4
kind (Pong n) = 5
kind (Close n) = 6
kind Closed = 7
kind (Refused k) = 8

abbrev pub value : Answer → ℕ
value More = 0
value (Text n) = n
value (Binary n) = n
value (Ping n) = n
value (Pong n) = n
value (Close n) = n
value Closed = 0
value (Refused k) = k

-- "A payload is shown as a part of the message store or of the control store, never a copy."
abbrev pub shown : Answer → List ℕ → List ℕ → List ℕ
shown More message control = []
shown (Text n) message control = take n message
shown (Binary n) message control = take n message
shown (Ping n) message control = take n control
shown (Pong n) message control = take n control
shown (Close n) message control = take n control
shown Closed message control = []
shown (Refused k) message control = []

-- the one of two that belongs to the store that an answer's kind names; the message store's where it names none. A part begins where that
-- store begins
abbrev pub named : {X : Type 0} → Answer → X → X → X
named More message control = message
named (Text n) message control = message
named (Binary n) message control = message
named (Ping n) message control = control
named (Pong n) message control = control
named (Close n) message control = control
named Closed message control = message
named (Refused k) message control = message

-- ---- the part that is asked for: "a lent store is below its least size", 1, where the event is longer than the store that its kind names.
-- A part can't be a refusal as well, so the number that would be owed stands beside it, and the part is empty then
unfoldable pub beyond : List ℕ → ℕ → ℕ
beyond store n = pick (ltb (length store) n) 1 0

abbrev pub part_number : Answer → List ℕ → List ℕ → ℕ
part_number More message control = 0
part_number (Text n) message control = beyond message n
part_number (Binary n) message control = beyond message n
part_number (Ping n) message control = beyond control n
part_number (Pong n) message control = beyond control n
part_number (Close n) message control = beyond control n
part_number Closed message control = 0
part_number (Refused k) message control = 0

unfoldable pub part_of : Answer → List ℕ → List ℕ → List ℕ
part_of a message control = pick (eqb (part_number a message control) 0) (shown a message control) []
