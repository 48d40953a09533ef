-- What a frame holds of a payload.
use Rattle.std.specs.Prelude.{List, ℕ, Option, None, Some}
use Rattle.mask.specs.Mask.{masked}

-- a piece of a payload, from its byte i on, as a frame has it: masked where the frame has a mask, and else as it is
abbrev pub framed : Option (List ℕ) → ℕ → List ℕ → List ℕ
framed None i s = s
framed (Some mask) i s = masked mask i s
