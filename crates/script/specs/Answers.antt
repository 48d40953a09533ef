-- Answers laid as text.
use Rattle.std.specs.Prelude.{◌≡◌, List, ℕ, ◌+◌, leb, length}
use Rattle.base.specs.Stores.{laid}
use Rattle.base.specs.Table.{pick}

-- the text s is laid over the store d from the place at on, where so many bytes of room are there, which gives the store e, and behind is
-- the place behind it; with less room the store and the place are as they were
abbrev pub Put : ℕ → List ℕ → ℕ → List ℕ → List ℕ → ℕ → Type 0
Put room d at s e behind =
    (behind ≡ pick (leb (at + room) (length d)) (at + length s) at) × (e ≡ pick (leb (at + room) (length d)) (laid d at s) d)
