-- A window on standard input: the bytes of a lent array from one place to another, which were read and are not used yet.
use Rattle.std.specs.Prelude.{◌==◌, Bool, false, Option, Some, None, List, [], ℕ, ◌+◌, ◌-◌, leb, eqb, length, position}
use Rattle.base.specs.Bytes.{part}
use Rattle.base.specs.Table.{pick}
use Rattle.base.specs.Tests.{both}
use Rattle.input.specs.declared.Next.{Next}
use Rattle.input.specs.declared.Next.TheVariants.{Line, Long, More, End}
use Rattle.input.specs.declared.Window.{Window}

-- nothing is read yet
abbrev pub no_window : Window
no_window = record { from = 0; to = 0; ended = false }

-- the sum of two places in an array, which is never longer than 4,294,967,296 bytes; of any other numbers the first
abbrev pub sum_of : ℕ → ℕ → ℕ
sum_of a b = pick (both (leb a 4294967296) (leb b 4294967296)) (a + b) a

-- the bytes from one place to another, none where the places are not in that order or not in the array
abbrev pub shown_of : List ℕ → Window → List ℕ
shown_of bytes w = pick (both (leb w.from w.to) (leb w.to (length bytes))) (part w.from (w.to - w.from) bytes) []

-- the first n are used
abbrev pub used_of : Window → ℕ → Window
used_of w n = record { from = sum_of w.from n; to = w.to; ended = w.ended }

-- n bytes without a line feed: a line where the input ends behind them, unless there are none
abbrev pub unfinished : Bool → ℕ → Next
unfinished ended n = pick ended (pick (eqb n 0) End (Line n)) More

-- a line ends before the first line feed, if there is one, and has so many bytes at the most
abbrev pub line_in : Option ℕ → ℕ → Bool → ℕ → Next
line_in (Some n) given ended longest = pick (leb n longest) (Line n) Long
line_in None given ended longest = pick (leb given longest) (unfinished ended given) Long

-- the place of the first line feed, which is the byte 10
abbrev pub line_feed_in : List ℕ → Option ℕ
line_feed_in bytes = position (λ b. b == 10) bytes

-- what the window's bytes begin with
abbrev pub next_of : List ℕ → Window → ℕ → Next
next_of bytes w longest = line_in (line_feed_in (shown_of bytes w)) (length (shown_of bytes w)) w.ended longest
