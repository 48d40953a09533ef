-- What a listing is made of: lines of six words, and then one last line.
use Rattle.std.specs.Prelude.{◌≡◌, List, [], ◌++◌, ℕ}
use Rattle.lines.specs.Text.{counted}
use Rattle.capture.specs.Listing.{put_word, text_word, binary_word, ping_word, pong_word, close_word, closed_line, refused_text, bad_text}

-- "Lines: `put N HEX`, `text N HEX`, likewise `binary`, `ping`, `pong`, `close`"
pub data Word : List ℕ → Type 0 where
  put : Word put_word
  text : Word text_word
  binary : Word binary_word
  ping : Word ping_word
  pong : Word pong_word
  close : Word close_word

pub data Lines : List ℕ → Type 0 where
  none : Lines []
  line : (word bytes more : List ℕ) → Word word → Lines more → Lines (counted word bytes ++ more)

-- "Last line: `closed`, `refused N at P` .., or `capture bad at P`"
pub data LastLine : List ℕ → Type 0 where
  closed : LastLine closed_line
  refused : (n place : ℕ) → LastLine (refused_text n place)
  bad : (place : ℕ) → LastLine (bad_text place)

-- "nothing follows it"
pub record Listed (all : List ℕ) : Type 0 where
  pub before : List ℕ
  pub last : List ℕ
  pub whole : all ≡ before ++ last
  pub lines : Lines before
  pub last_line : LastLine last
