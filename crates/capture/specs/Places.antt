-- "A place in the capture file and a place in the stream are different kinds and can't be mixed."
use Rattle.std.specs.Prelude.{ℕ, ◌+◌, leb}
use Rattle.base.specs.Table.{pick}
use Rattle.capture.specs.declared.place.FilePlace.{FilePlace}
use Rattle.capture.specs.declared.place.StreamPlace.{StreamPlace}

-- the place n bytes behind; a place has 64 bits, and a file that is longer than they can count shows their last number
unfoldable pub onward : ℕ → ℕ → ℕ
onward place n = pick (leb (place + n) 18446744073709551615) (place + n) 18446744073709551615

abbrev pub file_place : ℕ → FilePlace
file_place n = record { 0 = n }

abbrev pub stream_place : ℕ → StreamPlace
stream_place n = record { 0 = n }

unfoldable pub file_onward : FilePlace → ℕ → FilePlace
file_onward p n = file_place (onward p.0 n)

unfoldable pub stream_onward : StreamPlace → ℕ → StreamPlace
stream_onward p n = stream_place (onward p.0 n)
