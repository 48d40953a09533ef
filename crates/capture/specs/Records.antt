-- The records of a capture file (document 01, "Replay of a capture").
use Rattle.std.specs.Prelude.{Bool, Option, Some, None, List, ℕ, ◌+◌, ◌*◌, eqb, ltb, length, get_or}
use Rattle.base.specs.Table.{pick}
use Rattle.base.specs.Tests.{both}
use Rattle.capture.specs.declared.record.Found.{Found}
use Rattle.capture.specs.declared.record.Found.TheVariants.{Lacking, Bad, Server as ServerFound, Client as ClientFound, Input as InputFound, End as EndFound}
use Rattle.capture.specs.declared.record.Mark.{Mark}
use Rattle.capture.specs.declared.record.Mark.TheVariants.{Server, Client, Input, End}

-- "Records have a two-byte ASCII mark: `RS` or `RC` first and once (role); `IN`, ..; `EN`, end of stream."
unfoldable pub mark_of : ℕ → ℕ → Option Mark
mark_of a b =
    pick (both (eqb a 82) (eqb b 83)) (Some Server)
    (pick (both (eqb a 82) (eqb b 67)) (Some Client)
    (pick (both (eqb a 73) (eqb b 78)) (Some Input)
    (pick (both (eqb a 69) (eqb b 78)) (Some End) None)))

-- "A record or mark cut short is bad and feeds nothing." It is cut short where the file ends; before that, bytes are lacking
unfoldable pub short : Bool → Found
short ended = pick ended Bad Lacking

-- "`IN`, a two-byte big-endian length, that many bytes"
unfoldable pub input_length : List ℕ → ℕ
input_length bytes = get_or bytes 2 0 * 256 + get_or bytes 3 0

unfoldable pub input_in : List ℕ → Bool → Found
input_in bytes ended =
    pick (ltb (length bytes) 4) (short ended)
    (pick (ltb (length bytes) (4 + input_length bytes)) (short ended) (InputFound (input_length bytes)))

abbrev pub by_mark : Option Mark → List ℕ → Bool → Found
by_mark (Some Server) bytes ended = ServerFound
by_mark (Some Client) bytes ended = ClientFound
by_mark (Some Input) bytes ended = input_in bytes ended
by_mark (Some End) bytes ended = EndFound
by_mark None bytes ended = Bad

-- what the bytes of the file from a mark's place on begin with; the flag says that the file ends behind them
unfoldable pub found_in : List ℕ → Bool → Found
found_in bytes ended =
    pick (ltb (length bytes) 2) (short ended) (by_mark (mark_of (get_or bytes 0 0) (get_or bytes 1 0)) bytes ended)
