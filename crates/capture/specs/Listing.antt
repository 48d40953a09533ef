-- The listing of a capture, from the file's bytes to the listing's bytes (document 01, "Replay of a capture").
use Rattle.std.specs.Prelude.{Bool, true, false, List, [], ◌∷◌, ◌++◌, ℕ, zero, suc, ◌+◌, eqb, length, drop, replicate}
use Rattle.base.specs.Bytes.{part}
use Rattle.base.specs.Table.{pick}
use Rattle.lines.specs.Text.{decimal, counted, at_place}
use Rattle.session.specs.Answers.{part_of}
use Rattle.session.specs.Calls.{new_call, Read, read_call, Sending, held_part, take_call}
use Rattle.session.specs.declared.Answer.{Answer}
use Rattle.session.specs.declared.Answer.TheVariants.{More, Text, Binary, Ping, Pong, Close, Closed, Refused}
use Rattle.session.specs.declared.Masks.{Masks}
use Rattle.session.specs.declared.Role.{Role}
use Rattle.session.specs.declared.Role.TheVariants.{Server, Client}
use Rattle.session.specs.declared.Session.{Session}
use Rattle.steady.specs.Cutting.{is_event, is_final}
use Rattle.capture.specs.declared.record.Found.{Found}
use Rattle.capture.specs.declared.record.Found.TheVariants.{Lacking, Bad, Server as ServerFound, Client as ClientFound, Input, End}
use Rattle.capture.specs.Places.{onward}
use Rattle.capture.specs.Records.{found_in}

-- ---- what is replayed: the session, its three stores, and how many bytes of the stream were taken
pub record Tape : Type 0 where
  pub session : Session
  pub message : List ℕ
  pub control : List ℕ
  pub output : List ℕ
  pub stream : ℕ

-- "Both limits are 32,768, masks zero, unmasked not permitted."
unfoldable pub made : Role → Session
made role = (new_call role 32768 32768 false).session

unfoldable pub zero_masks : Masks
zero_masks = record { first = replicate 4 0; second = replicate 4 0 }

unfoldable pub tape_of : Role → List ℕ → List ℕ → List ℕ → Tape
tape_of role message control output = record { session = made role; message = message; control = control; output = output; stream = 0 }

-- ---- the words, in ASCII: put, text, binary, ping, pong, close, closed, refused, capture bad
abbrev pub put_word : List ℕ
put_word = 112 ∷ 117 ∷ 116 ∷ []

abbrev pub text_word : List ℕ
text_word = 116 ∷ 101 ∷ 120 ∷ 116 ∷ []

abbrev pub binary_word : List ℕ
binary_word = 98 ∷ 105 ∷ 110 ∷ 97 ∷ 114 ∷ 121 ∷ []

abbrev pub ping_word : List ℕ
ping_word = 112 ∷ 105 ∷ 110 ∷ 103 ∷ []

abbrev pub pong_word : List ℕ
pong_word = 112 ∷ 111 ∷ 110 ∷ 103 ∷ []

abbrev pub close_word : List ℕ
close_word = 99 ∷ 108 ∷ 111 ∷ 115 ∷ 101 ∷ []

abbrev pub closed_line : List ℕ
closed_line = 99 ∷ 108 ∷ 111 ∷ 115 ∷ 101 ∷ 100 ∷ 10 ∷ []

abbrev pub refused_word : List ℕ
refused_word = 114 ∷ 101 ∷ 102 ∷ 117 ∷ 115 ∷ 101 ∷ 100 ∷ 32 ∷ []

abbrev pub bad_words : List ℕ
bad_words = 99 ∷ 97 ∷ 112 ∷ 116 ∷ 117 ∷ 114 ∷ 101 ∷ 32 ∷ 98 ∷ 97 ∷ 100 ∷ []

-- ---- the lines of a call
-- "Output is taken after each call and listed before the event."
unfoldable pub put_text : List ℕ → List ℕ
put_text bytes = pick (eqb (length bytes) 0) [] (counted put_word bytes)

-- "`refused N at P` (P: stream bytes taken)"
unfoldable pub refused_text : ℕ → ℕ → List ℕ
refused_text n place = refused_word ++ (decimal n ++ at_place [] place)

-- "`capture bad at P` (P: file place of the bad record's mark, or the file's length if it stops before a mark)": both are the place
-- where a mark is due
unfoldable pub bad_text : ℕ → List ℕ
bad_text place = at_place bad_words place

-- the line of an answer that shows these bytes, at this place of the stream
abbrev pub answer_text : Answer → List ℕ → ℕ → List ℕ
answer_text More bytes place = []
answer_text (Text n) bytes place = counted text_word bytes
answer_text (Binary n) bytes place = counted binary_word bytes
answer_text (Ping n) bytes place = counted ping_word bytes
answer_text (Pong n) bytes place = counted pong_word bytes
answer_text (Close n) bytes place = counted close_word bytes
answer_text Closed bytes place = closed_line
answer_text (Refused k) bytes place = refused_text k place

unfoldable pub called : Tape → List ℕ → Bool → Read
called t piece end = read_call t.session piece end zero_masks t.message t.control t.output

-- what a call leaves, its output not taken yet
unfoldable pub after_call : Tape → Read → Tape
after_call t r =
    record { session = r.turn.session; message = r.message; control = r.control; output = r.output; stream = onward t.stream r.turn.taken }

unfoldable pub held_text : Tape → List ℕ
held_text t = put_text (held_part t.session t.output)

-- all that is held is taken
unfoldable pub after_take : Tape → Tape
after_take t =
    let u : Sending = take_call t.session t.session.held t.output in
    record { session = u.handed.session; message = t.message; control = t.control; output = u.output; stream = t.stream }

unfoldable pub told_text : Answer → Tape → List ℕ
told_text a t = answer_text a (part_of a t.message t.control) t.stream

-- ---- the calls of a record: "After each record the program calls until more with all taken."
pub record Fed : Type 0 where
  pub text : List ℕ
  pub tape : Tape
  pub over : Bool

unfoldable pub behind : List ℕ → Fed → Fed
behind text f = record { text = text ++ f.text; tape = f.tape; over = f.over }

-- the lines of one call, and the tape behind it
unfoldable pub call_lines : Tape → Read → List ℕ
call_lines t r = held_text (after_call t r) ++ told_text r.turn.answer (after_take (after_call t r))

-- at most as many calls as the first number says
unfoldable pub calls_from : ℕ → Tape → List ℕ → Bool → Fed
calls_from zero t piece end = record { text = []; tape = t; over = false }
calls_from (suc k) t piece end =
    let r : Read = called t piece end in
    let u : Tape = after_take (after_call t r) in
    pick (is_event r.turn.answer)
    (behind (call_lines t r) (calls_from k u (drop r.turn.taken piece) end))
    (record { text = call_lines t r; tape = u; over = is_final r.turn.answer })

-- every event takes a byte, but for one that a session may still owe, and the last call gives none
unfoldable pub fed : Tape → List ℕ → Bool → Fed
fed t piece end = calls_from (suc (suc (length piece))) t piece end

-- ---- the records
-- what a record adds to the listing, the tape behind it, whether that was the last line, and the record's size
pub record Next : Type 0 where
  pub fed : Fed
  pub size : ℕ

abbrev pub next : Fed → ℕ → Next
next f n = record { fed = f; size = n }

unfoldable pub bad_record : Tape → ℕ → Next
bad_record t place = next (record { text = bad_text place; tape = t; over = true }) 0

abbrev pub next_of : Found → Tape → ℕ → List ℕ → Next
next_of Lacking t place rest = bad_record t place
next_of Bad t place rest = bad_record t place
next_of ServerFound t place rest = bad_record t place
next_of ClientFound t place rest = bad_record t place
next_of (Input n) t place rest = next (fed t (part 4 n rest) false) (4 + n)
next_of End t place rest = next (fed t [] true) 2

-- "nothing follows it": the last line ends the listing. At most as many records as the first number says
unfoldable pub records_from : ℕ → Tape → ℕ → List ℕ → List ℕ
records_from zero t place rest = []
records_from (suc k) t place rest =
    let x : Next = next_of (found_in rest true) t place rest in
    x.fed.text ++ pick x.fed.over [] (records_from k x.fed.tape (onward place x.size) (drop x.size rest))

-- a record has two bytes or more
unfoldable pub records : Tape → ℕ → List ℕ → List ℕ
records t place rest = records_from (suc (length rest)) t place rest

-- "`RS` or `RC` first and once (role)"
abbrev pub first_record : Found → List ℕ → List ℕ → List ℕ → ℕ → List ℕ → List ℕ
first_record Lacking m c o place rest = bad_text place
first_record Bad m c o place rest = bad_text place
first_record ServerFound m c o place rest = records (tape_of Server m c o) (onward place 2) (drop 2 rest)
first_record ClientFound m c o place rest = records (tape_of Client m c o) (onward place 2) (drop 2 rest)
first_record (Input n) m c o place rest = bad_text place
first_record End m c o place rest = bad_text place

-- the listing of a file, with these three stores at the start
unfoldable pub listing_with : List ℕ → List ℕ → List ℕ → List ℕ → List ℕ
listing_with m c o file = first_record (found_in file true) m c o 0 file

unfoldable pub listing : List ℕ → List ℕ
listing file = listing_with (replicate 32768 0) (replicate 125 0) (replicate 131 0) file
