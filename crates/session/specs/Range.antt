-- Which sessions are in range (document 01, "Numbers", 20): "A session number is out of range exactly when: ..".
use Rattle.std.specs.Prelude.{Bool, true, false, not, ℕ, eqb, leb, get_or}
use Rattle.base.specs.Table.{pick, within}
use Rattle.base.specs.Tests.{both, either, first_of}
use Rattle.frame.specs.Header.{size_by}
use Rattle.session.specs.declared.Incoming.{Incoming}
use Rattle.session.specs.declared.Session.{Session}
use Rattle.session.specs.declared.Settings.{Settings}
use Rattle.session.specs.declared.Waiting.{Waiting}
use Rattle.session.specs.declared.Waiting.TheVariants.{Nothing, Pong, Close}
use Rattle.session.specs.Frames.{header_whole, frame, header_tests}

-- "Frame limit 0 to 16,777,216; message limit 0 to 67,108,864."
unfoldable pub limits_hold : ℕ → ℕ → Bool
limits_hold frame message = both (leb frame 16777216) (leb message 67108864)

-- "it names no role"
unfoldable pub settings_hold : Settings → Bool
settings_hold g = both (limits_hold g.frame g.message) (leb g.role 1)

-- "more header bytes are kept than that header has, or a whole one, unrefused, that 3 or 4 name"
unfoldable pub header_holds : Settings → ℕ → Incoming → Bool
header_holds g refusal i =
    both (either (leb i.kept 1) (leb i.kept (size_by (get_or i.header 1 0))))
    (either (not (header_whole i)) (either (not (eqb refusal 0)) (eqb (first_of (header_tests g (frame i))) 0)))

-- "more payload is counted than the frame has"
unfoldable pub count_holds : Incoming → Bool
count_holds i = pick (header_whole i) (leb i.counted (frame i).length) (eqb i.counted 0)

-- "it names no .. UTF-8 progress"; "the fragments exceed the message limit"
unfoldable pub incoming_holds : Settings → ℕ → Incoming → Bool
incoming_holds g refusal i =
    both (header_holds g refusal i) (both (count_holds i) (both (leb i.progress 8) (leb i.fragments g.message)))

-- "or a waiting payload exceeds 125"
abbrev pub waits : Waiting → Bool
waits Nothing = false
waits Pong = true
waits Close = true

unfoldable pub reply_holds : Waiting → ℕ → Bool
reply_holds k n = either (not (waits k)) (leb n 125)

-- "it names no .. state .. or refusal"
unfoldable pub numbers_hold : ℕ → ℕ → Bool
numbers_hold state refusal = both (leb state 4) (either (eqb refusal 0) (within 3 15 refusal))

unfoldable pub range_of : Settings → ℕ → ℕ → Incoming → Waiting → ℕ → Bool
range_of g state refusal i k n =
    both (settings_hold g) (both (numbers_hold state refusal) (both (incoming_holds g refusal i) (reply_holds k n)))

unfoldable pub in_range : Session → Bool
in_range s = range_of s.settings s.state s.refusal s.incoming s.reply.waiting s.reply.length
