-- What a frame's last byte leaves, where what has come is in range.
use mathlib.Core.Path.{◌≡◌, refl}
use mathlib.Core.Bool.{Bool, true, false}
use mathlib.Core.List.{List, [], ◌∷◌, ◌++◌}
use Prim.Native.Nat.{ℕ, ◌+◌, ◌≤◌}
use native.Mathlib.Omega.{arith}
use lib.Dec.{eqb, ltb, leb}
use borrow.Author.Rules.{rules}
use borrow.Author.Tests.{eqb-true, eqb-false, ltb-false, leb-false}
use Rattle.base.specs.Table.{pick}
use Rattle.base.specs.Tests.{Test, first_of}
use Rattle.base.proofs.Choice.{by_test}
use Rattle.base.proofs.Tests.{Clear, given_between, all_clear}
use Rattle.coding.specs.declared.opcode.Control.{Control as ControlKind}
use Rattle.coding.specs.declared.opcode.Control.TheVariants.{Close as CloseFrame, Ping as PingFrame, Pong as PongFrame}
use Rattle.coding.specs.declared.opcode.OpCode.{OpCode}
use Rattle.coding.specs.declared.opcode.OpCode.TheVariants.{Data, Control, Reserved}
use Rattle.frame.specs.declared.header.FrameHeader.{FrameHeader}
use Rattle.session.specs.declared.Answer.{Answer}
use Rattle.session.specs.declared.Answer.TheVariants.{More, Text, Binary, Ping, Pong, Close, Closed, Refused}
use Rattle.session.specs.declared.Incoming.{Incoming}
use Rattle.session.specs.declared.Settings.{Settings}
use Rattle.session.specs.Frames.{header_whole, frame, is_reserved, is_control, is_data, is_text, header_tests, before, progress_now, doom_tests, utf_test, verdict}
use Rattle.session.specs.Reading.{World, world, between, control_event, ended, refuse, finish, rest, settle}
use Rattle.steady.proofs.Headers.{Bounded, Waits, never, whole_between, between-bounded}

-- ---- what holds of what has come beside an answer
-- the number that a session is refused by afterwards, 0 where it is not
abbrev pub refusal_of : Answer → ℕ
refusal_of More = 0
refusal_of (Text n) = 0
refusal_of (Binary n) = 0
refusal_of (Ping n) = 0
refusal_of (Pong n) = 0
refusal_of (Close n) = 0
refusal_of Closed = 0
refusal_of (Refused k) = k

-- control payloads have at most 125 bytes, and a refusal is one of 3 to 15
abbrev pub Fair : Answer → Type 0
Fair More = Unit {0}
Fair (Text n) = Unit {0}
Fair (Binary n) = Unit {0}
Fair (Ping n) = n ≤ 125
Fair (Pong n) = n ≤ 125
Fair (Close n) = n ≤ 125
Fair Closed = Unit {0}
Fair (Refused k) = (3 ≤ k) × (k ≤ 15)

pub record Fine (g : Settings) (i : Incoming) (a : Answer) : Type 0 where
  pub bounded : Bounded g i
  pub waits : refusal_of a ≡ 0 → Waits g i
  pub fair : Fair a

abbrev pub FineWorld : Settings → World → Type 0
FineWorld g w = Fine g w.incoming w.answer

-- ---- refused
refused_fine : (g : Settings) (w : World) (n : ℕ) → Bounded g w.incoming → (3 ≤ n) × (n ≤ 15) → FineWorld g (refuse w n)
unfolding refuse
refused_fine g w n x h = record { bounded = x; waits = λ e. absurd (omega arith); fair = h }

-- ---- the next header is awaited
awaited : {g : Settings} {i : Incoming} (a : Answer) (begun text : Bool) (fragments progress : ℕ) → Bounded g i → fragments ≤ g.message → progress ≤ 8
    → Fair a → Fine g (between i begun text fragments progress) a
awaited {g} {i} a begun text fragments progress x h k fair =
    record {
      bounded = between-bounded begun text fragments progress x h k;
      waits = λ e w. never w (whole_between i begun text fragments progress);
      fair = fair;
    }

event_fair : (k : ControlKind) (n : ℕ) → n ≤ 125 → Fair (control_event k n)
event_fair CloseFrame n h = h
event_fair PingFrame n h = h
event_fair PongFrame n h = h

message_fair : (t : Bool) (n : ℕ) → Fair (pick t (Text n) (Binary n))
message_fair true n = tt
message_fair false n = tt

pub progress_now_lem : (g : Settings) (i : Incoming) → Bounded g i → progress_now i ≤ 8
unfolding progress_now
progress_now_lem g i x = go (pick i.begun true (ltb 0 i.counted))
  where
    go : (t : Bool) → pick t i.progress 0 ≤ 8
    go true = x.progress_known
    go false = omega arith

ended-fine : (g : Settings) (w : World) (f : FrameHeader) (op : OpCode) → Bounded g w.incoming → is_reserved op ≡ false
    → (is_control op ≡ true → f.length ≤ 125) → (is_data op ≡ true → before w.incoming + f.length ≤ g.message) → FineWorld g (ended f op w)
ended-fine g w f (Reserved n) x r c d = never refl r
ended-fine g w f (Control k) x r c d =
    awaited (control_event k f.length) w.incoming.begun w.incoming.text w.incoming.fragments w.incoming.progress x
    x.fragments_within x.progress_known (event_fair k f.length (c refl))
ended-fine g w f (Data k) x r c d = go f.fin
  where
    i : Incoming
    i = w.incoming

    n : ℕ
    n = before i + f.length

    go : (t : Bool)
        → FineWorld g (pick t (world (between i false false 0 0) w.message w.control (pick (is_text f i) (Text n) (Binary n)))
        (world (between i true (is_text f i) n (progress_now i)) w.message w.control More))
    go true = awaited (pick (is_text f i) (Text n) (Binary n)) false false 0 0 x (omega arith) (omega arith) (message_fair (is_text f i) n)
    go false = awaited More true (is_text f i) n (progress_now i) x (d refl) (progress_now_lem g i x) tt

-- ---- the tests at a frame's last byte
module _ (g : Settings) (state : ℕ) (f : FrameHeader) (i : Incoming) (control : List ℕ) where
  abbrev last_tests : List Test
  last_tests = doom_tests g state f i ++ (utf_test f i control ∷ [])

  verdict-between : (verdict g state f i control ≡ 0 → ⊥) → (3 ≤ verdict g state f i control) × (verdict g state f i control ≤ 15)
  unfolding verdict doom_tests utf_test
  verdict-between h = given_between 3 15 last_tests (omega arith) h

  verdict-clear : verdict g state f i control ≡ 0 → Clear last_tests
  unfolding verdict doom_tests utf_test
  verdict-clear h = all_clear last_tests (search rules) h

  control_short : verdict g state f i control ≡ 0 → is_control f.opcode ≡ true → f.length ≤ 125
  unfolding doom_tests utf_test
  control_short h t = ltb-false 125 f.length (rw t at (verdict-clear h).1.1.1.1.1.0)

  data_short : verdict g state f i control ≡ 0 → is_data f.opcode ≡ true → before i + f.length ≤ g.message
  unfolding doom_tests utf_test
  data_short h t = ltb-false g.message (before i + f.length) (rw t at (verdict-clear h).1.1.1.1.1.1.1.1.1.0)

header-clear : (g : Settings) (f : FrameHeader) → first_of (header_tests g f) ≡ 0 → is_reserved f.opcode ≡ false
unfolding header_tests
header-clear g f h = (all_clear (header_tests g f) (search rules) h).0

header-between : (g : Settings) (f : FrameHeader) → (first_of (header_tests g f) ≡ 0 → ⊥) → (3 ≤ first_of (header_tests g f)) × (first_of (header_tests g f) ≤ 15)
unfolding header_tests
header-between g f h = given_between 3 15 (header_tests g f) (omega arith) h

-- ---- what is decided without a further byte
module _ (g : Settings) (state : ℕ) (w : World) (x : Bounded g w.incoming) where
  abbrev f : FrameHeader
  f = frame w.incoming

  abbrev n : ℕ
  n = verdict g state f w.incoming w.control

  finish-fine : first_of (header_tests g f) ≡ 0 → FineWorld g (finish g state w)
  unfolding finish
  finish-fine h =
      by_test (eqb n 0)
      (λ t.
      let z : n ≡ 0 = eqb-true n 0 t in
      rw t
      (ended-fine g w f f.opcode x (header-clear g f h) (control_short g state f w.incoming w.control z)
      (data_short g state f w.incoming w.control z)))
      (λ t. rw t (refused_fine g w n x (verdict-between g state f w.incoming w.control (eqb-false n 0 t))))

  pub rest-fine : first_of (header_tests g f) ≡ 0 → w.answer ≡ More → FineWorld g (rest g state w)
  unfolding rest
  rest-fine h a =
      by_test (leb f.length w.incoming.counted) (λ t. rw t (finish-fine h))
      (λ t. rw t (record { bounded = x; waits = λ e v. (h, leb-false f.length w.incoming.counted t); fair = rw a tt }))

  pub settle-fine : w.answer ≡ More → FineWorld g (settle g state w)
  unfolding settle
  settle-fine a =
      by_test (header_whole w.incoming)
      (λ t.
      by_test (eqb (first_of (header_tests g f)) 0) (λ u. rw (t, u) (rest-fine (eqb-true (first_of (header_tests g f)) 0 u) a))
      (λ u. rw (t, u) (refused_fine g w (first_of (header_tests g f)) x (header-between g f (eqb-false (first_of (header_tests g f)) 0 u)))))
      (λ t. rw t (record { bounded = x; waits = λ e v. never v t; fair = rw a tt }))
