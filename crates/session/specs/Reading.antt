-- Reading, a byte at a time (document 01, "One read call", step 4). The settings g and the state do not change while bytes are taken.
use Rattle.std.specs.Prelude.{Bool, true, false, List, [], ◌∷◌, ℕ, ◌+◌, eqb, leb, length, set}
use Rattle.base.specs.Stores.{laid}
use Rattle.base.specs.Table.{pick}
use Rattle.base.specs.Tests.{first_of}
use Rattle.coding.specs.declared.opcode.Control.{Control as ControlKind}
use Rattle.coding.specs.declared.opcode.Control.TheVariants.{Close as CloseFrame, Ping as PingFrame, Pong as PongFrame}
use Rattle.coding.specs.declared.opcode.OpCode.{OpCode}
use Rattle.coding.specs.declared.opcode.OpCode.TheVariants.{Data, Control, Reserved}
use Rattle.frame.specs.declared.header.FrameHeader.{FrameHeader}
use Rattle.frame.specs.Header.{mask_in}
use Rattle.mask.specs.Mask.{masked}
use Rattle.session.specs.declared.Answer.{Answer}
use Rattle.session.specs.declared.Answer.TheVariants.{More, Text, Binary, Ping, Pong, Close, Closed, Refused}
use Rattle.session.specs.declared.Incoming.{Incoming}
use Rattle.session.specs.declared.Settings.{Settings}
use Rattle.session.specs.Frames.{kept, header_whole, frame, is_control, is_text, header_tests, before, progress_now, doom, verdict}
use Rattle.utf8.specs.Progress.{progress_after}

-- what has come, the first two stores, and the answer so far
pub record World : Type 0 where
  pub incoming : Incoming
  pub message : List ℕ
  pub control : List ℕ
  pub answer : Answer

abbrev pub world : Incoming → List ℕ → List ℕ → Answer → World
world i m c a = record { incoming = i; message = m; control = c; answer = a }

-- ---- a byte of the header is kept
unfoldable pub keep : Incoming → ℕ → Incoming
keep i b =
    record {
      header = set i.header i.kept b;
      kept = i.kept + 1;
      counted = i.counted;
      begun = i.begun;
      text = i.text;
      fragments = i.fragments;
      progress = i.progress;
    }

-- ---- payload bytes come: "Data payloads are unmasked into the message store behind the fragments so far, from its start for a new
-- message; control payloads into the control store from its start. No other byte of these stores changes." "A payload already doomed by
-- its header is counted and stored nowhere."
unfoldable pub plain : Incoming → List ℕ → List ℕ
plain i vs = pick (frame i).masked (masked (mask_in (kept i)) i.counted vs) vs

abbrev pub counts : Incoming → ℕ → ℕ → Incoming
counts i n progress =
    record {
      header = i.header;
      kept = i.kept;
      counted = i.counted + n;
      begun = i.begun;
      text = i.text;
      fragments = i.fragments;
      progress = progress;
    }

unfoldable pub stored : Settings → ℕ → World → List ℕ → World
stored g state w vs =
    let i : Incoming = w.incoming in
    let f : FrameHeader = frame i in
    pick (eqb (doom g state f i) 0)
    (pick (is_control f.opcode)
    (world (counts i (length vs) i.progress) w.message (laid w.control i.counted (plain i vs)) w.answer)
    (world (counts i (length vs) (pick (is_text f i) (progress_after (progress_now i) (plain i vs)) i.progress))
    (laid w.message (before i + i.counted) (plain i vs)) w.control w.answer))
    (world (counts i (length vs) i.progress) w.message w.control w.answer)

-- ---- the frame's last byte has come
-- the next header is awaited; an open message goes on, from its fragments with this frame, or is none
abbrev pub between : Incoming → Bool → Bool → ℕ → ℕ → Incoming
between i begun text fragments progress =
    record { header = i.header; kept = 0; counted = 0; begun = begun; text = text; fragments = fragments; progress = progress }

abbrev pub control_event : ControlKind → ℕ → Answer
control_event CloseFrame n = Close n
control_event PingFrame n = Ping n
control_event PongFrame n = Pong n

abbrev pub ended : FrameHeader → OpCode → World → World
ended f (Reserved n) w = w
ended f (Control k) w =
    let i : Incoming = w.incoming in
    world (between i i.begun i.text i.fragments i.progress) w.message w.control (control_event k f.length)
ended f (Data d) w =
    let i : Incoming = w.incoming in
    pick f.fin
    (world (between i false false 0 0) w.message w.control (pick (is_text f i) (Text (before i + f.length)) (Binary (before i + f.length))))
    (world (between i true (is_text f i) (before i + f.length) (progress_now i)) w.message w.control More)

unfoldable pub refuse : World → ℕ → World
refuse w n = world w.incoming w.message w.control (Refused n)

unfoldable pub finish : Settings → ℕ → World → World
finish g state w =
    let f : FrameHeader = frame w.incoming in
    let n : ℕ = verdict g state f w.incoming w.control in
    pick (eqb n 0) (ended f f.opcode w) (refuse w n)

-- ---- what is decided without a further byte
unfoldable pub rest : Settings → ℕ → World → World
rest g state w = pick (leb (frame w.incoming).length w.incoming.counted) (finish g state w) w

unfoldable pub settle : Settings → ℕ → World → World
settle g state w =
    let n : ℕ = first_of (header_tests g (frame w.incoming)) in
    pick (header_whole w.incoming) (pick (eqb n 0) (rest g state w) (refuse w n)) w

-- ---- one byte
unfoldable pub byte_in : Settings → ℕ → World → ℕ → World
byte_in g state w b =
    pick (header_whole w.incoming) (rest g state (stored g state w (b ∷ [])))
    (settle g state (world (keep w.incoming b) w.message w.control w.answer))

-- ---- "Bytes are taken up to one event, or to the end of the piece."
abbrev pub is_more : Answer → Bool
is_more More = true
is_more (Text n) = false
is_more (Binary n) = false
is_more (Ping n) = false
is_more (Pong n) = false
is_more (Close n) = false
is_more Closed = false
is_more (Refused n) = false

-- a world and the number of bytes that led to it
pub record At : Type 0 where
  pub world : World
  pub taken : ℕ

abbrev pub after : World → ℕ → At
after w n = record { world = w; taken = n }

unfoldable pub step : Settings → ℕ → At → ℕ → At
step g state x b = pick (is_more x.world.answer) (after (byte_in g state x.world b) (x.taken + 1)) x

unfoldable pub feed : Settings → ℕ → At → List ℕ → At
feed g state x [] = x
feed g state x (b ∷ bs) = feed g state (step g state x b) bs
