-- A waiting reply that moves, over the parts of a session that it looks at. `parts_move` says that a session's reply moves as its parts do.
use Rattle.std.specs.Prelude.{Bool, List, ℕ, ◌+◌, length, take}
use Rattle.base.specs.Stores.{laid}
use Rattle.base.specs.Table.{pick}
use Rattle.base.specs.Tests.{both}
use Rattle.session.specs.declared.Reply.{Reply}
use Rattle.session.specs.Range.{waits}
use Rattle.session.specs.Replies.{encoded, fits, no_reply, reply_code}

-- the frame of a waiting reply
unfoldable pub reply_bytes : Bool → Reply → List ℕ → List ℕ
reply_bytes client q mask = encoded client (reply_code q.waiting) mask (take q.length q.payload)

-- a waiting reply, the bytes held, and the output store
pub record Moving : Type 0 where
  pub reply : Reply
  pub held : ℕ
  pub output : List ℕ

abbrev pub moving : Reply → ℕ → List ℕ → Moving
moving q held output = record { reply = q; held = held; output = output }

-- "A waiting reply moves to the output if it fits. If not, it waits on"
unfoldable pub move_of : Bool → Reply → ℕ → List ℕ → List ℕ → Moving
move_of client q held mask output =
    pick (both (waits q.waiting) (fits held output (reply_bytes client q mask)))
    (moving (no_reply q) (held + length (reply_bytes client q mask)) (laid output held (reply_bytes client q mask)))
    (moving q held output)
