-- One turn of the loop that takes bytes: what it leaves, and what is decided by it.
use Rattle.std.specs.Prelude.{Bool, true, false, List, [], ◌∷◌, ◌≡◌, ℕ, ◌+◌, ◌*◌, ◌-◌, ◌<◌, ◌≤◌, length, take, drop}
use Rattle.std.specs.declared.ops.ControlFlow.{ControlFlow}
use Rattle.std.specs.declared.ops.ControlFlow.TheVariants.{Continue, Break}
use Rattle.session.specs.declared.Answer.{Answer}
use Rattle.session.specs.declared.Answer.TheVariants.{More}
use Rattle.session.specs.declared.Incoming.{Incoming}
use Rattle.session.specs.declared.Settings.{Settings}
use Rattle.message.specs.declared.pump.Taken.{Taken}
use Rattle.session.specs.Reading.{World, after, keep, stored, settle, feed}

-- a run of header bytes is kept
abbrev pub keeps : Incoming → List ℕ → Incoming
keeps i [] = i
keeps i (b ∷ bs) = keeps (keep i b) bs

-- a run of payload bytes is stored; where there are none, nothing changes
abbrev pub reached : Settings → ℕ → World → List ℕ → World
reached g state w [] = w
reached g state w (b ∷ vs) = stored g state w (b ∷ vs)

-- so many payload bytes are counted by now, and the check has come so far
abbrev pub reaches : Incoming → ℕ → ℕ → Incoming
reaches i counted progress =
    record {
      header = i.header;
      kept = i.kept;
      counted = counted;
      begun = i.begun;
      text = i.text;
      fragments = i.fragments;
      progress = progress;
    }

-- a turn over a piece, from the place at to the place to, that another follows: what is not looked at yet is looked at by the next
pub record Goes (g : Settings) (state : ℕ) (piece : List ℕ) (at to : ℕ) (w v : World) : Type 0 where
  pub forth : at ≤ to
  pub undecided : v.answer ≡ More
  pub few : v.incoming.kept ≤ 14
  pub less : 15 * (length piece - to) + v.incoming.kept < 15 * (length piece - at) + w.incoming.kept
  pub fed : after (settle g state v) to ≡ feed g state (after (settle g state w) at) (take (to - at) (drop at piece))

-- what a turn gives: the place from which the next goes on, or all that is taken
abbrev pub place : ControlFlow Taken ℕ → ℕ
place (Continue to) = to
place (Break taken) = taken.at

abbrev pub answered : ControlFlow Taken ℕ → Answer
answered (Continue to) = More
answered (Break taken) = taken.answer

abbrev pub goes_on : ControlFlow Taken ℕ → Bool
goes_on (Continue to) = true
goes_on (Break taken) = false

-- a turn, and whether another follows: the last one leaves the fold over all that was left of the piece
pub record Turned (g : Settings) (state : ℕ) (piece : List ℕ) (at to : ℕ) (w v : World) (on : Bool) : Type 0 where
  pub within : to ≤ length piece
  pub goes : on ≡ true → Goes g state piece at to w v
  pub stops : on ≡ false → after v to ≡ feed g state (after (settle g state w) at) (drop at piece)
