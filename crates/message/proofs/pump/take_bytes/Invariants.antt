-- `message::pump::take_bytes` meets its contract. Between turns: a look at what has come is the fold over the bytes taken so far.
use mathlib.Core.Path.{◌≡◌}
use mathlib.Core.List.{List}
use Prim.Native.Nat.{ℕ, ◌+◌, ◌*◌, ◌-◌, ◌≤◌}
use lib.ListN.{length, take}
use Rattle.session.specs.declared.Answer.TheVariants.{More}
use Rattle.session.specs.declared.Session.{Session}
use Rattle.session.specs.Reading.{world, after, settle, feed}
use Rattle.session.specs.Session.{with_incoming}
use Rattle.message.proofs.pump.take_bytes.Given as goal

pub record Going (piece m₀ c₀ : List ℕ) (s₀ : Session) (m c : List ℕ) (s : Session) (at : ℕ) : Type 0 where
  pub within : at ≤ length piece
  pub message_length : length m ≡ length m₀
  pub control_length : length c ≡ length c₀
  pub rest : s ≡ with_incoming s₀ s.incoming
  pub few : s.incoming.kept ≤ 14
  pub fed : after (settle s₀.settings s₀.state (world s.incoming m c More)) at
      ≡ feed s₀.settings s₀.state (after (settle s₀.settings s₀.state (world s₀.incoming m₀ c₀ More)) 0) (take at piece)

abbrev pub invariant-loop-next : goal.invariant-loop-next
invariant-loop-next l = Going l.piece l.initial.message l.initial.control l.initial.session l.message l.control l.session l.at

abbrev pub decreases-loop-next : goal.decreases-loop-next
decreases-loop-next l = 15 * (length l.piece - l.at) + l.session.incoming.kept
