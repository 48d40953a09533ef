-- A session in range with a part replaced.
use mathlib.Core.Path.{◌≡◌, refl, sym, ◌∙◌}
use mathlib.Core.Bool.{true}
use mathlib.Core.Logic.{◌⊎◌, inl, inr}
use Prim.Native.Nat.{ℕ, ◌≤◌}
use native.Mathlib.Omega.{arith}
use lib.ListN.{length, get_or}
use Rattle.session.specs.declared.Answer.{Answer}
use Rattle.session.specs.declared.Answer.TheVariants.{More, Text, Binary, Ping, Pong, Close, Closed, Refused}
use Rattle.session.specs.declared.Incoming.{Incoming}
use Rattle.session.specs.declared.Reply.{Reply}
use Rattle.session.specs.declared.Session.{Session}
use Rattle.session.specs.Range.{waits, in_range}
use Rattle.session.specs.Session.{with_state, with_refusal, with_incoming, with_reply, with_held}
use Rattle.session.proofs.Holds.{size_most}
use Rattle.session.proofs.InRange.{Good, range_session, good, good_range}
use Rattle.steady.proofs.Frames.{refusal_of, Fair, Fine}
use Rattle.steady.proofs.Headers.{Bounded}

abbrev pub GoodSession : Session → Type 0
GoodSession s = Good s.settings s.state s.refusal s.incoming s.reply.waiting s.reply.length

pub in_range_lem : (s : Session) → in_range s ≡ true → GoodSession s
in_range_lem s e = good (sym (range_session s) ∙ e)

range_in : (s : Session) → GoodSession s → in_range s ≡ true
range_in s x = range_session s ∙ good_range x

-- ---- the bounds of what has come, at the start of a call
pub bounded_start : (s : Session) → in_range s ≡ true → length s.incoming.header ≡ 14 → Bounded s.settings s.incoming
bounded_start s e h =
    let x : GoodSession s = in_range_lem s e in
    record {
      header-full = h;
      kept-within = x.kept-within;
      counted-whole = x.counted-whole;
      counted-lacking = x.counted-lacking;
      progress_known = x.progress_known;
      fragments_within = x.fragments_within;
    }

-- ---- parts that a call replaces
pub range_held : (s : Session) (n : ℕ) → in_range s ≡ true → in_range (with_held s n) ≡ true
range_held s n e = range_session (with_held s n) ∙ sym (range_session s) ∙ e

other_good : (s : Session) (state : ℕ) (q : Reply) → in_range s ≡ true → state ≤ 4 → (waits q.waiting ≡ true → q.length ≤ 125)
    → GoodSession (with_state (with_reply s q) state)
other_good s state q e h k =
    let x : GoodSession s = in_range_lem s e in
    record {
      frame_limit = x.frame_limit;
      message_limit = x.message_limit;
      role_known = x.role_known;
      state_known = h;
      refusal_known = x.refusal_known;
      kept-most = x.kept-most;
      kept-within = x.kept-within;
      unrefused = x.unrefused;
      counted-whole = x.counted-whole;
      counted-lacking = x.counted-lacking;
      progress_known = x.progress_known;
      fragments_within = x.fragments_within;
      reply_short = k;
    }

pub range_state : (s : Session) (n : ℕ) → in_range s ≡ true → n ≤ 4 → in_range (with_state s n) ≡ true
range_state s n e h = range_in (with_state s n) (other_good s n s.reply e h (in_range_lem s e).reply_short)

pub range_reply : (s : Session) (q : Reply) → in_range s ≡ true → (waits q.waiting ≡ true → q.length ≤ 125) → in_range (with_reply s q) ≡ true
range_reply s q e k = range_in (with_reply s q) (other_good s s.state q e (in_range_lem s e).state_known k)

-- ---- what has come, with the number that it is refused by
refusal_fair : (a : Answer) → Fair a → (refusal_of a ≡ 0) ⊎ ((3 ≤ refusal_of a) × (refusal_of a ≤ 15))
refusal_fair More k = inl refl
refusal_fair (Text n) k = inl refl
refusal_fair (Binary n) k = inl refl
refusal_fair (Ping n) k = inl refl
refusal_fair (Pong n) k = inl refl
refusal_fair (Close n) k = inl refl
refusal_fair Closed k = inl refl
refusal_fair (Refused n) k = inr k

pub range_incoming : (s : Session) (i : Incoming) (a : Answer) → in_range s ≡ true → Fine s.settings i a
    → in_range (with_refusal (with_incoming s i) (refusal_of a)) ≡ true
range_incoming s i a e y =
    let x : GoodSession s = in_range_lem s e in
    let good : GoodSession (with_refusal (with_incoming s i) (refusal_of a)) =
    record {
      frame_limit = x.frame_limit;
      message_limit = x.message_limit;
      role_known = x.role_known;
      state_known = x.state_known;
      refusal_known = refusal_fair a y.fair;
      kept-most = omega (arith, y.bounded.kept-within, size_most (get_or i.header 1 0));
      kept-within = y.bounded.kept-within;
      unrefused = λ w z. (y.waits z w).0;
      counted-whole = y.bounded.counted-whole;
      counted-lacking = y.bounded.counted-lacking;
      progress_known = y.bounded.progress_known;
      fragments_within = y.bounded.fragments_within;
      reply_short = x.reply_short;
    } in
    range_in (with_refusal (with_incoming s i) (refusal_of a)) good
