-- The waiting reply and what an event leaves, of a session in range: it stays in range and keeps its shape.
use mathlib.Core.Path.{◌≡◌, refl, ap, ◌∙◌}
use mathlib.Core.Bool.{true}
use mathlib.Core.List.{List}
use Prim.Native.Nat.{ℕ, ◌≤◌}
use native.Mathlib.Omega.{arith}
use lib.ListN.{length, take, length-take}
use Rattle.base.specs.Tests.{both}
use Rattle.base.proofs.Choice.{by_test}
use Rattle.base.proofs.Stores.{length-laid}
use Rattle.frame.specs.Close.{close_of}
use Rattle.session.specs.declared.Answer.{Answer}
use Rattle.session.specs.declared.Answer.TheVariants.{More, Text, Binary, Ping, Pong, Close, Closed, Refused}
use Rattle.session.specs.declared.Reply.{Reply}
use Rattle.session.specs.declared.Session.{Session}
use Rattle.session.specs.declared.Waiting.{Waiting}
use Rattle.session.specs.declared.Waiting.TheVariants.{Pong as PongReply, Close as CloseReply}
use Rattle.session.specs.Range.{waits, in_range}
use Rattle.session.specs.Replies.{fits, reply_of, is_close_reply, with_pong, no_reply, reply_frame, appended, move_reply, code_allowed, shown_length, shown_control, close_came, ping_came, conclude}
use Rattle.session.specs.Session.{is_active, is_closed_by_us, with_refusal, with_reply, with_held}
use Rattle.steady.specs.Shape.{Shaped}
use Rattle.steady.proofs.Frames.{refusal_of, Fair}
use Rattle.steady.proofs.Parts.{in_range_lem, range_held, range_state, range_reply}

pub length-take_most : (n : ℕ) (l : List ℕ) → length (take n l) ≤ n
length-take_most n l = omega (arith, length-take n l)

-- ---- a reply moves
-- what holds of the session with its reply moved, and of the session as it was, holds of what the move leaves
pub by_move : (P : Session → Type 0) (s : Session) (mask output : List ℕ) → ((n : ℕ) → P (with_held (with_reply s (no_reply s.reply)) n)) → P s
    → P (move_reply s mask output).session
unfolding move_reply appended
by_move P s mask output moved stays =
    by_test (both (waits s.reply.waiting) (fits s.held output (reply_frame s mask))) (λ t. rw t (moved _)) (λ t. rw t stays)

module _ (s : Session) (mask output : List ℕ) where
  pub move_range : in_range s ≡ true → in_range (move_reply s mask output).session ≡ true
  unfolding no_reply
  move_range e =
      by_move (λ u. in_range u ≡ true) s mask output
      (λ n. range_held (with_reply s (no_reply s.reply)) n (range_reply s (no_reply s.reply) e (λ w. omega arith))) e

  -- of these nothing changes
  pub move_settings : (move_reply s mask output).session.settings ≡ s.settings
  move_settings = by_move (λ u. u.settings ≡ s.settings) s mask output (λ n. refl) refl

  pub move_state : (move_reply s mask output).session.state ≡ s.state
  move_state = by_move (λ u. u.state ≡ s.state) s mask output (λ n. refl) refl

  pub move_incoming : (move_reply s mask output).session.incoming ≡ s.incoming
  move_incoming = by_move (λ u. u.incoming ≡ s.incoming) s mask output (λ n. refl) refl

  pub move_shaped : Shaped s → Shaped (move_reply s mask output).session
  unfolding no_reply
  move_shaped h = by_move Shaped s mask output (λ n. h) h

-- ---- a reply is set
payload_laid : (q : Reply) (k : Waiting) (p : List ℕ) → length q.payload ≡ 125 → length (reply_of q k p).payload ≡ 125
unfolding reply_of
payload_laid q k p h = length-laid q.payload 0 p ∙ h

reply_length : (q : Reply) (k : Waiting) (p : List ℕ) → (reply_of q k p).length ≡ length p
unfolding reply_of
reply_length q k p = refl

pub pong_short : (q : Reply) (p : List ℕ) → (waits q.waiting ≡ true → q.length ≤ 125) → length p ≤ 125
    → waits (with_pong q p).waiting ≡ true → (with_pong q p).length ≤ 125
unfolding with_pong
pong_short q p h k =
    by_test (is_close_reply q.waiting) (λ t. rw t h) (λ t. rw t (λ w. omega (arith, reply_length q PongReply p)))

pub pong_shaped : (q : Reply) (p : List ℕ) → length q.payload ≡ 125 → length (with_pong q p).payload ≡ 125
unfolding with_pong
pong_shaped q p h = by_test (is_close_reply q.waiting) (λ t. rw t h) (λ t. rw t (payload_laid q PongReply p h))

-- ---- an event
pub shown-short : (control : List ℕ) (n : ℕ) → n ≤ 125 → shown_length control n ≤ 125
unfolding shown_length
shown-short control n h = by_test (code_allowed (close_of (take n control))) (λ t. rw t h) (λ t. rw t (omega arith))

module _ (s : Session) (control : List ℕ) (n : ℕ) (e : in_range s ≡ true) (h : n ≤ 125) where
  ping_range : in_range (ping_came s control n).session ≡ true
  unfolding ping_came
  ping_range =
      by_test (is_active s.state)
      (λ t.
      rw t
      (range_reply s (with_pong s.reply (take n control)) e
      (pong_short s.reply (take n control) (in_range_lem s e).reply_short (omega (arith, length-take_most n control)))))
      (λ t. rw t e)

  close_range : in_range (close_came s control n).session ≡ true
  unfolding close_came
  close_range =
      let m : ℕ = shown_length control n in
      let p : List ℕ = take m (shown_control control n) in
      let q : Reply = reply_of s.reply CloseReply p in
      by_test (is_active s.state)
      (λ t.
      rw t
      (range_state (with_reply s q) 2
      (range_reply s q e
      (λ w. omega (arith, reply_length s.reply CloseReply p, length-take_most m (shown_control control n), shown-short control n h)))
      (omega arith)))
      (λ t. by_test (is_closed_by_us s.state) (λ u. rw (t, u) (range_state s 3 e (omega arith))) (λ u. rw (t, u) e))

module _ (s : Session) (control : List ℕ) (h : Shaped s) where
  ping_shaped : (n : ℕ) → Shaped (ping_came s control n).session
  unfolding ping_came
  ping_shaped n =
      by_test (is_active s.state) (λ t. rw t (h.0, pong_shaped s.reply (take n control) h.1)) (λ t. rw t h)

  close_shaped : (n : ℕ) → Shaped (close_came s control n).session
  unfolding close_came
  close_shaped n =
      by_test (is_active s.state)
      (λ t. rw t (h.0, payload_laid s.reply CloseReply (take (shown_length control n) (shown_control control n)) h.1))
      (λ t. by_test (is_closed_by_us s.state) (λ u. rw (t, u) h) (λ u. rw (t, u) h))

  pub conclude-shaped : (a : Answer) → Shaped (conclude a s control).session
  conclude-shaped More = h
  conclude-shaped (Text n) = h
  conclude-shaped (Binary n) = h
  conclude-shaped (Ping n) = ping_shaped n
  conclude-shaped (Pong n) = h
  conclude-shaped (Close n) = close_shaped n
  conclude-shaped Closed = h
  conclude-shaped (Refused k) = h

module _ (s : Session) (control : List ℕ) (z : s.refusal ≡ 0) where
  -- a session that is not refused is as the number 0 has it
  unrefused : in_range (with_refusal s 0) ≡ true → in_range s ≡ true
  unrefused e = ap (λ (k : ℕ). in_range (with_refusal s k)) z ∙ e

  pub conclude-range : (a : Answer) → in_range (with_refusal s (refusal_of a)) ≡ true → Fair a → in_range (conclude a s control).session ≡ true
  conclude-range More e k = unrefused e
  conclude-range (Text n) e k = unrefused e
  conclude-range (Binary n) e k = unrefused e
  conclude-range (Ping n) e k = ping_range s control n (unrefused e) k
  conclude-range (Pong n) e k = unrefused e
  conclude-range (Close n) e k = close_range s control n (unrefused e) k
  conclude-range Closed e k = unrefused e
  conclude-range (Refused n) e k = e

-- the answer is the same, but for the length of a close's payload
close_number : (s : Session) (control : List ℕ) (n : ℕ) → refusal_of (close_came s control n).answer ≡ 0
unfolding close_came
close_number s control n = by_test (is_active s.state) (λ t. rw t) (λ t. rw t)

pub conclude-number : (a : Answer) (s : Session) (control : List ℕ) → refusal_of (conclude a s control).answer ≡ refusal_of a
unfolding ping_came
conclude-number More s control = refl
conclude-number (Text n) s control = refl
conclude-number (Binary n) s control = refl
conclude-number (Ping n) s control = refl
conclude-number (Pong n) s control = refl
conclude-number (Close n) s control = close_number s control n
conclude-number Closed s control = refl
conclude-number (Refused k) s control = refl
