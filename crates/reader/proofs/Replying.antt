-- Laws of what an event leaves: a ping that came and a close that came, by the session's state.
use mathlib.Core.Path.{◌≡◌, refl, ap, ◌∙◌}
use mathlib.Core.Bool.{true, false}
use mathlib.Core.List.{List}
use Prim.Native.Nat.{ℕ, ◌≤◌}
use native.Mathlib.Omega.{arith}
use lib.Dec.{eqb}
use lib.ListN.{length, take}
use borrow.Author.Tests.{eq-eqb, ne_eqb}
use Rattle.base.specs.Stores.{laid}
use Rattle.base.specs.Table.{pick}
use Rattle.base.proofs.Choice.{by_test}
use Rattle.base.proofs.Stores.{length-laid}
use Rattle.frame.specs.Close.{close_of, close_bytes, violation}
use Rattle.session.specs.declared.Answer.TheVariants.{Ping, Close}
use Rattle.session.specs.declared.Reply.{Reply}
use Rattle.session.specs.declared.Session.{Session}
use Rattle.session.specs.declared.Waiting.TheVariants.{Close as CloseReply}
use Rattle.session.specs.Replies.{concluded, code_allowed, reply_of, with_pong, shown_length, shown_control, close_came, ping_came}
use Rattle.session.specs.Session.{is_active, with_state, with_reply}
use Rattle.steady.proofs.Moves.{shown-short}

-- ---- what an answered close shows: itself, or 1002 in its place
module _ (control : List ℕ) (n : ℕ) where
  pub shown-itself : code_allowed (close_of (take n control)) ≡ true → (n ≡ shown_length control n) × (control ≡ shown_control control n)
  unfolding shown_length shown_control
  shown-itself l = rw l (refl, refl)

  pub shown-replaced : {d : List ℕ} → code_allowed (close_of (take n control)) ≡ false → d ≡ laid control 0 (close_bytes 1002 violation)
      → (20 ≡ shown_length control n) × (d ≡ shown_control control n)
  unfolding shown_length shown_control
  shown-replaced l u = rw l (refl, u)

  length-shown : length (shown_control control n) ≡ length control
  unfolding shown_control
  length-shown = by_test (code_allowed (close_of (take n control))) (λ t. rw t) (λ t. rw t (length-laid control 0 (close_bytes 1002 violation)))

  -- it fits a reply, and stands in the store
  pub shown-fits : n ≤ 125 → 125 ≤ length control → {m : ℕ} {d : List ℕ} → m ≡ shown_length control n → d ≡ shown_control control n
      → (m ≤ 125) × (m ≤ length d)
  shown-fits h k u v =
      (omega (arith, u, shown-short control n h), omega (arith, u, shown-short control n h, ap length v, length-shown))

module _ (s : Session) (control : List ℕ) (n : ℕ) where
  -- ---- a ping: it makes a pong in Active, and nothing in another state
  pub ping_left : {q : Reply} → q ≡ pick (is_active s.state) (with_pong s.reply (take n control)) s.reply
      → concluded (Ping n) (with_reply s q) control ≡ ping_came s control n
  unfolding ping_came
  ping_left p =
      ap (λ (q : Reply). concluded (Ping n) (with_reply s q) control) p
      ∙ by_test (is_active s.state) (λ t. rw t) (λ t. rw t)

  -- ---- a close in Active: the reply echoes what is shown
  pub close_answered : {m : ℕ} {d : List ℕ} {q : Reply} → s.state ≡ 0 → m ≡ shown_length control n → d ≡ shown_control control n
      → q ≡ reply_of s.reply CloseReply (take m d) → concluded (Close m) (with_state (with_reply s q) 2) d ≡ close_came s control n
  unfolding close_came
  close_answered {m} {d} e u v p =
      let t : eqb s.state 0 ≡ true = eq-eqb s.state 0 e in
      rw (t, ← u, ← v) (λ i. concluded (Close m) (with_state (with_reply s (p i)) 2) d)

  -- ---- a close in another state: it is shown as received
  pub close_acknowledged : s.state ≡ 1 → concluded (Close n) (with_state s 3) control ≡ close_came s control n
  unfolding close_came
  close_acknowledged e =
      let t : eqb s.state 0 ≡ false = ne_eqb s.state 0 (λ z. omega arith) in
      let u : eqb s.state 1 ≡ true = eq-eqb s.state 1 e in
      rw (t, u)

  pub close_shown : (s.state ≡ 0 → ⊥) → (s.state ≡ 1 → ⊥) → concluded (Close n) s control ≡ close_came s control n
  unfolding close_came
  close_shown h k =
      let t : eqb s.state 0 ≡ false = ne_eqb s.state 0 h in
      let u : eqb s.state 1 ≡ false = ne_eqb s.state 1 k in
      rw (t, u)
