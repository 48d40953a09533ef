-- A session in range is handed on in range by every call, and no call on it answers 20 for the session's numbers.
use mathlib.Core.Path.{◌≡◌, refl, ap}
use mathlib.Core.Bool.{Bool, true, false, not}
use mathlib.Core.List.{List, [], ◌∷◌}
use Prim.Native.Nat.{ℕ, ◌-◌, ◌<◌, ◌≤◌}
use native.Mathlib.Omega.{arith}
use lib.Dec.{eqb, ltb}
use lib.ListN.{length, drop}
use borrow.Author.Tests.{eqb-true}
use Rattle.std.specs.Prelude.{Option}
use Rattle.base.specs.Table.{pick}
use Rattle.base.specs.Tests.{both, either, ◌when◌, first_of}
use Rattle.base.proofs.Choice.{by_test}
use Rattle.base.proofs.Tests.{first_most}
use Rattle.coding.specs.declared.opcode.Control.TheVariants.{Close as CloseFrame, Ping as PingFrame}
use Rattle.coding.specs.declared.opcode.Data.TheVariants.{Text as TextFrame, Binary as BinaryFrame}
use Rattle.coding.specs.declared.opcode.OpCode.{OpCode}
use Rattle.coding.specs.declared.opcode.OpCode.TheVariants.{Data, Control}
use Rattle.session.specs.declared.Answer.{Answer}
use Rattle.session.specs.declared.Answer.TheVariants.{More, Text, Binary, Ping, Pong, Close, Closed, Refused}
use Rattle.session.specs.declared.Masks.{Masks}
use Rattle.session.specs.declared.Role.{Role}
use Rattle.session.specs.declared.Session.{Session}
use Rattle.session.specs.declared.Turn.{Turn}
use Rattle.session.specs.Calls.{Handed, no_incoming, empty_reply, fresh, new_call, read_tests, flagged, take_bytes, read_on, read_call, send_tests, send_frame, text_call, binary_call, ping_call, pong_call, closing_bytes, close_call, take_tests, take_call}
use Rattle.session.specs.Range.{limits_hold, in_range}
use Rattle.session.specs.Reading.{World, world, At, after, settle, feed, is_more}
use Rattle.session.specs.Refusals.{Sent, Done, Refused as NotSent}
use Rattle.session.specs.Replies.{encoded, fits, with_pong, Out, appended, move_reply, Concluded, conclude}
use Rattle.session.specs.Session.{is_server, is_client, is_peer_closed, with_state, with_incoming, with_reply}
use Rattle.utf8.specs.Progress.{progress_after, is_whole}
use Rattle.steady.specs.Shape.{Shaped}
use Rattle.steady.proofs.Bytes.{feed-fine}
use Rattle.steady.proofs.Frames.{refusal_of, Fair, FineWorld, settle-fine}
use Rattle.steady.proofs.Moves.{by_move, move_range, move_shaped, pong_short, pong_shaped, conclude-range, conclude-shaped, conclude-number}
use Rattle.steady.proofs.Parts.{in_range_lem, bounded_start, range_held, range_state, range_reply, range_incoming}
use Rattle.steady.proofs.Passing.{read-passed, read_number_lem, send_number_lem, send_clear, take-number}

-- ---- a new session has the shape; that it is in range is `new_range`
pub shape_new : (role : Role) (frame message : ℕ) (unmasked : Bool) → Shaped (new_call role frame message unmasked).session
unfolding new_call fresh no_incoming empty_reply
shape_new role frame message unmasked = by_test (limits_hold frame message) (λ t. rw t (refl, refl)) (λ t. rw t (refl, refl))

-- ---- reading
-- what is promised of a turn
pub record Steady (t : Turn) : Type 0 where
  pub range : in_range t.session ≡ true
  pub shaped : Shaped t.session
  pub number : refusal_of t.answer ≤ 19

pub fair_most : (a : Answer) → Fair a → refusal_of a ≤ 15
fair_most More k = omega arith
fair_most (Text n) k = omega arith
fair_most (Binary n) k = omega arith
fair_most (Ping n) k = omega arith
fair_most (Pong n) k = omega arith
fair_most (Close n) k = omega arith
fair_most Closed k = omega arith
fair_most (Refused n) k = k.1

flagged-steady : (end : Bool) (d : Concluded) (n : ℕ) → in_range d.session ≡ true → Shaped d.session → refusal_of d.answer ≤ 19
    → Steady (flagged end d n)
unfolding flagged
flagged-steady end d n e h k =
    by_test (both end (is_more d.answer))
    (λ t. rw t (record { range = range_state d.session 4 e (omega arith); shaped = h; number = last (is_peer_closed d.session.state) }))
    (λ t. rw t (record { range = e; shaped = h; number = k }))
  where
    last : (p : Bool) → refusal_of (pick p Closed (Refused 16)) ≤ 19
    last true = omega arith
    last false = omega arith

-- the world that bytes lead to
abbrev pub fed : Session → List ℕ → List ℕ → List ℕ → At
fed s piece message control =
    feed s.settings s.state (after (settle s.settings s.state (world s.incoming message control More)) 0) piece

pub fed-fine : (s : Session) (piece message control : List ℕ) → Shaped s → in_range s ≡ true → FineWorld s.settings (fed s piece message control).world
fed-fine s piece message control h e =
    feed-fine s.settings s.state (after (settle s.settings s.state (world s.incoming message control More)) 0) piece
    (settle-fine s.settings s.state (world s.incoming message control More) (bounded_start s e h.0) refl)

module _ (s : Session) (piece : List ℕ) (end : Bool) (message control output : List ℕ) (h : Shaped s) (e : in_range s ≡ true) where
  take-steady : s.refusal ≡ 0 → Steady (take_bytes s piece end message control output).turn
  unfolding take_bytes
  take-steady z =
      let w : World = (fed s piece message control).world in
      let x : FineWorld s.settings w = fed-fine s piece message control h e in
      let u : Session = with_incoming s w.incoming in
      let d : Concluded = conclude w.answer u w.control in
      flagged-steady end d (fed s piece message control).taken
      (conclude-range u w.control z w.answer (range_incoming s w.incoming w.answer e x) x.fair)
      (conclude-shaped u w.control (x.bounded.header-full, h.1) w.answer)
      (omega (arith, conclude-number w.answer u w.control, fair_most w.answer x.fair))

  on_steady : s.refusal ≡ 0 → Steady (read_on s piece end message control output).turn
  unfolding read_on
  on_steady z =
      by_test (both (is_server s.settings) (is_peer_closed s.state))
      (λ t. rw t (record { range = range_state s 4 e (omega arith); shaped = h; number = omega arith })) (λ t. rw t (take-steady z))

module _ (s : Session) (piece : List ℕ) (end : Bool) (masks : Masks) (message control output : List ℕ) where
  abbrev read_number : ℕ
  read_number = first_of (read_tests s masks.first message control output)

  read-steady : Shaped s → in_range s ≡ true → Steady (read_call s piece end masks message control output).turn
  unfolding read_call
  read-steady h e =
      let v : Out = move_reply s masks.first output in
      by_test (eqb read_number 0)
      (λ t.
      let p = read-passed s masks.first message control output (eqb-true read_number 0 t) in
      let z : v.session.refusal ≡ 0 = by_move (λ u. u.refusal ≡ 0) s masks.first output (λ n. p.unrefused) p.unrefused in
      rw t
      (on_steady v.session piece end message control v.output (move_shaped s masks.first output h) (move_range s masks.first output e)
      z))
      (λ t. rw t (record { range = e; shaped = h; number = read_number_lem s e masks.first message control output }))

  pub range_stays_read : Shaped s → in_range s ≡ true → in_range (read_call s piece end masks message control output).turn.session ≡ true
  range_stays_read h e = (read-steady h e).range

  -- of a session out of range too: the call changes nothing then
  pub shape_stays_read : Shaped s → Shaped (read_call s piece end masks message control output).turn.session
  unfolding read_call
  shape_stays_read h =
      by_test (eqb read_number 0)
      (λ t. (read-steady h (read-passed s masks.first message control output (eqb-true read_number 0 t)).ranged).shaped) (λ t. rw t h)

  pub never_twenty_read : Shaped s → in_range s ≡ true → (read_call s piece end masks message control output).turn.answer ≡ Refused 20 → ⊥
  never_twenty_read h e a = omega (arith, (read-steady h e).number, ap refusal_of a)

-- ---- sending
abbrev pub sent_number : Sent → ℕ
sent_number Done = 0
sent_number (NotSent k) = k

pub record SteadyHanded (t : Handed) : Type 0 where
  pub range : in_range t.session ≡ true
  pub number : sent_number t.sent ≤ 19

pick-most : (t : Bool) {a b k : ℕ} → a ≤ k → b ≤ k → pick t a b ≤ k
pick-most true h l = h
pick-most false h l = l

module _ (s : Session) (state : ℕ) (op : OpCode) (bad : Bool) (p : List ℕ) (masks : Masks) (output : List ℕ) where
  abbrev bytes : List ℕ
  bytes = encoded (is_client s.settings) op masks.first p

  abbrev send_number : ℕ
  send_number = pick (eqb (first_of (send_tests s output bad)) 0) (first_of ((19 when not (fits s.held output bytes)) ∷ [])) (first_of (send_tests s output bad))

  frame-steady : in_range s ≡ true → state ≤ 4 → SteadyHanded (send_frame s state op bad p masks output).handed
  unfolding send_frame appended
  frame-steady e h =
      let v : Out = appended (with_state s state) output bytes in
      by_test (eqb send_number 0)
      (λ t.
      rw t
      (record {
        range = move_range v.session masks.second v.output (range_held (with_state s state) _ (range_state s state e h));
        number = omega arith;
      }))
      (λ t.
      rw t
      (record {
        range = e;
        number =
            pick-most (eqb (first_of (send_tests s output bad)) 0)
            (first_most 19 ((19 when not (fits s.held output bytes)) ∷ []) (omega arith))
            (omega (arith, send_number_lem s e output bad));
      }))

  pub frame-shaped : Shaped s → Shaped (send_frame s state op bad p masks output).handed.session
  unfolding send_frame appended
  frame-shaped h =
      let v : Out = appended (with_state s state) output bytes in
      by_test (eqb send_number 0) (λ t. rw t (move_shaped v.session masks.second v.output h)) (λ t. rw t h)

module _ (s : Session) (p : List ℕ) (masks : Masks) (output : List ℕ) where
  abbrev pong_number : ℕ
  pong_number = first_of (send_tests s output (ltb 125 (length p)))

  pong_steady : in_range s ≡ true → SteadyHanded (pong_call s p masks output).handed
  unfolding pong_call
  pong_steady e =
      by_test (eqb pong_number 0)
      (λ t.
      let q : length p ≤ 125 = send_clear s output (length p) (eqb-true pong_number 0 t) in
      let r : in_range (with_reply s (with_pong s.reply p)) ≡ true =
      range_reply s (with_pong s.reply p) e (pong_short s.reply p (in_range_lem s e).reply_short q) in
      rw t (record { range = move_range (with_reply s (with_pong s.reply p)) masks.first output r; number = omega arith }))
      (λ t. rw t (record { range = e; number = omega (arith, send_number_lem s e output (ltb 125 (length p))) }))

  pong_keeps : Shaped s → Shaped (pong_call s p masks output).handed.session
  unfolding pong_call
  pong_keeps h =
      by_test (eqb pong_number 0)
      (λ t. rw t (move_shaped (with_reply s (with_pong s.reply p)) masks.first output (h.0, pong_shaped s.reply p h.1))) (λ t. rw t h)

never_twenty : (t : Handed) → SteadyHanded t → t.sent ≡ NotSent 20 → ⊥
never_twenty t x e = omega (arith, x.number, ap sent_number e)

module _ (s : Session) (p : List ℕ) (masks : Masks) (output : List ℕ) where
  module _ (e : in_range s ≡ true) where
    text_steady : SteadyHanded (text_call s p masks output).handed
    unfolding text_call
    text_steady = frame-steady s s.state (Data TextFrame) (not (is_whole (progress_after 0 p))) p masks output e (in_range_lem s e).state_known

    binary_steady : SteadyHanded (binary_call s p masks output).handed
    unfolding binary_call
    binary_steady = frame-steady s s.state (Data BinaryFrame) false p masks output e (in_range_lem s e).state_known

    ping_steady : SteadyHanded (ping_call s p masks output).handed
    unfolding ping_call
    ping_steady = frame-steady s s.state (Control PingFrame) (ltb 125 (length p)) p masks output e (in_range_lem s e).state_known

    pub range_stays_text : in_range (text_call s p masks output).handed.session ≡ true
    range_stays_text = text_steady.range

    pub range_stays_binary : in_range (binary_call s p masks output).handed.session ≡ true
    range_stays_binary = binary_steady.range

    pub range_stays_ping : in_range (ping_call s p masks output).handed.session ≡ true
    range_stays_ping = ping_steady.range

    pub range_stays_pong : in_range (pong_call s p masks output).handed.session ≡ true
    range_stays_pong = (pong_steady s p masks output e).range

    pub never_twenty_text : (text_call s p masks output).handed.sent ≡ NotSent 20 → ⊥
    never_twenty_text = never_twenty (text_call s p masks output).handed text_steady

    pub never_twenty_binary : (binary_call s p masks output).handed.sent ≡ NotSent 20 → ⊥
    never_twenty_binary = never_twenty (binary_call s p masks output).handed binary_steady

    pub never_twenty_ping : (ping_call s p masks output).handed.sent ≡ NotSent 20 → ⊥
    never_twenty_ping = never_twenty (ping_call s p masks output).handed ping_steady

    pub never_twenty_pong : (pong_call s p masks output).handed.sent ≡ NotSent 20 → ⊥
    never_twenty_pong = never_twenty (pong_call s p masks output).handed (pong_steady s p masks output e)

  module _ (h : Shaped s) where
    pub shape_stays_text : Shaped (text_call s p masks output).handed.session
    unfolding text_call
    shape_stays_text = frame-shaped s s.state (Data TextFrame) (not (is_whole (progress_after 0 p))) p masks output h

    pub shape_stays_binary : Shaped (binary_call s p masks output).handed.session
    unfolding binary_call
    shape_stays_binary = frame-shaped s s.state (Data BinaryFrame) false p masks output h

    pub shape_stays_ping : Shaped (ping_call s p masks output).handed.session
    unfolding ping_call
    shape_stays_ping = frame-shaped s s.state (Control PingFrame) (ltb 125 (length p)) p masks output h

    pub shape_stays_pong : Shaped (pong_call s p masks output).handed.session
    shape_stays_pong = pong_keeps s p masks output h

module _ (s : Session) (code : Option ℕ) (reason : List ℕ) (masks : Masks) (output : List ℕ) where
  abbrev close_bad : Bool
  close_bad = either (ltb 125 (length (closing_bytes code reason))) (not (is_whole (progress_after 0 (drop 2 (closing_bytes code reason)))))

  close_steady : in_range s ≡ true → SteadyHanded (close_call s code reason masks output).handed
  unfolding close_call
  close_steady e = frame-steady s 1 (Control CloseFrame) close_bad (closing_bytes code reason) masks output e (omega arith)

  pub range_stays_close : in_range s ≡ true → in_range (close_call s code reason masks output).handed.session ≡ true
  range_stays_close e = (close_steady e).range

  pub never_twenty_close : in_range s ≡ true → (close_call s code reason masks output).handed.sent ≡ NotSent 20 → ⊥
  never_twenty_close e = never_twenty (close_call s code reason masks output).handed (close_steady e)

  pub shape_stays_close : Shaped s → Shaped (close_call s code reason masks output).handed.session
  unfolding close_call
  shape_stays_close h = frame-shaped s 1 (Control CloseFrame) close_bad (closing_bytes code reason) masks output h

-- ---- taking what is held
module _ (s : Session) (n : ℕ) (output : List ℕ) where
  abbrev take_number : ℕ
  take_number = first_of (take_tests s n output)

  pub range_stays_take : in_range s ≡ true → in_range (take_call s n output).handed.session ≡ true
  unfolding take_call
  range_stays_take e = by_test (eqb take_number 0) (λ t. rw t (range_held s (s.held - n) e)) (λ t. rw t e)

  pub shape_stays_take : Shaped s → Shaped (take_call s n output).handed.session
  unfolding take_call
  shape_stays_take h = by_test (eqb take_number 0) (λ t. rw t h) (λ t. rw t h)

  -- 20 is then owed to the number asked for
  pub twenty_take : in_range s ≡ true → (take_call s n output).handed.sent ≡ NotSent 20 → s.held < n
  unfolding take_call
  twenty_take e =
      by_test (eqb take_number 0) (λ t. rw t (λ a. absurd (omega (arith, ap sent_number a)))) (λ t. rw t (λ a. take-number s e n output (ap sent_number a)))
