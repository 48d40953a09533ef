-- Taking output between the calls changes the waiting reply and what is put out, and nothing else.
use mathlib.Core.Path.{◌≡◌, refl, sym, ap, ◌∙◌}
use mathlib.Core.Bool.{Bool, true, false, not}
use mathlib.Core.List.{List, [], ◌∷◌}
use Prim.Native.Nat.{ℕ}
use lib.Dec.{eqb}
use borrow.Author.Tests.{eqb-true}
use Rattle.base.specs.Table.{pick}
use Rattle.base.specs.Tests.{both, Test, ◌when◌, first_of}
use Rattle.base.proofs.Choice.{by_test}
use Rattle.session.specs.declared.Answer.{Answer}
use Rattle.session.specs.declared.Answer.TheVariants.{More, Text, Binary, Ping, Pong, Close, Closed, Refused}
use Rattle.session.specs.declared.Masks.{Masks}
use Rattle.session.specs.declared.Session.{Session}
use Rattle.session.specs.declared.Turn.{Turn}
use Rattle.session.specs.Calls.{stores_short, Read, turn, read, read_tests, flagged, take_bytes, read_on, read_call, take_tests, take_call}
use Rattle.session.specs.Range.{in_range}
use Rattle.session.specs.Reading.{At, is_more}
use Rattle.session.specs.Replies.{Out, move_reply, close_came, ping_came, Concluded, concluded, conclude}
use Rattle.session.specs.Session.{is_server, is_active, is_closed_by_us, is_peer_closed, is_terminated, with_incoming}
use Rattle.steady.specs.Taking.{apart, apart_read, hindered}
use Rattle.steady.proofs.Headers.{never}
use Rattle.steady.proofs.InRangeStays.{fed}
use Rattle.steady.proofs.Moves.{by_move}
use Rattle.steady.proofs.Passing.{late_close}

-- ---- what an event leaves
abbrev apart_turn : Turn → Turn
apart_turn t = turn t.answer t.taken (apart t.session)

abbrev apart_end : Concluded → Concluded
apart_end d = concluded d.answer (apart d.session) d.control

ping_apart : (s : Session) (control : List ℕ) (n : ℕ) → apart_end (ping_came s control n) ≡ apart_end (ping_came (apart s) control n)
unfolding ping_came apart
ping_apart s control n = by_test (is_active s.state) (λ t. rw t) (λ t. rw t)

close_apart : (s : Session) (control : List ℕ) (n : ℕ) → apart_end (close_came s control n) ≡ apart_end (close_came (apart s) control n)
unfolding close_came apart
close_apart s control n =
    by_test (is_active s.state) (λ t. rw t) (λ t. by_test (is_closed_by_us s.state) (λ u. rw (t, u)) (λ u. rw (t, u)))

conclude-apart : (a : Answer) (s : Session) (control : List ℕ) → apart_end (conclude a s control) ≡ apart_end (conclude a (apart s) control)
unfolding apart
conclude-apart More s control = refl
conclude-apart (Text n) s control = refl
conclude-apart (Binary n) s control = refl
conclude-apart (Ping n) s control = ping_apart s control n
conclude-apart (Pong n) s control = refl
conclude-apart (Close n) s control = close_apart s control n
conclude-apart Closed s control = refl
conclude-apart (Refused k) s control = refl

flagged-apart : (end : Bool) (d : Concluded) (n : ℕ) → apart_turn (flagged end d n) ≡ apart_turn (flagged end (apart_end d) n)
unfolding flagged apart
flagged-apart end d n = by_test (both end (is_more d.answer)) (λ t. rw t) (λ t. rw t)

-- ---- bytes are taken
module _ (s : Session) (piece : List ℕ) (end : Bool) (message control output : List ℕ) where
  bytes_apart : apart_read (take_bytes s piece end message control output) ≡ apart_read (take_bytes (apart s) piece end message control [])
  unfolding take_bytes apart_read apart
  bytes_apart =
      let x : At = fed s piece message control in
      let d : Session → Concluded = λ u. conclude x.world.answer (with_incoming u x.world.incoming) x.world.control in
      ap (λ (t : Turn). read t x.world.message (d s).control []) (flagged-apart end (d s) x.taken)
      ∙ ap (λ (k : Concluded). read (apart_turn (flagged end k x.taken)) x.world.message k.control [])
      (conclude-apart x.world.answer (with_incoming s x.world.incoming) x.world.control)
      ∙ sym (ap (λ (t : Turn). read t x.world.message (d (apart s)).control []) (flagged-apart end (d (apart s)) x.taken))

  on_apart : apart_read (read_on s piece end message control output) ≡ apart_read (read_on (apart s) piece end message control [])
  unfolding read_on apart_read apart
  on_apart =
      by_test (both (is_server s.settings) (is_peer_closed s.state)) (λ t. rw t) (λ t. rw t bytes_apart)

-- ---- the tests of a call that is not hindered: those of the state and of the refusal
abbrev pub calm_tests : ℕ → ℕ → List Test
calm_tests state refusal = (2 when is_terminated state) ∷ (refusal when not (eqb refusal 0)) ∷ []

calm_number : (a b c t e : Bool) (k : ℕ) → hindered (Refused (pick a 20 (pick b 1 (pick c 2 (pick t k (pick e 19 0)))))) ≡ false
    → pick a 20 (pick b 1 (pick c 2 (pick t k (pick e 19 0)))) ≡ pick c 2 (pick t k 0)
unfolding hindered
calm_number true b c t e k h = never refl h
calm_number false true c t e k h = never refl h
calm_number false false true t e k h = refl
calm_number false false false true e k h = refl
calm_number false false false false true k h = never refl h
calm_number false false false false false k h = refl

-- a call on the session apart, with no output and no reply
abbrev pub calm : Session → List ℕ → Bool → List ℕ → List ℕ → Read
calm s piece end message control =
    let n : ℕ = first_of (calm_tests s.state s.refusal) in
    pick (eqb n 0) (apart_read (read_on s piece end message control [])) (read (turn (Refused n) 0 s) message control [])

module _ (s : Session) (masks : Masks) (message control output : List ℕ) where
  abbrev pub number : ℕ
  number = first_of (read_tests s masks.first message control output)

  abbrev v : Out
  v = move_reply s masks.first output

  move_apart : apart v.session ≡ apart s
  unfolding apart
  move_apart = by_move (λ u. apart u ≡ apart s) s masks.first output (λ n. refl) refl

  clear_number : hindered (Refused number) ≡ false → number ≡ first_of (calm_tests s.state s.refusal)
  unfolding read_tests first_of
  clear_number =
      calm_number (not (in_range s)) (stores_short s message control output) (is_terminated s.state) (not (eqb s.refusal 0))
      (late_close s masks.first output) s.refusal

  module _ (piece : List ℕ) (end : Bool) where
    abbrev call : Read
    call = read_call s piece end masks message control output

    -- what is refused by no test is refused by none of these numbers
    pub answer_number : (P : Answer → Bool) → P (Refused 0) ≡ false → P call.turn.answer ≡ false → P (Refused number) ≡ false
    unfolding read_call
    answer_number P z = by_test (eqb number 0) (λ t h. ap (λ (k : ℕ). P (Refused k)) (eqb-true number 0 t) ∙ z) (λ t. rw t (λ h. h))

    pub number_calm : number ≡ first_of (calm_tests s.state s.refusal) → apart_read call ≡ calm (apart s) piece end message control
    unfolding read_call apart_read apart
    number_calm e =
        let n : ℕ = first_of (calm_tests s.state s.refusal) in
        let on : Read = read_on v.session piece end message control v.output in
        ap (λ (k : ℕ). apart_read (pick (eqb k 0) on (read (turn (Refused k) 0 s) message control output))) e
        ∙ by_test (eqb n 0)
        (λ t.
        rw t
        (on_apart v.session piece end message control v.output
        ∙ ap (λ (u : Session). apart_read (read_on u piece end message control [])) move_apart))
        (λ t. rw t)

    call_calm : hindered call.turn.answer ≡ false → apart_read call ≡ calm (apart s) piece end message control
    unfolding hindered
    call_calm h = number_calm (clear_number (answer_number hindered refl h))

-- ---- one call: whatever waits, is held or was taken
pub taking_one_call : (s u : Session) (piece : List ℕ) (end : Bool) (masks others : Masks) (message control output another : List ℕ)
    → apart s ≡ apart u → hindered (read_call s piece end masks message control output).turn.answer ≡ false
    → hindered (read_call u piece end others message control another).turn.answer ≡ false
    → apart_read (read_call s piece end masks message control output) ≡ apart_read (read_call u piece end others message control another)
taking_one_call s u piece end masks others message control output another e h k =
    call_calm s masks message control output piece end h
    ∙ ap (λ (t : Session). calm t piece end message control) e
    ∙ sym (call_calm u others message control another piece end k)

pub taking_keeps : (s : Session) (n : ℕ) (output : List ℕ) → apart (take_call s n output).handed.session ≡ apart s
unfolding take_call apart
taking_keeps s n output = by_test (eqb (first_of (take_tests s n output)) 0) (λ t. rw t) (λ t. rw t)
