-- Laws of a read call once its reply has moved: what a quiet answer leaves, and the flag.
use mathlib.Core.Path.{◌≡◌, refl, ap, ap₂, ◌∙◌}
use mathlib.Core.Bool.{Bool, true, false, not}
use mathlib.Core.List.{List}
use Prim.Native.Nat.{ℕ}
use borrow.Author.Tests.{not-true}
use lib.ListN.{length}
use Rattle.base.specs.Tests.{both}
use Rattle.session.specs.declared.Answer.{Answer}
use Rattle.session.specs.declared.Answer.TheVariants.{More, Text, Binary, Ping, Pong, Close, Closed, Refused}
use Rattle.session.specs.declared.Incoming.{Incoming}
use Rattle.session.specs.declared.Session.{Session}
use Rattle.session.specs.declared.Turn.{Turn}
use Rattle.session.specs.Calls.{turn, read, flagged, take_bytes, read_on}
use Rattle.session.specs.Reading.{world, At, after, is_more}
use Rattle.session.specs.Replies.{Concluded, concluded, conclude}
use Rattle.session.specs.Session.{is_server, is_peer_closed, with_state, with_incoming}
use Rattle.session.proofs.Choices.{both-none}
use Rattle.steady.proofs.Feeding.{fed-sizes}
use Rattle.steady.proofs.InRangeStays.{fed}
use Rattle.steady.proofs.OneCall.{outcome}
use Rattle.reader.specs.Whole.{flag_answer, flag_state}
use Rattle.reader.proofs.Flags.{flag_parts}

-- ---- the flag: acted on where there was no event, else not
module _ (end : Bool) (a : Answer) (state : ℕ) where
  pub flag_closed : end ≡ true → is_more a ≡ true → is_peer_closed state ≡ true → (Closed ≡ flag_answer end a state) × (4 ≡ flag_state end a state)
  unfolding flag_answer flag_state
  flag_closed e m p = rw (e, m, p) (refl, refl)

  pub flag_early : end ≡ true → is_more a ≡ true → is_peer_closed state ≡ false → (Refused 16 ≡ flag_answer end a state) × (4 ≡ flag_state end a state)
  unfolding flag_answer flag_state
  flag_early e m p = rw (e, m, p) (refl, refl)

  pub flag_event : is_more a ≡ false → (a ≡ flag_answer end a state) × (state ≡ flag_state end a state)
  unfolding flag_answer flag_state
  flag_event m = rw (m, both-none end) (refl, refl)

  pub flag_off : end ≡ false → (a ≡ flag_answer end a state) × (state ≡ flag_state end a state)
  unfolding flag_answer flag_state
  flag_off e = rw e (refl, refl)

-- an answer that leaves nothing but what has come: no reply, no refusal, no end
abbrev pub is_quiet : Answer → Bool → Bool
is_quiet More end = not end
is_quiet (Text n) end = true
is_quiet (Binary n) end = true
is_quiet (Pong n) end = true
is_quiet (Ping n) end = false
is_quiet (Close n) end = false
is_quiet Closed end = false
is_quiet (Refused n) end = false

-- what an answer leaves once the flag is looked at: the turn, and the control store
pub record Left : Type 0 where
  pub turn : Turn
  pub control : List ℕ

abbrev pub leaves : Turn → List ℕ → Left
leaves t c = record { turn = t; control = c }

unfoldable pub left_by : Session → Answer → List ℕ → Bool → ℕ → Left
left_by s a control end n = leaves (flagged end (conclude a s control) n) (conclude a s control).control

-- ---- what an answer leaves, by what concluding and the flag promise
pub left_done : (s : Session) (a : Answer) (c : List ℕ) (end : Bool) (n : ℕ) {c' : List ℕ} {a' told : Answer} {u : Session} {state : ℕ}
    → concluded a' u c' ≡ conclude a s c → told ≡ flag_answer end a' u.state → state ≡ flag_state end a' u.state
    → leaves (turn told n (with_state u state)) c' ≡ left_by s a c end n
unfolding left_by
left_done s a c end n {c'} {a'} {told} {u} {state} left p q =
    (λ j. leaves (turn (p j) n (with_state u (q j))) c')
    ∙ ap (λ (t : Turn). leaves t c') (flag_parts end (concluded a' u c') n)
    ∙ ap (λ (d : Concluded). leaves (flagged end d n) d.control) left

-- a quiet answer leaves session and store as they are
pub quiet_left : (s : Session) (a : Answer) (c : List ℕ) (end : Bool) (n : ℕ) → is_quiet a end ≡ true → leaves (turn a n s) c ≡ left_by s a c end n
quiet_left s More c end n h = let off : end ≡ false = not-true end h in left_done s More c end n refl (flag_off end More s.state off).0 (flag_off end More s.state off).1
quiet_left s (Text k) c end n h = left_done s (Text k) c end n refl (flag_event end (Text k) s.state refl).0 (flag_event end (Text k) s.state refl).1
quiet_left s (Binary k) c end n h = left_done s (Binary k) c end n refl (flag_event end (Binary k) s.state refl).0 (flag_event end (Binary k) s.state refl).1
quiet_left s (Pong k) c end n h = left_done s (Pong k) c end n refl (flag_event end (Pong k) s.state refl).0 (flag_event end (Pong k) s.state refl).1
quiet_left s (Ping k) c end n h = cc
quiet_left s (Close k) c end n h = cc
quiet_left s Closed c end n h = cc
quiet_left s (Refused k) c end n h = cc

-- ---- stores that nothing was done to are as they were
pub fed-same : (s : Session) (piece : List ℕ) {x : At} {m c message control : List ℕ} → x ≡ fed s piece m c → (m ≡ message) × (c ≡ control) → x ≡ fed s piece message control
fed-same s piece e h = e ∙ ap₂ (fed s piece) h.0 h.1

module _ (s : Session) (piece message control : List ℕ) {i : Incoming} {m c : List ℕ} {a : Answer} {n : ℕ} (come : after (world i m c a) n ≡ fed s piece message control) where
  pub same_control : length c ≡ length control
  same_control =
      ap (λ (x : At). length x.world.control) come
      ∙ (fed-sizes s.settings s.state (world s.incoming message control More) piece).control

  -- ---- from what taking promises, and what the answer leaves
  pub take_left : (end : Bool) {t : Turn} {c' : List ℕ} → leaves t c' ≡ left_by (with_incoming s i) a c end n
      → (output : List ℕ) → read t m c' output ≡ take_bytes s piece end message control output
  unfolding take_bytes left_by
  take_left end left output = ap (λ (x : Left). read x.turn m x.control output) left ∙ ap (λ (x : At). outcome s end output x) come

  -- a quiet answer leaves nothing but what has come
  pub take-quiet : (end : Bool) → is_quiet a end ≡ true → (output : List ℕ) → read (turn a n (with_incoming s i)) m c output ≡ take_bytes s piece end message control output
  take-quiet end h = take_left end (quiet_left (with_incoming s i) a c end n h)

-- ---- a server whose peer has closed, and any other
module _ (s : Session) (piece : List ℕ) (end : Bool) (message control output : List ℕ) where
  pub on_closed : both (is_server s.settings) (is_peer_closed s.state) ≡ true
      → read (turn Closed 0 (with_state s 4)) message control output ≡ read_on s piece end message control output
  unfolding read_on
  on_closed t = rw t
