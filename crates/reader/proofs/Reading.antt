-- Laws of a read call: the tests in order, what its reply leaves when it moves, and what bytes lead to.
use mathlib.Core.Path.{◌≡◌, refl, sym, ap, subst, ◌∙◌}
use mathlib.Core.Bool.{Bool, true, false, not}
use mathlib.Core.List.{List}
use Prim.Native.Nat.{ℕ, ◌+◌, ◌-◌, ◌≤◌}
use native.Mathlib.Omega.{arith}
use borrow.Author.Tests.{ne_eqb, eq-eqb}
use lib.Dec.{leb}
use lib.ListN.{length, take}
use lib.Seq.{length-take-le}
use Rattle.base.specs.Tests.{both, first_of}
use Rattle.base.specs.Table.{pick}
use Rattle.base.proofs.Choice.{by_test}
use Rattle.frame.specs.Header.{header_size}
use Rattle.replies.proofs.Encoding.{fits_by}
use Rattle.session.specs.Calls.{stores_short, turn, read, read_tests, flagged, take_bytes, read_on}
use Rattle.session.specs.declared.Answer.{Answer}
use Rattle.session.specs.declared.Answer.TheVariants.{More, Text, Binary, Ping, Pong as PongAnswer, Close as CloseAnswer, Closed, Refused}
use Rattle.session.specs.declared.Settings.{Settings}
use Rattle.session.specs.declared.Turn.{Turn}
use Rattle.session.specs.declared.Incoming.{Incoming}
use Rattle.session.specs.declared.Session.{Session}
use Rattle.session.specs.declared.Waiting.{Waiting}
use Rattle.session.specs.declared.Waiting.TheVariants.{Nothing, Pong, Close}
use Rattle.session.specs.Range.{waits, in_range}
use Rattle.session.specs.Replies.{is_close_reply, reply_code, reply_frame, out, move_reply, Out, Concluded, concluded, conclude}
use Rattle.session.specs.Session.{is_server, is_client, is_peer_closed, with_incoming}
use Rattle.session.specs.Reading.{world, At, after}
use Rattle.reader.specs.Fit.{Shows}
use Rattle.steady.specs.Shape.{Shaped}
use Rattle.steady.proofs.Frames.{Fair}
use Rattle.steady.proofs.InRangeStays.{fed, fed-fine}
use Rattle.steady.proofs.OneCall.{outcome}
use Rattle.steady.proofs.Again.{Room, stores_room}
use Rattle.steady.proofs.Moves.{move_range, move_shaped, move_settings, move_incoming}
use Rattle.steady.proofs.Parts.{in_range_lem}
use Rattle.steady.proofs.Passing.{Passed, read-passed, late_close}

-- ---- the tests
-- the waiting close, measured by its length
close_waits : (k : Waiting) → is_close_reply k ≡ true → waits k ≡ true
close_waits Nothing e = e
close_waits Pong e = refl
close_waits Close e = refl

pub late_by : (s : Session) (mask output : List ℕ) → length mask ≡ 4 → length s.reply.payload ≡ 125 → in_range s ≡ true
    → both (is_server s.settings) (both (is_close_reply s.reply.waiting) (not (leb (header_size (is_client s.settings) s.reply.length + s.reply.length) (length output - s.held))))
    ≡ late_close s mask output
unfolding reply_frame
late_by s mask output four size e =
    by_test (is_close_reply s.reply.waiting)
    (λ t.
    let short : s.reply.length ≤ 125 = (in_range_lem s e).reply_short (close_waits s.reply.waiting t) in
    let whole : length (take s.reply.length s.reply.payload) ≡ s.reply.length = length-take-le s.reply.length s.reply.payload (omega arith) in
    rw (fits_by s.held output (is_client s.settings) (reply_code s.reply.waiting) mask (take s.reply.length s.reply.payload) four, whole))
    (λ t. rw t)

-- the tests before it do not hold: it decides
module _ (s : Session) (mask message control output : List ℕ) (range : in_range s ≡ true) (stores : stores_short s message control output ≡ false) (goes_on : s.state ≡ 4 → ⊥) (unrefused : s.refusal ≡ 0) where
  pub last-test : (late : Bool) → late_close s mask output ≡ late → first_of (read_tests s mask message control output) ≡ pick late 19 0
  unfolding first_of read_tests
  last-test late e = rw (range, stores, ne_eqb s.state 4 goes_on, eq-eqb s.refusal 0 unrefused, e)

-- ---- what a call has, whose tests do not hold
pub record Ready (s : Session) (message control output : List ℕ) : Type 0 where
  pub ranged : in_range s ≡ true
  pub reply_short : waits s.reply.waiting ≡ true → s.reply.length ≤ 125
  pub room : Room s.settings.message s.held message control output

pub ready : (s : Session) (mask message control output : List ℕ) → first_of (read_tests s mask message control output) ≡ 0
    → Ready s message control output
ready s mask message control output e =
    let p : Passed s mask message control output = read-passed s mask message control output e in
    record { ranged = p.ranged; reply_short = (in_range_lem s p.ranged).reply_short; room = stores_room s message control output p.stores }

-- ---- its reply moves: what else the session is stays
module _ (s : Session) (mask output : List ℕ) {t : Session} {o : List ℕ} (moved : out t o ≡ move_reply s mask output) where
  pub moved_range : in_range s ≡ true → in_range t ≡ true
  moved_range e = subst (λ (x : Out). in_range x.session ≡ true) (sym moved) (move_range s mask output e)

  pub moved_shaped : Shaped s → Shaped t
  moved_shaped h = subst (λ (x : Out). Shaped x.session) (sym moved) (move_shaped s mask output h)

  pub moved_limit : t.settings.message ≡ s.settings.message
  moved_limit = ap (λ (x : Out). x.session.settings.message) moved ∙ ap (λ (g : Settings). g.message) (move_settings s mask output)

  pub moved_incoming : t.incoming ≡ s.incoming
  moved_incoming = ap (λ (x : Out). x.session.incoming) moved ∙ move_incoming s mask output

-- ---- what bytes lead to
-- an answer that bytes lead to can be concluded
fair_shows : (a : Answer) → Fair a → Shows a
fair_shows More h = tt
fair_shows (Text n) h = tt
fair_shows (Binary n) h = tt
fair_shows (Ping n) h = h
fair_shows (PongAnswer n) h = h
fair_shows (CloseAnswer n) h = h
fair_shows Closed h = tt
fair_shows (Refused k) h = tt

-- where nothing was done, they lead to what they led to before
pub undone : {s t : Session} (piece : List ℕ) {m c message control : List ℕ} {x : At} → (t ≡ s) × (m ≡ message) × (c ≡ control)
    → x ≡ fed t piece m c → x ≡ fed s piece message control
undone piece e q = q ∙ (λ i. fed (e.0 i) piece (e.1 i) (e.2 i))

pub shows : (s : Session) (piece message control : List ℕ) {i : Incoming} {m c : List ℕ} {a : Answer} {n : ℕ} → after (world i m c a) n ≡ fed s piece message control
    → Shaped s → in_range s ≡ true → Shows a
shows s piece message control {i} {m} {c} {a} come h e =
    fair_shows a (subst (λ (x : At). Fair x.world.answer) (sym come) (fed-fine s piece message control h e).fair)

-- what the answer leaves, and then the flag
pub take_left : (s : Session) (piece message control : List ℕ) {t : Session} {m c : List ℕ} {a : Answer} {n : ℕ}
    → after (world t.incoming m c a) n ≡ fed s piece message control → t ≡ with_incoming s t.incoming
    → (end : Bool) {a' told : Answer} {u v : Session} {c' : List ℕ} → concluded a' u c' ≡ conclude a t c
    → ((k : ℕ) (d : List ℕ) → turn told k v ≡ flagged end (concluded a' u d) k)
    → (output : List ℕ) → read (turn told n v) m c' output ≡ take_bytes s piece end message control output
unfolding take_bytes
take_left s piece message control {t} {m} {c} {a} {n} come rest end {a'} {told} {u} {v} {c'} left flag output =
    ap (λ (x : Turn). read x m c' output) (flag n c')
    ∙ ap (λ (d : Concluded). read (flagged end d n) m d.control output) (left ∙ ap (λ (t : Session). conclude a t c) rest)
    ∙ ap (outcome s end output) come

-- no flag: more is the answer
flag-off : (end : Bool) (t : Session) (k : ℕ) (d : List ℕ) → end ≡ false → turn More k t ≡ flagged end (concluded More t d) k
unfolding flagged
flag-off end t k d e = rw e

-- a piece inside a frame leaves nothing but what has come
pub within_left : (s : Session) (piece : List ℕ) (end : Bool) (message control : List ℕ) {t : Session} {i : Incoming} {m c : List ℕ}
    → (end ≡ false) × (after (world t.incoming m c More) (length piece) ≡ fed s piece message control) → t ≡ with_incoming s i
    → (output : List ℕ) → read (turn More (length piece) t) m c output ≡ take_bytes s piece end message control output
within_left s piece end message control {t} come rest =
    take_left s piece message control come.1 (rest ∙ ap (with_incoming s) (ap (λ (t : Session). t.incoming) (sym rest))) end refl
    (λ k. λ d. flag-off end t k d come.0)

-- ---- a server whose peer has closed, and any other
module _ (s : Session) (piece : List ℕ) (end : Bool) (message control output : List ℕ) where
  pub on_open : both (is_server s.settings) (is_peer_closed s.state) ≡ false
      → take_bytes s piece end message control output ≡ read_on s piece end message control output
  unfolding read_on
  on_open t = rw t
