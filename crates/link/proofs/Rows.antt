-- Turns beside their answers, and what is shown of a run of them: that it meets what demand 3 supposes, and what it leaves.
use mathlib.Core.Path.{◌≡◌, refl}
use mathlib.Core.Bool.{Bool, true, false, not}
use mathlib.Core.List.{List, [], ◌∷◌}
use Prim.Native.Nat.{ℕ, ◌≤◌}
use lib.Dec.{eqb, leb, leb→le}
use lib.ListN.{length, replicate}
use borrow.Author.Tests.{leb-true, eqb-true, not-true}
use Rattle.base.specs.Table.{pick}
use Rattle.base.specs.Tests.{both, either, Test, ◌when◌, first_of}
use Rattle.session.proofs.Choices.{both-parts}
use Rattle.session.specs.Calls.{stores_short, Read, turn, read, read_tests, read_call, Sending, waits_call, take_call}
use Rattle.session.specs.declared.Answer.{Answer}
use Rattle.session.specs.declared.Answer.TheVariants.{Refused}
use Rattle.session.specs.declared.Waiting.{Waiting}
use Rattle.session.specs.declared.Waiting.TheVariants.{Nothing}
use Rattle.session.specs.declared.Session.{Session}
use Rattle.session.specs.Range.{limits_hold, in_range}
use Rattle.session.specs.Refusals.{Sent, Done, Refused as NotSent}
use Rattle.session.specs.Session.{is_terminated}
use Rattle.steady.proofs.Headers.{never}
use Rattle.steady.specs.Taking.{is_done}
use Rattle.link.specs.Demand.{Fit, Allowed, AllowedTurn, AllAllowed, Still, AtRest}
use Rattle.link.specs.System.{Item, End, Side, System, Keys, Lends, Act, send_text, send_binary, send_ping, send_pong, send_close, takes, reads, cuts, text_to, binary_to, ping_to, pong_to, close_to, offered, ended, read_by, swap, Turn, on_left, on_right, next, run, outset}

-- ---- the two ends: limits that differ, and the least stores. An output store of 131 bytes is full with one frame of a client's 125 bytes,
-- or of a server's 127
unfoldable pub client : Lends
client =
    record {
      frame = 300;
      message = 300;
      unmasked = false;
      message_store = replicate 300 0;
      control_store = replicate 125 0;
      output_store = replicate 131 0;
    }

unfoldable pub server : Lends
server =
    record {
      frame = 125;
      message = 125;
      unmasked = false;
      message_store = replicate 125 0;
      control_store = replicate 125 0;
      output_store = replicate 131 0;
    }

pub client_fit : Fit client
unfolding client limits_hold
client_fit =
    record { limits = refl; wide = leb→le _ _ tt; message_room = leb→le _ _ tt; control_room = leb→le _ _ tt; output_room = leb→le _ _ tt }

pub server_fit : Fit server
unfolding server limits_hold
server_fit =
    record { limits = refl; wide = leb→le _ _ tt; message_room = leb→le _ _ tt; control_room = leb→le _ _ tt; output_room = leb→le _ _ tt }

unfoldable pub start : System
start = outset client server

-- ---- what a turn is answered: a sending call and a take, that it is done or the number that refuses it; a read, its answer and the bytes
-- taken. A cut is no call
pub data Told : Type 0 where
  says : Sent → Told
  gives : Answer → ℕ → Told
  silent : Told

abbrev pub told_by : System → Act → Told
told_by s (send_text p k) = says (text_to s.left.end p k).handed.sent
told_by s (send_binary p k) = says (binary_to s.left.end p k).handed.sent
told_by s (send_ping p k) = says (ping_to s.left.end p k).handed.sent
told_by s (send_pong p k) = says (pong_to s.left.end p k).handed.sent
told_by s (send_close code reason k) = says (close_to s.left.end code reason k).handed.sent
told_by s (takes n) = says (take_call s.left.end.session n s.left.end.output).handed.sent
told_by s (reads n flag k) =
    gives (read_by s.left s.right n flag k).turn.answer (read_by s.left s.right n flag k).turn.taken
told_by s (cuts n) = silent

abbrev pub told_at : System → Turn → Told
told_at s (on_left a) = told_by s a
told_at s (on_right a) = told_by (swap s) a

unfoldable pub told_all : System → List Turn → List Told
told_all s [] = []
told_all s (t ∷ ts) = told_at s t ∷ told_all (next s t) ts

-- ---- a turn beside its answer
pub data Row : Type 0 where
  ◌⇒◌ : Turn → Told → Row

infix 20 ◌⇒◌
unfoldable pub turns_of : List Row → List Turn
turns_of [] = []
turns_of ((t ⇒ a) ∷ rows) = t ∷ turns_of rows

unfoldable pub answers_of : List Row → List Told
answers_of [] = []
answers_of ((t ⇒ a) ∷ rows) = a ∷ answers_of rows

unfoldable pub after : List Row → System
after rows = run start (turns_of rows)

-- the words of a run. A client's masks are these in every call; a server ignores its own
abbrev pub key : Keys
key =
    record { first = record { a = 0x37; b = 0xfa; c = 0x21; d = 0x3d }; second = record { a = 0x01; b = 0x02; c = 0x03; d = 0x04 } }

abbrev pub by_client : Act → Told → Row
by_client a t = on_left a ⇒ t

abbrev pub by_server : Act → Told → Row
by_server a t = on_right a ⇒ t

-- a read that is offered all that is on the pipe; and the same with the end flag, where the pipe ends
abbrev pub reads_all : Act
reads_all = reads 1000 false key

abbrev pub reads_to_end : Act
reads_to_end = reads 1000 true key

abbrev pub accepted : Told
accepted = says Done

abbrev pub refused : ℕ → Told
refused n = says (NotSent n)

-- ---- what a run leaves of a side: what its calls have answered, where its session stands, and what is on the pipe out of it
pub record Left : Type 0 where
  pub accepted : List Item
  pub handed : List Item
  pub said : Bool
  pub asked : Bool
  pub state : ℕ
  pub held : ℕ
  pub waiting : Waiting
  pub pipe : List ℕ

unfoldable pub left_of : Side → Left
left_of x =
    record {
      accepted = x.answers.accepted;
      handed = x.answers.handed;
      said = x.answers.said;
      asked = x.answers.asked;
      state = x.end.session.state;
      held = x.end.session.held;
      waiting = x.end.session.reply.waiting;
      pipe = x.pipe.bytes;
    }

abbrev pub active : ℕ
active = 0

abbrev pub terminated : ℕ
terminated = 4

-- it said closed, and all is taken and read
abbrev pub closed_with : List Item → List Item → Bool → Left
closed_with accepted handed asked =
    record {
      accepted = accepted;
      handed = handed;
      said = true;
      asked = asked;
      state = terminated;
      held = 0;
      waiting = Nothing;
      pipe = [];
    }

-- it is in this state, no end has closed, and all is taken and read
abbrev pub unclosed : ℕ → List Item → List Item → Left
unclosed state accepted handed =
    record {
      accepted = accepted;
      handed = handed;
      said = false;
      asked = false;
      state = state;
      held = 0;
      waiting = Nothing;
      pipe = [];
    }

-- ---- whether each turn is one that demand 3 supposes, as a test
abbrev pub fits_other : End → Sending → List ℕ → Bool
fits_other other u p =
    either (not (is_done u.handed.sent))
    (both (leb (length p) other.session.settings.frame) (leb (length p) other.session.settings.message))

abbrev pub none_waits : End → Sending → Bool
none_waits e u = either (not (is_done u.handed.sent)) (not (waits_call e.session))

abbrev pub is_allowed : System → Act → Bool
is_allowed s (send_text p k) = fits_other s.right.end (text_to s.left.end p k) p
is_allowed s (send_binary p k) = fits_other s.right.end (binary_to s.left.end p k) p
is_allowed s (send_ping p k) = true
is_allowed s (send_pong p k) = true
is_allowed s (send_close code reason k) = none_waits s.left.end (close_to s.left.end code reason k)
is_allowed s (takes n) = true
is_allowed s (reads n flag k) = true
is_allowed s (cuts n) = true

abbrev pub is_allowed_turn : System → Turn → Bool
is_allowed_turn s (on_left a) = is_allowed s a
is_allowed_turn s (on_right a) = is_allowed (swap s) a

unfoldable pub are_allowed : System → List Turn → Bool
are_allowed s [] = true
are_allowed s (t ∷ ts) = both (is_allowed_turn s t) (are_allowed (next s t) ts)

-- a run that passes it is as demand 3 supposes
within-limits : (accepted : Bool) (n frame message : ℕ) → either (not accepted) (both (leb n frame) (leb n message)) ≡ true → accepted ≡ true
    → (n ≤ frame) × (n ≤ message)
within-limits true n frame message t e =
    let w : (leb n frame ≡ true) × (leb n message ≡ true) = both-parts (leb n frame) (leb n message) t in
    (leb-true n frame w.0, leb-true n message w.1)
within-limits false n frame message t e = never e refl

nothing_waits : (accepted waits : Bool) → either (not accepted) (not waits) ≡ true → accepted ≡ true → waits ≡ false
nothing_waits true waits t e = not-true waits t
nothing_waits false waits t e = never e refl

act_allowed : (s : System) (a : Act) → is_allowed s a ≡ true → Allowed s a
act_allowed s (send_text p k) t =
    within-limits (is_done (text_to s.left.end p k).handed.sent) (length p) s.right.end.session.settings.frame
    s.right.end.session.settings.message t
act_allowed s (send_binary p k) t =
    within-limits (is_done (binary_to s.left.end p k).handed.sent) (length p) s.right.end.session.settings.frame
    s.right.end.session.settings.message t
act_allowed s (send_ping p k) t = tt
act_allowed s (send_pong p k) t = tt
act_allowed s (send_close code reason k) t =
    nothing_waits (is_done (close_to s.left.end code reason k).handed.sent) (waits_call s.left.end.session) t
act_allowed s (takes n) t = tt
act_allowed s (reads n flag k) t = tt
act_allowed s (cuts n) t = tt

turn-allowed : (s : System) (x : Turn) → is_allowed_turn s x ≡ true → AllowedTurn s x
turn-allowed s (on_left a) t = act_allowed s a t
turn-allowed s (on_right a) t = act_allowed (swap s) a t

pub all_allowed : (s : System) (turns : List Turn) → are_allowed s turns ≡ true → AllAllowed s turns
unfolding are_allowed AllAllowed
all_allowed s [] t = tt
all_allowed s (x ∷ xs) t =
    let w : (is_allowed_turn s x ≡ true) × (are_allowed (next s x) xs ≡ true) = both-parts (is_allowed_turn s x) (are_allowed (next s x) xs) t in
    (turn-allowed s x w.0, all_allowed (next s x) xs w.1)

-- ---- what is shown of a run: its turns are as demand 3 supposes, each is answered as is written beside it, and they leave this of the
-- client and this of the server
pub record Shows (rows : List Row) (of-client of-server : Left) : Type 0 where
  pub allowed : AllAllowed start (turns_of rows)
  pub answers : told_all start (turns_of rows) ≡ answers_of rows
  pub at_client : left_of (after rows).left ≡ of-client
  pub at_server : left_of (after rows).right ≡ of-server

pub shows : {rows : List Row} {of-client of-server : Left} → are_allowed start (turns_of rows) ≡ true
    → told_all start (turns_of rows) ≡ answers_of rows → left_of (after rows).left ≡ of-client → left_of (after rows).right ≡ of-server
    → Shows rows of-client of-server
shows {rows} t answers at_client at_server =
    record { allowed = all_allowed start (turns_of rows) t; answers = answers; at_client = at_client; at_server = at_server }

-- ---- a system at rest, as a test: both ends are over. A session that is over answers every read with 2, whatever the masks
abbrev pub is_over : End → Bool
is_over e =
    both (in_range e.session)
    (both (not (stores_short e.session e.message e.control e.output)) (is_terminated e.session.state))

abbrev pub is_taken : Side → Bool
is_taken x = both (not x.pipe.cut) (both (eqb x.end.session.held 0) (is_over x.end))

unfoldable pub is_at_rest : System → Bool
is_at_rest s = both (either s.left.answers.asked s.right.answers.asked) (both (is_taken s.left) (is_taken s.right))

gives_2 : (inside short over : Bool) (more : List Test) → both inside (both (not short) over) ≡ true
    → first_of ((20 when not inside) ∷ (1 when short) ∷ (2 when over) ∷ more) ≡ 2
unfolding first_of
gives_2 true false true more t = refl
gives_2 true false false more t = never t refl
gives_2 true true over more t = never t refl
gives_2 false short over more t = never t refl

unchanged : {n : ℕ} (r : Read) (s : Session) (m c o : List ℕ) → n ≡ 2
    → ((pick (eqb n 0) r (read (turn (Refused n) 0 s) m c o)).turn.session ≡ s)
    × ((pick (eqb n 0) r (read (turn (Refused n) 0 s) m c o)).turn.taken ≡ 0)
unchanged r s m c o e = rw e (refl, refl)

over_still : (x y : Side) → is_over x.end ≡ true → Still x y
unfolding read_call read_tests
over_still x y t =
    let same : (k : Keys) → ((offered x.end y.pipe.bytes (ended y) k).turn.session ≡ x.end.session)
    × ((offered x.end y.pipe.bytes (ended y) k).turn.taken ≡ 0) =
    λ k.
    unchanged _ x.end.session x.end.message x.end.control x.end.output
    (gives_2 (in_range x.end.session) (stores_short x.end.session x.end.message x.end.control x.end.output)
    (is_terminated x.end.session.state) _ t) in
    record { session = λ k. (same k).0; taken = λ k. (same k).1 }

taken-parts : (x : Side) → is_taken x ≡ true → (x.pipe.cut ≡ false) × (x.end.session.held ≡ 0) × (is_over x.end ≡ true)
taken-parts x t =
    let w : (not x.pipe.cut ≡ true) × (both (eqb x.end.session.held 0) (is_over x.end) ≡ true) =
    both-parts (not x.pipe.cut) (both (eqb x.end.session.held 0) (is_over x.end)) t in
    let v : (eqb x.end.session.held 0 ≡ true) × (is_over x.end ≡ true) =
    both-parts (eqb x.end.session.held 0) (is_over x.end) w.1 in
    (not-true x.pipe.cut w.0, eqb-true x.end.session.held 0 v.0, v.1)

pub at_rest : (s : System) → is_at_rest s ≡ true → AtRest s
unfolding is_at_rest
at_rest s t =
    let w : (either s.left.answers.asked s.right.answers.asked ≡ true) × (both (is_taken s.left) (is_taken s.right) ≡ true) =
    both-parts (either s.left.answers.asked s.right.answers.asked) (both (is_taken s.left) (is_taken s.right)) t in
    let sides : (is_taken s.left ≡ true) × (is_taken s.right ≡ true) = both-parts (is_taken s.left) (is_taken s.right) w.1 in
    let l : (s.left.pipe.cut ≡ false) × (s.left.end.session.held ≡ 0) × (is_over s.left.end ≡ true) =
    taken-parts s.left sides.0 in
    let r : (s.right.pipe.cut ≡ false) × (s.right.end.session.held ≡ 0) × (is_over s.right.end ≡ true) =
    taken-parts s.right sides.1 in
    record {
      asked = w.0;
      whole_left = l.0;
      whole_right = r.0;
      all_left = l.1;
      all_right = r.1;
      still_left = over_still s.left s.right l.2;
      still_right = over_still s.right s.left r.2;
    }
