-- The sizes of the stores and the count of held bytes over read calls and takes: a run whose stores are not short stays so.
use mathlib.Core.Path.{◌≡◌, refl, ap, ◌∙◌}
use mathlib.Core.Bool.{Bool, true, false}
use mathlib.Core.List.{List}
use Prim.Native.Nat.{ℕ, ◌+◌, ◌-◌, ◌≤◌}
use native.Mathlib.Omega.{arith}
use lib.Dec.{eqb}
use lib.ListN.{length, take}
use borrow.Author.Tests.{eq-eqb, le-leb, leb-true}
use Rattle.base.specs.Bytes.{part}
use Rattle.base.specs.Table.{pick}
use Rattle.base.specs.Tests.{both, first_of}
use Rattle.base.proofs.Choice.{by_test}
use Rattle.base.proofs.Stores.{length-laid}
use Rattle.frame.specs.Close.{close_of}
use Rattle.frame.specs.Header.{plain_size, header_size}
use Rattle.session.specs.declared.Answer.{Answer}
use Rattle.session.specs.declared.Answer.TheVariants.{More, Text, Binary, Ping, Pong, Close, Closed, Refused}
use Rattle.session.specs.declared.Masks.{Masks}
use Rattle.session.specs.declared.Session.{Session}
use Rattle.session.specs.declared.Settings.{Settings}
use Rattle.session.specs.declared.Waiting.{Waiting}
use Rattle.session.specs.declared.Waiting.TheVariants.{Nothing, Pong as PongReply, Close as CloseReply}
use Rattle.session.specs.Calls.{Read, read_tests, flagged, take_bytes, read_on, read_call, take_tests, take_call}
use Rattle.session.specs.Range.{waits, in_range}
use Rattle.session.specs.Reading.{world, At, is_more}
use Rattle.session.specs.Replies.{fits, is_close_reply, reply_code, reply_frame, Out, appended, move_reply, code_allowed, shown_control, close_came, ping_came, Concluded, conclude}
use Rattle.session.specs.Session.{is_server, is_client, is_active, is_peer_closed, with_incoming}
use Rattle.session.proofs.Choices.{both-none, both-parts}
use Rattle.steady.specs.Cutting.{Run, landed, behind, call_at, read_once}
use Rattle.steady.specs.Shape.{Shaped}
use Rattle.steady.specs.Taking.{taken_run}
use Rattle.steady.proofs.Again.{length-encoded, Room}
use Rattle.steady.proofs.Feeding.{fed-sizes}
use Rattle.steady.proofs.InRangeStays.{fed, range_stays_read, shape_stays_read, range_stays_take, shape_stays_take}
use Rattle.steady.proofs.Moves.{length-take_most, move_settings}
use Rattle.steady.proofs.OneCall.{conclude-same}
use Rattle.steady.proofs.Parts.{in_range_lem}
use Rattle.steady.proofs.Passing.{late_close}

-- ---- what bytes leave
record Stays (s : Session) (m c o : List ℕ) (r : Read) : Type 0 where
  settings : r.turn.session.settings ≡ s.settings
  held : r.turn.session.held ≡ s.held
  message : length r.message ≡ length m
  control : length r.control ≡ length c
  output : length r.output ≡ length o

close_size : (s : Session) (control : List ℕ) (n : ℕ) → length (close_came s control n).control ≡ length control
unfolding close_came shown_control
close_size s control n =
    by_test (is_active s.state)
    (λ t. by_test (code_allowed (close_of (take n control))) (λ u. rw (t, u)) (λ u. rw (t, u) (length-laid control 0 _))) (λ t. rw t)

conclude-size : (a : Answer) (s : Session) (control : List ℕ) → length (conclude a s control).control ≡ length control
unfolding ping_came
conclude-size More s control = refl
conclude-size (Text n) s control = refl
conclude-size (Binary n) s control = refl
conclude-size (Ping n) s control = refl
conclude-size (Pong n) s control = refl
conclude-size (Close n) s control = close_size s control n
conclude-size Closed s control = refl
conclude-size (Refused k) s control = refl

flagged-same : (end : Bool) (d : Concluded) (n : ℕ)
    → ((flagged end d n).session.settings ≡ d.session.settings) × ((flagged end d n).session.held ≡ d.session.held)
unfolding flagged
flagged-same end d n = by_test (both end (is_more d.answer)) (λ t. rw t (refl, refl)) (λ t. rw t (refl, refl))

on_stays : (s : Session) (piece : List ℕ) (end : Bool) (message control output : List ℕ)
    → Stays s message control output (read_on s piece end message control output)
unfolding read_on take_bytes
on_stays s piece end message control output =
    let x : At = fed s piece message control in
    let u : Session = with_incoming s x.world.incoming in
    let d : Concluded = conclude x.world.answer u x.world.control in
    let flag = flagged-same end d x.taken in
    let same = conclude-same x.world.answer u x.world.control in
    let sizes = fed-sizes s.settings s.state (world s.incoming message control More) piece in
    by_test (both (is_server s.settings) (is_peer_closed s.state))
    (λ t. rw t (record { settings = refl; held = refl; message = refl; control = refl; output = refl }))
    (λ t.
    rw t
    (record {
      settings = flag.0 ∙ same.0;
      held = flag.1 ∙ same.2;
      message = sizes.message;
      control = conclude-size x.world.answer u x.world.control ∙ sizes.control;
      output = refl;
    }))

-- ---- a reply that moves
abbrev pub Short : Session → Type 0
Short s = waits s.reply.waiting ≡ true → s.reply.length ≤ 125

size_small : (client : Bool) (n : ℕ) → n ≤ 125 → header_size client n ≤ 6
unfolding header_size plain_size
size_small client n h = rw (le-leb n 125 h) (go client)
  where
    go : (t : Bool) → 2 + pick t 4 0 ≤ 6
    go true = omega arith
    go false = omega arith

-- its frame has at most 131 bytes
pub reply_small : (s : Session) (mask : List ℕ) → length mask ≡ 4 → s.reply.length ≤ 125 → length (reply_frame s mask) ≤ 131
unfolding reply_frame
reply_small s mask e h =
    let p : List ℕ = take s.reply.length s.reply.payload in
    let few : length p ≤ s.reply.length = length-take_most s.reply.length s.reply.payload in
    omega (arith, length-encoded (is_client s.settings) (reply_code s.reply.waiting) mask p e, size_small (is_client s.settings) (length p) (omega arith))

module _ (s : Session) (mask output : List ℕ) where
  abbrev v : Out
  v = move_reply s mask output

  abbrev moves : Bool
  moves = both (waits s.reply.waiting) (fits s.held output (reply_frame s mask))

  move_size : length v.output ≡ length output
  unfolding move_reply appended
  move_size = by_test moves (λ t. rw t (length-laid output s.held (reply_frame s mask))) (λ t. rw t)

  move_within : s.held ≤ length output → v.session.held ≤ length output
  unfolding move_reply appended fits
  move_within h =
      by_test moves
      (λ t.
      let f = (both-parts (waits s.reply.waiting) (fits s.held output (reply_frame s mask)) t).1 in
      rw t (omega (arith, leb-true (length (reply_frame s mask)) (length output - s.held) f)))
      (λ t. rw t h)

  module _ (four : length mask ≡ 4) (short : Short s) where
    move_grows : v.session.held ≤ s.held + 131
    unfolding move_reply appended
    move_grows =
        by_test moves (λ t. rw t (omega (arith, reply_small s mask four (short (both-parts (waits s.reply.waiting) _ t).0)))) (λ t. rw t (omega arith))

    -- a waiting close that has room is not late
    pub close_fits : s.held + 131 ≤ length output → late_close s mask output ≡ false
    unfolding fits
    close_fits room =
        by_test (is_close_reply s.reply.waiting)
        (λ t.
        let small = reply_small s mask four (short (close_waits s.reply.waiting t)) in
        rw (le-leb (length (reply_frame s mask)) (length output - s.held) (omega arith), both-none (is_close_reply s.reply.waiting))
        (both-none (is_server s.settings)))
        (λ t. rw t (both-none (is_server s.settings)))
      where
        close_waits : (k : Waiting) → is_close_reply k ≡ true → waits k ≡ true
        close_waits Nothing e = e
        close_waits PongReply e = refl
        close_waits CloseReply e = refl

-- ---- one call
abbrev pub RoomFor : Session → List ℕ → List ℕ → List ℕ → Type 0
RoomFor s message control output = Room s.settings.message s.held message control output

module _ (s : Session) (piece : List ℕ) (end : Bool) (masks : Masks) (message control output : List ℕ) where
  abbrev r : Read
  r = read_call s piece end masks message control output

  abbrev n : ℕ
  n = first_of (read_tests s masks.first message control output)

  abbrev u : Out
  u = move_reply s masks.first output

  on : Stays u.session message control u.output (read_on u.session piece end message control u.output)
  on = on_stays u.session piece end message control u.output

  pub read-size : length r.output ≡ length output
  unfolding read_call
  read-size = by_test (eqb n 0) (λ t. rw t (on.output ∙ move_size s masks.first output)) (λ t. rw t)

  pub read-sizes : (length r.message ≡ length message) × (length r.control ≡ length control)
  unfolding read_call
  read-sizes = by_test (eqb n 0) (λ t. rw t (on.message, on.control)) (λ t. rw t (refl, refl))

  -- where no number is owed, what is held is what the reply's move left
  pub read_held : n ≡ 0 → r.turn.session.held ≡ u.session.held
  unfolding read_call
  read_held h = rw (eq-eqb n 0 h) on.held

  pub read-grows : length masks.first ≡ 4 → Short s → r.turn.session.held ≤ s.held + 131
  unfolding read_call
  read-grows four short =
      by_test (eqb n 0) (λ t. rw t (omega (arith, on.held, move_grows s masks.first output four short))) (λ t. rw t (omega arith))

  pub read-settings : r.turn.session.settings ≡ s.settings
  unfolding read_call
  read-settings =
      by_test (eqb n 0) (λ t. rw t (on.settings ∙ move_settings s masks.first output)) (λ t. rw t)

  pub read-room : RoomFor s message control output → RoomFor r.turn.session r.message r.control r.output
  unfolding read_call
  read-room a =
      let limit = move_settings s masks.first output in
      let same = move_size s masks.first output in
      by_test (eqb n 0)
      (λ t.
      rw t
      (record {
        for_message = omega (arith, on.message, ap (λ (g : Settings). g.message) (on.settings ∙ limit));
        for_control = omega (arith, on.control);
        for_output = omega (arith, on.output);
        for_held = omega (arith, on.held, on.output, move_within s masks.first output a.for_held);
      }))
      (λ t. rw t a)

take-room : (s : Session) (n : ℕ) (message control output : List ℕ) → RoomFor s message control output
    → RoomFor (take_call s n output).handed.session message control (take_call s n output).output
unfolding take_call
take-room s n message control output a =
    let same = length-laid output 0 (part n (s.held - n) output) in
    by_test (eqb (first_of (take_tests s n output)) 0)
    (λ t.
    rw t (record { for_message = a.for_message; for_control = a.for_control; for_output = omega arith; for_held = omega arith }))
    (λ t. rw t a)

pub take-size : (s : Session) (n : ℕ) (output : List ℕ) → length (take_call s n output).output ≡ length output
unfolding take_call
take-size s n output =
    by_test (eqb (first_of (take_tests s n output)) 0) (λ t. rw t (length-laid output 0 (part n (s.held - n) output))) (λ t. rw t)

-- ---- a session in range whose stores are not short
pub record Fit (run : Run) : Type 0 where
  pub shaped : Shaped run.session
  pub ranged : in_range run.session ≡ true
  pub stores : RoomFor run.session run.message run.control run.output

pub fit_short : (run : Run) → Fit run → Short run.session
fit_short run f = (in_range_lem run.session f.ranged).reply_short

pub fit_read : (masks : ℕ → Masks) (run : Run) (piece : List ℕ) (end : Bool) → Fit run → Fit (read_once masks run piece end)
unfolding read_once behind landed call_at
fit_read masks run piece end f =
    let m : Masks = masks run.place in
    record {
      shaped = shape_stays_read run.session piece end m run.message run.control run.output f.shaped;
      ranged = range_stays_read run.session piece end m run.message run.control run.output f.shaped f.ranged;
      stores = read-room run.session piece end m run.message run.control run.output f.stores;
    }

pub fit_take : (run : Run) (n : ℕ) → Fit run → Fit (taken_run run n)
unfolding taken_run
fit_take run n f =
    record {
      shaped = shape_stays_take run.session n run.output f.shaped;
      ranged = range_stays_take run.session n run.output f.ranged;
      stores = take-room run.session n run.message run.control run.output f.stores;
    }
