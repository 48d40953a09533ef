-- Laws of the waiting reply: a session's reply moves as its parts do, and a pong in the place of what waited is no longer than its payload.
use mathlib.Core.Path.{◌≡◌, refl, ap, ◌∙◌}
use mathlib.Core.Bool.{Bool, true, false}
use mathlib.Core.List.{List}
use Prim.Native.Nat.{ℕ, ◌+◌, ◌-◌, ◌≤◌}
use lib.Dec.{leb}
use lib.ListN.{length, take}
use lib.Seq.{length-take-le}
use Rattle.base.specs.Stores.{laid}
use Rattle.base.specs.Table.{pick}
use Rattle.base.specs.Tests.{both}
use Rattle.base.proofs.Choice.{by_test}
use Rattle.coding.specs.declared.opcode.OpCode.{OpCode}
use Rattle.frame.specs.Header.{header_size}
use Rattle.session.specs.declared.Reply.{Reply}
use Rattle.session.specs.declared.Session.{Session}
use Rattle.session.specs.declared.Waiting.TheVariants.{Pong}
use Rattle.session.specs.Range.{waits}
use Rattle.session.specs.Replies.{encoded, fits, reply_of, is_close_reply, with_pong, reply_code, no_reply, reply_frame, out, appended, move_reply}
use Rattle.session.specs.Session.{is_client, with_reply, with_held}
use Rattle.replies.specs.Moves.{reply_bytes, Moving, moving, move_of}
use Rattle.replies.proofs.Encoding.{fits_by}

-- a session's reply moves as its parts do, which `move_reply` promises too
pub parts_move : (s : Session) (mask output : List ℕ) {q : Reply} {held : ℕ} {o : List ℕ}
    → moving q held o ≡ move_of (is_client s.settings) s.reply s.held mask output
    → out (with_held (with_reply s q) held) o ≡ move_reply s mask output
unfolding move_of move_reply appended reply_frame reply_bytes
parts_move s mask output m =
    ap (λ (v : Moving). out (with_held (with_reply s v.reply) v.held) v.output) m
    ∙ by_test (both (waits s.reply.waiting) (fits s.held output (reply_frame s mask))) (λ t. rw t) (λ t. rw t)

pub pong_short : (q : Reply) (p : List ℕ) → length p ≤ 125 → (waits q.waiting ≡ true → q.length ≤ 125)
    → waits (with_pong q p).waiting ≡ true → (with_pong q p).length ≤ 125
unfolding with_pong reply_of
pong_short q p h k = go (is_close_reply q.waiting)
  where
    go : (t : Bool) → waits (pick t q (reply_of q Pong p)).waiting ≡ true → (pick t q (reply_of q Pong p)).length ≤ 125
    go true w = k w
    go false w = h

-- ---- a reply that moves as its parts do: its three cases
module _ (client : Bool) (q : Reply) (held : ℕ) (mask output : List ℕ) where
  pub waits-not : waits q.waiting ≡ false → moving q held output ≡ move_of client q held mask output
  unfolding move_of
  waits-not w = rw w

  pub waits-on : waits q.waiting ≡ true → fits held output (reply_bytes client q mask) ≡ false
      → moving q held output ≡ move_of client q held mask output
  unfolding move_of
  waits-on w f = rw (w, f)

  -- what the code makes where it moves: no reply, a place behind the frame, and the frame laid over the output
  pub reply_moves : {op : OpCode} {none : Reply} {behind : ℕ} {o : List ℕ} → waits q.waiting ≡ true
      → fits held output (reply_bytes client q mask) ≡ true → op ≡ reply_code q.waiting → none ≡ no_reply q
      → behind ≡ held + length (encoded client op mask (take q.length q.payload))
      → o ≡ laid output held (encoded client op mask (take q.length q.payload))
      → moving none behind o ≡ move_of client q held mask output
  unfolding move_of reply_bytes
  reply_moves {op} {none} {behind} {o} w f p z u v =
      let b : behind ≡ held + length (reply_bytes client q mask) = rw (← p) u in
      let l : o ≡ laid output held (reply_bytes client q mask) = rw (← p) v in
      rw (w, f) (λ i. moving (z i) (b i) (l i))

  pub reply_fits_by : length mask ≡ 4 → q.length ≤ length q.payload
      → fits held output (reply_bytes client q mask) ≡ leb (header_size client q.length + q.length) (length output - held)
  unfolding reply_bytes
  reply_fits_by four h =
      fits_by held output client (reply_code q.waiting) mask (take q.length q.payload) four
      ∙ rw (length-take-le q.length q.payload h)

pub reply_frame_lem : (s : Session) (mask : List ℕ) → reply_frame s mask ≡ reply_bytes (is_client s.settings) s.reply mask
unfolding reply_frame reply_bytes
reply_frame_lem s mask = refl
