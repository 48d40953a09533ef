-- A waiting reply: one that moved is gone, and one that did not fit does not fit in the next call either, whatever its mask.
use mathlib.Core.Path.{◌≡◌, refl, sym, ap, ap₂, ◌∙◌}
use mathlib.Core.Bool.{Bool, true, false}
use mathlib.Core.List.{List}
use Prim.Native.Nat.{ℕ, ◌+◌, ◌-◌, ◌≤◌}
use native.Mathlib.Omega.{arith}
use lib.Dec.{leb, ltb}
use lib.ListN.{length, take, length-append}
use borrow.Author.Tests.{leb-true, ltb-false, le-ltb}
use Rattle.base.specs.Table.{pick}
use Rattle.base.specs.Tests.{both, either}
use Rattle.base.proofs.Choice.{by_test}
use Rattle.base.proofs.Stores.{length-laid}
use Rattle.coding.specs.declared.opcode.OpCode.{OpCode}
use Rattle.frame.specs.Header.{header_bytes, header_size}
use Rattle.frame.proofs.Headers.{length-header_bytes}
use Rattle.mask.specs.Mask.{masked}
use Rattle.mask.proofs.Laws.{length-masked}
use Rattle.session.specs.declared.Incoming.{Incoming}
use Rattle.session.specs.declared.Session.{Session}
use Rattle.session.specs.Calls.{output_short, stores_short}
use Rattle.session.specs.Range.{waits}
use Rattle.session.specs.Replies.{frame_header, encoded, fits, no_reply, reply_code, reply_frame, Out, out, appended, move_reply}
use Rattle.session.specs.Session.{is_server, is_client, with_incoming, with_reply}
use Rattle.session.proofs.Choices.{both-none, both-parts}
use Rattle.steady.proofs.Headers.{never}
use Rattle.steady.proofs.Passing.{late_close}

-- ---- a frame's length does not hang on its mask
pub length-encoded : (client : Bool) (op : OpCode) (mask p : List ℕ) → length mask ≡ 4
    → length (encoded client op mask p) ≡ header_size client (length p) + length p
unfolding encoded frame_header
length-encoded client op mask p e =
    length-append (header_bytes (frame_header client op (length p)) mask) (pick client (masked mask 0 p) p)
    ∙ ap₂ (λ (x y : ℕ). x + y) (length-header_bytes (frame_header client op (length p)) mask e) (go client)
  where
    go : (t : Bool) → length (pick t (masked mask 0 p) p) ≡ length p
    go true = length-masked mask 0 p
    go false = refl

module _ (s : Session) (i : Incoming) (mask other : List ℕ) (e : length mask ≡ 4) (d : length other ≡ 4) where
  fits-again : (output : List ℕ) → fits s.held output (reply_frame (with_incoming s i) other) ≡ fits s.held output (reply_frame s mask)
  unfolding fits reply_frame
  fits-again output =
      let p : List ℕ = take s.reply.length s.reply.payload in
      let op : OpCode = reply_code s.reply.waiting in
      let client : Bool = is_client s.settings in
      ap (λ (n : ℕ). leb n (length output - s.held)) (length-encoded client op other p d ∙ sym (length-encoded client op mask p e))

-- ---- the session and the output that a move leaves
pub record Moved (s : Session) (output : List ℕ) (v : Out) : Type 0 where
  pub settings : v.session.settings ≡ s.settings
  pub state : v.session.state ≡ s.state
  pub refusal : v.session.refusal ≡ s.refusal
  pub incoming : v.session.incoming ≡ s.incoming
  pub size : length v.output ≡ length output
  pub room : v.session.held ≤ length output
  -- in the next call
  pub once : (i : Incoming) (other : List ℕ) → length other ≡ 4
      → move_reply (with_incoming v.session i) other v.output ≡ out (with_incoming v.session i) v.output
  pub no_late_close : (i : Incoming) (other : List ℕ) → length other ≡ 4 → late_close (with_incoming v.session i) other v.output ≡ false

module _ (s : Session) (mask output : List ℕ) (e : length mask ≡ 4) (h : s.held ≤ length output) (late : late_close s mask output ≡ false) where
  abbrev moves : Bool
  moves = both (waits s.reply.waiting) (fits s.held output (reply_frame s mask))

  moved_on : fits s.held output (reply_frame s mask) ≡ true → Moved s output (appended (with_reply s (no_reply s.reply)) output (reply_frame s mask))
  unfolding appended no_reply move_reply fits
  moved_on f =
      record {
        settings = refl;
        state = refl;
        refusal = refl;
        incoming = refl;
        size = length-laid output s.held (reply_frame s mask);
        room = omega (arith, leb-true (length (reply_frame s mask)) (length output - s.held) f);
        once = λ i other d. refl;
        no_late_close = λ i other d. both-none (is_server s.settings);
      }

  moved_not : moves ≡ false → Moved s output (out s output)
  unfolding move_reply
  moved_not f =
      record {
        settings = refl;
        state = refl;
        refusal = refl;
        incoming = refl;
        size = refl;
        room = h;
        once = λ i other d. rw (fits-again s i mask other e d output, f);
        no_late_close = λ i other d. rw (fits-again s i mask other e d output) late;
      }

  pub moved : Moved s output (move_reply s mask output)
  unfolding move_reply
  moved =
      by_test moves (λ t. rw t (moved_on (both-parts (waits s.reply.waiting) (fits s.held output (reply_frame s mask)) t).1))
      (λ t. rw t (moved_not t))

-- ---- stores that are not short
pub record Room (limit held : ℕ) (message control output : List ℕ) : Type 0 where
  pub for_message : limit ≤ length message
  pub for_control : 125 ≤ length control
  pub for_output : 131 ≤ length output
  pub for_held : held ≤ length output

pub either-not : (a b : Bool) → either a b ≡ false → (a ≡ false) × (b ≡ false)
either-not true b e = never refl e
either-not false b e = (refl, e)

module _ (s : Session) (message control output : List ℕ) where
  pub stores_room : stores_short s message control output ≡ false → Room s.settings.message s.held message control output
  unfolding stores_short output_short
  stores_room e =
      let a = either-not (ltb (length message) s.settings.message) _ e in
      let b = either-not (ltb (length control) 125) _ a.1 in
      let c = either-not (ltb (length output) 131) (ltb (length output) s.held) b.1 in
      record { for_message = ltb-false _ _ a.0; for_control = ltb-false _ _ b.0; for_output = ltb-false _ _ c.0; for_held = ltb-false _ _ c.1 }

  pub room_stores : Room s.settings.message s.held message control output → stores_short s message control output ≡ false
  unfolding stores_short output_short
  room_stores r =
      rw (
        le-ltb (length message) s.settings.message r.for_message,
        le-ltb (length control) 125 r.for_control,
        le-ltb (length output) 131 r.for_output,
        le-ltb (length output) s.held r.for_held,
      )
