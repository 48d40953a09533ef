-- One byte more, and all of a piece.
use mathlib.Core.Path.{◌≡◌, refl}
use mathlib.Core.Bool.{Bool, true, false}
use mathlib.Core.List.{List, [], ◌∷◌}
use Prim.Native.Nat.{ℕ, ◌+◌, ◌≤◌}
use native.Mathlib.Omega.{arith}
use lib.Dec.{eqb}
use lib.ListN.{length}
use Rattle.base.specs.Stores.{laid}
use Rattle.base.specs.Table.{pick}
use Rattle.base.proofs.Choice.{by_test}
use Rattle.frame.specs.declared.header.FrameHeader.{FrameHeader}
use Rattle.session.specs.declared.Answer.TheVariants.{More}
use Rattle.session.specs.declared.Incoming.{Incoming}
use Rattle.session.specs.declared.Settings.{Settings}
use Rattle.session.specs.Frames.{header_whole, frame, is_control, is_text, before, progress_now, doom}
use Rattle.session.specs.Reading.{World, world, At, keep, plain, counts, stored, rest, byte_in, is_more, step, feed}
use Rattle.session.proofs.Fold.{is_more_lem}
use Rattle.utf8.specs.Progress.{progress_after}
use Rattle.utf8.proofs.Laws.{progress_most}
use Rattle.steady.proofs.Frames.{FineWorld, progress_now_lem, rest-fine, settle-fine}
use Rattle.steady.proofs.Headers.{Bounded, Waits, keep-bounded, counts-bounded, frame-counts}

-- ---- payload comes: it is counted, and the progress stays a progress
-- what holds of the three worlds that payload can lead to holds of what is stored
by_case : (P : World → Type 0) (g : Settings) (state : ℕ) (w : World) (vs : List ℕ) → Bounded g w.incoming
    → ((p : ℕ) (m c : List ℕ) → p ≤ 8 → P (world (counts w.incoming (length vs) p) m c w.answer)) → P (stored g state w vs)
unfolding stored
by_case P g state w vs x h = go (eqb (doom g state f i) 0) (is_control f.opcode) (is_text f i)
  where
    i : Incoming
    i = w.incoming

    f : FrameHeader
    f = frame i

    go : (t u v : Bool)
        → P (pick t
        (pick u (world (counts i (length vs) i.progress) w.message (laid w.control i.counted (plain i vs)) w.answer)
        (world (counts i (length vs) (pick v (progress_after (progress_now i) (plain i vs)) i.progress))
        (laid w.message (before i + i.counted) (plain i vs)) w.control w.answer))
        (world (counts i (length vs) i.progress) w.message w.control w.answer))
    go true true v = h i.progress _ _ x.progress_known
    go true false true = h (progress_after (progress_now i) (plain i vs)) _ _ (progress_most (progress_now i) (plain i vs) (progress_now_lem g i x))
    go true false false = h i.progress _ _ x.progress_known
    go false u v = h i.progress _ _ x.progress_known

module _ (g : Settings) (state : ℕ) where
  payload_fine : (w : World) (b : ℕ) → FineWorld g w → w.answer ≡ More → header_whole w.incoming ≡ true
      → FineWorld g (rest g state (stored g state w (b ∷ [])))
  payload_fine w b x a t =
      let clear : Waits g w.incoming = x.waits (rw a refl) in
      by_case (λ v. FineWorld g (rest g state v)) g state w (b ∷ []) x.bounded
      (λ p m c k.
      let j : Incoming = counts w.incoming 1 p in
      rest-fine g state (world j m c w.answer) (counts-bounded g w.incoming 1 p x.bounded t (omega (arith, (clear t).1)) k)
      (rw (frame-counts w.incoming 1 p) (clear t).0) a)

  byte_fine : (w : World) (b : ℕ) → FineWorld g w → w.answer ≡ More → FineWorld g (byte_in g state w b)
  unfolding byte_in
  byte_fine w b x a =
      by_test (header_whole w.incoming) (λ t. rw t (payload_fine w b x a t))
      (λ t.
      rw t
      (settle-fine g state (world (keep w.incoming b) w.message w.control w.answer) (keep-bounded g w.incoming b x.bounded t) a))

  step-fine : (x : At) (b : ℕ) → FineWorld g x.world → FineWorld g (step g state x b).world
  unfolding step
  step-fine x b h =
      by_test (is_more x.world.answer) (λ t. rw t (byte_fine x.world b h (is_more_lem x.world.answer t))) (λ t. rw t h)

  pub feed-fine : (x : At) (vs : List ℕ) → FineWorld g x.world → FineWorld g (feed g state x vs).world
  unfolding feed
  feed-fine x [] h = h
  feed-fine x (b ∷ vs) h = feed-fine (step g state x b) vs (step-fine x b h)
