-- What bytes leave as it was, how many are taken, and a session that waits for the next byte.
use mathlib.Core.Path.{◌≡◌, refl, sym, ap, ◌∙◌}
use mathlib.Core.Bool.{Bool, true, false}
use mathlib.Core.List.{List, [], ◌∷◌}
use Prim.Native.Nat.{ℕ, ◌+◌, ◌<◌, ◌≤◌}
use native.Mathlib.Omega.{arith}
use lib.Dec.{eqb, leb}
use lib.ListN.{length}
use borrow.Author.Tests.{eq-eqb, lt-leb}
use Rattle.base.specs.Table.{pick}
use Rattle.base.specs.Tests.{first_of}
use Rattle.base.proofs.Choice.{by_test}
use Rattle.base.proofs.Stores.{length-laid}
use Rattle.coding.specs.declared.opcode.OpCode.{OpCode}
use Rattle.coding.specs.declared.opcode.OpCode.TheVariants.{Data, Control, Reserved}
use Rattle.frame.specs.declared.header.FrameHeader.{FrameHeader}
use Rattle.session.specs.declared.Answer.TheVariants.{More}
use Rattle.session.specs.declared.Incoming.{Incoming}
use Rattle.session.specs.declared.Settings.{Settings}
use Rattle.session.specs.Frames.{header_whole, frame, is_control, header_tests, doom, verdict}
use Rattle.session.specs.Reading.{World, world, At, after, keep, stored, ended, refuse, finish, rest, settle, byte_in, is_more, step, feed}
use Rattle.session.proofs.Fold.{feed-stopped}
use Rattle.steady.proofs.Headers.{Waits, never}

-- ---- the two stores keep their lengths
pub record SameSizes (w v : World) : Type 0 where
  pub message : length v.message ≡ length w.message
  pub control : length v.control ≡ length w.control

sizes_refl : (w : World) → SameSizes w w
sizes_refl w = record { message = refl; control = refl }

sizes_on : {w v u : World} → SameSizes w v → SameSizes v u → SameSizes w u
sizes_on a b = record { message = b.message ∙ a.message; control = b.control ∙ a.control }

module _ (g : Settings) (state : ℕ) where
  stored-sizes : (w : World) (vs : List ℕ) → SameSizes w (stored g state w vs)
  unfolding stored
  stored-sizes w vs =
      by_test (eqb (doom g state (frame w.incoming) w.incoming) 0)
      (λ t.
      by_test (is_control (frame w.incoming).opcode) (λ u. rw (t, u) (record { message = refl; control = length-laid _ _ _ }))
      (λ u. rw (t, u) (record { message = length-laid _ _ _; control = refl })))
      (λ t. rw t (record { message = refl; control = refl }))

  ended-sizes : (w : World) (f : FrameHeader) (op : OpCode) → SameSizes w (ended f op w)
  ended-sizes w f (Reserved n) = sizes_refl w
  ended-sizes w f (Control k) = record { message = refl; control = refl }
  ended-sizes w f (Data d) =
      record { message = go (λ v. length v.message ≡ length w.message) f.fin refl refl; control = go (λ v. length v.control ≡ length w.control) f.fin refl refl }
    where
      go : (P : World → Type 0) (t : Bool) {a b : World} → P a → P b → P (pick t a b)
      go P true x y = x
      go P false x y = y

  finish-sizes : (w : World) → SameSizes w (finish g state w)
  unfolding finish refuse
  finish-sizes w =
      let f : FrameHeader = frame w.incoming in
      by_test (eqb (verdict g state f w.incoming w.control) 0) (λ t. rw t (ended-sizes w f f.opcode))
      (λ t. rw t (record { message = refl; control = refl }))

  rest-sizes : (w : World) → SameSizes w (rest g state w)
  unfolding rest
  rest-sizes w =
      by_test (leb (frame w.incoming).length w.incoming.counted) (λ t. rw t (finish-sizes w)) (λ t. rw t (sizes_refl w))

  settle-sizes : (w : World) → SameSizes w (settle g state w)
  unfolding settle refuse
  settle-sizes w =
      by_test (header_whole w.incoming)
      (λ t.
      by_test (eqb (first_of (header_tests g (frame w.incoming))) 0) (λ u. rw (t, u) (rest-sizes w))
      (λ u. rw (t, u) (record { message = refl; control = refl })))
      (λ t. rw t (sizes_refl w))

  byte_sizes : (w : World) (b : ℕ) → SameSizes w (byte_in g state w b)
  unfolding byte_in
  byte_sizes w b =
      let v : World = world (keep w.incoming b) w.message w.control w.answer in
      by_test (header_whole w.incoming) (λ t. rw t (sizes_on (stored-sizes w (b ∷ [])) (rest-sizes (stored g state w (b ∷ [])))))
      (λ t. rw t (sizes_on (record { message = refl; control = refl }) (settle-sizes v)))

  step-sizes : (x : At) (b : ℕ) → SameSizes x.world (step g state x b).world
  unfolding step
  step-sizes x b = by_test (is_more x.world.answer) (λ t. rw t (byte_sizes x.world b)) (λ t. rw t (sizes_refl x.world))

  feed-sizes : (x : At) (vs : List ℕ) → SameSizes x.world (feed g state x vs).world
  unfolding feed
  feed-sizes x [] = sizes_refl x.world
  feed-sizes x (b ∷ vs) = sizes_on (step-sizes x b) (feed-sizes (step g state x b) vs)

  pub fed-sizes : (w : World) (vs : List ℕ) → SameSizes w (feed g state (after (settle g state w) 0) vs).world
  fed-sizes w vs = sizes_on (settle-sizes w) (feed-sizes (after (settle g state w) 0) vs)

  -- ---- how many bytes are taken
  step-taken : (x : At) (b : ℕ) → (x.taken ≤ (step g state x b).taken) × ((step g state x b).taken ≤ x.taken + 1)
  unfolding step
  step-taken x b = by_test (is_more x.world.answer) (λ t. rw t (omega arith)) (λ t. rw t (omega arith))

  pub feed-taken : (x : At) (vs : List ℕ) → (x.taken ≤ (feed g state x vs).taken) × ((feed g state x vs).taken ≤ x.taken + length vs)
  unfolding feed
  feed-taken x [] = omega arith
  feed-taken x (b ∷ vs) = omega (arith, step-taken x b, feed-taken (step g state x b) vs)

  pub step-one : (x : At) (b : ℕ) → is_more x.world.answer ≡ true → (step g state x b).taken ≡ x.taken + 1
  unfolding step
  step-one x b t = rw t

  -- more is answered behind the last byte only
  pub feed-all : (x : At) (vs : List ℕ) → is_more (feed g state x vs).world.answer ≡ true → (feed g state x vs).taken ≡ x.taken + length vs
  unfolding feed
  feed-all x [] h = omega arith
  feed-all x (b ∷ vs) h =
      by_test (is_more x.world.answer) (λ t. omega (arith, feed-all (step g state x b) vs h, step-one x b t))
      (λ t. never (sym (ap (λ (y : At). is_more y.world.answer) (feed-stopped g state x (b ∷ vs) t)) ∙ h) t)

  -- and where there was no answer, one wants a byte
  pub feed-moves : (x : At) (vs : List ℕ) → is_more x.world.answer ≡ true → is_more (feed g state x vs).world.answer ≡ false
      → x.taken < (feed g state x vs).taken
  unfolding feed
  feed-moves x [] t h = never t h
  feed-moves x (b ∷ vs) t h = omega (arith, step-one x b t, feed-taken (step g state x b) vs)

  -- ---- a session that waits for a byte
  pub settle-still : (i : Incoming) (m c : List ℕ) → Waits g i → settle g state (world i m c More) ≡ world i m c More
  unfolding settle rest
  settle-still i m c k =
      by_test (header_whole i)
      (λ t. rw (t, eq-eqb (first_of (header_tests g (frame i))) 0 (k t).0, lt-leb (frame i).length i.counted (k t).1))
      (λ t. rw t)
