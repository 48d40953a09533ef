-- Laws of the fold over bytes: joined pieces, an answer that ends it, and the count of bytes.
use mathlib.Core.Path.{◌≡◌, refl, sym, ap, ◌∙◌}
use mathlib.Core.Bool.{true, false}
use mathlib.Core.List.{List, [], ◌∷◌, ◌++◌}
use Prim.Native.Nat.{ℕ, ◌+◌}
use native.Mathlib.Nat.{add-zero}
use native.Mathlib.Omega.{arith}
use Rattle.session.specs.declared.Answer.{Answer}
use Rattle.session.specs.declared.Answer.TheVariants.{More, Text, Binary, Ping, Pong, Close, Closed, Refused}
use Rattle.session.specs.declared.Settings.{Settings}
use Rattle.session.specs.Reading.{World, At, after, byte_in, is_more, step, feed}
use Rattle.base.proofs.Choice.{by_test}

pub is_more_lem : (a : Answer) → is_more a ≡ true → a ≡ More
is_more_lem More h = refl
is_more_lem (Text n) h = cc
is_more_lem (Binary n) h = cc
is_more_lem (Ping n) h = cc
is_more_lem (Pong n) h = cc
is_more_lem (Close n) h = cc
is_more_lem Closed h = cc
is_more_lem (Refused n) h = cc

module _ (g : Settings) (state : ℕ) where
  pub feed-append : (x : At) (xs ys : List ℕ) → feed g state x (xs ++ ys) ≡ feed g state (feed g state x xs) ys
  unfolding feed
  feed-append x [] ys = refl
  feed-append x (b ∷ xs) ys = feed-append (step g state x b) xs ys

  -- an answer ends it
  pub feed-stopped : (x : At) (vs : List ℕ) → is_more x.world.answer ≡ false → feed g state x vs ≡ x
  unfolding feed step
  feed-stopped x [] h = refl
  feed-stopped x (b ∷ vs) h = rw h (feed-stopped x vs h)

  -- the count is the fold's own: it starts where it is told to
  pub feed-later : (w : World) (n j : ℕ) (vs : List ℕ)
      → feed g state (after w (j + n)) vs ≡ after (feed g state (after w n) vs).world (j + (feed g state (after w n) vs).taken)
  unfolding feed step
  feed-later w n j [] = refl
  feed-later w n j (b ∷ vs) =
      by_test (is_more w.answer)
      (λ t. let e : j + n + 1 ≡ j + (n + 1) = omega arith in simp (t, e) (feed-later (byte_in g state w b) (n + 1) j vs))
      (λ f. simp f (feed-later w n j vs))

  -- a piece, and then the rest of the stream counted anew
  pub feed-cut : (w u : World) (n : ℕ) (xs ys : List ℕ) → feed g state (after w 0) xs ≡ after u n
      → feed g state (after w 0) (xs ++ ys) ≡ after (feed g state (after u 0) ys).world (n + (feed g state (after u 0) ys).taken)
  feed-cut w u n xs ys e =
      feed-append (after w 0) xs ys
      ∙ ap (λ (x : At). feed g state x ys) e
      ∙ ap (λ (j : ℕ). feed g state (after u j) ys) (sym (add-zero n))
      ∙ feed-later u 0 n ys
