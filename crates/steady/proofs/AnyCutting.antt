-- However a stream is cut into pieces, reading it gives the same answers at the same places, the same session and the same stores.
use mathlib.Core.Path.{◌≡◌, refl, sym, ap, ap₂, subst₂, ◌∙◌}
use mathlib.Core.Bool.{Bool, true, false}
use mathlib.Core.List.{List, [], ◌∷◌, ◌++◌, append-nil}
use mathlib.Core.Logic.{◌⊎◌, inl, inr, ⊎_elim}
use Prim.Native.Nat.{ℕ, zero, suc, ◌+◌, ◌≤◌}
use native.Mathlib.Omega.{arith}
use lib.ListN.{length, drop, length-drop}
use lib.Seq.{drop-append-le, drop-append-add}
use Rattle.base.specs.Table.{pick}
use Rattle.base.proofs.Choice.{by_test}
use Rattle.session.specs.declared.Answer.{Answer}
use Rattle.session.specs.declared.Answer.TheVariants.{More, Text, Binary, Ping, Pong, Close, Closed, Refused}
use Rattle.session.specs.declared.Masks.{Masks}
use Rattle.session.specs.Calls.{Read}
use Rattle.session.specs.Reading.{is_more}
use Rattle.session.proofs.Fold.{is_more_lem}
use Rattle.steady.specs.Cutting.{is_event, is_final, Seen, Run, noted, landed, behind, call_at, read_once, read_all, read_piece, read_pieces, joined}
use Rattle.steady.specs.Shape.{Shaped}
use Rattle.steady.proofs.Headers.{Waits}
use Rattle.steady.proofs.InRangeStays.{shape_stays_read}
use Rattle.steady.proofs.OneCall.{later, Late, call_taken, event_waits, event_takes, event_zero, early, late}

last_final : (a : Answer) → is_event a ≡ false → is_more a ≡ false → is_final a ≡ true
last_final More e m = sym m
last_final (Text n) e m = sym e
last_final (Binary n) e m = sym e
last_final (Ping n) e m = sym e
last_final (Pong n) e m = sym e
last_final (Close n) e m = sym e
last_final Closed e m = refl
last_final (Refused k) e m = refl

-- what is left of a call does not say how many bytes it took
landed-later : (trace : List Seen) (n : ℕ) (r : Read) (place : ℕ) → landed trace (later n r) place ≡ landed trace r place
unfolding landed
landed-later trace n r place = refl

module _ (masks : ℕ → Masks) where
  -- ---- one call
  once_shaped : (run : Run) (piece : List ℕ) (end : Bool) → Shaped run.session → Shaped (read_once masks run piece end).session
  unfolding read_once behind landed call_at
  once_shaped run piece end sh = shape_stays_read run.session piece end (masks run.place) run.message run.control run.output sh

  once_landed : (run : Run) (piece : List ℕ) (end : Bool)
      → read_once masks run piece end ≡ landed run.trace (call_at masks run piece end) (run.place + (call_at masks run piece end).turn.taken)
  unfolding read_once behind
  once_landed run piece end = refl

  once_taken : (run : Run) (piece : List ℕ) (end : Bool) → (call_at masks run piece end).turn.taken ≤ length piece
  unfolding call_at
  once_taken run piece end = call_taken run.session (masks run.place) run.message run.control run.output piece end

  module _ (k : ℕ) (run : Run) (piece : List ℕ) (end : Bool) where
    all_on : is_event (call_at masks run piece end).turn.answer ≡ true
        → read_all (suc k) masks run piece end ≡ read_all k masks (read_once masks run piece end) (drop (call_at masks run piece end).turn.taken piece) end
    unfolding read_all
    all_on t = rw t

    all_stop : is_event (call_at masks run piece end).turn.answer ≡ false → read_all (suc k) masks run piece end ≡ read_once masks run piece end
    unfolding read_all
    all_stop t = rw t

  all_shaped : (k : ℕ) (run : Run) (piece : List ℕ) (end : Bool) → Shaped run.session → Shaped (read_all k masks run piece end).session
  unfolding read_all
  all_shaped zero run piece end sh = sh
  all_shaped (suc k) run piece end sh =
      by_test (is_event (call_at masks run piece end).turn.answer)
      (λ t. rw t (all_shaped k (read_once masks run piece end) (drop (call_at masks run piece end).turn.taken piece) end (once_shaped run piece end sh)))
      (λ t. rw t (once_shaped run piece end sh))

  -- ---- how many calls are enough: one for each byte, one that gives no event, and one for an event that a session may still owe
  abbrev Enough : ℕ → Run → List ℕ → Type 0
  Enough k run piece = (length piece + 2 ≤ k) ⊎ ((length piece + 1 ≤ k) × Waits run.session.settings run.session.incoming)

  none_enough : {A : Type 0} (run : Run) (piece : List ℕ) → Enough 0 run piece → A
  none_enough run piece = ⊎_elim (λ h. absurd (omega arith)) (λ h. absurd (omega (arith, h.0)))

  next-enough : (k : ℕ) (run : Run) (piece : List ℕ) (end : Bool) → Shaped run.session → is_event (call_at masks run piece end).turn.answer ≡ true
      → Enough (suc k) run piece → Enough k (read_once masks run piece end) (drop (call_at masks run piece end).turn.taken piece)
  unfolding read_once behind landed call_at
  next-enough k run piece end sh t x =
      let n : ℕ = (call_at masks run piece end).turn.taken in
      let waits = event_waits run.session (masks run.place) run.message run.control run.output piece end t sh in
      let takes = event_takes run.session (masks run.place) run.message run.control run.output piece end t in
      let most = call_taken run.session (masks run.place) run.message run.control run.output piece end in
      ⊎_elim (λ h. inr (omega (arith, length-drop n piece), waits)) (λ h. inr (omega (arith, length-drop n piece, takes h.1, h.0), waits)) x

  -- enough is as good as more
  same_fuel : (k j : ℕ) (run : Run) (piece : List ℕ) (end : Bool) → Shaped run.session → Enough k run piece → Enough j run piece
      → read_all k masks run piece end ≡ read_all j masks run piece end
  same_fuel zero j run piece end sh x y = none_enough run piece x
  same_fuel (suc k) zero run piece end sh x y = none_enough run piece y
  same_fuel (suc k) (suc j) run piece end sh x y =
      let r : Run = read_once masks run piece end in
      let left : List ℕ = drop (call_at masks run piece end).turn.taken piece in
      by_test (is_event (call_at masks run piece end).turn.answer)
      (λ t.
      all_on k run piece end t
      ∙ same_fuel k j r left end (once_shaped run piece end sh) (next-enough k run piece end sh t x) (next-enough j run piece end sh t y)
      ∙ sym (all_on j run piece end t))
      (λ t. all_stop k run piece end t ∙ sym (all_stop j run piece end t))

  pub any_fuel : (k : ℕ) (run : Run) (piece : List ℕ) (end : Bool) → Shaped run.session → length piece + 2 ≤ k
      → read_all k masks run piece end ≡ read_all (suc (suc (length piece))) masks run piece end
  any_fuel k run piece end sh h = same_fuel k (suc (suc (length piece))) run piece end sh (inl h) (inl (omega arith))

  -- ---- two calls that lead to the same place
  same_on : (k j : ℕ) (run next : Run) (zs ys : List ℕ) (end : Bool) → Shaped run.session → Shaped next.session → Enough (suc j) run zs
      → Enough (suc k) next ys → read_once masks run zs end ≡ read_once masks next ys end
      → (call_at masks run zs end).turn.answer ≡ (call_at masks next ys end).turn.answer
      → drop (call_at masks run zs end).turn.taken zs ≡ drop (call_at masks next ys end).turn.taken ys
      → read_all (suc j) masks run zs end ≡ read_all (suc k) masks next ys end
  same_on k j run next zs ys end sh sn x y same answer left =
      let rest : List ℕ = drop (call_at masks next ys end).turn.taken ys in
      let again : Run = read_once masks next ys end in
      by_test (is_event (call_at masks next ys end).turn.answer)
      (λ t.
      let u : is_event (call_at masks run zs end).turn.answer ≡ true = ap is_event answer ∙ t in
      all_on j run zs end u
      ∙ ap₂ (λ (r : Run) (l : List ℕ). read_all j masks r l end) same left
      ∙ same_fuel j k again rest end (once_shaped next ys end sn)
      (subst₂ (λ (r : Run) (l : List ℕ). Enough j r l) same left (next-enough j run zs end sh u x)) (next-enough k next ys end sn t y)
      ∙ sym (all_on k next ys end t))
      (λ t. all_stop j run zs end (ap is_event answer ∙ t) ∙ same ∙ sym (all_stop k next ys end t))

  -- ---- a piece
  module _ (run : Run) (piece : List ℕ) (end : Bool) where
    piece_over : run.over ≡ true → read_piece masks run piece end ≡ run
    unfolding read_piece
    piece_over t = ap (λ (b : Bool). pick b run (read_all (suc (suc (length piece))) masks run piece end)) t

    piece_on : run.over ≡ false → read_piece masks run piece end ≡ read_all (suc (suc (length piece))) masks run piece end
    unfolding read_piece
    piece_on t = ap (λ (b : Bool). pick b run (read_all (suc (suc (length piece))) masks run piece end)) t

    piece_shaped : Shaped run.session → Shaped (read_piece masks run piece end).session
    unfolding read_piece
    piece_shaped sh = go run.over
      where
        go : (t : Bool) → Shaped (pick t run (read_all (suc (suc (length piece))) masks run piece end)).session
        go true = sh
        go false = all_shaped (suc (suc (length piece))) run piece end sh

    once_over : (read_once masks run piece end).over ≡ is_final (call_at masks run piece end).turn.answer
    unfolding read_once behind landed
    once_over = refl

  -- ---- bytes behind the piece
  module _ (run : Run) (xs ys : List ℕ) (end : Bool) where
    abbrev short : Read
    short = call_at masks run xs false

    abbrev long : Read
    long = call_at masks run (xs ++ ys) end

    once_early : is_more short.turn.answer ≡ false → long ≡ short
    unfolding call_at
    once_early = early run.session (masks run.place) run.message run.control run.output xs ys end

    same_once : long ≡ short → read_once masks run (xs ++ ys) end ≡ read_once masks run xs false
    unfolding read_once
    same_once e = ap (behind run) e

    module _ (four : (n : ℕ) → length (masks n).first ≡ 4) (sh : Shaped run.session) (h : is_more short.turn.answer ≡ true) where
      abbrev next : Run
      next = read_once masks run xs false

      once_late : Late short long xs ys end (masks next.place)
      unfolding call_at
      once_late =
          late run.session (masks run.place) run.message run.control run.output xs ys end (four run.place) sh h (masks next.place)
          (four next.place)

      late_call : long ≡ later (length xs) (call_at masks next ys end)
      unfolding call_at read_once behind landed
      late_call = once_late.same

      next-trace : next.trace ≡ run.trace
      unfolding read_once behind landed noted
      next-trace = rw h

      next_place : next.place ≡ run.place + length xs
      unfolding read_once behind landed
      next_place = ap (λ (n : ℕ). run.place + n) once_late.taken

      late_run : read_once masks run (xs ++ ys) end ≡ read_once masks next ys end
      late_run =
          let r : Read = call_at masks next ys end in
          let place : run.place + (length xs + r.turn.taken) ≡ next.place + r.turn.taken = omega (arith, next_place) in
          once_landed run (xs ++ ys) end
          ∙ ap (λ (x : Read). landed run.trace x (run.place + x.turn.taken)) late_call
          ∙ landed-later run.trace (length xs) r (run.place + (length xs + r.turn.taken))
          ∙ ap₂ (λ (t : List Seen) (n : ℕ). landed t r n) (sym next-trace) place
          ∙ sym (once_landed next ys end)

      late_left : drop long.turn.taken (xs ++ ys) ≡ drop (call_at masks next ys end).turn.taken ys
      late_left =
          ap (λ (x : Read). drop x.turn.taken (xs ++ ys)) late_call ∙ drop-append-add xs ys (call_at masks next ys end).turn.taken

      next-open : next.over ≡ false
      next-open = once_over run xs false ∙ ap is_final (is_more_lem short.turn.answer h)

  -- ---- a piece is its beginning and then the rest
  module _ (four : (n : ℕ) → length (masks n).first ≡ 4) (ys : List ℕ) (end : Bool) where
    cut : (k j : ℕ) (run : Run) (xs : List ℕ) → Shaped run.session → Enough k run xs → Enough j run (xs ++ ys)
        → read_all j masks run (xs ++ ys) end ≡ read_piece masks (read_all k masks run xs false) ys end
    cut zero j run xs sh x y = none_enough run xs x
    cut (suc k) zero run xs sh x y = none_enough run (xs ++ ys) y
    cut (suc k) (suc j) run xs sh x y =
        let r : Read = call_at masks run xs false in
        let next : Run = read_once masks run xs false in
        let left : List ℕ = drop r.turn.taken xs in
        by_test (is_event r.turn.answer)
        (λ t.
        let e : call_at masks run (xs ++ ys) end ≡ r = once_early run xs ys end (event_zero r.turn.answer t).1 in
        let u : is_event (call_at masks run (xs ++ ys) end).turn.answer ≡ true = ap (λ (x : Read). is_event x.turn.answer) e ∙ t in
        let same : read_once masks run (xs ++ ys) end ≡ next = same_once run xs ys end e in
        let most : r.turn.taken ≤ length xs = once_taken run xs false in
        let rest : drop (call_at masks run (xs ++ ys) end).turn.taken (xs ++ ys) ≡ left ++ ys =
        ap (λ (x : Read). drop x.turn.taken (xs ++ ys)) e ∙ drop-append-le r.turn.taken xs ys most in
        all_on j run (xs ++ ys) end u
        ∙ ap₂ (λ (x : Run) (l : List ℕ). read_all j masks x l end) same rest
        ∙ cut k j next left (once_shaped run xs false sh) (next-enough k run xs false sh t x)
        (subst₂ (λ (x : Run) (l : List ℕ). Enough j x l) same rest (next-enough j run (xs ++ ys) end sh u y))
        ∙ sym (ap (λ (x : Run). read_piece masks x ys end) (all_on k run xs false t)))
        (λ t.
        by_test (is_more r.turn.answer)
        (λ m.
        same_on (suc (length ys)) j run next (xs ++ ys) ys end sh (once_shaped run xs false sh) y (inl (omega arith)) (late_run run xs ys end four sh m)
        (ap (λ (x : Read). x.turn.answer) (late_call run xs ys end four sh m)) (late_left run xs ys end four sh m)
        ∙ sym (piece_on next ys end (next-open run xs ys end four sh m)))
        (λ m.
        let e : call_at masks run (xs ++ ys) end ≡ r = once_early run xs ys end m in
        all_stop j run (xs ++ ys) end (ap (λ (x : Read). is_event x.turn.answer) e ∙ t)
        ∙ same_once run xs ys end e
        ∙ sym (piece_over next ys end (once_over run xs false ∙ last_final r.turn.answer t m)))
        ∙ sym (ap (λ (x : Run). read_piece masks x ys end) (all_stop k run xs false t)))

    split : (run : Run) (xs : List ℕ) → Shaped run.session
        → read_piece masks (read_piece masks run xs false) ys end ≡ read_piece masks run (xs ++ ys) end
    split run xs sh =
        by_test run.over
        (λ t.
        ap (λ (x : Run). read_piece masks x ys end) (piece_over run xs false t) ∙ piece_over run ys end t ∙ sym (piece_over run (xs ++ ys) end t))
        (λ t.
        ap (λ (x : Run). read_piece masks x ys end) (piece_on run xs false t)
        ∙ sym (cut (suc (suc (length xs))) (suc (suc (length (xs ++ ys)))) run xs sh (inl (omega arith)) (inl (omega arith)))
        ∙ sym (piece_on run (xs ++ ys) end t))

-- the masks that the caller lends have four bytes each
pub any_cutting : (masks : ℕ → Masks) → ((n : ℕ) → length (masks n).first ≡ 4) → (run : Run) → Shaped run.session
    → (piece : List ℕ) (pieces : List (List ℕ)) (end : Bool)
    → read_pieces masks run (piece ∷ pieces) end ≡ read_pieces masks run (joined (piece ∷ pieces) ∷ []) end
unfolding read_pieces joined
any_cutting masks four run sh p [] end = ap (λ (l : List ℕ). read_piece masks run l end) (sym (append-nil p))
any_cutting masks four run sh p (q ∷ ps) end =
    any_cutting masks four (read_piece masks run p false) (piece_shaped masks run p false sh) q ps end
    ∙ split masks four (joined (q ∷ ps)) end run p sh
