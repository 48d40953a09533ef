-- However a stream is cut and however output is taken between the calls, the answers, the first two stores and the session apart are the same.
use mathlib.Core.Path.{◌≡◌, refl, sym, ap, ap₂, subst, ◌∙◌}
use mathlib.Core.Bool.{Bool, true, false, not}
use mathlib.Core.List.{List, [], ◌∷◌, ◌++◌}
use mathlib.Core.Logic.{◌⊎◌, inl, inr, ⊎_elim}
use Prim.Native.Nat.{ℕ, zero, suc, ◌+◌, ◌*◌, ◌≤◌}
use native.Mathlib.Omega.{arith}
use lib.Dec.{eqb}
use lib.ListN.{length, drop, replicate, length-replicate}
use borrow.Author.Tests.{not-true, not-false}
use Rattle.base.specs.Table.{pick}
use Rattle.base.specs.Tests.{both, either, first_of}
use Rattle.base.proofs.Choice.{by_test}
use Rattle.session.specs.declared.Answer.{Answer}
use Rattle.session.specs.declared.Answer.TheVariants.{Refused}
use Rattle.session.specs.declared.Masks.{Masks}
use Rattle.session.specs.declared.Session.{Session}
use Rattle.session.specs.Calls.{empty_reply, stores_short, Read, turn, read, read_tests, read_on, read_call}
use Rattle.session.specs.Range.{in_range}
use Rattle.session.specs.Reading.{is_more}
use Rattle.session.specs.Replies.{fits, is_close_reply, reply_frame, Out, move_reply}
use Rattle.session.specs.Session.{is_server, is_terminated, with_reply}
use Rattle.session.proofs.Choices.{both-parts}
use Rattle.session.proofs.Fold.{is_more_lem}
use Rattle.steady.specs.Cutting.{is_event, Seen, Run, noted, landed, behind, call_at, read_once, read_all, read_piece, read_pieces, joined}
use Rattle.steady.specs.Shape.{Shaped}
use Rattle.steady.specs.Taking.{apart, apart_read, apart_run, refused_by, had_room, spared, Caller, Flow, taken_run, taken_bytes, take_each, flow_call, flow_once, flow_all, flow_piece, flow_pieces}
use Rattle.steady.proofs.Again.{either-not, stores_room, room_stores}
use Rattle.steady.proofs.AnyCutting.{any_cutting}
use Rattle.steady.proofs.Headers.{never}
use Rattle.steady.proofs.Parts.{range_held, range_reply}
use Rattle.steady.proofs.Passing.{late_close}
use Rattle.steady.proofs.Sizes.{close_fits, read-size, read-grows, read-settings, Fit, fit_short, fit_read, fit_take}
use Rattle.steady.proofs.Taking.{calm_tests, calm, number, answer_number, number_calm, taking_keeps}

-- ---- the tests of a call on a fit run: those of the state and of the refusal, and 19
late_number : (c t e : Bool) (k : ℕ) → eqb (pick c 2 (pick t k (pick e 19 0))) 19 ≡ false → pick c 2 (pick t k (pick e 19 0)) ≡ pick c 2 (pick t k 0)
late_number true t e k h = refl
late_number false true e k h = refl
late_number false false true k h = never refl h
late_number false false false k h = refl

module _ (run : Run) (masks : Masks) (f : Fit run) where
  abbrev s : Session
  s = run.session

  abbrev n : ℕ
  n = number s masks run.message run.control run.output

  few_tests : n ≡ pick (is_terminated s.state) 2 (pick (not (eqb s.refusal 0)) s.refusal (pick (late_close s masks.first run.output) 19 0))
  unfolding read_tests first_of
  few_tests = rw (f.ranged, room_stores s run.message run.control run.output f.stores)

  no_late : late_close s masks.first run.output ≡ false → n ≡ first_of (calm_tests s.state s.refusal)
  unfolding first_of
  no_late late =
      few_tests ∙ ap (λ (e : Bool). pick (is_terminated s.state) 2 (pick (not (eqb s.refusal 0)) s.refusal (pick e 19 0))) late

  spared-number : (is_server s.settings ≡ false) ⊎ (eqb n 19 ≡ false) → n ≡ first_of (calm_tests s.state s.refusal)
  unfolding first_of
  spared-number =
      ⊎_elim
      (λ t.
      no_late (ap (λ (b : Bool). both b (both (is_close_reply s.reply.waiting) (not (fits s.held run.output (reply_frame s masks.first))))) t))
      (λ h.
      few_tests
      ∙ late_number (is_terminated s.state) (not (eqb s.refusal 0)) (late_close s masks.first run.output) s.refusal
      (sym (ap (λ (k : ℕ). eqb k 19) few_tests) ∙ h))

  wide_number : length masks.first ≡ 4 → s.held + 131 ≤ length run.output → n ≡ first_of (calm_tests s.state s.refusal)
  wide_number four room = no_late (close_fits s masks.first run.output four (fit_short run f) room)

-- ---- a run beside another that is the same apart, whose output has room for so many more calls
abbrev blank : ℕ → Masks
blank place = record { first = 0 ∷ 0 ∷ 0 ∷ 0 ∷ []; second = 0 ∷ 0 ∷ 0 ∷ 0 ∷ [] }

record Follows (k : ℕ) (run beside : Run) : Type 0 where
  same : apart_run run ≡ apart_run beside
  fit : Fit run
  wide : Fit beside
  room : beside.session.held + 131 * k ≤ length beside.output

less : (k j : ℕ) (run beside : Run) → j ≤ k → Follows k run beside → Follows j run beside
less k j run beside h f = record { same = f.same; fit = f.fit; wide = f.wide; room = omega (arith, f.room) }

-- a call on a client's run, or one that is not refused with 19
abbrev Spared : Run → Read → Type 0
Spared run r = (is_server run.session.settings ≡ false) ⊎ (refused_by 19 r.turn.answer ≡ false)

-- what a call leaves, apart, hangs on these
behind-apart : (run : Run) (r : Read) → apart_run (behind run r) ≡ apart_run (behind (apart_run run) (apart_read r))
unfolding behind landed apart_run apart_read apart
behind-apart run r = refl

module _ (j : ℕ) (run beside : Run) (masks : Masks) (piece : List ℕ) (end : Bool) (f : Follows (suc j) run beside) where
  abbrev one : Read
  one = call_at (λ place. masks) run piece end

  abbrev other : Read
  other = call_at blank beside piece end

  module _ (h : Spared run one) where
    same_read : apart_read one ≡ apart_read other
    unfolding call_at apart_run
    same_read =
        number_calm run.session masks run.message run.control run.output piece end
        (spared-number run masks f.fit
        (⊎_elim inl
        (λ a. inr (answer_number run.session masks run.message run.control run.output piece end (refused_by 19) refl a))
        h))
        ∙ ap (λ (r : Run). calm r.session piece end r.message r.control) f.same
        ∙ sym
        (number_calm beside.session (blank 0) beside.message beside.control beside.output piece end
        (wide_number beside (blank 0) f.wide refl (omega (arith, f.room))))

    once_follows : Follows j (read_once (λ place. masks) run piece end) (read_once blank beside piece end)
    unfolding call_at read_once behind landed
    once_follows =
        let s : Session = beside.session in
        let size = read-size s piece end (blank 0) beside.message beside.control beside.output in
        let grows = read-grows s piece end (blank 0) beside.message beside.control beside.output refl (fit_short beside f.wide) in
        record {
          same = behind-apart run one ∙ ap₂ (λ (x : Run) (r : Read). apart_run (behind x r)) f.same same_read ∙ sym (behind-apart beside other);
          fit = fit_read (λ place. masks) run piece end f.fit;
          wide = fit_read blank beside piece end f.wide;
          room = omega (arith, f.room);
        }

-- ---- takes change nothing of the run apart
take-apart : (run : Run) (n : ℕ) → apart_run (taken_run run n) ≡ apart_run run
unfolding taken_run apart_run
take-apart run n =
    λ i.
    record {
      session = taking_keeps run.session n run.output i;
      message = run.message;
      control = run.control;
      output = [];
      place = run.place;
      trace = run.trace;
      over = run.over;
    }

takes_apart : (x : Flow) (ns : List ℕ) → apart_run (take_each x ns).run ≡ apart_run x.run
unfolding take_each
takes_apart x [] = refl
takes_apart x (n ∷ ns) =
    takes_apart (record { run = taken_run x.run n; calls = x.calls; put = x.put ++ taken_bytes x.run n }) ns ∙ take-apart x.run n

takes_fit : (x : Flow) (ns : List ℕ) → Fit x.run → Fit (take_each x ns).run
unfolding take_each
takes_fit x [] f = f
takes_fit x (n ∷ ns) f =
    takes_fit (record { run = taken_run x.run n; calls = x.calls; put = x.put ++ taken_bytes x.run n }) ns (fit_take x.run n f)

-- ---- a trace without 19 was so before the call, and the call's answer was another
append-room : (l : List Seen) (x : Seen) → had_room (l ++ (x ∷ [])) ≡ true → (had_room l ≡ true) × (refused_by 19 x.answer ≡ false)
unfolding had_room
append-room [] x h = (refl, not-true (refused_by 19 x.answer) (both-parts (not (refused_by 19 x.answer)) true h).0)
append-room (y ∷ l) x h =
    let p = both-parts (not (refused_by 19 y.answer)) (had_room (l ++ (x ∷ []))) h in
    let q = append-room l x p.1 in
    (rw p.0 q.0, q.1)

noted-room : (trace : List Seen) (a : Answer) (place : ℕ) → had_room (noted trace a place) ≡ true → (had_room trace ≡ true) × (refused_by 19 a ≡ false)
unfolding noted
noted-room trace a place =
    by_test (is_more a) (λ t. rw t (λ h. (h, ap (refused_by 19) (is_more_lem a t)))) (λ t. rw t (append-room trace (record { answer = a; place = place })))

server_room : (server room : Bool) → server ≡ true → either (not server) room ≡ true → room ≡ true
server_room true room e h = h
server_room false room e h = never e refl

-- so many calls are made on the pieces at most
abbrev most : List (List ℕ) → ℕ
most [] = 0
most (p ∷ ps) = suc (suc (length p)) + most ps

module _ (c : Caller) where
  -- ---- one call and the takes behind it
  module _ (x : Flow) (piece : List ℕ) (end : Bool) where
    abbrev read_next : Run
    read_next = read_once (λ place. c.masks x.calls) x.run piece end

    once_apart : apart_run (flow_once c x piece end).run ≡ apart_run read_next
    unfolding flow_once
    once_apart = takes_apart (record { run = read_next; calls = x.calls + 1; put = x.put }) (c.takes x.calls read_next)

    once_fit : Fit read_next → Fit (flow_once c x piece end).run
    unfolding flow_once
    once_fit = takes_fit (record { run = read_next; calls = x.calls + 1; put = x.put }) (c.takes x.calls read_next)

    once_room : had_room (flow_once c x piece end).run.trace ≡ true
        → (had_room x.run.trace ≡ true) × (refused_by 19 (flow_call c x piece end).turn.answer ≡ false)
    unfolding apart_run read_once behind landed flow_call
    once_room h =
        let r : Read = flow_call c x piece end in
        noted-room x.run.trace r.turn.answer (x.run.place + r.turn.taken) (sym (ap (λ (r : Run). had_room r.trace) once_apart) ∙ h)

    once_settings : (flow_once c x piece end).run.session.settings ≡ x.run.session.settings
    unfolding apart_run apart read_once behind landed call_at
    once_settings =
        ap (λ (r : Run). r.session.settings) once_apart
        ∙ read-settings x.run.session piece end (c.masks x.calls) x.run.message x.run.control x.run.output

    once_spared : spared (flow_once c x piece end).run ≡ true → (spared x.run ≡ true) × Spared x.run (flow_call c x piece end)
    unfolding spared
    once_spared h =
        let y : Run = (flow_once c x piece end).run in
        by_test (is_server x.run.session.settings)
        (λ t.
        let p = once_room (server_room (is_server y.session.settings) (had_room y.trace) (ap is_server once_settings ∙ t) h) in
        (rw t p.0, inr p.1))
        (λ t. (rw t refl, inl t))

  all_spared : (k : ℕ) (x : Flow) (piece : List ℕ) (end : Bool) → spared (flow_all k c x piece end).run ≡ true → spared x.run ≡ true
  unfolding flow_all
  all_spared zero x piece end = λ h. h
  all_spared (suc k) x piece end =
      by_test (is_event (flow_call c x piece end).turn.answer)
      (λ t.
      rw t
      (λ h. (once_spared x piece end (all_spared k (flow_once c x piece end) (drop (flow_call c x piece end).turn.taken piece) end h)).0))
      (λ t. rw t (λ h. (once_spared x piece end h).0))

  piece_spared : (x : Flow) (piece : List ℕ) (end : Bool) → spared (flow_piece c x piece end).run ≡ true → spared x.run ≡ true
  unfolding flow_piece
  piece_spared x piece end = go x.run.over
    where
      go : (t : Bool) → spared (pick t x (flow_all (suc (suc (length piece))) c x piece end)).run ≡ true → spared x.run ≡ true
      go true h = h
      go false h = all_spared (suc (suc (length piece))) x piece end h

  pieces_spared : (x : Flow) (pieces : List (List ℕ)) (end : Bool) → spared (flow_pieces c x pieces end).run ≡ true → spared x.run ≡ true
  unfolding flow_pieces
  pieces_spared x [] end h = h
  pieces_spared x (p ∷ []) end h = piece_spared x p end h
  pieces_spared x (p ∷ (q ∷ ps)) end h = piece_spared x p false (pieces_spared (flow_piece c x p false) (q ∷ ps) end h)

  -- ---- the run beside it
  flow_follows : (j : ℕ) (x : Flow) (beside : Run) (piece : List ℕ) (end : Bool) → Follows (suc j) x.run beside
      → Spared x.run (flow_call c x piece end)
      → (apart_read (flow_call c x piece end) ≡ apart_read (call_at blank beside piece end)) × Follows j (flow_once c x piece end).run (read_once blank beside piece end)
  unfolding flow_call
  flow_follows j x beside piece end f h =
      let m : Masks = c.masks x.calls in
      let g = once_follows j x.run beside m piece end f h in (
        same_read j x.run beside m piece end f h,
        record { same = once_apart x piece end ∙ g.same; fit = once_fit x piece end g.fit; wide = g.wide; room = g.room },
      )

  all_follows : (k j : ℕ) (x : Flow) (beside : Run) (piece : List ℕ) (end : Bool) → Follows (k + j) x.run beside
      → spared (flow_all k c x piece end).run ≡ true → Follows j (flow_all k c x piece end).run (read_all k blank beside piece end)
  unfolding flow_all read_all apart_read
  all_follows zero j x beside piece end f = λ h. less (0 + j) j x.run beside (omega arith) f
  all_follows (suc k) j x beside piece end f =
      let r : Read = flow_call c x piece end in
      let q : Read = call_at blank beside piece end in
      let y : Flow = flow_once c x piece end in
      let next : Run = read_once blank beside piece end in
      let e : Follows (suc (k + j)) x.run beside = less (suc k + j) (suc (k + j)) x.run beside (omega arith) f in
      by_test (is_event r.turn.answer)
      (λ t.
      rw t
      (λ h.
      let g = flow_follows (k + j) x beside piece end e (once_spared x piece end (all_spared k y (drop r.turn.taken piece) end h)).1 in
      let u : is_event q.turn.answer ≡ true = sym (ap (λ (a : Read). is_event a.turn.answer) g.0) ∙ t in
      rw u
      (subst (λ (n : ℕ). Follows j (flow_all k c y (drop r.turn.taken piece) end).run (read_all k blank next (drop n piece) end))
      (ap (λ (a : Read). a.turn.taken) g.0) (all_follows k j y next (drop r.turn.taken piece) end g.1 h))))
      (λ t.
      rw t
      (λ h.
      let g = flow_follows (k + j) x beside piece end e (once_spared x piece end h).1 in
      let u : is_event q.turn.answer ≡ false = sym (ap (λ (a : Read). is_event a.turn.answer) g.0) ∙ t in
      rw u (less (k + j) j y.run next (omega arith) g.1)))

  piece_follows : (j : ℕ) (x : Flow) (beside : Run) (piece : List ℕ) (end : Bool) → Follows (suc (suc (length piece)) + j) x.run beside
      → spared (flow_piece c x piece end).run ≡ true → Follows j (flow_piece c x piece end).run (read_piece blank beside piece end)
  unfolding flow_piece read_piece apart_run
  piece_follows j x beside piece end f = go x.run.over beside.over (ap (λ (r : Run). r.over) f.same)
    where
      n : ℕ
      n = suc (suc (length piece))

      go : (a b : Bool) → a ≡ b → spared (pick a x (flow_all n c x piece end)).run ≡ true
          → Follows j (pick a x (flow_all n c x piece end)).run (pick b beside (read_all n blank beside piece end))
      go true true e h = less (n + j) j x.run beside (omega arith) f
      go true false e h = never refl e
      go false true e h = never e refl
      go false false e h = all_follows n j x beside piece end f h

  pieces_follow : (x : Flow) (beside : Run) (pieces : List (List ℕ)) (end : Bool) → Follows (most pieces) x.run beside
      → spared (flow_pieces c x pieces end).run ≡ true → Follows 0 (flow_pieces c x pieces end).run (read_pieces blank beside pieces end)
  unfolding flow_pieces read_pieces
  pieces_follow x beside [] end f h = f
  pieces_follow x beside (p ∷ []) end f h = piece_follows 0 x beside p end f h
  pieces_follow x beside (p ∷ (q ∷ ps)) end f h =
      let y : Flow = flow_piece c x p false in
      pieces_follow y (read_piece blank beside p false) (q ∷ ps) end
      (piece_follows (most (q ∷ ps)) x beside p false f (pieces_spared y (q ∷ ps) end h)) h

-- ---- a run that takes nothing, with an output that is wide enough
abbrev widened : ℕ → Run → Run
widened n run =
    record {
      session = run.session;
      message = run.message;
      control = run.control;
      output = replicate n 0;
      place = run.place;
      trace = run.trace;
      over = run.over;
    }

starts : (run : Run) (n k : ℕ) → Fit run → 131 ≤ n → 131 * k ≤ n → Follows k run (widened n (apart_run run))
unfolding apart_run apart empty_reply
starts run n k f h l =
    let size : length (replicate {A = ℕ} n 0) ≡ n = length-replicate n 0 in
    record {
      same = refl;
      fit = f;
      wide =
          record {
            shaped = (f.shaped.0, refl);
            ranged = range_held (with_reply run.session empty_reply) 0 (range_reply run.session empty_reply f.ranged (λ w. omega arith));
            stores = record { for_message = f.stores.for_message; for_control = f.stores.for_control; for_output = omega arith; for_held = omega arith };
          };
      room = omega arith;
    }

flow_whole : (c : Caller) (x : Flow) → Fit x.run → (p : List ℕ) (ps : List (List ℕ)) (end : Bool) → spared (flow_pieces c x (p ∷ ps) end).run ≡ true
    → (n : ℕ) → 131 ≤ n → 131 * most (p ∷ ps) ≤ n
    → apart_run (flow_pieces c x (p ∷ ps) end).run ≡ apart_run (read_pieces blank (widened n (apart_run x.run)) (joined (p ∷ ps) ∷ []) end)
flow_whole c x f p ps end h n m l =
    let beside : Run = widened n (apart_run x.run) in
    let start : Follows (most (p ∷ ps)) x.run beside = starts x.run n (most (p ∷ ps)) f m l in
    (pieces_follow c x beside (p ∷ ps) end start h).same ∙ ap apart_run (any_cutting blank (λ place. refl) beside start.wide.shaped p ps end)

-- from fit runs that are the same apart
pub taking_from_alike : (c d : Caller) (x y : Flow) → apart_run x.run ≡ apart_run y.run → Fit x.run → Fit y.run
    → (p : List ℕ) (ps : List (List ℕ)) (q : List ℕ) (qs : List (List ℕ)) → joined (p ∷ ps) ≡ joined (q ∷ qs) → (end : Bool)
    → spared (flow_pieces c x (p ∷ ps) end).run ≡ true → spared (flow_pieces d y (q ∷ qs) end).run ≡ true
    → apart_run (flow_pieces c x (p ∷ ps) end).run ≡ apart_run (flow_pieces d y (q ∷ qs) end).run
taking_from_alike c d x y same f g p ps q qs stream end h k =
    let n : ℕ = 131 + 131 * most (p ∷ ps) + 131 * most (q ∷ qs) in
    flow_whole c x f p ps end h n (omega arith) (omega arith)
    ∙ ap₂ (λ (r : Run) (l : List ℕ). apart_run (read_pieces blank (widened n r) (l ∷ []) end)) same stream
    ∙ sym (flow_whole d y g q qs end k n (omega arith) (omega arith))

-- ---- a run that is not fit: the first call is refused with 20 or 1, and is the last
module _ (run : Run) where
  abbrev unfit : Bool
  unfit = either (not (in_range run.session)) (stores_short run.session run.message run.control run.output)

  abbrev halt : Read
  halt = read (turn (Refused (pick (not (in_range run.session)) 20 1)) 0 run.session) run.message run.control run.output

  halted : (masks : ℕ → Masks) (piece : List ℕ) (end : Bool) → unfit ≡ true → call_at masks run piece end ≡ halt
  unfolding call_at read_call read_tests first_of
  halted masks piece end =
      let v : Out = move_reply run.session (masks run.place).first run.output in
      go (not (in_range run.session)) (stores_short run.session run.message run.control run.output) _
      (read_on v.session piece end run.message run.control v.output)
    where
      go : (a b : Bool) (n : ℕ) (r : Read) → either a b ≡ true
          → pick (eqb (pick a 20 (pick b 1 n)) 0) r (read (turn (Refused (pick a 20 (pick b 1 n))) 0 run.session) run.message run.control run.output)
          ≡ read (turn (Refused (pick a 20 1)) 0 run.session) run.message run.control run.output
      go true b n r e = refl
      go false true n r e = refl
      go false false n r e = never e refl

module _ (c : Caller) where
  piece_over : (x : Flow) (piece : List ℕ) (end : Bool) → x.run.over ≡ true → flow_piece c x piece end ≡ x
  unfolding flow_piece
  piece_over x piece end t = ap (λ (b : Bool). pick b x (flow_all (suc (suc (length piece))) c x piece end)) t

  all_over : (x : Flow) (pieces : List (List ℕ)) (end : Bool) → x.run.over ≡ true → flow_pieces c x pieces end ≡ x
  unfolding flow_pieces
  all_over x [] end t = refl
  all_over x (p ∷ []) end t = piece_over x p end t
  all_over x (p ∷ (q ∷ ps)) end t = ap (λ (y : Flow). flow_pieces c y (q ∷ ps) end) (piece_over x p false t) ∙ all_over x (q ∷ ps) end t

  module _ (x : Flow) (going : x.run.over ≡ false) (u : unfit x.run ≡ true) where
    stop_once : (piece : List ℕ) (end : Bool) → apart_run (flow_once c x piece end).run ≡ apart_run (behind x.run (halt x.run))
    unfolding read_once
    stop_once piece end =
        once_apart c x piece end
        ∙ ap (λ (r : Read). apart_run (behind x.run r)) (halted x.run (λ place. c.masks x.calls) piece end u)

    stop_piece : (piece : List ℕ) (end : Bool) → flow_piece c x piece end ≡ flow_once c x piece end
    unfolding flow_piece flow_all flow_call
    stop_piece piece end =
        ap (λ (b : Bool). pick b x (flow_all (suc (suc (length piece))) c x piece end)) going
        ∙ rw (halted x.run (λ place. c.masks x.calls) piece end u)

    stop : (p : List ℕ) (ps : List (List ℕ)) (end : Bool) → apart_run (flow_pieces c x (p ∷ ps) end).run ≡ apart_run (behind x.run (halt x.run))
    unfolding flow_pieces apart_run behind landed
    stop p [] end = ap (λ (y : Flow). apart_run y.run) (stop_piece p end) ∙ stop_once p end
    stop p (q ∷ ps) end =
        let y : Flow = flow_once c x p false in
        ap (λ (z : Flow). apart_run (flow_pieces c z (q ∷ ps) end).run) (stop_piece p false)
        ∙ ap (λ (z : Flow). apart_run z.run) (all_over y (q ∷ ps) end (ap (λ (r : Run). r.over) (stop_once p false)))
        ∙ stop_once p false

-- ---- every session, every stream, every two ways to cut it, and every two callers. Unless a server's call is refused with 19, what may
-- differ is the waiting reply, and what is held and put out
pub taking_changes_only_replies : (c d : Caller) (x : Flow) → Shaped x.run.session
    → (p : List ℕ) (ps : List (List ℕ)) (q : List ℕ) (qs : List (List ℕ)) → joined (p ∷ ps) ≡ joined (q ∷ qs) → (end : Bool)
    → spared (flow_pieces c x (p ∷ ps) end).run ≡ true → spared (flow_pieces d x (q ∷ qs) end).run ≡ true
    → apart_run (flow_pieces c x (p ∷ ps) end).run ≡ apart_run (flow_pieces d x (q ∷ qs) end).run
taking_changes_only_replies c d x sh p ps q qs stream end h k =
    let s : Session = x.run.session in
    by_test x.run.over
    (λ t. ap (λ (y : Flow). apart_run y.run) (all_over c x (p ∷ ps) end t ∙ sym (all_over d x (q ∷ qs) end t)))
    (λ t.
    by_test (unfit x.run) (λ u. stop c x t u p ps end ∙ sym (stop d x t u q qs end))
    (λ u.
    let e = either-not (not (in_range s)) _ u in
    let f : Fit x.run =
    record {
      shaped = sh;
      ranged = not-false (in_range s) e.0;
      stores = stores_room s x.run.message x.run.control x.run.output e.1;
    } in
    taking_from_alike c d x x refl f f p ps q qs stream end h k))
