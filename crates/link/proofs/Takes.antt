-- Taking output, and a cut, keep the invariant.
use mathlib.Core.Path.{◌≡◌, refl, sym, ap, ap₂, ◌∙◌}
use mathlib.Core.Bool.{Bool, true, false, not}
use mathlib.Core.List.{List, [], ◌++◌, append_assoc}
use Prim.Native.Nat.{ℕ, ◌-◌, ◌≤◌}
use native.Mathlib.Omega.{arith}
use lib.Dec.{eqb, ltb}
use lib.ListN.{length, take, drop, take-append-drop, length-drop}
use lib.Seq.{length-take-le}
use borrow.Author.Tests.{eqb-true, ltb-false, le-ltb}
use Rattle.base.specs.Bytes.{part}
use Rattle.base.specs.Stores.{laid}
use Rattle.base.specs.Table.{pick}
use Rattle.base.specs.Tests.{first_of}
use Rattle.base.proofs.Bytes.{take-drop}
use Rattle.base.proofs.Choice.{by_test}
use Rattle.base.proofs.Stores.{length-laid}
use Rattle.base.proofs.Tests.{first_clear}
use Rattle.session.specs.Calls.{output_short, held_number, held_part, take_tests, take_call}
use Rattle.session.specs.declared.Session.{Session}
use Rattle.session.specs.Range.{in_range}
use Rattle.session.specs.Session.{with_held}
use Rattle.steady.proofs.Again.{either-not}
use Rattle.steady.proofs.Headers.{never}
use Rattle.steady.proofs.Parts.{range_held}
use Rattle.link.specs.System.{End, Pipe, Side, given_bytes, taken, cut_at}
use Rattle.link.proofs.Direction.{Kept, held_of, Wire, speaks, hears, Inv}
use Rattle.link.proofs.FrameBack.{front_laid}
use Rattle.link.proofs.Frames.{Frame}

-- ---- some of what is held goes over to the pipe, or is lost
abbrev on_pipe : Pipe → List ℕ → Pipe
on_pipe p bytes = record { given = p.given ++ bytes; bytes = pick p.cut p.bytes (p.bytes ++ bytes); cut = p.cut }

wire_taken : {client : Bool} {frames rest : List Frame} {part lost : List ℕ} {pipe : Pipe} {held : List ℕ} (bytes left : List ℕ) → held ≡ bytes ++ left
    → Wire client frames rest part lost pipe held → Wire client frames rest part (pick pipe.cut (lost ++ bytes) lost) (on_pipe pipe bytes) left
wire_taken {client} {frames} {rest} {part} {lost} {pipe} {held} bytes left e w =
    record {
      flow = go pipe.cut w.whole ∙ ap (λ (h : List ℕ). part ++ (pipe.bytes ++ (lost ++ h))) (sym e) ∙ w.flow;
      whole = still pipe.cut w.whole;
      given = append_assoc pipe.given bytes left ∙ ap (λ (h : List ℕ). pipe.given ++ h) (sym e) ∙ w.given;
    }
  where
    go : (t : Bool) → (t ≡ false → lost ≡ [])
        → part ++ (pick t pipe.bytes (pipe.bytes ++ bytes) ++ (pick t (lost ++ bytes) lost ++ left)) ≡ part ++ (pipe.bytes ++ (lost ++ (bytes ++ left)))
    go true h = ap (λ (b : List ℕ). part ++ (pipe.bytes ++ b)) (append_assoc lost bytes left)
    go false h = ap (λ (b : List ℕ). part ++ b)
        (append_assoc pipe.bytes bytes (lost ++ left)
        ∙ ap (λ (l : List ℕ). pipe.bytes ++ (bytes ++ (l ++ left))) (h refl)
        ∙ ap (λ (l : List ℕ). pipe.bytes ++ (l ++ (bytes ++ left))) (sym (h refl)))

    still : (t : Bool) → (t ≡ false → lost ≡ []) → t ≡ false → pick t (lost ++ bytes) lost ≡ []
    still true h k = never refl k
    still false h k = h k

-- ---- a side whose held bytes and pipe changed, and nothing else
module _ (l r : Side) (v : Inv l r) (held : ℕ) (output bytes : List ℕ) where
  abbrev end' : End
  end' = record { session = with_held l.end.session held; message = l.end.message; control = l.end.control; output = output }

  abbrev now_side : Side
  now_side = record { end = end'; pipe = on_pipe l.pipe bytes; answers = l.answers }

  hand_inv : length output ≡ length l.end.output → held ≤ length output → held_of l.end ≡ bytes ++ take held output
      → Inv now_side r
  hand_inv size room e =
      let k = v.kept-l in
      record {
        p = v.p;
        q = v.q;
        is_p = v.is_p;
        is_q = v.is_q;
        kept-l =
            record {
              shaped = k.shaped;
              ranged = range_held l.end.session held k.ranged;
              unrefused = k.unrefused;
              room =
                  record {
                    for_message = k.room.for_message;
                    for_control = k.room.for_control;
                    for_output = omega (arith, k.room.for_output);
                    for_held = room;
                  };
              wide = k.wide;
            };
        kept-r = v.kept-r;
        lr =
            speaks l now_side r v.p v.p v.q v.lr (pick l.pipe.cut (v.lr.lost ++ bytes) v.lr.lost) v.lr.toward
            (wire_taken bytes (take held output) e v.lr.wire) v.lr.sender;
        rl = hears r l now_side v.q v.p v.p v.rl v.rl.toward v.rl.sender v.rl.reader;
        fin_l = record { ends = v.fin_l.ends };
        fin_r = record { ends = v.fin_r.ends };
      }

-- ---- a take
-- all that is held is shown
pub shown-held : (e : End) → Kept e → held_part e.session e.output ≡ held_of e
unfolding held_part held_number output_short first_of
shown-held e k =
    rw (
      k.ranged,
      le-ltb (length e.output) 131 k.room.for_output,
      le-ltb (length e.output) e.session.held k.room.for_held,
    )

module _ (l r : Side) (v : Inv l r) (n : ℕ) where
  abbrev s : Session
  s = l.end.session

  abbrev o : List ℕ
  o = l.end.output

  abbrev number : ℕ
  number = first_of (take_tests s n o)

  most : number ≡ 0 → n ≤ s.held
  unfolding take_tests
  most h = ltb-false s.held n (either-not (not (in_range s)) (ltb s.held n) (first_clear 20 _ _ (λ e. absurd (omega arith)) h).0).1

  -- the rest moves to the front
  moved : n ≤ s.held → take (s.held - n) (laid o 0 (part n (s.held - n) o)) ≡ drop n (held_of l.end)
  unfolding part
  moved h =
      let room : s.held ≤ length o = v.kept-l.room.for_held in
      let rest : List ℕ = take (s.held - n) (drop n o) in
      let size : length rest ≡ s.held - n = length-take-le (s.held - n) (drop n o) (omega (arith, length-drop n o)) in
      ap (λ (k : ℕ). take k (laid o 0 rest)) (sym size) ∙ front_laid o rest (omega arith) ∙ sym (take-drop n s.held o h)

  pub take-inv : Inv (taken l n) r
  unfolding taken given_bytes take_call
  take-inv =
      by_test (eqb number 0)
      (λ t.
      let few : n ≤ s.held = most (eqb-true number 0 t) in
      rw t
      (hand_inv l r v (s.held - n) (laid o 0 (part n (s.held - n) o)) (take n (held_part s o)) (length-laid o 0 (part n (s.held - n) o))
      (omega (arith, length-laid o 0 (part n (s.held - n) o), v.kept-l.room.for_held))
      (sym (take-append-drop n (held_of l.end)) ∙ ap₂ (λ (a b : List ℕ). a ++ b) (ap (take n) (sym (shown-held l.end v.kept-l))) (sym (moved few)))))
      (λ t. rw t (hand_inv l r v s.held o [] refl v.kept-l.room.for_held refl))

-- ---- a cut
wire_cut : {client : Bool} {frames rest : List Frame} {part lost : List ℕ} {pipe : Pipe} {held : List ℕ} (n : ℕ) → Wire client frames rest part lost pipe held
    → Wire client frames rest part (drop n pipe.bytes ++ lost) (record { given = pipe.given; bytes = take n pipe.bytes; cut = true }) held
wire_cut {client} {frames} {rest} {part} {lost} {pipe} {held} n w =
    let kept : List ℕ = take n pipe.bytes in
    let gone : List ℕ = drop n pipe.bytes in
    record {
      flow =
          ap (λ (b : List ℕ). part ++ b)
          (ap (λ (b : List ℕ). kept ++ b) (append_assoc gone lost held)
          ∙ sym (append_assoc kept gone (lost ++ held))
          ∙ ap (λ (b : List ℕ). b ++ (lost ++ held)) (take-append-drop n pipe.bytes))
          ∙ w.flow;
      whole = λ e. never refl e;
      given = w.given;
    }

pub cut_inv : (l r : Side) (v : Inv l r) (n : ℕ) → Inv (cut_at l n) r
unfolding cut_at
cut_inv l r v n =
    record {
      p = v.p;
      q = v.q;
      is_p = v.is_p;
      is_q = v.is_q;
      kept-l = v.kept-l;
      kept-r = v.kept-r;
      lr =
          speaks l (cut_at l n) r v.p v.p v.q v.lr (drop n l.pipe.bytes ++ v.lr.lost) v.lr.toward (wire_cut n v.lr.wire) v.lr.sender;
      rl = hears r l (cut_at l n) v.q v.p v.p v.rl v.rl.toward v.rl.sender v.rl.reader;
      fin_l = record { ends = λ c. never refl c };
      fin_r = record { ends = λ d c. never refl c };
    }
