-- A run of payload bytes at once is the bytes one by one.
use mathlib.Core.Path.{◌≡◌, refl, sym, ap, ap₂, ◌∙◌}
use mathlib.Core.Bool.{Bool, true, false}
use mathlib.Core.List.{List, [], ◌∷◌, ◌++◌}
use Prim.Native.Nat.{ℕ, suc, ◌+◌, ◌<◌, ◌≤◌}
use native.Mathlib.Omega.{arith}
use lib.Dec.{eqb, ltb}
use lib.ListN.{length, get_or}
use borrow.Author.Tests.{lt-leb, lt-ltb, eq-eqb, ne_eqb}
use Rattle.std.specs.Prelude.{Option, None, Some}
use Rattle.base.specs.Bytes.{part}
use Rattle.base.specs.Stores.{laid}
use Rattle.base.specs.Table.{pick}
use Rattle.base.specs.Tests.{both}
use Rattle.base.proofs.Stores.{laid-append, laid-part}
use Rattle.frame.specs.declared.header.FrameHeader.{FrameHeader}
use Rattle.frame.specs.Header.{second_of, header_of, mask_in, mask_given}
use Rattle.mask.specs.Mask.{masked}
use Rattle.mask.proofs.Laws.{masked-append, length-masked}
use Rattle.session.specs.declared.Answer.{Answer}
use Rattle.session.specs.declared.Answer.TheVariants.{More}
use Rattle.session.specs.declared.Incoming.{Incoming}
use Rattle.session.specs.declared.Settings.{Settings}
use Rattle.session.specs.Frames.{kept, header_whole, frame, is_control, is_text, before, progress_now, doom_tests, doom}
use Rattle.session.specs.Reading.{World, world, after, plain, counts, stored, rest, byte_in, step, feed}
use Rattle.stores.specs.Framed.{framed}
use Rattle.utf8.specs.Progress.{progress_after}
use Rattle.utf8.proofs.Laws.{progress_append}
use Rattle.base.proofs.Choice.{by_test}

-- ---- counting changes nothing of what the header says
module _ (i : Incoming) (n p : ℕ) where
  pub frame_on : frame (counts i n p) ≡ frame i
  unfolding frame
  frame_on = refl

  pub whole_on : header_whole (counts i n p) ≡ header_whole i
  unfolding header_whole
  whole_on = refl

  before_on : before (counts i n p) ≡ before i
  unfolding before
  before_on = refl

  text_on : is_text (frame i) (counts i n p) ≡ is_text (frame i) i
  unfolding is_text
  text_on = refl

  doom-on : (g : Settings) (state : ℕ) → doom g state (frame i) (counts i n p) ≡ doom g state (frame i) i
  unfolding doom doom_tests before
  doom-on g state = refl

-- ---- the mask that is read
pub plain_framed : (i : Incoming) (vs : List ℕ) {mask : Option (List ℕ)} → header_whole i ≡ true → mask ≡ mask_given (kept i) → framed mask i.counted vs ≡ plain i vs
unfolding plain frame header_of header_whole mask_given
plain_framed i vs h e =
    ap (λ (o : Option (List ℕ)). framed o i.counted vs) e ∙ rw h (go (second_of (get_or (kept i) 1 0)).masked)
  where
    go : (b : Bool) → framed (pick (both true b) (Some (mask_in (kept i))) None) i.counted vs ≡ pick b (masked (mask_in (kept i)) i.counted vs) vs
    go true = refl
    go false = refl

-- ---- a run in two parts
pub length-plain : (i : Incoming) (vs : List ℕ) → length (plain i vs) ≡ length vs
unfolding plain
length-plain i vs = by_test (frame i).masked (λ t. simp t (length-masked _ _ vs)) (λ t. simp t)

pub plain-append : (i : Incoming) (p : ℕ) (xs ys : List ℕ) → plain i (xs ++ ys) ≡ plain i xs ++ plain (counts i (length xs) p) ys
unfolding plain
plain-append i p xs ys =
    by_test (frame i).masked (λ t. simp (frame_on i (length xs) p, t) (masked-append _ _ xs ys)) (λ t. simp (frame_on i (length xs) p, t))

-- ---- what a run leaves, in the three cases
module _ (g : Settings) (state : ℕ) (i : Incoming) (m c : List ℕ) (a : Answer) (vs : List ℕ) where
  pub stored-doomed : eqb (doom g state (frame i) i) 0 ≡ false
      → stored g state (world i m c a) vs ≡ world (counts i (length vs) i.progress) m c a
  unfolding stored
  stored-doomed t = rw t

  pub stored-control : eqb (doom g state (frame i) i) 0 ≡ true → is_control (frame i).opcode ≡ true
      → stored g state (world i m c a) vs ≡ world (counts i (length vs) i.progress) m (laid c i.counted (plain i vs)) a
  unfolding stored
  stored-control t u = rw (t, u)

  pub stored-data : eqb (doom g state (frame i) i) 0 ≡ true → is_control (frame i).opcode ≡ false
      → stored g state (world i m c a) vs
      ≡ world (counts i (length vs) (pick (is_text (frame i) i) (progress_after (progress_now i) (plain i vs)) i.progress))
      (laid m (before i + i.counted) (plain i vs)) c a
  unfolding stored
  stored-data t u = rw (t, u)

-- ---- the same, as the code has them: a header f that is the kept one, and the stores and numbers that the calls gave
module _ (g : Settings) (state : ℕ) (i : Incoming) (m c : List ℕ) (vs : List ℕ) (f : FrameHeader) (kept-one : f ≡ frame i) where
  pub run-doomed : {j : Incoming} → (doom g state f i ≡ 0 → ⊥) → j ≡ counts i (length vs) i.progress
      → world j m c More ≡ stored g state (world i m c More) vs
  run-doomed h e =
      ap (λ (x : Incoming). world x m c More) e
      ∙ sym (stored-doomed g state i m c More vs (ne_eqb (doom g state (frame i) i) 0 (λ z. h (ap (λ (x : FrameHeader). doom g state x i) kept-one ∙ z))))

  clear : doom g state f i ≡ 0 → eqb (doom g state (frame i) i) 0 ≡ true
  clear h = eq-eqb (doom g state (frame i) i) 0 (ap (λ (x : FrameHeader). doom g state x i) (sym kept-one) ∙ h)

  plain_by : {mask : List ℕ} → (f.masked ≡ true → mask ≡ mask_in (kept i)) → pick f.masked (masked mask i.counted vs) vs ≡ plain i vs
  unfolding plain
  plain_by e =
      let same : f.masked ≡ (frame i).masked = ap (λ (x : FrameHeader). x.masked) kept-one in
      by_test f.masked
      (λ t. rw (t, sym same ∙ t) (ap (λ (k : List ℕ). masked k i.counted vs) (e t)))
      (λ t. rw (t, sym same ∙ t))

  pub run-control : {j : Incoming} {mask : Option (List ℕ)} {d : List ℕ} → doom g state f i ≡ 0 → is_control f.opcode ≡ true → header_whole i ≡ true → mask ≡ mask_given (kept i)
      → d ≡ laid c i.counted (framed mask i.counted vs) → j ≡ counts i (length vs) i.progress
      → world j m d More ≡ stored g state (world i m c More) vs
  run-control h t w k e q =
      ap₂ (λ (x : Incoming) (y : List ℕ). world x m y More) q (e ∙ ap (laid c i.counted) (plain_framed i vs w k))
      ∙ sym (stored-control g state i m c More vs (clear h) (ap (λ (x : FrameHeader). is_control x.opcode) (sym kept-one) ∙ t))

  pub run-data : {j : Incoming} {mask : Option (List ℕ)} {d : List ℕ} {at p : ℕ} → doom g state f i ≡ 0 → is_control f.opcode ≡ false → header_whole i ≡ true → mask ≡ mask_given (kept i)
      → at ≡ before i + i.counted → d ≡ laid m at (framed mask i.counted vs)
      → p ≡ pick (is_text f i) (progress_after (progress_now i) (plain i vs)) i.progress → j ≡ counts i (length vs) p
      → world j d c More ≡ stored g state (world i m c More) vs
  run-data h t w k a e r q =
      ap₂ (λ (x : Incoming) (y : List ℕ). world x y c More)
      (q ∙ ap (counts i (length vs)) (r ∙ ap (λ (x : FrameHeader). pick (is_text x i) (progress_after (progress_now i) (plain i vs)) i.progress) kept-one))
      (e ∙ ap₂ (λ (n : ℕ) (l : List ℕ). laid m n l) a (plain_framed i vs w k))
      ∙ sym (stored-data g state i m c More vs (clear h) (ap (λ (x : FrameHeader). is_control x.opcode) (sym kept-one) ∙ t))

  -- what was laid is what the check looks at
  pub run-checked : {mask : Option (List ℕ)} {d : List ℕ} (at : ℕ) {p : ℕ} {t : Bool} → header_whole i ≡ true → mask ≡ mask_given (kept i) → d ≡ laid m at (framed mask i.counted vs)
      → at + length vs ≤ length m → t ≡ is_text f i → p ≡ pick t (progress_after (progress_now i) (part at (length vs) d)) i.progress
      → p ≡ pick (is_text f i) (progress_after (progress_now i) (plain i vs)) i.progress
  run-checked at w k e h q r =
      let n : length (plain i vs) ≡ length vs = length-plain i vs in
      let room : at + length (plain i vs) ≤ length m = omega (arith, n) in
      let back : part at (length vs) (laid m at (plain i vs)) ≡ plain i vs = ap (λ (x : ℕ). part at x (laid m at (plain i vs))) (sym n) ∙ laid-part m at (plain i vs) room in
      r ∙ ap₂ (λ (t : Bool) (l : List ℕ). pick t (progress_after (progress_now i) l) i.progress) q (ap (part at (length vs)) (e ∙ ap (laid m at) (plain_framed i vs w k)) ∙ back)

-- ---- one byte and then the rest
progress_on : (i : Incoming) (q : ℕ) → progress_now (counts i 1 q) ≡ q
unfolding progress_now
progress_on i q =
    let h : ltb 0 (i.counted + 1) ≡ true = lt-ltb 0 (i.counted + 1) (omega arith) in
    by_test i.begun (λ t. simp t) (λ t. simp (t, h))

counts-on : (i : Incoming) (n q p : ℕ) → counts (counts i 1 q) n p ≡ counts i (suc n) p
counts-on i n q p = let e : i.counted + 1 + n ≡ i.counted + suc n = omega arith in ap (λ (k : ℕ). record { header = i.header; kept = i.kept; counted = k; begun = i.begun; text = i.text; fragments = i.fragments; progress = p }) e

laid_on : (d : List ℕ) (at b : ℕ) (i : Incoming) (q : ℕ) (vs : List ℕ) {to : ℕ} → to ≡ at + 1
    → laid (laid d at (plain i (b ∷ []))) to (plain (counts i 1 q) vs) ≡ laid d at (plain i (b ∷ vs))
laid_on d at b i q vs {to} e =
    let n : at + length (plain i (b ∷ [])) ≡ at + 1 = ap (λ (k : ℕ). at + k) (length-plain i (b ∷ [])) in
    rw (plain-append i q (b ∷ []) vs, laid-append d at (plain i (b ∷ [])) (plain (counts i 1 q) vs), n, e)

module _ (g : Settings) (state : ℕ) (i : Incoming) (m c : List ℕ) (a : Answer) (b : ℕ) (vs : List ℕ) where
  doomed_on : eqb (doom g state (frame i) i) 0 ≡ false → stored g state (stored g state (world i m c a) (b ∷ [])) vs ≡ stored g state (world i m c a) (b ∷ vs)
  doomed_on t =
      let j : Incoming = counts i 1 i.progress in
      rw (stored-doomed g state i m c a (b ∷ []) t)
      (stored-doomed g state j m c a vs (rw (frame_on i 1 i.progress, doom-on i 1 i.progress g state) t)
      ∙ ap (λ (x : Incoming). world x m c a) (counts-on i (length vs) i.progress i.progress)
      ∙ sym (stored-doomed g state i m c a (b ∷ vs) t))

  control_on : eqb (doom g state (frame i) i) 0 ≡ true → is_control (frame i).opcode ≡ true → stored g state (stored g state (world i m c a) (b ∷ [])) vs ≡ stored g state (world i m c a) (b ∷ vs)
  control_on t u =
      let p : ℕ = i.progress in
      let j : Incoming = counts i 1 p in
      rw (stored-control g state i m c a (b ∷ []) t u)
      (stored-control g state j m (laid c i.counted (plain i (b ∷ []))) a vs (rw (frame_on i 1 p, doom-on i 1 p g state) t) (rw (frame_on i 1 p) u)
      ∙ ap₂ (λ (x : Incoming) (y : List ℕ). world x m y a) (counts-on i (length vs) p p) (laid_on c i.counted b i p vs refl)
      ∙ sym (stored-control g state i m c a (b ∷ vs) t u))

  data_on : eqb (doom g state (frame i) i) 0 ≡ true → is_control (frame i).opcode ≡ false → stored g state (stored g state (world i m c a) (b ∷ [])) vs ≡ stored g state (world i m c a) (b ∷ vs)
  data_on t u =
      let q : ℕ = pick (is_text (frame i) i) (progress_after (progress_now i) (plain i (b ∷ []))) i.progress in
      let j : Incoming = counts i 1 q in
      let place : before j + j.counted ≡ before i + i.counted + 1 = rw (before_on i 1 q) (omega arith) in
      let last : pick (is_text (frame j) j) (progress_after (progress_now j) (plain j vs)) j.progress
      ≡ pick (is_text (frame i) i) (progress_after (progress_now i) (plain i (b ∷ vs))) i.progress =
      rw (frame_on i 1 q, text_on i 1 q, progress_on i q, plain-append i q (b ∷ []) vs)
      (by_test (is_text (frame i) i) (λ x. simp (x, progress_append)) (λ x. simp x)) in
      rw (stored-data g state i m c a (b ∷ []) t u)
      (stored-data g state j (laid m (before i + i.counted) (plain i (b ∷ []))) c a vs (rw (frame_on i 1 q, doom-on i 1 q g state) t) (rw (frame_on i 1 q) u)
      ∙ ap₂ (λ (x : Incoming) (y : List ℕ). world x y c a)
      (counts-on i (length vs) q (pick (is_text (frame j) j) (progress_after (progress_now j) (plain j vs)) j.progress) ∙ ap (counts i (suc (length vs))) last)
      (laid_on m (before i + i.counted) b i q vs place)
      ∙ sym (stored-data g state i m c a (b ∷ vs) t u))

  stored_on : stored g state (stored g state (world i m c a) (b ∷ [])) vs ≡ stored g state (world i m c a) (b ∷ vs)
  stored_on =
      by_test (eqb (doom g state (frame i) i) 0) (λ t. by_test (is_control (frame i).opcode) (λ u. control_on t u) (λ u. data_on t u)) doomed_on

-- ---- what a run leaves alone
module _ (g : Settings) (state : ℕ) (i : Incoming) (m c : List ℕ) (a : Answer) (vs : List ℕ) where
  by_case : (P : World → Type 0) → ((q : ℕ) (x y : List ℕ) → P (world (counts i (length vs) q) x y a)) → P (stored g state (world i m c a) vs)
  by_case P h =
      by_test (eqb (doom g state (frame i) i) 0)
      (λ t. by_test (is_control (frame i).opcode) (λ u. rw (stored-control g state i m c a vs t u) (h _ _ _)) (λ u. rw (stored-data g state i m c a vs t u) (h _ _ _)))
      (λ t. rw (stored-doomed g state i m c a vs t) (h _ _ _))

  pub stored-frame : frame (stored g state (world i m c a) vs).incoming ≡ frame i
  stored-frame = by_case (λ w. frame w.incoming ≡ frame i) (λ q x y. frame_on i (length vs) q)

  pub stored-whole : header_whole (stored g state (world i m c a) vs).incoming ≡ header_whole i
  stored-whole = by_case (λ w. header_whole w.incoming ≡ header_whole i) (λ q x y. whole_on i (length vs) q)

  pub stored-kept : (stored g state (world i m c a) vs).incoming.kept ≡ i.kept
  stored-kept = by_case (λ w. w.incoming.kept ≡ i.kept) (λ q x y. refl)

  pub stored-counted : (stored g state (world i m c a) vs).incoming.counted ≡ i.counted + length vs
  stored-counted = by_case (λ w. w.incoming.counted ≡ i.counted + length vs) (λ q x y. refl)

  pub stored_answer : (stored g state (world i m c a) vs).answer ≡ a
  stored_answer = by_case (λ w. w.answer ≡ a) (λ q x y. refl)

-- ---- the bytes of a run, up to the frame's last
module _ (g : Settings) (state : ℕ) where
  pub rest-still : (w : World) → w.incoming.counted < (frame w.incoming).length → rest g state w ≡ w
  unfolding rest
  rest-still w h = rw (lt-leb (frame w.incoming).length w.incoming.counted h)

  byte_last : (i : Incoming) (m c : List ℕ) (b : ℕ) → header_whole i ≡ true
      → byte_in g state (world i m c More) b ≡ rest g state (stored g state (world i m c More) (b ∷ []))
  unfolding byte_in
  byte_last i m c b h = rw h

  byte_on : (i : Incoming) (m c : List ℕ) (b : ℕ) → header_whole i ≡ true → i.counted + 1 < (frame i).length
      → byte_in g state (world i m c More) b ≡ stored g state (world i m c More) (b ∷ [])
  byte_on i m c b h l =
      byte_last i m c b h
      ∙ rest-still (stored g state (world i m c More) (b ∷ [])) (rw (stored-frame g state i m c More (b ∷ []), stored-counted g state i m c More (b ∷ [])) l)

  -- a world with no answer yet
  pub open_world : (w : World) → w.answer ≡ More → world w.incoming w.message w.control More ≡ w
  open_world w e = ap (world w.incoming w.message w.control) (sym e)

  pub feed-run : (i : Incoming) (m c : List ℕ) (n b : ℕ) (vs : List ℕ) → header_whole i ≡ true → i.counted + length (b ∷ vs) ≤ (frame i).length
      → feed g state (after (world i m c More) n) (b ∷ vs) ≡ after (rest g state (stored g state (world i m c More) (b ∷ vs))) (n + length (b ∷ vs))
  unfolding feed step
  feed-run i m c n b [] h l = ap (λ (w : World). after w (n + 1)) (byte_last i m c b h)
  feed-run i m c n b (a ∷ vs) h l =
      let w : World = world i m c More in
      let v : World = stored g state w (b ∷ []) in
      let same : world v.incoming v.message v.control More ≡ v = open_world v (stored_answer g state i m c More (b ∷ [])) in
      let more : header_whole v.incoming ≡ true = stored-whole g state i m c More (b ∷ []) ∙ h in
      let room : v.incoming.counted + length (a ∷ vs) ≤ (frame v.incoming).length =
      rw (stored-frame g state i m c More (b ∷ []), stored-counted g state i m c More (b ∷ [])) (omega arith) in
      let e : n + 1 + length (a ∷ vs) ≡ n + length (b ∷ (a ∷ vs)) = omega arith in
      ap (λ (x : World). feed g state (after x (n + 1)) (a ∷ vs)) (byte_on i m c b h (omega arith) ∙ sym same)
      ∙ feed-run v.incoming v.message v.control (n + 1) a vs more room
      ∙ ap₂ (λ (x : World) (k : ℕ). after (rest g state x) k) (ap (λ (x : World). stored g state x (a ∷ vs)) same ∙ stored_on g state i m c More b (a ∷ vs)) e
