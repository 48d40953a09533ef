-- Turns of the loop that takes bytes: what each one leaves, and how they join to the fold over the piece.
use mathlib.Core.Path.{◌≡◌, refl, sym, ap, ap₂, ◌∙◌}
use mathlib.Core.Bool.{Bool, true, false}
use mathlib.Core.List.{List, [], ◌∷◌, ◌++◌}
use Prim.Native.Nat.{ℕ, suc, ◌+◌, ◌-◌, ◌<◌, ◌≤◌}
use native.Mathlib.Nat.{add-zero}
use native.Mathlib.Numerals.{add-one}
use native.Mathlib.Omega.{arith}
use lib.Dec.{eqb, leb}
use lib.ListN.{length, get_or, set, take, drop, length-set, length-drop, length-append, take-append-drop}
use lib.Seq.{get_or-take, drop-length, length-take-le, take_all, take-add, take-suc-set}
use borrow.Author.Tests.{eqb-true, eqb-false, ne_eqb, leb-true, leb-false}
use Rattle.base.specs.Stores.{laid}
use Rattle.base.specs.Table.{pick}
use Rattle.base.specs.Tests.{first_of}
use Rattle.base.proofs.Choice.{by_test}
use Rattle.base.proofs.Tests.{first_clear}
use Rattle.coding.specs.declared.opcode.OpCode.{OpCode}
use Rattle.coding.specs.declared.opcode.OpCode.TheVariants.{Data, Control, Reserved}
use Rattle.coding.specs.declared.opcode.Control.TheVariants.{Close as CloseFrame, Ping as PingFrame, Pong as PongFrame}
use Rattle.frame.specs.declared.header.FrameHeader.{FrameHeader}
use Rattle.frame.specs.Header.{size_by, missing}
use Rattle.frame.proofs.Headers.{missing-early, missing-later}
use Rattle.session.specs.declared.Answer.{Answer}
use Rattle.session.specs.declared.Answer.TheVariants.{More, Text, Binary, Ping, Pong, Close, Refused}
use Rattle.session.specs.declared.Incoming.{Incoming}
use Rattle.session.specs.declared.Session.{Session}
use Rattle.session.specs.declared.Settings.{Settings}
use Rattle.session.specs.Frames.{is_reserved, kept, header_whole, frame, header_tests, is_text, verdict}
use Rattle.session.specs.Session.{with_incoming}
use Rattle.session.specs.Reading.{World, world, At, after, keep, stored, ended, refuse, finish, rest, settle, byte_in, is_more, step, feed}
use Rattle.session.proofs.Fold.{is_more_lem, feed-append, feed-stopped}
use Rattle.session.proofs.Holds.{size_most}
use Rattle.message.specs.Turns.{keeps, reached, Goes, Turned}
use Rattle.message.proofs.Ends.{rest-open, rest-whole, settle-lacking, settle-rest}
use Rattle.message.proofs.Runs.{stored-frame, stored-counted, feed-run}

-- ---- an answer is not more
event_more : {A : Type 0} (a : Answer) → is_more a ≡ false → a ≡ More → A
event_more a h e = absurd (let z : true ≡ false = sym (ap is_more e) ∙ h in let y : ◌≡◌ {A = ℕ} 0 1 = cc in omega arith)

pub not_both : {A : Type 0} (b : Bool) → b ≡ true → b ≡ false → A
not_both b t f = absurd (let z : true ≡ false = sym t ∙ f in let y : ◌≡◌ {A = ℕ} 0 1 = cc in omega arith)

-- ---- a run that is not cut short by the piece's end has all its bytes
pub run-some : (at to size most : ℕ) → at < size → 0 < most → at ≤ to → (to - at < most → to ≡ size) → at < to
run-some at to size most h k o f =
    by_test (leb to at) (λ t. let e : to ≡ size = f (omega (arith, leb-true to at t)) in omega arith) (λ t. leb-false to at t)

-- ---- a run of header bytes
pub keeps-laid : (i : Incoming) (bs : List ℕ)
    → keeps i bs
    ≡ record {
      header = laid i.header i.kept bs;
      kept = i.kept + length bs;
      counted = i.counted;
      begun = i.begun;
      text = i.text;
      fragments = i.fragments;
      progress = i.progress;
    }
unfolding laid keep
keeps-laid i [] = ap (λ (k : ℕ). record { header = i.header; kept = k; counted = i.counted; begun = i.begun; text = i.text; fragments = i.fragments; progress = i.progress }) (sym (add-zero i.kept))
keeps-laid i (b ∷ bs) =
    let e : i.kept + 1 + length bs ≡ i.kept + suc (length bs) = omega arith in
    keeps-laid (keep i b) bs
    ∙ ap₂ (λ (a k : ℕ). record { header = laid (set i.header i.kept b) a bs; kept = k; counted = i.counted; begun = i.begun; text = i.text; fragments = i.fragments; progress = i.progress }) (add-one i.kept) e

pub keeps-count : (i : Incoming) (bs : List ℕ) → (keeps i bs).kept ≡ i.kept + length bs
keeps-count i bs = ap (λ (j : Incoming). j.kept) (keeps-laid i bs)

-- ---- how many bytes are missing, by the kept ones
pub lacked_early : (bytes : List ℕ) (n : ℕ) → n ≤ length bytes → n < 2 → 2 - n ≡ missing (take n bytes)
lacked_early bytes n l h = let e : length (take n bytes) ≡ n = length-take-le n bytes l in omega (arith, e, missing-early (take n bytes) (omega (arith, e)))

pub lacked_later : (bytes : List ℕ) (n : ℕ) → n ≤ length bytes → 2 ≤ n → size_by (get_or bytes 1 0) - n ≡ missing (take n bytes)
lacked_later bytes n l h =
    let e : length (take n bytes) ≡ n = length-take-le n bytes l in
    sym (missing-later (take n bytes) (omega (arith, e)) ∙ ap₂ (λ (b k : ℕ). size_by b - k) (get_or-take n bytes 1 0 (omega arith)) e)

-- a byte leaves at most one less to be missing
missing-more : (h : List ℕ) (b : ℕ) → missing h ≤ missing (h ++ (b ∷ [])) + 1
missing-more [] b = omega (arith, missing-early [] (omega arith), missing-early (b ∷ []) (omega arith))
missing-more (x ∷ []) b = omega (arith, missing-early (x ∷ []) (omega arith))
missing-more (x ∷ (y ∷ h)) b =
    let n : length (h ++ (b ∷ [])) ≡ length h + 1 = length-append h (b ∷ []) in
    omega (arith, n, missing-later (x ∷ (y ∷ h)) (omega arith), missing-later (x ∷ (y ∷ (h ++ (b ∷ [])))) (omega arith))

-- a header has at most 14 bytes
pub missing-room : (i : Incoming) → length i.header ≡ 14 → i.kept ≤ 14 → i.kept + missing (kept i) ≤ 14
missing-room i n k =
    by_test (leb 2 i.kept)
    (λ t. omega (arith, lacked_later i.header i.kept (omega arith) (leb-true 2 i.kept t), size_most (get_or i.header 1 0)))
    (λ t. omega (arith, lacked_early i.header i.kept (omega arith) (leb-false 2 i.kept t), leb-false 2 i.kept t))

kept-keep : (i : Incoming) (b : ℕ) → i.kept < length i.header → kept (keep i b) ≡ kept i ++ (b ∷ [])
unfolding keep
kept-keep i b h = ap (λ (k : ℕ). take k (set i.header i.kept b)) (add-one i.kept) ∙ take-suc-set i.header i.kept b h

keep-room : (i : Incoming) (b n : ℕ) → i.kept + suc n ≤ length i.header → (keep i b).kept + n ≤ length (keep i b).header
unfolding keep
keep-room i b n h = omega (arith, length-set i.header i.kept b)

none_whole : (i : Incoming) → i.kept ≡ 0 → header_whole i ≡ false
unfolding header_whole missing
none_whole i e = rw e

-- a header that is whole has bytes
pub whole_some : (i : Incoming) → header_whole i ≡ true → 0 < i.kept
whole_some i h = by_test (eqb i.kept 0) (λ t. not_both (header_whole i) h (none_whole i (eqb-true i.kept 0 t))) (λ t. let n : i.kept ≡ 0 → ⊥ = eqb-false i.kept 0 t in omega (arith, n))

pub lacks_some : (i : Incoming) → header_whole i ≡ false → 0 < missing (kept i)
unfolding header_whole
lacks_some i h = let n : missing (kept i) ≡ 0 → ⊥ = eqb-false (missing (kept i)) 0 h in omega (arith, n)

still_lacks : (i : Incoming) → 0 < missing (kept i) → header_whole i ≡ false
unfolding header_whole
still_lacks i h = ne_eqb (missing (kept i)) 0 (λ e. omega arith)

module _ (g : Settings) (state : ℕ) where
  feed-head : (i : Incoming) (m c : List ℕ) (n b : ℕ) → header_whole i ≡ false
      → feed g state (after (world i m c More) n) (b ∷ []) ≡ after (settle g state (world (keep i b) m c More)) (n + 1)
  unfolding feed step byte_in
  feed-head i m c n b h = rw h

  feed-heads : (i : Incoming) (m c : List ℕ) (n b : ℕ) (bs : List ℕ) → i.kept + length (b ∷ bs) ≤ length i.header → length (b ∷ bs) ≤ missing (kept i)
      → feed g state (after (world i m c More) n) (b ∷ bs) ≡ after (settle g state (world (keeps i (b ∷ bs)) m c More)) (n + length (b ∷ bs))
  feed-heads i m c n b [] r l = feed-head i m c n b (still_lacks i (omega arith))
  feed-heads i m c n b (a ∷ bs) r l =
      let lacks : header_whole i ≡ false = still_lacks i (omega arith) in
      let fewer : missing (kept i) ≤ missing (kept (keep i b)) + 1 = rw (kept-keep i b (omega arith)) (missing-more (kept i) b) in
      let next : header_whole (keep i b) ≡ false = still_lacks (keep i b) (omega arith) in
      let e : n + 1 + length (a ∷ bs) ≡ n + length (b ∷ (a ∷ bs)) = omega arith in
      feed-append g state (after (world i m c More) n) (b ∷ []) (a ∷ bs)
      ∙ ap (λ (x : At). feed g state x (a ∷ bs)) (feed-head i m c n b lacks)
      ∙ ap (λ (w : World). feed g state (after w (n + 1)) (a ∷ bs)) (sym (settle-lacking g state (keep i b) m c next))
      ∙ feed-heads (keep i b) m c (n + 1) a bs (keep-room i b (length (a ∷ bs)) (omega arith)) (omega arith)
      ∙ ap (after (settle g state (world (keeps (keep i b) (a ∷ bs)) m c More))) e

  -- ---- a turn that ends the piece
  pub turned_dry : (piece : List ℕ) (at : ℕ) (w v : World) → length piece ≤ at → at ≤ length piece → v ≡ settle g state w → Turned g state piece at at w v false
  unfolding feed
  turned_dry piece at w v h l e =
      let none : drop at piece ≡ [] = ap (λ (n : ℕ). drop n piece) (let z : at ≡ length piece = omega arith in z) ∙ drop-length piece in
      record { within = l; goes = λ t. not_both false t refl; stops = λ t. rw none (ap (λ (x : World). after x at) e) }

  -- an answer at once
  pub turned_still : (piece : List ℕ) (at : ℕ) (w v : World) → at ≤ length piece → v ≡ settle g state w → is_more v.answer ≡ false → Turned g state piece at at w v false
  turned_still piece at w v l e h =
      record {
        within = l;
        goes = λ t. not_both false t refl;
        stops = λ t. sym (feed-stopped g state (after v at) (drop at piece) h) ∙ ap (λ (x : World). feed g state (after x at) (drop at piece)) e;
      }

  -- ---- a turn in the header
  feed-some : (i : Incoming) (m c : List ℕ) (n : ℕ) (bs : List ℕ) → 0 < length bs → i.kept + length bs ≤ length i.header → length bs ≤ missing (kept i)
      → feed g state (after (world i m c More) n) bs ≡ after (settle g state (world (keeps i bs) m c More)) (n + length bs)
  feed-some i m c n [] o r l = absurd (omega arith)
  feed-some i m c n (b ∷ bs) o r l = feed-heads i m c n b bs r l

  pub turned_head : (piece : List ℕ) (at to : ℕ) (i j : Incoming) (m c : List ℕ) → at < to → to ≤ length piece → header_whole i ≡ false
      → length i.header ≡ 14 → i.kept + (to - at) ≤ 14 → to - at ≤ missing (kept i) → j ≡ keeps i (take (to - at) (drop at piece))
      → Turned g state piece at to (world i m c More) (world j m c More) true
  turned_head piece at to i j m c o l h size room few e =
      let bs : List ℕ = take (to - at) (drop at piece) in
      let z : length bs ≡ to - at = length-take-le (to - at) (drop at piece) (simp length-drop (omega arith)) in
      let f : at + length bs ≡ to = omega arith in
      let count : j.kept ≡ i.kept + length bs = ap (λ (x : Incoming). x.kept) e ∙ keeps-count i bs in
      record {
        within = l;
        goes = λ t. record {
          forth = omega arith;
          undecided = refl;
          few = omega (arith, count, z);
          less = omega (arith, count, z);
          fed =
              ap₂ (λ (x : Incoming) (k : ℕ). after (settle g state (world x m c More)) k) e (sym f)
              ∙ sym (feed-some i m c at bs (omega (arith, z)) (omega (arith, z, size)) (omega (arith, z)))
              ∙ ap (λ (x : World). feed g state (after x at) bs) (settle-lacking g state i m c h);
        };
        stops = λ t. not_both true refl t;
      }

  -- ---- a turn in the payload
  data_more : (b t : Bool) (j k : Incoming) (m c : List ℕ) (n : ℕ) → k.kept ≡ 0
      → (pick b (world j m c (pick t (Text n) (Binary n))) (world k m c More)).answer ≡ More
      → (pick b (world j m c (pick t (Text n) (Binary n))) (world k m c More)).incoming.kept ≡ 0
  data_more true true j k m c n z e = event_more (Text n) refl e
  data_more true false j k m c n z e = event_more (Binary n) refl e
  data_more false t j k m c n z e = z

  ended-more : (w : World) (f : FrameHeader) (op : OpCode) → is_reserved op ≡ false → (ended f op w).answer ≡ More → (ended f op w).incoming.kept ≡ 0
  ended-more w f (Reserved n) r e = absurd (let y : ◌≡◌ {A = ℕ} 0 1 = cc in omega arith)
  ended-more w f (Control CloseFrame) r e = event_more (Close f.length) refl e
  ended-more w f (Control PingFrame) r e = event_more (Ping f.length) refl e
  ended-more w f (Control PongFrame) r e = event_more (Pong f.length) refl e
  ended-more w f (Data d) r e = data_more f.fin (is_text f w.incoming) _ _ _ _ _ refl e

  -- a frame that ends with no answer leaves no header
  finish-more : (w : World) → first_of (header_tests g (frame w.incoming)) ≡ 0 → (finish g state w).answer ≡ More → (finish g state w).incoming.kept ≡ 0
  unfolding finish refuse header_tests
  finish-more w l e =
      let n : ℕ = verdict g state (frame w.incoming) w.incoming w.control in
      by_test (eqb n 0)
      (λ t. rw t (ended-more w (frame w.incoming) (frame w.incoming).opcode (first_clear 3 _ _ (λ z. omega arith) l).0 (rw t at e)))
      (λ t. event_more (Refused n) refl (rw t at e))

  -- ---- a run of payload bytes, where there are any
  pub reached-none : (w : World) (vs : List ℕ) → length vs ≡ 0 → w ≡ reached g state w vs
  reached-none w [] e = refl
  reached-none w (b ∷ vs) e = absurd (omega arith)

  pub reached-some : (w : World) (vs : List ℕ) → (length vs ≡ 0 → ⊥) → stored g state w vs ≡ reached g state w vs
  reached-some w [] e = absurd (e refl)
  reached-some w (b ∷ vs) e = refl

  -- what it leaves alone
  module _ (i : Incoming) (m c : List ℕ) where
    pub reached-frame : (vs : List ℕ) → frame (reached g state (world i m c More) vs).incoming ≡ frame i
    reached-frame [] = refl
    reached-frame (b ∷ vs) = stored-frame g state i m c More (b ∷ vs)

    reached-counted : (vs : List ℕ) → (reached g state (world i m c More) vs).incoming.counted ≡ i.counted + length vs
    reached-counted [] = omega arith
    reached-counted (b ∷ vs) = stored-counted g state i m c More (b ∷ vs)

    feed-payload : (n : ℕ) (vs : List ℕ) → header_whole i ≡ true → first_of (header_tests g (frame i)) ≡ 0 → (0 < length vs → i.counted + length vs ≤ (frame i).length)
        → feed g state (after (settle g state (world i m c More)) n) vs ≡ after (rest g state (reached g state (world i m c More) vs)) (n + length vs)
    unfolding feed
    feed-payload n [] h l r = ap₂ after (sym (settle-rest g state i m c (frame i) h refl l refl)) (sym (add-zero n))
    feed-payload n (b ∷ vs) h l r =
        let few : i.counted + length (b ∷ vs) ≤ (frame i).length = r (omega arith) in
        let still_open : world i m c More ≡ rest g state (world i m c More) = rest-open g state i m c (frame i) refl (omega arith) in
        ap (λ (x : World). feed g state (after x n) (b ∷ vs)) (sym (settle-rest g state i m c (frame i) h refl l still_open))
        ∙ feed-run g state i m c n b vs h few

    -- a piece that lies inside a frame
    pub fed-within : {j : Incoming} {d x : List ℕ} (vs : List ℕ) → header_whole i ≡ true → first_of (header_tests g (frame i)) ≡ 0 → 0 < length vs → i.counted + length vs < (frame i).length
        → world j d x More ≡ stored g state (world i m c More) vs → after (world j d x More) (length vs) ≡ feed g state (after (settle g state (world i m c More)) 0) vs
    fed-within {j} {d} {x} vs h l some less e =
        let r : world j d x More ≡ reached g state (world i m c More) vs = e ∙ reached-some (world i m c More) vs (λ z. omega arith) in
        let same : frame j ≡ frame i = ap (λ (w : World). frame w.incoming) r ∙ reached-frame vs in
        let count : j.counted ≡ i.counted + length vs = ap (λ (w : World). w.incoming.counted) r ∙ reached-counted vs in
        let waits : j.counted < (frame j).length = omega (arith, count, ap (λ (y : FrameHeader). y.length) same) in
        ap (λ (w : World). after w (length vs)) (rest-open g state j d x (frame j) refl waits ∙ ap (rest g state) r)
        ∙ ap (after (rest g state (reached g state (world i m c More) vs))) (let z : length vs ≡ 0 + length vs = omega arith in z)
        ∙ sym (feed-payload 0 vs h l (λ z. omega arith))

  -- as much of a frame's payload as the piece has: f is the kept header, and left what is still to come
  module _ (piece : List ℕ) (at to left : ℕ) (i : Incoming) (m c : List ℕ) (f : FrameHeader) (kept-one : f ≡ frame i) (h : header_whole i ≡ true)
      (of_header : first_of (header_tests g f) ≡ 0) (due : left ≡ f.length - i.counted)
      (ends : (at ≤ to) × (to ≤ length piece) × (to - at ≤ left) × (to - at < left → to ≡ length piece)) where
    o : at ≤ to
    o = ends.0

    l : to ≤ length piece
    l = ends.1

    size : f.length ≡ (frame i).length
    size = ap (λ (x : FrameHeader). x.length) kept-one

    legal : first_of (header_tests g (frame i)) ≡ 0
    legal = ap (λ (x : FrameHeader). first_of (header_tests g x)) (sym kept-one) ∙ of_header

    few : at < to → i.counted + (to - at) ≤ (frame i).length
    few p = omega (arith, size, due, ends.2)

    abbrev run : List ℕ
    run = take (to - at) (drop at piece)

    run_length : length run ≡ to - at
    run_length = length-take-le (to - at) (drop at piece) (simp length-drop (omega arith))

    pub run-few : 0 < length run → i.counted + length run ≤ (frame i).length
    run-few p = omega (arith, run_length, few (omega (arith, run_length)))

    fed-run : {u : World} → u ≡ reached g state (world i m c More) run → feed g state (after (settle g state (world i m c More)) at) run ≡ after (rest g state u) to
    fed-run e =
        let f : at + length run ≡ to = omega (arith, run_length) in
        feed-payload i m c at run h legal run-few ∙ ap₂ (λ (x : World) (k : ℕ). after (rest g state x) k) (sym e) f

    -- the frame is not whole yet, and the piece is used up
    pub turned_open : (j : Incoming) (d x : List ℕ) → world j d x More ≡ reached g state (world i m c More) run → j.counted < f.length → Turned g state piece at to (world i m c More) (world j d x More) false
    turned_open j d x e k =
        let same : frame j ≡ frame i = ap (λ (w : World). frame w.incoming) e ∙ reached-frame i m c run in
        let count : j.counted ≡ i.counted + length run = ap (λ (w : World). w.incoming.counted) e ∙ reached-counted i m c run in
        let end : to ≡ length piece = ends.3 (omega (arith, count, run_length, due)) in
        let all : run ≡ drop at piece = take_all (to - at) (drop at piece) (simp length-drop (omega (arith, end))) in
        let waits : j.counted < (frame j).length = omega (arith, size, ap (λ (y : FrameHeader). y.length) same) in
        record {
          within = l;
          goes = λ t. not_both false t refl;
          stops = λ t.
              ap (λ (w : World). after w to) (rest-open g state j d x (frame j) refl waits)
              ∙ sym (fed-run e)
              ∙ ap (feed g state (after (settle g state (world i m c More)) at)) all;
        }

    -- the frame ends
    pub turned_end : (j : Incoming) (d x : List ℕ) (v : World) (on : Bool) → world j d x More ≡ reached g state (world i m c More) run → f.length ≤ j.counted
        → v ≡ finish g state (world j d x More) → on ≡ is_more v.answer → Turned g state piece at to (world i m c More) v on
    turned_end j d x v on e k w q =
        let same : frame j ≡ frame i = ap (λ (w : World). frame w.incoming) e ∙ reached-frame i m c run in
        let whole : (frame j).length ≤ j.counted = omega (arith, size, ap (λ (y : FrameHeader). y.length) same) in
        let ended : v ≡ rest g state (world j d x More) = rest-whole g state j d x (frame j) refl whole w in
        let fed : feed g state (after (settle g state (world i m c More)) at) run ≡ after v to = fed-run e ∙ ap (λ (w : World). after w to) (sym ended) in
        record {
          within = l;
          goes = λ t.
              let more : v.answer ≡ More = is_more_lem v.answer (sym q ∙ t) in
              let none : v.incoming.kept ≡ 0 =
              ap (λ (y : World). y.incoming.kept) w
              ∙ finish-more (world j d x More) (ap (λ (y : FrameHeader). first_of (header_tests g y)) same ∙ legal) (sym (ap (λ (y : World). y.answer) w) ∙ more) in
              let still_open : world v.incoming v.message v.control More ≡ v = ap (world v.incoming v.message v.control) (sym more) in
              let still : v ≡ settle g state v =
              sym still_open ∙ settle-lacking g state v.incoming v.message v.control (none_whole v.incoming none) ∙ ap (settle g state) still_open in
              record {
                forth = o;
                undecided = more;
                few = omega (arith, none);
                less = omega (arith, none, whole_some i h);
                fed = ap (λ (w : World). after w to) (sym still) ∙ sym fed;
              };
          stops = λ t.
              sym (feed-stopped g state (after v to) (drop (to - at) (drop at piece)) (sym q ∙ t))
              ∙ ap (λ (y : At). feed g state y (drop (to - at) (drop at piece))) (sym fed)
              ∙ sym (feed-append g state (after (settle g state (world i m c More)) at) run (drop (to - at) (drop at piece)))
              ∙ ap (feed g state (after (settle g state (world i m c More)) at)) (take-append-drop (to - at) (drop at piece));
        }

    -- the header is left as it was
    pub turned_header : (j : Incoming) (d x : List ℕ) → world j d x More ≡ reached g state (world i m c More) run → f ≡ frame j
    turned_header j d x e = kept-one ∙ sym (ap (λ (w : World). frame w.incoming) e ∙ reached-frame i m c run)

  -- ---- turn after turn
  pub feed-goes : (piece : List ℕ) (at to : ℕ) (x : At) (w v : World) → after (settle g state w) at ≡ feed g state x (take at piece) → Goes g state piece at to w v
      → after (settle g state (world v.incoming v.message v.control More)) to ≡ feed g state x (take to piece)
  feed-goes piece at to x w v e h =
      let q : at + (to - at) ≡ to = omega (arith, h.forth) in
      ap (λ (y : Answer). after (settle g state (world v.incoming v.message v.control y)) to) (sym h.undecided)
      ∙ h.fed
      ∙ ap (λ (y : At). feed g state y (take (to - at) (drop at piece))) e
      ∙ sym (feed-append g state x (take at piece) (take (to - at) (drop at piece)))
      ∙ ap (feed g state x) (sym (take-add at (to - at) piece) ∙ ap (λ (y : ℕ). take y piece) q)

  pub feed-stops : (piece : List ℕ) (at : ℕ) (x y : At) (w : World) → after (settle g state w) at ≡ feed g state x (take at piece)
      → y ≡ feed g state (after (settle g state w) at) (drop at piece) → y ≡ feed g state x piece
  feed-stops piece at x y w e h =
      h
      ∙ ap (λ (z : At). feed g state z (drop at piece)) e
      ∙ sym (feed-append g state x (take at piece) (drop at piece))
      ∙ ap (feed g state x) (take-append-drop at piece)

-- ---- a session of which only what has come is another
pub same_settings : {A : Type 0} (h : Settings → ℕ → A) (s t : Session) → t ≡ with_incoming s t.incoming → h t.settings t.state ≡ h s.settings s.state
same_settings h s t e = λ x. h (e x).settings (e x).state
