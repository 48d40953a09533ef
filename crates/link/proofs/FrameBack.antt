-- A frame that was written is read back: its payload in the store of its kind, and its event.
use mathlib.Core.Path.{◌≡◌, refl, sym, ap, ap₂, ◌∙◌}
use mathlib.Core.Bool.{Bool, true, false}
use mathlib.Core.List.{List, [], ◌∷◌, append-nil}
use Prim.Native.Nat.{ℕ, ◌+◌, ◌%◌, ◌<◌, ◌≤◌}
use native.Mathlib.Nat.{zero-add}
use native.Mathlib.Omega.{arith}
use lib.Dec.{eqb}
use lib.ListN.{length, take, length-append}
use borrow.Author.Rules.{rules}
use borrow.Author.Tests.{eq-eqb, eqb-true, eqb-false, lt-ltb, le-leb, ne_eqb}
use Rattle.base.specs.Bytes.{part}
use Rattle.base.specs.Stores.{laid}
use Rattle.base.specs.Table.{pick}
use Rattle.base.specs.Tests.{first_of}
use Rattle.base.proofs.Choice.{by_test}
use Rattle.base.proofs.Stores.{laid_none, laid-part}
use Rattle.base.proofs.Tests.{first_pass}
use Rattle.coding.specs.declared.opcode.Control.{Control as ControlKind}
use Rattle.coding.specs.declared.opcode.Control.TheVariants.{Close, Ping, Pong}
use Rattle.coding.specs.declared.opcode.Data.{Data as DataKind}
use Rattle.coding.specs.declared.opcode.Data.TheVariants.{Continue, Text, Binary}
use Rattle.coding.specs.declared.opcode.OpCode.{OpCode}
use Rattle.coding.specs.declared.opcode.OpCode.TheVariants.{Data, Control}
use Rattle.coding.specs.Opcodes.{opcode_of, opcode_number}
use Rattle.frame.specs.declared.header.FrameHeader.{FrameHeader}
use Rattle.frame.specs.Header.{mask_in, header_bytes, header_size}
use Rattle.frame.proofs.Headers.{length-header_bytes}
use Rattle.frame.proofs.ReadBack.{mask_read_back}
use Rattle.mask.specs.Mask.{masked}
use Rattle.mask.proofs.Laws.{length-masked, masked-twice}
use Rattle.message.proofs.Runs.{frame_on, stored-control, stored-data, stored-frame, stored-counted, rest-still, feed-run}
use Rattle.session.specs.declared.Answer.{Answer}
use Rattle.session.specs.declared.Answer.TheVariants.{More, Text as TextEvent, Binary as BinaryEvent}
use Rattle.session.specs.declared.Incoming.{Incoming}
use Rattle.session.specs.declared.Settings.{Settings}
use Rattle.session.specs.Frames.{kept, header_whole, frame, is_control, is_close_kind, is_text, is_text_kind, is_continue_kind, header_tests, before, progress_now, doom_tests, doom, reason_holds, text_holds, utf_test, verdict}
use Rattle.utf8.specs.Progress.{progress_after, is_whole}
use Rattle.session.specs.Reading.{World, world, At, after, keep, counts, plain, stored, between as between_frames, control_event, ended, refuse, finish, rest, feed}
use Rattle.session.specs.Replies.{frame_header, encoded}
use Rattle.session.proofs.Fold.{feed-append}
use Rattle.steady.proofs.Headers.{never}
use Rattle.link.proofs.HeaderBack.{keep_all, Between, bytes_kept, whole, reads, header-fed, settled}

counted-all : (i : Incoming) (bs : List ℕ) → (keep_all i bs).counted ≡ i.counted
unfolding keep
counted-all i [] = refl
counted-all i (b ∷ bs) = counted-all (keep i b) bs

-- what has come of the message before is as it was
pub record SameMessage (i j : Incoming) : Type 0 where
  pub begun : j.begun ≡ i.begun
  pub text : j.text ≡ i.text
  pub fragments : j.fragments ≡ i.fragments
  pub progress : j.progress ≡ i.progress

message_all : (i : Incoming) (bs : List ℕ) → SameMessage i (keep_all i bs)
unfolding keep
message_all i [] = record { begun = refl; text = refl; fragments = refl; progress = refl }
message_all i (b ∷ bs) =
    let x = message_all (keep i b) bs in record { begun = x.begun; text = x.text; fragments = x.fragments; progress = x.progress }

pub begun_all : (i : Incoming) (bs : List ℕ) → (keep_all i bs).begun ≡ i.begun
begun_all i bs = (message_all i bs).begun

-- the numbers that the header and the session decide look at the message before alone
doom-same : (g : Settings) (state : ℕ) (f : FrameHeader) (i j : Incoming) → j.begun ≡ i.begun → j.fragments ≡ i.fragments
    → doom_tests g state f j ≡ doom_tests g state f i
unfolding doom_tests before
doom-same g state f i j x y = rw (x, y)

-- ---- data: the event of a kind, and that 12 lets valid text pass
abbrev pub data_event : DataKind → ℕ → Answer
data_event Continue n = BinaryEvent n
data_event Text n = TextEvent n
data_event Binary n = BinaryEvent n

valid_data : (f : FrameHeader) (j : Incoming) (c : List ℕ) (d : DataKind) → f.opcode ≡ Data d → f.fin ≡ true → is_continue_kind d ≡ false
    → (is_text_kind false d ≡ true → is_whole (progress_now j) ≡ true) → first_of (utf_test f j c ∷ []) ≡ 0
unfolding utf_test is_text text_holds first_of
valid_data f j c Continue o e h v = never refl h
valid_data f j c Text o e h v = rw (o, e, v refl)
valid_data f j c Binary o e h v = rw o

-- the end of a final data frame of a new message
ended-data : (f : FrameHeader) (j : Incoming) (m c : List ℕ) (d : DataKind) → f.fin ≡ true → is_continue_kind d ≡ false → f.opcode ≡ Data d → j.begun ≡ false
    → ended f (Data d) (world j m c More) ≡ world (between_frames j false false 0 0) m c (data_event d f.length)
unfolding is_text before
ended-data f j m c Continue e h o n = never refl h
ended-data f j m c Text e h o n = rw (e, o, n) (ap (λ (k : ℕ). world (between_frames j false false 0 0) m c (TextEvent k)) (zero-add f.length))
ended-data f j m c Binary e h o n = rw (e, o, n) (ap (λ (k : ℕ). world (between_frames j false false 0 0) m c (BinaryEvent k)) (zero-add f.length))

text_of : (f : FrameHeader) (j : Incoming) (d : DataKind) → f.opcode ≡ Data d → is_continue_kind d ≡ false → is_text_kind false d ≡ true → is_text f j ≡ true
unfolding is_text
text_of f j Continue o h t = never refl h
text_of f j Text o h t = rw o
text_of f j Binary o h t = never t refl

now_counted : (j : Incoming) (n q : ℕ) → j.begun ≡ false → 0 < j.counted + n → progress_now (counts j n q) ≡ q
unfolding progress_now
now_counted j n q e h = rw (e, lt-ltb 0 (j.counted + n) h)

-- ---- control: 12 looks at a close's reason alone
valid_control : (f : FrameHeader) (j : Incoming) (c : List ℕ) (k : ControlKind) → f.opcode ≡ Control k
    → (is_close_kind k ≡ true → reason_holds (take f.length c) ≡ true) → first_of (utf_test f j c ∷ []) ≡ 0
unfolding utf_test is_text first_of
valid_control f j c Close o v = rw (o, v refl)
valid_control f j c Ping o v = rw o
valid_control f j c Pong o v = rw o

pub front_laid : (c p : List ℕ) → length p ≤ length c → take (length p) (laid c 0 p) ≡ p
unfolding part
front_laid c p h = laid-part c 0 p (omega arith)

-- ---- no bytes, or some
pub no_bytes : (p : List ℕ) → length p ≡ 0 → p ≡ []
no_bytes [] h = refl
no_bytes (b ∷ p) h = absurd (omega arith)

some_bytes : (n : ℕ) → (n ≡ 0 → ⊥) → 0 < n
some_bytes n h = omega arith

nothing_read : (p : List ℕ) → p ≡ [] → 0 ≡ progress_after 0 p
unfolding progress_after
nothing_read p e = sym (ap (progress_after 0) e)

-- 5 to 15 are none of them 0, and then 12 decides alone
verdict-clear : (g : Settings) (state : ℕ) (f : FrameHeader) (i : Incoming) (control : List ℕ) → first_of (doom_tests g state f i) ≡ 0
    → first_of (utf_test f i control ∷ []) ≡ 0 → verdict g state f i control ≡ 0
unfolding verdict doom_tests
verdict-clear g state f i control h k =
    first_pass (doom_tests g state f i) (utf_test f i control ∷ [])
    (search rules) h
    ∙ k

-- masked twice, or not at all
unmasked : (t : Bool) (k mask p : List ℕ) → (t ≡ true → k ≡ mask) → pick t (masked k 0 (pick t (masked mask 0 p) p)) (pick t (masked mask 0 p) p) ≡ p
unmasked true k mask p h = ap (λ (l : List ℕ). masked l 0 (masked mask 0 p)) (h refl) ∙ masked-twice mask 0 p
unmasked false k mask p h = refl

-- ---- the frame's end
finish-on : (g : Settings) (state : ℕ) (f : FrameHeader) (w : World) → frame w.incoming ≡ f → verdict g state f w.incoming w.control ≡ 0
    → finish g state w ≡ ended f f.opcode w
unfolding finish
finish-on g state f w e h =
    ap
    (λ (x : FrameHeader).
    pick (eqb (verdict g state x w.incoming w.control) 0) (ended x x.opcode w) (refuse w (verdict g state x w.incoming w.control)))
    e
    ∙ rw (eq-eqb (verdict g state f w.incoming w.control) 0 h)

rest-ends : (g : Settings) (state : ℕ) (w : World) → (frame w.incoming).length ≤ w.incoming.counted → rest g state w ≡ finish g state w
unfolding rest
rest-ends g state w h = rw (le-leb (frame w.incoming).length w.incoming.counted h)

module _ (g : Settings) (state : ℕ) (client : Bool) (op : OpCode) (mask : List ℕ) (four : length mask ≡ 4) (p : List ℕ) (i : Incoming) (between : Between i)
    (m c : List ℕ) (opcode : opcode_of (opcode_number op % 16) ≡ op) (short : length p < 18446744073709551616) where
  abbrev f : FrameHeader
  f = frame_header client op (length p)

  abbrev come : Incoming
  come = keep_all i (header_bytes f mask)

  abbrev start : World
  start = world come m c More

  -- the payload as it goes over the pipe
  abbrev sent : List ℕ
  sent = pick client (masked mask 0 p) p

  length-sent : length sent ≡ length p
  length-sent = go client
    where
      go : (t : Bool) → length (pick t (masked mask 0 p) p) ≡ length p
      go true = length-masked mask 0 p
      go false = refl

  masked-flag : f.masked ≡ client
  unfolding frame_header
  masked-flag = refl

  opcode_flag : f.opcode ≡ op
  unfolding frame_header
  opcode_flag = refl

  length-flag : f.length ≡ length p
  unfolding frame_header
  length-flag = refl

  op_back : opcode_of (opcode_number f.opcode % 16) ≡ f.opcode
  unfolding frame_header
  op_back = opcode

  short_back : f.length < 18446744073709551616
  unfolding frame_header
  short_back = short

  is_whole_lem : header_whole come ≡ true
  is_whole_lem = whole f mask four i between op_back short_back

  is_frame : frame come ≡ f
  is_frame = reads f mask four i between op_back short_back

  none_counted : come.counted ≡ 0
  none_counted = counted-all i (header_bytes f mask) ∙ between.none_counted

  -- and unmasked it is the payload
  plain-sent : plain come sent ≡ p
  unfolding plain
  plain-sent =
      ap₂ (λ (x : FrameHeader) (k : ℕ). pick x.masked (masked (mask_in (kept come)) k sent) sent) is_frame none_counted
      ∙ ap (λ (t : Bool). pick t (masked (mask_in (kept come)) 0 sent) sent) masked-flag
      ∙ unmasked client (mask_in (kept come)) mask p mask_back
    where
      mask_back : client ≡ true → mask_in (kept come) ≡ mask
      mask_back t =
          ap mask_in (bytes_kept f mask four i between op_back short_back ∙ sym (append-nil (header_bytes f mask)))
          ∙ mask_read_back f mask four [] (masked-flag ∙ t)

  -- ---- all its bytes are fed
  abbrev bytes : List ℕ
  bytes = encoded client op mask p

  -- what the payload leads to, before the frame's end is looked at
  abbrev filled : World
  filled = pick (eqb (length p) 0) start (stored g state start sent)

  header-first : first_of (header_tests g f) ≡ 0
      → feed g state (after (world i m c More) 0) bytes ≡ feed g state (after (rest g state start) (header_size client (length p))) sent
  unfolding encoded frame_header
  header-first pass =
      feed-append g state (after (world i m c More) 0) (header_bytes f mask) sent
      ∙ ap (λ (x : At). feed g state x sent)
      (header-fed f mask four i between op_back short_back g state m c
      ∙ ap (λ (w : World). after w (header_size client (length p))) (settled f mask four i between op_back short_back g state m c pass))

  length-bytes : length bytes ≡ header_size client (length p) + length p
  unfolding encoded frame_header
  length-bytes =
      length-append (header_bytes f mask) sent ∙ ap₂ (λ (a b : ℕ). a + b) (length-header_bytes f mask four) length-sent

  frame-length : (frame come).length ≡ length p
  frame-length = ap (λ (x : FrameHeader). x.length) is_frame ∙ length-flag

  payload_fed : (vs : List ℕ) → vs ≡ sent
      → feed g state (after (rest g state start) (header_size client (length p))) vs ≡ after (finish g state filled) (header_size client (length p) + length p)
  unfolding feed
  payload_fed [] e =
      let none : length p ≡ 0 = sym length-sent ∙ ap length (sym e) in
      let full : filled ≡ start = ap (λ (t : Bool). pick t start (stored g state start sent)) (eq-eqb (length p) 0 none) in
      let count : header_size client (length p) ≡ header_size client (length p) + length p = omega arith in
      ap₂ (λ (w : World) (k : ℕ). after w k) (rest-ends g state start (omega (arith, frame-length)) ∙ ap (finish g state) (sym full)) count
  payload_fed (b ∷ vs) e =
      let some : length (b ∷ vs) ≡ length p = ap length e ∙ length-sent in
      let full : filled ≡ stored g state start sent = ap (λ (t : Bool). pick t start (stored g state start sent)) (ne_eqb (length p) 0 (λ z. absurd (omega arith))) in
      let same : stored g state start (b ∷ vs) ≡ filled = ap (stored g state start) e ∙ sym full in
      let all : (frame (stored g state start (b ∷ vs)).incoming).length ≤ (stored g state start (b ∷ vs)).incoming.counted =
      omega (arith, ap (λ (x : FrameHeader). x.length) (stored-frame g state come m c More (b ∷ vs)), frame-length, stored-counted g state come m c More (b ∷ vs)) in
      ap (λ (w : World). feed g state (after w (header_size client (length p))) (b ∷ vs)) (rest-still g state start (omega (arith, frame-length, none_counted)))
      ∙ feed-run g state come m c (header_size client (length p)) b vs is_whole_lem (omega (arith, frame-length, none_counted))
      ∙ ap₂ (λ (w : World) (k : ℕ). after w k) (rest-ends g state (stored g state start (b ∷ vs)) all ∙ ap (finish g state) same) (ap (λ (k : ℕ). header_size client (length p) + k) some)

  pub frame-fed : first_of (header_tests g f) ≡ 0 → feed g state (after (world i m c More) 0) bytes ≡ after (finish g state filled) (length bytes)
  frame-fed pass = header-first pass ∙ payload_fed sent refl ∙ ap (after (finish g state filled)) (sym length-bytes)

  -- ---- a data frame that is a whole message
  same_message : SameMessage i come
  same_message = message_all i (header_bytes f mask)

  module _ (d : DataKind) (is-data : op ≡ Data d) (fresh : is_continue_kind d ≡ false) (new : i.begun ≡ false) (none : first_of (doom_tests g state f come) ≡ 0)
      (valid : is_text_kind false d ≡ true → is_whole (progress_after 0 p) ≡ true) where
    is_clear : eqb (doom g state (frame come) come) 0 ≡ true
    unfolding doom
    is_clear = eq-eqb (first_of (doom_tests g state (frame come) come)) 0 (ap (λ (x : FrameHeader). first_of (doom_tests g state x come)) is_frame ∙ none)

    not_control : is_control (frame come).opcode ≡ false
    not_control = ap (λ (x : FrameHeader). is_control x.opcode) is_frame ∙ ap is_control (opcode_flag ∙ is-data)

    at_start : before come + come.counted ≡ 0
    unfolding before
    at_start = rw (same_message.begun ∙ new) (omega (arith, none_counted))

    -- the incoming once the payload is counted
    abbrev counted : Incoming
    counted = counts come (length sent) (pick (is_text (frame come) come) (progress_after (progress_now come) p) come.progress)

    stored-sent : stored g state start sent ≡ world counted (laid m 0 p) c More
    stored-sent =
        stored-data g state come m c More sent is_clear not_control
        ∙ ap₂ (λ (l : List ℕ) (n : ℕ). world (counts come (length sent) (pick (is_text (frame come) come) (progress_after (progress_now come) l) come.progress)) (laid m n l) c More)
        plain-sent at_start

    final : f.fin ≡ true
    unfolding frame_header
    final = refl

    -- the frame ends with so much of it counted
    end_data : (j : Incoming) → frame j ≡ f → j.begun ≡ false → j.fragments ≡ come.fragments → (is_text_kind false d ≡ true → is_whole (progress_now j) ≡ true)
        → finish g state (world j (laid m 0 p) c More) ≡ world (between_frames j false false 0 0) (laid m 0 p) c (data_event d (length p))
    end_data j e n x v =
        finish-on g state f (world j (laid m 0 p) c More) e
        (verdict-clear g state f j c
        (ap first_of (doom-same g state f come j (n ∙ sym (same_message.begun ∙ new)) x) ∙ none)
        (valid_data f j c d (opcode_flag ∙ is-data) final fresh v))
        ∙ ap (λ (o : OpCode). ended f o (world j (laid m 0 p) c More)) (opcode_flag ∙ is-data)
        ∙ ended-data f j (laid m 0 p) c d final fresh (opcode_flag ∙ is-data) n
        ∙ ap (λ (k : ℕ). world (between_frames j false false 0 0) (laid m 0 p) c (data_event d k)) length-flag

    progress_none : progress_now come ≡ 0
    unfolding progress_now
    progress_none = rw (same_message.begun ∙ new, none_counted)

    frame-counted : frame counted ≡ f
    frame-counted = frame_on come (length sent) _ ∙ is_frame

    -- text is checked as it comes
    progress_counted : 0 < length p → is_text_kind false d ≡ true → progress_now counted ≡ progress_after 0 p
    progress_counted h t =
        now_counted come (length sent) _ (same_message.begun ∙ new) (omega (arith, length-sent))
        ∙ ap (λ (b : Bool). pick b (progress_after (progress_now come) p) come.progress) (is_text_lem t)
        ∙ ap (λ (n : ℕ). progress_after n p) progress_none
      where
        is_text_lem : is_text_kind false d ≡ true → is_text (frame come) come ≡ true
        is_text_lem t = text_of (frame come) come d (ap (λ (x : FrameHeader). x.opcode) is_frame ∙ opcode_flag ∙ is-data) fresh t

    -- the message's event, with its payload in the message store
    pub data_told : finish g state filled ≡ world (between_frames come false false 0 0) (laid m 0 p) c (data_event d (length p))
    data_told =
        by_test (eqb (length p) 0)
        (λ t.
        let none-there : p ≡ [] = no_bytes p (eqb-true (length p) 0 t) in
        ap (λ (b : Bool). finish g state (pick b start (stored g state start sent))) t
        ∙ ap (λ (l : List ℕ). finish g state (world come l c More)) (laid_none m 0 ∙ ap (laid m 0) (sym none-there))
        ∙ end_data come is_frame (same_message.begun ∙ new) refl
        (λ k. ap is_whole (progress_none ∙ nothing_read p none-there) ∙ valid k))
        (λ t.
        ap (λ (b : Bool). finish g state (pick b start (stored g state start sent))) t
        ∙ ap (finish g state) stored-sent
        ∙ end_data counted frame-counted (same_message.begun ∙ new) refl
        (λ k. ap is_whole (progress_counted (some_bytes (length p) (eqb-false (length p) 0 t)) k) ∙ valid k))

    pub data_back : first_of (header_tests g f) ≡ 0
        → feed g state (after (world i m c More) 0) bytes ≡ after (world (between_frames come false false 0 0) (laid m 0 p) c (data_event d (length p))) (length bytes)
    data_back pass = frame-fed pass ∙ ap (λ (w : World). after w (length bytes)) data_told

  -- ---- a control frame
  module _ (k : ControlKind) (is-kind : op ≡ Control k) (none : first_of (doom_tests g state f come) ≡ 0) (room : length p ≤ length c)
      (valid : is_close_kind k ≡ true → reason_holds p ≡ true) where
    control_clear : eqb (doom g state (frame come) come) 0 ≡ true
    unfolding doom
    control_clear = eq-eqb (first_of (doom_tests g state (frame come) come)) 0 (ap (λ (x : FrameHeader). first_of (doom_tests g state x come)) is_frame ∙ none)

    control_kind : is_control (frame come).opcode ≡ true
    control_kind = ap (λ (x : FrameHeader). is_control x.opcode) is_frame ∙ ap is_control (opcode_flag ∙ is-kind)

    abbrev counted-control : Incoming
    counted-control = counts come (length sent) come.progress

    stored-control_sent : stored g state start sent ≡ world counted-control m (laid c 0 p) More
    stored-control_sent =
        stored-control g state come m c More sent control_clear control_kind
        ∙ ap₂ (λ (l : List ℕ) (n : ℕ). world counted-control m (laid c n l) More) plain-sent none_counted

    abbrev after-control : World
    after-control = world (between_frames come come.begun come.text come.fragments come.progress) m (laid c 0 p) (control_event k (length p))

    end_control : (j : Incoming) → frame j ≡ f → j.header ≡ come.header → SameMessage come j
        → finish g state (world j m (laid c 0 p) More) ≡ world (between_frames j j.begun j.text j.fragments j.progress) m (laid c 0 p) (control_event k (length p))
    end_control j e h x =
        finish-on g state f (world j m (laid c 0 p) More) e
        (verdict-clear g state f j (laid c 0 p)
        (ap first_of (doom-same g state f come j x.begun x.fragments) ∙ none)
        (valid_control f j (laid c 0 p) k (opcode_flag ∙ is-kind)
        (λ q. ap (λ (n : ℕ). reason_holds (take n (laid c 0 p))) length-flag ∙ ap reason_holds (front_laid c p room) ∙ valid q)))
        ∙ ap (λ (o : OpCode). ended f o (world j m (laid c 0 p) More)) (opcode_flag ∙ is-kind)
        ∙ ap (λ (n : ℕ). world (between_frames j j.begun j.text j.fragments j.progress) m (laid c 0 p) (control_event k n)) length-flag

    pub control_told : finish g state filled ≡ after-control
    control_told =
        by_test (eqb (length p) 0)
        (λ t.
        let none-there : p ≡ [] = no_bytes p (eqb-true (length p) 0 t) in
        ap (λ (b : Bool). finish g state (pick b start (stored g state start sent))) t
        ∙ ap (λ (l : List ℕ). finish g state (world come m l More)) (laid_none c 0 ∙ ap (laid c 0) (sym none-there))
        ∙ end_control come is_frame refl (record { begun = refl; text = refl; fragments = refl; progress = refl }))
        (λ t.
        ap (λ (b : Bool). finish g state (pick b start (stored g state start sent))) t
        ∙ ap (finish g state) stored-control_sent
        ∙ end_control counted-control (frame_on come (length sent) come.progress ∙ is_frame) refl
        (record { begun = refl; text = refl; fragments = refl; progress = refl }))

    pub control_back : first_of (header_tests g f) ≡ 0 → feed g state (after (world i m c More) 0) bytes ≡ after after-control (length bytes)
    control_back pass = frame-fed pass ∙ ap (λ (w : World). after w (length bytes)) control_told
