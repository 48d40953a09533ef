-- The frame's last byte: its number by the tests in order, and what its end leaves.
use mathlib.Core.Path.{◌≡◌, refl, sym, ap, ◌∙◌}
use mathlib.Core.Bool.{Bool, true, false, not}
use mathlib.Core.List.{List, [], ◌∷◌}
use Prim.Native.Nat.{ℕ, ◌+◌, ◌<◌, ◌≤◌}
use native.Mathlib.Omega.{arith}
use lib.Dec.{eqb}
use lib.ListN.{length, take}
use borrow.Author.Rules.{rules}
use borrow.Author.Tests.{eq-eqb, ne_eqb, eqb-true, eqb-false, lt-leb, le-leb}
use Rattle.base.specs.Table.{pick}
use Rattle.base.specs.Tests.{both, either, first_of}
use Rattle.base.proofs.Choice.{by_test}
use Rattle.base.proofs.Tests.{first_stop, first_pass}
use Rattle.coding.specs.declared.opcode.Control.{Control as ControlKind}
use Rattle.coding.specs.declared.opcode.Data.{Data as DataKind}
use Rattle.coding.specs.declared.opcode.OpCode.{OpCode}
use Rattle.coding.specs.declared.opcode.OpCode.TheVariants.{Data, Control, Reserved}
use Rattle.frame.specs.declared.close.ClosePayload.{ClosePayload}
use Rattle.frame.specs.declared.close.ClosePayload.TheVariants.{Empty, OneByte, CodeAndReason}
use Rattle.frame.specs.Close.{close_of}
use Rattle.frame.specs.declared.header.FrameHeader.{FrameHeader}
use Rattle.session.specs.declared.Answer.{Answer}
use Rattle.session.specs.declared.Answer.TheVariants.{More, Text, Binary, Refused}
use Rattle.session.specs.declared.refusal.Refusal.{Refusal}
use Rattle.session.specs.Refusals.{number_of}
use Rattle.session.proofs.Refusals.{number_some}
use Rattle.session.specs.declared.Incoming.{Incoming}
use Rattle.session.specs.declared.Settings.{Settings}
use Rattle.session.specs.Frames.{is_control, is_close, is_text_code, is_text, header_whole, frame, header_tests, before, progress_now, doom_tests, doom, reason_holds, text_holds, utf_test, verdict}
use Rattle.session.specs.Reading.{World, world, between, control_event, ended, refuse, finish, rest, settle}
use Rattle.utf8.specs.Progress.{progress_after, is_whole}

-- the payloads that have a reason: those with a code, whatever the code
abbrev pub has_reason : ClosePayload → Bool
has_reason Empty = false
has_reason OneByte = false
has_reason (CodeAndReason code) = true

pub reason_none : (p : List ℕ) → has_reason (close_of p) ≡ false → true ≡ reason_holds p
unfolding close_of reason_holds progress_after is_whole
reason_none [] e = refl
reason_none (b ∷ []) e = refl
reason_none (b ∷ (c ∷ p)) e = absurd (let z : ◌≡◌ {A = ℕ} 0 1 = cc in omega arith)

pub reason_there : (p : List ℕ) → has_reason (close_of p) ≡ true → 2 ≤ length p
unfolding close_of
reason_there [] e = absurd (let z : ◌≡◌ {A = ℕ} 0 1 = cc in omega arith)
reason_there (b ∷ []) e = absurd (let z : ◌≡◌ {A = ℕ} 0 1 = cc in omega arith)
reason_there (b ∷ (c ∷ p)) e = omega arith

-- a close is a control frame, and no text
pub close_is_control : (op : OpCode) → is_close op ≡ true → is_control op ≡ true
close_is_control (Reserved n) e = cc
close_is_control (Data d) e = cc
close_is_control (Control k) e = refl

pub close_no_text : (f : FrameHeader) (i : Incoming) → is_close f.opcode ≡ true → is_text f i ≡ false
unfolding is_text
close_no_text f i e = go f.opcode e
  where
    go : (op : OpCode) → is_close op ≡ true → is_text_code i.text op ≡ false
    go (Reserved n) e = refl
    go (Data d) e = cc
    go (Control k) e = refl

module _ (g : Settings) (state : ℕ) (f : FrameHeader) (i : Incoming) (control : List ℕ) where
  pub verdict-doomed : (doom g state f i ≡ 0 → ⊥) → doom g state f i ≡ verdict g state f i control
  unfolding verdict doom
  verdict-doomed h = sym (first_stop (doom_tests g state f i) (utf_test f i control ∷ []) h)

  -- a refusal by the header is the frame's
  pub verdict-refused : (e : Refusal) → number_of e ≡ doom g state f i → number_of e ≡ verdict g state f i control
  verdict-refused e p = p ∙ verdict-doomed (λ z. number_some e (p ∙ z))

  verdict-clear : doom g state f i ≡ 0 → verdict g state f i control ≡ first_of (utf_test f i control ∷ [])
  unfolding verdict doom doom_tests
  verdict-clear h = first_pass (doom_tests g state f i) (utf_test f i control ∷ []) (search rules) h

  -- where no number is given, the header doomed nothing
  pub doom-clear : verdict g state f i control ≡ 0 → doom g state f i ≡ 0
  doom-clear h =
      by_test (eqb (doom g state f i) 0) (λ t. eqb-true (doom g state f i) 0 t) (λ t. verdict-doomed (eqb-false (doom g state f i) 0 t) ∙ h)

  module _ (clear : doom g state f i ≡ 0) where
    -- what the UTF-8 check says, as a test and as a number
    pub verdict-utf : {b : Bool} → b ≡ not (either (both (is_close f.opcode) (not (reason_holds (take f.length control)))) (both (is_text f i) (not (text_holds f i))))
        → ◌≡◌ {A = ℕ} (pick b 0 12) (verdict g state f i control)
    unfolding first_of utf_test
    verdict-utf e = rw e (go _) ∙ sym (verdict-clear clear)
      where
        go : (t : Bool) → ◌≡◌ {A = ℕ} (pick (not t) 0 12) (pick t 12 0)
        go true = refl
        go false = refl

    pub verdict-close : is_close f.opcode ≡ true → {b : Bool} → reason_holds (take f.length control) ≡ b → ◌≡◌ {A = ℕ} (pick b 0 12) (verdict g state f i control)
    unfolding first_of utf_test
    verdict-close e {b} r = sym (verdict-clear clear ∙ rw (e, r, close_no_text f i e) (go b))
      where
        go : (b : Bool) → ◌≡◌ {A = ℕ} (pick (either (not b) false) 12 0) (pick b 0 12)
        go true = refl
        go false = refl

    pub verdict-text : is_close f.opcode ≡ false → is_text f i ≡ true → {b : Bool} → text_holds f i ≡ b → ◌≡◌ {A = ℕ} (pick b 0 12) (verdict g state f i control)
    unfolding first_of utf_test
    verdict-text e t {b} r = sym (verdict-clear clear ∙ rw (e, t, r) (go b))
      where
        go : (b : Bool) → ◌≡◌ {A = ℕ} (pick (not b) 12 0) (pick b 0 12)
        go true = refl
        go false = refl

    pub verdict-other : is_close f.opcode ≡ false → is_text f i ≡ false → 0 ≡ verdict g state f i control
    unfolding first_of utf_test
    verdict-other e t = sym (verdict-clear clear ∙ rw (e, t))

-- ---- what the end leaves
module _ (f : FrameHeader) (i : Incoming) (m c : List ℕ) where
  pub ended-reserved : (n : ℕ) → f.opcode ≡ Reserved n → world i m c More ≡ ended f f.opcode (world i m c More)
  ended-reserved n e = ap (λ (op : OpCode). ended f op (world i m c More)) (sym e)

  pub ended-control : (k : ControlKind) {j : Incoming} {a : Answer} → f.opcode ≡ Control k → a ≡ control_event k f.length
      → j ≡ between i i.begun i.text i.fragments i.progress → world j m c a ≡ ended f f.opcode (world i m c More)
  ended-control k e p q = (λ x. world (q x) m c (p x)) ∙ ap (λ (op : OpCode). ended f op (world i m c More)) (sym e)

  chosen : (b : Bool) (j k : Incoming) (a d : Answer) → world (pick b j k) m c (pick b a d) ≡ pick b (world j m c a) (world k m c d)
  chosen true j k a d = refl
  chosen false j k a d = refl

  pub ended-data : (d : DataKind) {j : Incoming} {a : Answer} {t : Bool} {sum : ℕ} → f.opcode ≡ Data d → t ≡ is_text f i → sum ≡ before i + f.length
      → a ≡ pick f.fin (pick t (Text sum) (Binary sum)) More → j ≡ pick f.fin (between i false false 0 0) (between i true t sum (progress_now i))
      → world j m c a ≡ ended f f.opcode (world i m c More)
  ended-data d e t u p q =
      (λ x. world (q x) m c (p x))
      ∙ (λ x. world (pick f.fin (between i false false 0 0) (between i true (t x) (u x) (progress_now i))) m c (pick f.fin (pick (t x) (Text (u x)) (Binary (u x))) More))
      ∙ chosen f.fin _ _ _ _
      ∙ ap (λ (op : OpCode). ended f op (world i m c More)) (sym e)

module _ (g : Settings) (state : ℕ) (i : Incoming) (m c : List ℕ) (f : FrameHeader) (kept-one : f ≡ frame i) where
  pub finish-refused : {n : ℕ} → n ≡ verdict g state f i c → (n ≡ 0 → ⊥) → world i m c (Refused n) ≡ finish g state (world i m c More)
  unfolding finish refuse
  finish-refused {n} e h =
      let same : n ≡ verdict g state (frame i) i c = e ∙ ap (λ (x : FrameHeader). verdict g state x i c) kept-one in
      rw (ne_eqb (verdict g state (frame i) i c) 0 (λ z. h (same ∙ z))) (ap (λ (x : ℕ). world i m c (Refused x)) same)

  pub finish-refusal : (e : Refusal) {n : ℕ} → number_of e ≡ verdict g state f i c → n ≡ number_of e → world i m c (Refused n) ≡ finish g state (world i m c More)
  finish-refusal r p q = finish-refused (q ∙ p) (λ z. number_some r (sym q ∙ z))

  pub finish-ended : {w : World} → verdict g state f i c ≡ 0 → w ≡ ended f f.opcode (world i m c More) → w ≡ finish g state (world i m c More)
  unfolding finish
  finish-ended h e =
      rw (eq-eqb (verdict g state (frame i) i c) 0 (ap (λ (x : FrameHeader). verdict g state x i c) (sym kept-one) ∙ h))
      (e ∙ ap (λ (x : FrameHeader). ended x x.opcode (world i m c More)) kept-one)

  pub rest-open : i.counted < f.length → world i m c More ≡ rest g state (world i m c More)
  unfolding rest
  rest-open h = rw (lt-leb (frame i).length i.counted (omega (arith, ap (λ (x : FrameHeader). x.length) kept-one)))

  pub rest-whole : {w : World} → f.length ≤ i.counted → w ≡ finish g state (world i m c More) → w ≡ rest g state (world i m c More)
  unfolding rest
  rest-whole h e = rw (le-leb (frame i).length i.counted (omega (arith, ap (λ (x : FrameHeader). x.length) kept-one))) e

module _ (g : Settings) (state : ℕ) (i : Incoming) (m c : List ℕ) where
  pub settle-lacking : header_whole i ≡ false → world i m c More ≡ settle g state (world i m c More)
  unfolding settle
  settle-lacking h = rw h

  module _ (f : FrameHeader) (there : header_whole i ≡ true) (kept-one : f ≡ frame i) where
    pub settle-refused : {n : ℕ} → n ≡ first_of (header_tests g f) → (n ≡ 0 → ⊥) → world i m c (Refused n) ≡ settle g state (world i m c More)
    unfolding settle refuse
    settle-refused {n} e h =
        let same : n ≡ first_of (header_tests g (frame i)) = e ∙ ap (λ (x : FrameHeader). first_of (header_tests g x)) kept-one in
        rw (there, ne_eqb (first_of (header_tests g (frame i))) 0 (λ z. h (same ∙ z))) (ap (λ (x : ℕ). world i m c (Refused x)) same)

    pub settle-refusal : (e : Refusal) {n : ℕ} → number_of e ≡ first_of (header_tests g f) → n ≡ number_of e → world i m c (Refused n) ≡ settle g state (world i m c More)
    settle-refusal r p q = settle-refused (q ∙ p) (λ z. number_some r (sym q ∙ z))

    pub settle-rest : {w : World} → first_of (header_tests g f) ≡ 0 → w ≡ rest g state (world i m c More) → w ≡ settle g state (world i m c More)
    unfolding settle
    settle-rest h e = rw (there, eq-eqb (first_of (header_tests g (frame i))) 0 (ap (λ (x : FrameHeader). first_of (header_tests g x)) (sym kept-one) ∙ h)) e
