-- The number that a header and the session decide, by the frame's kind.
use mathlib.Core.Path.{◌≡◌, refl, sym, ap, ◌∙◌}
use mathlib.Core.Bool.{Bool, true, false, not}
use mathlib.Core.List.{List, [], ◌∷◌}
use Prim.Native.Nat.{ℕ, ◌+◌, ◌≤◌}
use native.Mathlib.Omega.{arith}
use lib.Dec.{eqb, ltb}
use borrow.Author.Rules.{rules}
use borrow.Author.Tests.{ltb-false, eqb-true, eqb-false}
use Rattle.std.specs.Prelude.{Result, Ok, Err}
use Rattle.std.specs.Result.{is_err}
use Rattle.base.specs.Tests.{both, either, Test, ◌when◌, first_of}
use Rattle.base.proofs.Tests.{first_stop, first_pass, first_clear}
use Rattle.coding.specs.declared.opcode.Control.{Control as ControlKind}
use Rattle.coding.specs.declared.opcode.Data.{Data as DataKind}
use Rattle.coding.specs.declared.opcode.OpCode.{OpCode}
use Rattle.coding.specs.declared.opcode.OpCode.TheVariants.{Data, Control, Reserved}
use Rattle.frame.specs.declared.header.FrameHeader.{FrameHeader}
use Rattle.session.specs.declared.refusal.Refusal.{Refusal}
use Rattle.session.specs.declared.Incoming.{Incoming}
use Rattle.session.specs.declared.Settings.{Settings}
use Rattle.session.specs.Frames.{is_reserved, is_control, is_close, is_close_kind, is_continue, is_continue_kind, is_data, header_tests, before, doom_tests, doom}
use Rattle.session.specs.Refusals.{number_of, numbered}
use Rattle.session.specs.Session.{is_server, is_client, is_peer_closed}
use Rattle.session.proofs.Refusals.{number_some}
use Rattle.base.proofs.Choice.{by_test}

abbrev pub any_tests : Settings → ℕ → FrameHeader → List Test
any_tests g state f =
    (5 when both (is_server g) (both (not f.masked) (not g.unmasked)))
    ∷ (6 when both (is_client g) (is_peer_closed state))
    ∷ (7 when either f.rsv1 (either f.rsv2 f.rsv3))
    ∷ (8 when both (is_client g) f.masked)
    ∷ []

abbrev pub control_tests : Bool → ℕ → Bool → List Test
control_tests fin n close = (9 when not fin) ∷ (10 when ltb 125 n) ∷ (11 when both close (eqb n 1)) ∷ []

abbrev pub data_tests : ℕ → ℕ → ℕ → Bool → Bool → List Test
data_tests limit n at begun continues =
    (13 when both continues (not begun)) ∷ (14 when both (not continues) begun) ∷ (15 when ltb limit (at + n)) ∷ []

-- the tests behind the first four, by the opcode
abbrev kind_tests : Settings → FrameHeader → Incoming → OpCode → List Test
kind_tests g f i op =
    (9 when both (is_control op) (not f.fin))
    ∷ (10 when both (is_control op) (ltb 125 f.length))
    ∷ (11 when both (is_close op) (eqb f.length 1))
    ∷ (13 when both (is_continue op) (not i.begun))
    ∷ (14 when both (is_data op) (both (not (is_continue op)) i.begun))
    ∷ (15 when both (is_data op) (ltb g.message (before i + f.length)))
    ∷ []

module _ (g : Settings) (state : ℕ) (f : FrameHeader) (i : Incoming) where
  pub doom-any : (first_of (any_tests g state f) ≡ 0 → ⊥) → doom g state f i ≡ first_of (any_tests g state f)
  unfolding doom doom_tests
  doom-any h = first_stop (any_tests g state f) (kind_tests g f i f.opcode) h

  -- a refusal by them is the header's
  pub doom-refused : (e : Refusal) → number_of e ≡ first_of (any_tests g state f) → number_of e ≡ doom g state f i
  doom-refused e p = p ∙ sym (doom-any (λ z. number_some e (p ∙ z)))

  doom-kind : first_of (any_tests g state f) ≡ 0 → (op : OpCode) → f.opcode ≡ op → doom g state f i ≡ first_of (kind_tests g f i op)
  unfolding doom doom_tests
  doom-kind h op e =
      first_pass (any_tests g state f) (kind_tests g f i f.opcode) (search rules) h ∙ ap (λ (o : OpCode). first_of (kind_tests g f i o)) e

  pub doom-reserved : (n : ℕ) → first_of (any_tests g state f) ≡ 0 → f.opcode ≡ Reserved n → doom g state f i ≡ 0
  unfolding first_of
  doom-reserved n h e = doom-kind h (Reserved n) e

  pub doom-control : (k : ControlKind) → first_of (any_tests g state f) ≡ 0 → f.opcode ≡ Control k
      → doom g state f i ≡ first_of (control_tests f.fin f.length (is_close_kind k))
  unfolding first_of
  doom-control k h e = doom-kind h (Control k) e

  pub doom-data : (d : DataKind) → first_of (any_tests g state f) ≡ 0 → f.opcode ≡ Data d
      → doom g state f i ≡ first_of (data_tests g.message f.length (before i) i.begun (is_continue_kind d))
  unfolding first_of
  doom-data d h e = doom-kind h (Data d) e

  -- ---- what is known of a frame that is not doomed
  any_clear : doom g state f i ≡ 0 → first_of (any_tests g state f) ≡ 0
  any_clear h =
      by_test (eqb (first_of (any_tests g state f)) 0) (λ t. eqb-true (first_of (any_tests g state f)) 0 t)
      (λ t. let ne = eqb-false (first_of (any_tests g state f)) 0 t in sym (doom-any ne) ∙ h)

  -- a control payload fits the control store
  pub control_room : doom g state f i ≡ 0 → is_control f.opcode ≡ true → f.length ≤ 125
  control_room h = go f.opcode refl
    where
      go : (op : OpCode) → f.opcode ≡ op → is_control op ≡ true → f.length ≤ 125
      go (Reserved n) e t = absurd (let z : ◌≡◌ {A = ℕ} 0 1 = cc in omega arith)
      go (Data d) e t = absurd (let z : ◌≡◌ {A = ℕ} 0 1 = cc in omega arith)
      go (Control k) e t =
          let tests : first_of (control_tests f.fin f.length (is_close_kind k)) ≡ 0 = sym (doom-control k (any_clear h) e) ∙ h in
          let rest = (first_clear 9 (not f.fin) _ (search rules) tests).1 in
          ltb-false 125 f.length (first_clear 10 (ltb 125 f.length) _ (search rules) rest).0

  -- a data payload fits the message
  pub data_room : first_of (header_tests g f) ≡ 0 → doom g state f i ≡ 0 → is_control f.opcode ≡ false → before i + f.length ≤ g.message
  unfolding header_tests
  data_room legal h = go f.opcode refl
    where
      go : (op : OpCode) → f.opcode ≡ op → is_control op ≡ false → before i + f.length ≤ g.message
      go (Reserved n) e t =
          let no : is_reserved f.opcode ≡ false = (first_clear 3 (is_reserved f.opcode) _ (search rules) legal).0 in
          absurd (let z : true ≡ false = sym (ap is_reserved e) ∙ no in let y : ◌≡◌ {A = ℕ} 0 1 = cc in omega arith)
      go (Control k) e t = absurd (let z : ◌≡◌ {A = ℕ} 0 1 = cc in omega arith)
      go (Data d) e t =
          let tests : first_of (data_tests g.message f.length (before i) i.begun (is_continue_kind d)) ≡ 0 = sym (doom-data d (any_clear h) e) ∙ h in
          let one = (first_clear 13 _ _ (search rules) tests).1 in
          let two = (first_clear 14 _ _ (search rules) one).1 in
          ltb-false g.message (before i + f.length) (first_clear 15 _ _ (search rules) two).0

  -- so a run of it that the header has room for does
  pub control_fits : (n size : ℕ) → doom g state f i ≡ 0 → is_control f.opcode ≡ true → i.counted + n ≤ f.length → 125 ≤ size → i.counted + n ≤ size
  control_fits n size clear e h k = omega (arith, control_room clear e)

  pub data_fits : (n size : ℕ) → first_of (header_tests g f) ≡ 0 → doom g state f i ≡ 0 → is_control f.opcode ≡ false → i.counted + n ≤ f.length → g.message ≤ size
      → before i + i.counted + n ≤ size
  data_fits n size legal clear e h k = omega (arith, data_room legal clear e)

-- ---- a refusal, and none
pub refused : (r : Result (Unit {0}) Refusal) {n : ℕ} {b : Bool} → numbered r ≡ n → b ≡ is_err r → b ≡ true → n ≡ 0 → ⊥
refused (Ok u) e p q = absurd (let z : true ≡ false = sym q ∙ p in let y : ◌≡◌ {A = ℕ} 0 1 = cc in omega arith)
refused (Err x) e p q = λ z. number_some x (e ∙ z)

pub not_refused : (r : Result (Unit {0}) Refusal) {n : ℕ} {b : Bool} → numbered r ≡ n → b ≡ is_err r → b ≡ false → n ≡ 0
not_refused (Ok u) e p q = sym e
not_refused (Err x) e p q = absurd (let z : false ≡ true = sym q ∙ p in let y : ◌≡◌ {A = ℕ} 0 1 = cc in omega arith)
