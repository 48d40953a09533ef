-- All that an end has put out, as a list of frames: their bytes on the pipe, the messages and pings that they carry, and where a close is.
use mathlib.Core.Path.{◌≡◌, refl, sym, ap, ◌∙◌}
use mathlib.Core.Bool.{Bool, true, false}
use mathlib.Core.List.{List, [], ◌∷◌, ◌++◌, append_assoc, append-nil}
use Prim.Native.Nat.{ℕ, ◌≤◌}
use lib.ListN.{length}
use Rattle.base.specs.Table.{pick}
use Rattle.base.specs.Tests.{either}
use Rattle.coding.specs.declared.opcode.Control.{Control as ControlKind}
use Rattle.coding.specs.declared.opcode.Control.TheVariants.{Close, Ping, Pong}
use Rattle.coding.specs.declared.opcode.Data.{Data as DataKind}
use Rattle.coding.specs.declared.opcode.Data.TheVariants.{Continue, Text, Binary}
use Rattle.coding.specs.declared.opcode.OpCode.{OpCode}
use Rattle.coding.specs.declared.opcode.OpCode.TheVariants.{Data, Control, Reserved}
use Rattle.session.specs.declared.Settings.{Settings}
use Rattle.session.specs.Frames.{is_close, is_close_kind, is_continue_kind, is_text_kind, reason_holds}
use Rattle.session.specs.Replies.{encoded}
use Rattle.steady.proofs.Again.{either-not}
use Rattle.steady.proofs.Headers.{never}
use Rattle.utf8.specs.Progress.{progress_after, is_whole}
use Rattle.link.specs.System.{Item, item}
use Rattle.link.proofs.Overlap.{no_second}

-- ---- a frame as it was put out. The final bit is carried, though every frame is final today: a message is what its frames join to
pub record Frame : Type 0 where
  pub final : Bool
  pub op : OpCode
  pub mask : List ℕ
  pub load : List ℕ

-- ---- its bytes, as a client or as a server writes them
abbrev pub bytes_of : Bool → Frame → List ℕ
bytes_of client f = encoded client f.op f.mask f.load

unfoldable pub wires : Bool → List Frame → List ℕ
wires client [] = []
wires client (f ∷ fs) = bytes_of client f ++ wires client fs

pub wires_append : (client : Bool) (a b : List Frame) → wires client (a ++ b) ≡ wires client a ++ wires client b
unfolding wires
wires_append client [] b = refl
wires_append client (f ∷ a) b = rw (wires_append client a b) (sym (append_assoc (bytes_of client f) (wires client a) (wires client b)))

pub one_wire : (client : Bool) (f : Frame) → bytes_of client f ≡ wires client (f ∷ [])
unfolding wires
one_wire client f = sym (append-nil (bytes_of client f))

-- ---- the messages and pings that frames carry: a fold, since fragments join
-- what is open of a message: nothing, or its kind and its bytes so far
pub data Open : Type 0 where
  nothing : Open
  begun : Item → Open

abbrev open_bytes : Open → List ℕ
open_bytes nothing = []
open_bytes (begun x) = x.bytes

abbrev open_kind : Open → ℕ
open_kind nothing = 3
open_kind (begun x) = x.kind

abbrev kind_of : Open → DataKind → ℕ
kind_of o Continue = open_kind o
kind_of o Text = 2
kind_of o Binary = 3

abbrev so_far : Open → DataKind → List ℕ → Item
so_far o d p = item (kind_of o d) (open_bytes o ++ p)

abbrev control_items : ControlKind → List ℕ → List Item
control_items Close p = []
control_items Ping p = item 4 p ∷ []
control_items Pong p = []

abbrev pub items_of : Open → Bool → OpCode → List ℕ → List Item
items_of o final (Data d) p = pick final (so_far o d p ∷ []) []
items_of o final (Control k) p = control_items k p
items_of o final (Reserved n) p = []

abbrev pub open_after : Open → Bool → OpCode → List ℕ → Open
open_after o final (Data d) p = pick final nothing (begun (so_far o d p))
open_after o final (Control k) p = o
open_after o final (Reserved n) p = o

unfoldable pub open_all : Open → List Frame → Open
open_all o [] = o
open_all o (f ∷ fs) = open_all (open_after o f.final f.op f.load) fs

unfoldable pub told : Open → List Frame → List Item
told o [] = []
told o (f ∷ fs) = items_of o f.final f.op f.load ++ told (open_after o f.final f.op f.load) fs

pub told_append : (o : Open) (a b : List Frame) → told o (a ++ b) ≡ told o a ++ told (open_all o a) b
unfolding told open_all
told_append o [] b = refl
told_append o (f ∷ a) b =
    let o' : Open = open_after o f.final f.op f.load in
    ap (λ (l : List Item). items_of o f.final f.op f.load ++ l) (told_append o' a b)
    ∙ sym (append_assoc (items_of o f.final f.op f.load) (told o' a) (told (open_all o' a) b))

-- ---- frames that the other end's settings admit
abbrev pub LoadFits : Settings → OpCode → List ℕ → Type 0
LoadFits g (Data d) p =
    (is_continue_kind d ≡ false) × (length p ≤ g.message) × (is_text_kind false d ≡ true → is_whole (progress_after 0 p) ≡ true)
LoadFits g (Control k) p =
    (length p ≤ 125) × (is_close_kind k ≡ true → (length p ≡ 1 → ⊥) × (reason_holds p ≡ true))
LoadFits g (Reserved n) p = ⊥

pub record Valid (g : Settings) (f : Frame) : Type 0 where
  pub whole : f.final ≡ true
  pub four : length f.mask ≡ 4
  pub short : length f.load ≤ g.frame
  pub fits : LoadFits g f.op f.load

abbrev pub AllValid : Settings → List Frame → Type 0
AllValid g [] = Unit {0}
AllValid g (f ∷ fs) = Valid g f × AllValid g fs

pub valid_append : (g : Settings) (a b : List Frame) → AllValid g a → AllValid g b → AllValid g (a ++ b)
valid_append g [] b v w = w
valid_append g (x ∷ a) b v w = (v.0, valid_append g a b v.1 w)

pub valid_front : (g : Settings) (a b : List Frame) → AllValid g (a ++ b) → AllValid g a
valid_front g [] b v = tt
valid_front g (x ∷ a) b v = (v.0, valid_front g a b v.1)

pub valid_behind : (g : Settings) (a b : List Frame) → AllValid g (a ++ b) → AllValid g b
valid_behind g [] b v = v
valid_behind g (x ∷ a) b v = valid_behind g a b v.1

-- no message is left open by frames that are all final
open_none : (g : Settings) (op : OpCode) (final : Bool) (p : List ℕ) → final ≡ true → LoadFits g op p → open_after nothing final op p ≡ nothing
open_none g (Data d) final p e h = rw e
open_none g (Control k) final p e h = refl
open_none g (Reserved n) final p e h = absurd h

pub open_all_lem : (g : Settings) (fs : List Frame) → AllValid g fs → open_all nothing fs ≡ nothing
unfolding open_all
open_all_lem g [] v = refl
open_all_lem g (f ∷ fs) v =
    ap (λ (o : Open). open_all o fs) (open_none g f.op f.final f.load v.0.whole v.0.fits) ∙ open_all_lem g fs v.1

-- what more frames carry
pub told_on : (g : Settings) (a b : List Frame) → AllValid g a → told nothing (a ++ b) ≡ told nothing a ++ told nothing b
told_on g a b v = told_append nothing a b ∙ ap (λ (o : Open). told nothing a ++ told o b) (open_all_lem g a v)

pub one_told : (f : Frame) → f.final ≡ true → told nothing (f ∷ []) ≡ items_of nothing true f.op f.load
unfolding told
one_told f e =
    append-nil (items_of nothing f.final f.op f.load) ∙ ap (λ (t : Bool). items_of nothing t f.op f.load) e

-- ---- a close among them
abbrev pub closes : Frame → Bool
closes f = is_close f.op

abbrev pub has_close : List Frame → Bool
has_close [] = false
has_close (f ∷ fs) = either (closes f) (has_close fs)

pub either-none : (a : Bool) → either a false ≡ a
either-none true = refl
either-none false = refl

either-assoc : (a b c : Bool) → either a (either b c) ≡ either (either a b) c
either-assoc true b c = refl
either-assoc false b c = refl

pub close_append : (a b : List Frame) → has_close (a ++ b) ≡ either (has_close a) (has_close b)
close_append [] b = refl
close_append (f ∷ a) b = rw (close_append a b) (either-assoc (closes f) (has_close a) (has_close b))

-- nothing is put out behind a close
abbrev pub CloseLast : List Frame → Type 0
CloseLast [] = Unit {0}
CloseLast (f ∷ fs) = (closes f ≡ true → fs ≡ []) × CloseLast fs

pub one_close : (f : Frame) → has_close (f ∷ []) ≡ closes f
one_close f = either-none (closes f)

pub close_on : (a b : List Frame) → has_close a ≡ false → CloseLast b → CloseLast (a ++ b)
close_on [] b h c = c
close_on (x ∷ a) b h c =
    let e = either-not (closes x) (has_close a) h in ((λ d. never d e.0), close_on a b e.1 c)

pub one_last : (f : Frame) → CloseLast (f ∷ [])
one_last f = ((λ c. refl), tt)

pub close_ends : (a b : List Frame) → CloseLast (a ++ b) → has_close a ≡ true → b ≡ []
close_ends [] b c h = never h refl
close_ends (x ∷ a) b c h = go (closes x) refl (λ k. close_ends a b c.1 k) h
  where
    go : (t : Bool) → closes x ≡ t → (has_close a ≡ true → b ≡ []) → either t (has_close a) ≡ true → b ≡ []
    go true e more k = no_second a b (c.0 e)
    go false e more k = more k
