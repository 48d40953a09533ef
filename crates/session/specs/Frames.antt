-- What a frame's header and the session say of it (document 01, "Numbers").
use Rattle.std.specs.Prelude.{Bool, true, false, not, List, [], ◌∷◌, ◌++◌, ℕ, ◌+◌, eqb, ltb, take, drop}
use Rattle.base.specs.Table.{pick}
use Rattle.base.specs.Tests.{both, either, Test, ◌when◌, first_of}
use Rattle.coding.specs.declared.opcode.Control.{Control as ControlKind}
use Rattle.coding.specs.declared.opcode.Control.TheVariants.{Close, Ping, Pong}
use Rattle.coding.specs.declared.opcode.Data.{Data as DataKind}
use Rattle.coding.specs.declared.opcode.Data.TheVariants.{Continue, Text, Binary}
use Rattle.coding.specs.declared.opcode.OpCode.{OpCode}
use Rattle.coding.specs.declared.opcode.OpCode.TheVariants.{Data, Control, Reserved}
use Rattle.frame.specs.declared.header.FrameHeader.{FrameHeader}
use Rattle.frame.specs.Header.{missing, header_of}
use Rattle.session.specs.declared.Incoming.{Incoming}
use Rattle.session.specs.declared.Settings.{Settings}
use Rattle.session.specs.Session.{is_server, is_client, is_peer_closed}
use Rattle.utf8.specs.Progress.{progress_after, is_whole, is_beginning}

-- ---- the header that is kept
abbrev pub kept : Incoming → List ℕ
kept i = take i.kept i.header

unfoldable pub header_whole : Incoming → Bool
header_whole i = eqb (missing (kept i)) 0

unfoldable pub frame : Incoming → FrameHeader
frame i = header_of (kept i)

-- ---- kinds of frames
abbrev pub is_reserved : OpCode → Bool
is_reserved (Reserved n) = true
is_reserved (Data d) = false
is_reserved (Control c) = false

abbrev pub is_control : OpCode → Bool
is_control (Reserved n) = false
is_control (Data d) = false
is_control (Control c) = true

abbrev pub is_close_kind : ControlKind → Bool
is_close_kind Close = true
is_close_kind Ping = false
is_close_kind Pong = false

abbrev pub is_close : OpCode → Bool
is_close (Reserved n) = false
is_close (Data d) = false
is_close (Control c) = is_close_kind c

abbrev pub is_continue_kind : DataKind → Bool
is_continue_kind Continue = true
is_continue_kind Text = false
is_continue_kind Binary = false

abbrev pub is_continue : OpCode → Bool
is_continue (Reserved n) = false
is_continue (Data d) = is_continue_kind d
is_continue (Control c) = false

abbrev pub is_data : OpCode → Bool
is_data (Reserved n) = false
is_data (Data d) = true
is_data (Control c) = false

-- text by its own opcode, or a continuation of text
abbrev pub is_text_kind : Bool → DataKind → Bool
is_text_kind text Continue = text
is_text_kind text Text = true
is_text_kind text Binary = false

abbrev pub is_text_code : Bool → OpCode → Bool
is_text_code text (Reserved n) = false
is_text_code text (Data d) = is_text_kind text d
is_text_code text (Control c) = false

unfoldable pub is_text : FrameHeader → Incoming → Bool
is_text f i = is_text_code i.text f.opcode

-- ---- "Numbers 3 and 4 are given at the header's last byte, mask included."
unfoldable pub header_tests : Settings → FrameHeader → List Test
header_tests g f = (3 when is_reserved f.opcode) ∷ (4 when ltb g.frame f.length) ∷ []

-- ---- the message before this frame: "behind the fragments so far, from its start for a new message"
unfoldable pub before : Incoming → ℕ
before i = pick i.begun i.fragments 0

-- the progress of the message's UTF-8 check; a new message starts it
unfoldable pub progress_now : Incoming → ℕ
progress_now i = pick (either i.begun (ltb 0 i.counted)) i.progress 0

-- ---- "All others are given at the frame's last byte, in this order: 5, 6, 7, 8, 9, 10, 11, .. 13 or 14, then 15": those that the header
-- and the session decide
unfoldable pub doom_tests : Settings → ℕ → FrameHeader → Incoming → List Test
doom_tests g state f i =
    (5 when both (is_server g) (both (not f.masked) (not g.unmasked)))
    ∷ (6 when both (is_client g) (is_peer_closed state))
    ∷ (7 when either f.rsv1 (either f.rsv2 f.rsv3))
    ∷ (8 when both (is_client g) f.masked)
    ∷ (9 when both (is_control f.opcode) (not f.fin))
    ∷ (10 when both (is_control f.opcode) (ltb 125 f.length))
    ∷ (11 when both (is_close f.opcode) (eqb f.length 1))
    ∷ (13 when both (is_continue f.opcode) (not i.begun))
    ∷ (14 when both (is_data f.opcode) (both (not (is_continue f.opcode)) i.begun))
    ∷ (15 when both (is_data f.opcode) (ltb g.message (before i + f.length)))
    ∷ []

unfoldable pub doom : Settings → ℕ → FrameHeader → Incoming → ℕ
doom g state f i = first_of (doom_tests g state f i)

-- ---- 12: "close reason"; "A fragment of text is refused with 12 when the bytes so far begin no valid UTF-8; the final one when they are
-- not whole UTF-8."
unfoldable pub reason_holds : List ℕ → Bool
reason_holds p = is_whole (progress_after 0 (drop 2 p))

unfoldable pub text_holds : FrameHeader → Incoming → Bool
text_holds f i = pick f.fin (is_whole (progress_now i)) (is_beginning (progress_now i))

unfoldable pub utf_test : FrameHeader → Incoming → List ℕ → Test
utf_test f i control =
    12 when either (both (is_close f.opcode) (not (reason_holds (take f.length control)))) (both (is_text f i) (not (text_holds f i)))

unfoldable pub verdict : Settings → ℕ → FrameHeader → Incoming → List ℕ → ℕ
verdict g state f i control = first_of (doom_tests g state f i ++ (utf_test f i control ∷ []))
