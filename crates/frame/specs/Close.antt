-- The payload of a close frame (RFC 6455, 5.5.1; document 01, "Replies and closing").
use Rattle.std.specs.Prelude.{List, [], ◌∷◌, ◌++◌, ℕ}
use Rattle.base.specs.Bytes.{from_big, to_big}
use Rattle.frame.specs.declared.close.ClosePayload.{ClosePayload}
use Rattle.frame.specs.declared.close.ClosePayload.TheVariants.{Empty, OneByte, CodeAndReason}

-- empty, one byte, or a code in two bytes and behind them a reason
unfoldable pub close_of : List ℕ → ClosePayload
close_of [] = Empty
close_of (b ∷ []) = OneByte
close_of (b ∷ (c ∷ reason)) = CodeAndReason (from_big (b ∷ (c ∷ [])))

unfoldable pub close_bytes : ℕ → List ℕ → List ℕ
close_bytes code reason = to_big 2 code ++ reason

-- "the eighteen ASCII bytes `Protocol violation`"
unfoldable pub violation : List ℕ
violation = 80 ∷ 114 ∷ 111 ∷ 116 ∷ 111 ∷ 99 ∷ 111 ∷ 108 ∷ 32 ∷ 118 ∷ 105 ∷ 111 ∷ 108 ∷ 97 ∷ 116 ∷ 105 ∷ 111 ∷ 110 ∷ []
