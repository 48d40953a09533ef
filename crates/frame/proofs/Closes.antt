-- Laws of close payloads.
use mathlib.Core.Path.{◌≡◌, refl, ap, ◌∙◌}
use mathlib.Core.List.{List, [], ◌∷◌}
use Prim.Native.Nat.{ℕ, ◌+◌, ◌*◌, ◌<◌, ◌≤◌}
use native.Mathlib.Omega.{arith}
use lib.ListN.{length, get_or, drop}
use Rattle.base.specs.Bytes.{from_big, to_big}
use Rattle.base.specs.Stores.{laid}
use Rattle.base.proofs.Bytes.{length-to_big, from_big-to_big}
use Rattle.base.proofs.Stores.{laid-append}
use Rattle.frame.specs.declared.close.ClosePayload.TheVariants.{Empty, OneByte, CodeAndReason}
use Rattle.frame.specs.Close.{close_of, close_bytes}

-- ---- by the payload's length
pub close_empty : (s : List ℕ) → length s ≡ 0 → close_of s ≡ Empty
unfolding close_of
close_empty [] h = refl
close_empty (b ∷ s) h = absurd (omega arith)

pub close_one : (s : List ℕ) → length s ≡ 1 → close_of s ≡ OneByte
unfolding close_of
close_one [] h = absurd (omega arith)
close_one (b ∷ []) h = refl
close_one (b ∷ (c ∷ s)) h = absurd (omega arith)

pub close_code : (s : List ℕ) → 2 ≤ length s → close_of s ≡ CodeAndReason (get_or s 0 0 * 256 + get_or s 1 0)
unfolding close_of from_big
close_code [] h = absurd (omega arith)
close_code (b ∷ []) h = absurd (omega arith)
close_code (b ∷ (c ∷ s)) h = ap CodeAndReason (omega arith)

-- ---- what is written reads back
pub close_read_back : (code : ℕ) (reason : List ℕ) → code < 65536 → close_of (close_bytes code reason) ≡ CodeAndReason code
unfolding close_of close_bytes to_big
close_read_back code reason h = ap CodeAndReason (from_big-to_big 2 code ∙ omega arith)

pub close_reason : (code : ℕ) (reason : List ℕ) → drop 2 (close_bytes code reason) ≡ reason
unfolding close_bytes to_big
close_reason code reason = refl

-- a code laid over a store and a reason behind it
pub laid-close : (d : List ℕ) (code : ℕ) (reason : List ℕ) → laid (laid d 0 (to_big 2 code)) 2 reason ≡ laid d 0 (close_bytes code reason)
unfolding close_bytes
laid-close d code reason =
    let two : 0 + length (to_big 2 code) ≡ 2 = rw (length-to_big 2 code) in
    rw (laid-append d 0 (to_big 2 code) reason, two)
