-- Laws of masking by blocks of eight bytes.
use mathlib.Core.Path.{◌≡◌, refl, sym, ap, ap₂, ◌∙◌}
use mathlib.Core.List.{List, [], ◌∷◌, ◌++◌}
use Prim.Native.Nat.{ℕ, zero, suc, ◌+◌, ◌-◌, ◌*◌, ◌/◌, ◌%◌, ◌<◌, ◌≤◌}
use native.Mathlib.Nat.{add-zero, zero-add, add-suc}
use native.Mathlib.Numerals.{add-one}
use native.Mathlib.Omega.{arith}
use lib.Bits.{bit_xor}
use lib.ListN.{length, get_or, set, take, drop, length-drop}
use lib.Seq.{take-add, take_all, take-suc-set, length-take-le, ext_get_or, drop-drop}
use Rattle.std.specs.Simd.{first_chunks}
use Rattle.base.specs.Bytes.{part}
use Rattle.base.specs.Stores.{laid}
use Rattle.base.proofs.Bytes.{length_part, part_at, part-more}
use Rattle.base.proofs.Stores.{laid-append}
use Rattle.mask.specs.Blocks.{key_at, xored, in_blocks}
use Rattle.mask.specs.Mask.{masked}
use Rattle.mask.proofs.Laws.{length-masked, masked-at, masked-append}

-- ---- a block is read, and a run is written

-- a byte more of a run that is copied into an array
pub built_more : (s b : List ℕ) (from i : ℕ) → i < length b → from + i < length s → take i b ≡ part from i s
    → take (i + 1) (set b i (get_or s (from + i) 0)) ≡ part from (i + 1) s
built_more s b from i h k p =
    rw (add-one, take-suc-set b i (get_or s (from + i) 0) h, p) (sym (part-more from i s k) ∙ rw add-one)

-- and all of it
pub built_all : (s b : List ℕ) (from i n : ℕ) → length b ≡ n → i ≡ n → take i b ≡ part from i s → b ≡ part from n s
built_all s b from i n h k p = sym (take_all n b (omega arith)) ∙ rw k at p

chunk_at : (n i : ℕ) (s : List ℕ) → i < n → get_or (first_chunks 8 n s) i [] ≡ part (8 * i) 8 s
unfolding part
chunk_at zero i s h = absurd (omega arith)
chunk_at (suc n) zero s h = refl
chunk_at (suc n) (suc i) s h =
    let e : 8 * suc i ≡ 8 + 8 * i = omega arith in
    chunk_at n i (drop 8 s) (omega arith) ∙ rw (e, drop-drop (8 * i) 8 s)

-- block i of a slice's blocks
pub block_at : (s : List ℕ) (n i : ℕ) {blocks : List (List ℕ)} → blocks ≡ first_chunks 8 n s → i < n → get_or blocks i [] ≡ part (8 * i) 8 s
block_at s n i e h = rw e (chunk_at n i s h)

-- a block, byte by byte
abbrev pub eight_at : List ℕ → ℕ → List ℕ
eight_at s i =
    get_or s (i + 0) 0
    ∷ get_or s (i + 1) 0
    ∷ get_or s (i + 2) 0
    ∷ get_or s (i + 3) 0
    ∷ get_or s (i + 4) 0
    ∷ get_or s (i + 5) 0
    ∷ get_or s (i + 6) 0
    ∷ get_or s (i + 7) 0
    ∷ []

eighth : (s : List ℕ) (i j : ℕ) → j < 8 → get_or (eight_at s i) j 0 ≡ get_or s (i + j) 0
eighth s i zero h = refl
eighth s i (suc zero) h = refl
eighth s i (suc (suc zero)) h = refl
eighth s i (suc (suc (suc zero))) h = refl
eighth s i (suc (suc (suc (suc zero)))) h = refl
eighth s i (suc (suc (suc (suc (suc zero))))) h = refl
eighth s i (suc (suc (suc (suc (suc (suc zero)))))) h = refl
eighth s i (suc (suc (suc (suc (suc (suc (suc zero))))))) h = refl
eighth s i (suc (suc (suc (suc (suc (suc (suc (suc j)))))))) h = absurd (omega arith)

pub part_eight : (s : List ℕ) (i : ℕ) → i + 8 ≤ length s → eight_at s i ≡ part i 8 s
part_eight s i h =
    let n : length (part i 8 s) ≡ 8 = length_part i 8 s h in
    ext_get_or 0 (eight_at s i) (part i 8 s) (sym n) (λ j l. eighth s i j l ∙ sym (part_at i 8 s j l))

-- ---- the phase

-- only the phase of a position counts
masked-phase : (mask : List ℕ) (p q : ℕ) (s : List ℕ) → p % 4 ≡ q % 4 → masked mask p s ≡ masked mask q s
unfolding masked
masked-phase mask p q [] e = refl
masked-phase mask p q (b ∷ s) e = ap₂ ◌∷◌ (rw e) (masked-phase mask (suc p) (suc q) s (omega arith))

-- what is laid behind the first i bytes of a piece, masked in the phase that it has there
masked-behind : (d k s t : List ℕ) (at p q i : ℕ) → i ≤ length s → q % 4 ≡ (p + i) % 4
    → laid (laid d at (masked k p (take i s))) (at + i) (masked k q t) ≡ laid d at (masked k p (take i s ++ t))
masked-behind d k s t at p q i h e =
    let n : length (take i s) ≡ i = length-take-le i s h in
    let front : length (masked k p (take i s)) ≡ i = length-masked k p (take i s) ∙ n in
    let both : masked k p (take i s ++ t) ≡ masked k p (take i s) ++ masked k (p + i) t = rw n at (masked-append k p (take i s) t) in
    rw (masked-phase k q (p + i) t e, both) (sym (rw front at (laid-append d at (masked k p (take i s)) (masked k (p + i) t))))

-- ---- the key

-- byte m of the key is the mask's byte of position p + m
key_at_lem : (mask : List ℕ) (p m : ℕ) → m < 4 → get_or (key_at mask p) m 0 ≡ get_or mask ((p + m) % 4) 0
key_at_lem mask p zero h = let e : (p + 0) % 4 ≡ p % 4 = omega arith in rw e
key_at_lem mask p (suc zero) h = let e : (p + 1) % 4 ≡ (p % 4 + 1) % 4 = omega arith in rw e
key_at_lem mask p (suc (suc zero)) h = let e : (p + 2) % 4 ≡ (p % 4 + 2) % 4 = omega arith in rw e
key_at_lem mask p (suc (suc (suc zero))) h = let e : (p + 3) % 4 ≡ (p % 4 + 3) % 4 = omega arith in rw e
key_at_lem mask p (suc (suc (suc (suc m)))) h = absurd (omega arith)

-- masking with the turned key is masking from the position on
pub masked-key : (mask : List ℕ) (p m : ℕ) (s : List ℕ) → masked (key_at mask p) m s ≡ masked mask (p + m) s
unfolding masked
masked-key mask p m [] = refl
masked-key mask p m (b ∷ s) =
    let e : (p + m % 4) % 4 ≡ (p + m) % 4 = omega arith in
    ap₂ ◌∷◌ (ap (bit_xor b) (key_at_lem mask p (m % 4) (omega arith) ∙ rw e)) (masked-key mask p (suc m) s ∙ rw add-suc)

-- the second half of the key is the first
key_twice : (mask s : List ℕ) (p j : ℕ) → j < 8 → get_or (xored s (key_at mask p)) j 0 ≡ bit_xor (get_or s j 0) (get_or (key_at mask p) (j % 4) 0)
key_twice mask s p zero h = refl
key_twice mask s p (suc zero) h = refl
key_twice mask s p (suc (suc zero)) h = refl
key_twice mask s p (suc (suc (suc zero))) h = refl
key_twice mask s p (suc (suc (suc (suc zero)))) h = refl
key_twice mask s p (suc (suc (suc (suc (suc zero))))) h = refl
key_twice mask s p (suc (suc (suc (suc (suc (suc zero)))))) h = refl
key_twice mask s p (suc (suc (suc (suc (suc (suc (suc zero))))))) h = refl
key_twice mask s p (suc (suc (suc (suc (suc (suc (suc (suc j)))))))) h = absurd (omega arith)

-- a block XORed with the key is that block masked
pub xored-block : (mask s : List ℕ) (p : ℕ) → length s ≡ 8 → xored s (key_at mask p) ≡ masked (key_at mask p) 0 s
xored-block mask s p h =
    let k : List ℕ = key_at mask p in
    let n : length (masked k 0 s) ≡ 8 = length-masked k 0 s ∙ h in
    ext_get_or 0 (xored s k) (masked k 0 s) (sym n) (λ j l. key_twice mask s p j l ∙ sym (rw zero-add at (masked-at k 0 s j (omega arith))))

-- ---- blocks and rest, one behind the other

-- a turn of the loop: a block more
pub laid-block : (d mask s : List ℕ) (at p i : ℕ) {k x y b c : List ℕ} → k ≡ key_at mask p → i + 8 ≤ length s → i % 8 ≡ 0
    → x ≡ laid d at (masked k 0 (take i s)) → b ≡ part i 8 s → c ≡ xored b k → y ≡ laid x (at + i) c
    → y ≡ laid d at (masked k 0 (take (i + 8) s))
unfolding part
laid-block d mask s at p i {k} {x} {y} {b} {c} e h f q u v r =
    let block : xored (part i 8 s) k ≡ masked k 0 (part i 8 s) = rw e (xored-block mask (part i 8 s) p (length_part i 8 s h)) in
    r ∙ rw (v, u, block, q) (masked-behind d k s (part i 8 s) at 0 0 i (omega arith) (omega arith))
    ∙ ap (λ (l : List ℕ). laid d at (masked k 0 l)) (sym (take-add i 8 s))

-- all blocks, by the mask
pub laid-blocks : (d mask s : List ℕ) (at p : ℕ) {k x : List ℕ} → k ≡ key_at mask p → x ≡ laid d at (masked k 0 s) → x ≡ laid d at (masked mask p s)
laid-blocks d mask s at p {k} {x} e q =
    let m : masked k 0 s ≡ masked mask p s = rw e (masked-key mask p 0 s ∙ rw add-zero) in
    q ∙ rw m

-- and the bytes that are left
pub laid-rest : (d mask s : List ℕ) (at p i : ℕ) {x y : List ℕ} → i ≡ in_blocks (length s) → x ≡ laid d at (masked mask p (take i s))
    → y ≡ laid x (at + i) (masked mask p (take (length s - i) (drop i s))) → y ≡ laid d at (masked mask p s)
laid-rest d mask s at p i {x} {y} e q r =
    let rest : List ℕ = take (length s - i) (drop i s) in
    let all : i + (length s - i) ≡ length s = omega arith in
    let whole : take i s ++ rest ≡ s = sym (take-add i (length s - i) s) ∙ rw all (take_all (length s) s (omega arith)) in
    r ∙ rw q (masked-behind d mask s rest at p p i (omega arith) (omega arith)) ∙ ap (λ (l : List ℕ). laid d at (masked mask p l)) whole

-- the same with the key, and counted by blocks
pub laid-left : (d mask s : List ℕ) (at p : ℕ) {k l x y : List ℕ} {n m : ℕ} → k ≡ key_at mask p → l ≡ key_at mask p → n ≡ m → m ≡ length s / 8
    → x ≡ laid d at (masked k 0 (take (8 * n) s)) → y ≡ laid x (at + 8 * m) (masked l 0 (take (length s - 8 * m) (drop (8 * m) s)))
    → y ≡ laid d at (masked mask p s)
laid-left d mask s at p {k} {l} {x} {y} {n} {m} e f g h q r =
    let i : ℕ = 8 * m in
    let rest : List ℕ = take (length s - i) (drop i s) in
    let turned : masked l 0 rest ≡ masked mask p rest = rw (f, masked-key mask p 0 rest, add-zero) in
    laid-rest d mask s at p i (omega arith) (laid-blocks d mask (take i s) at p e (rw g at q)) (r ∙ rw turned)

-- and as a slice is cut into blocks and rest
pub laid-whole : (d mask s : List ℕ) (at p : ℕ) {k rest x y : List ℕ} {n : ℕ} → k ≡ key_at mask p → n ≡ length s / 8 → rest ≡ drop (length s / 8 * 8) s
    → x ≡ laid d at (masked k 0 (take (8 * n) s)) → y ≡ laid x (at + 8 * n) (masked k 0 rest) → y ≡ laid d at (masked mask p s)
laid-whole d mask s at p {k} {rest} {x} {y} {n} e f g q r =
    let i : ℕ = 8 * n in
    let all : drop i s ≡ take (length s - i) (drop i s) = sym (take_all (length s - i) (drop i s) (simp length-drop (omega arith))) in
    let same : length s / 8 * 8 ≡ i = omega arith in
    let behind : rest ≡ take (length s - i) (drop i s) = rw (g, same, ← all) in
    laid-left d mask s at p e e refl f q (r ∙ rw behind)
