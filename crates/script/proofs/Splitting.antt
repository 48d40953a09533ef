-- Laws of the words of a line: for what goes along its bytes, and for what goes from word to word.
use mathlib.Core.Path.{◌≡◌, refl, sym, ap, ap₂, ◌∙◌}
use mathlib.Core.Bool.{Bool, true, false, cond, not}
use mathlib.Core.Logic.{◌≢◌}
use mathlib.Core.List.{List, [], ◌∷◌}
use Prim.Native.Nat.{ℕ, zero, suc, ◌+◌, ◌-◌, ◌<◌, ◌≤◌, min}
use native.Mathlib.Nat.{min-eq_left, min-eq_right}
use native.Mathlib.Numerals.{add-one}
use native.Mathlib.Omega.{arith}
use borrow.Author.Tests.{eq-eqb, ne_eqb, ltb-true, ltb-false, lt-ltb, le-ltb}
use lib.Dec.{ltb}
use lib.ListN.{length, get_or, take, drop, length-drop, drop_of_length-le}
use lib.Seq.{drop-cons, drop-length, take_all}
use Rattle.std.specs.Prelude.{Option, Some, None, ◌==◌, option_map, unwrap_or}
use Rattle.std.specs.List.{onto_first, position_or_len}
use Rattle.std.specs.Option.{MatchOption}
use Rattle.std.specs.Str.{bytes_eq}
use Rattle.std.proofs.lemmas.List.Splits.{slice_split_first, length-slice_split}
use Rattle.std.proofs.lemmas.List.Sums.{position_or_len_is}
use Rattle.std.proofs.lemmas.Slice.Eq.{bytes_eq-Decides}
use Rattle.base.specs.Tests.{both}
use Rattle.base.proofs.Choice.{by_test}
use Rattle.script.specs.Words.{further, find_in, words_of, place_in}

-- the next byte of a list, and those behind it
pub rest_at : (s : List ℕ) (i : ℕ) → i < length s → drop i s ≡ get_or s i 0 ∷ drop (i + 1) s
rest_at s i h = rw (add-one, drop-cons s i 0)

-- the part of a slice from a place to its end
pub rest_from : (s : List ℕ) (n : ℕ) → take (length s - n) (drop n s) ≡ drop n s
rest_from s n = take_all (length s - n) (drop n s) (simp length-drop (omega arith))

-- ---- the bytes from a place on: the place is within; it is behind the end
pub behind-within : (s : List ℕ) (from : ℕ) (p : ℕ × ℕ) → from ≤ length s
    → (take (length s - from) (drop from s) ≡ drop from s) × (further from p ≡ further (min from (length s)) p)
behind-within s from p h = (rest_from s from, ap (λ (n : ℕ). further n p) (sym (min-eq_left h)))

pub behind-the_end : (s : List ℕ) (from : ℕ) (p : ℕ × ℕ) → length s < from
    → (take (length s - length s) (drop (length s) s) ≡ drop from s) × (further (length s) p ≡ further (min from (length s)) p)
behind-the_end s from p h =
    let most : length s ≤ from = omega arith in (
      rest_from s (length s) ∙ drop-length s ∙ sym (drop_of_length-le s most),
      ap (λ (n : ℕ). further n p) (sym (min-eq_right most)),
    )

-- ---- the place of a byte, or of a word: one is passed; it is found; there is none
abbrev pub first_at : ℕ → List ℕ → ℕ
first_at b s = position_or_len (λ x. x == b) s

placed : (n l : ℕ) → cond (ltb (1 + n) (suc l)) (Some (1 + n)) None ≡ option_map suc (cond (ltb n l) (Some n) None)
placed n l =
    let next : 1 + n ≡ suc n = omega arith in
    by_test (ltb n l) (λ t. rw (t, lt-ltb (1 + n) (suc l) (omega (arith, ltb-true n l t))) (ap Some next))
    (λ t. rw (t, le-ltb (1 + n) (suc l) (omega (arith, ltb-false n l t))))

here : (l : ℕ) → cond {A = Option ℕ} (ltb 0 (suc l)) (Some 0) None ≡ Some 0
here l = rw (lt-ltb 0 (suc l) (omega arith))

some_is : (m n : ℕ) → ◌≡◌ {A = Option ℕ} (Some m) (Some n) → m ≡ n
some_is m n e = ap (λ o. unwrap_or o 0) e

found : (s : List ℕ) (b : ℕ) {n : ℕ} → find_in b s ≡ Some n → (n ≡ first_at b s) × (n < length s)
found s b {n} e = go (ltb (first_at b s) (length s)) refl e
  where
    go : (t : Bool) → ltb (first_at b s) (length s) ≡ t → cond t (Some (first_at b s)) None ≡ Some n → (n ≡ first_at b s) × (n < length s)
    go true f e = let same : first_at b s ≡ n = some_is (first_at b s) n e in (sym same, omega (arith, same, ltb-true (first_at b s) (length s) f))
    go false f e = cc

lacking : (s : List ℕ) (b : ℕ) → find_in b s ≡ None → length s ≤ first_at b s
lacking s b e = go (ltb (first_at b s) (length s)) refl e
  where
    go : (t : Bool) → ltb (first_at b s) (length s) ≡ t → cond t (Some (first_at b s)) None ≡ None → length s ≤ first_at b s
    go true f e = cc
    go false f e = ltb-false (first_at b s) (length s) f

pub find_on : (b : ℕ) (s : List ℕ) (i : ℕ) → i < length s → (get_or s i 0 ≡ b → ⊥) → find_in b (drop i s) ≡ option_map suc (find_in b (drop (i + 1) s))
find_on b s i h ne = rw (rest_at s i h, ne_eqb (get_or s i 0) b ne) (placed (first_at b (drop (i + 1) s)) (length (drop (i + 1) s)))

pub find_here : (b : ℕ) (s : List ℕ) (i : ℕ) → i < length s → get_or s i 0 ≡ b → find_in b (drop i s) ≡ Some 0
find_here b s i h e = rw (rest_at s i h, eq-eqb (get_or s i 0) b e) (here (length (drop (i + 1) s)))

pub find_ended : (b : ℕ) (s : List ℕ) (i : ℕ) → length s ≤ i → find_in b (drop i s) ≡ None
find_ended b s i h = rw (drop_of_length-le s h)

pub find_within : (b : ℕ) (s : List ℕ) {n : ℕ} → find_in b s ≡ Some n → n < length s
find_within b s e = (found s b e).1

-- the first of all places at which the byte stands, or that it stands at none
pub first_of : (s : List ℕ) (b : ℕ) (r : Option ℕ)
    → MatchOption r ((k : ℕ) → 0 ≤ k → k < length s → get_or s k 0 ≢ b) (λ i. (0 ≤ i) × (i < length s) × (get_or s i 0 ≡ b) × ((k : ℕ) → 0 ≤ k → k < i → get_or s k 0 ≢ b))
    → r ≡ find_in b s
first_of s b None h =
    let p : first_at b s ≡ length s =
    position_or_len_is (λ x. x == b) s (length s) 0 (omega arith) (λ k l. ne_eqb (get_or s k 0) b (h k (omega arith) l)) (λ l. absurd (omega arith)) in
    rw (p, le-ltb (length s) (length s) (omega arith))
first_of s b (Some i) h =
    let p : first_at b s ≡ i =
    position_or_len_is (λ x. x == b) s i 0 (omega (arith, h.1)) (λ k l. ne_eqb (get_or s k 0) b (h.3 k (omega arith) l)) (λ l. eq-eqb (get_or s i 0) b h.2) in
    rw (p, lt-ltb i (length s) h.1)

-- ---- how many words: a space is passed; another byte is; the line ends
onto-length : (b : ℕ) (ws : List (List ℕ)) → 0 < length ws → length (onto_first b ws) ≡ length ws
onto-length b [] h = absurd (omega arith)
onto-length b (w ∷ ws) h = refl

some_word : (s : List ℕ) → 0 < length (words_of s)
some_word s = omega (arith, length-slice_split (λ (b : ℕ). b == 32) s)

pub count_space : (s : List ℕ) (i : ℕ) → i < length s → get_or s i 0 ≡ 32 → length (words_of (drop i s)) ≡ suc (length (words_of (drop (i + 1) s)))
count_space s i h e = rw (rest_at s i h, eq-eqb (get_or s i 0) 32 e)

pub count_other : (s : List ℕ) (i : ℕ) → i < length s → (get_or s i 0 ≡ 32 → ⊥) → length (words_of (drop i s)) ≡ length (words_of (drop (i + 1) s))
count_other s i h ne =
    rw (rest_at s i h, ne_eqb (get_or s i 0) 32 ne) (onto-length (get_or s i 0) (words_of (drop (i + 1) s)) (some_word (drop (i + 1) s)))

pub count_ended : (s : List ℕ) (i : ℕ) → length s ≤ i → length (words_of (drop i s)) ≡ 1
count_ended s i h = rw (drop_of_length-le s h)

-- ---- the first word of a line, which ends at its first space, and those behind that space
words_more : (s : List ℕ) {at : ℕ} → find_in 32 s ≡ Some at → words_of s ≡ take at s ∷ words_of (drop (suc at) s)
words_more s {at} e =
    let f = found s 32 e in
    let next : first_at 32 s + 1 ≡ suc at = omega (arith, f.0) in
    let all : words_of s ≡ take (first_at 32 s) s ∷ words_of (drop (first_at 32 s + 1) s) =
    slice_split_first (λ (b : ℕ). b == 32) s 0 (omega (arith, f.0, f.1)) in
    all ∙ ap₂ (λ (n k : ℕ). take n s ∷ words_of (drop k s)) (sym f.0) next

words_last : (s : List ℕ) → find_in 32 s ≡ None → words_of s ≡ s ∷ []
words_last s e = go s (lacking s 32 e)
  where
    more : (b : ℕ) (s : List ℕ) (t : Bool) → (length s ≤ first_at 32 s → words_of s ≡ s ∷ []) → suc (length s) ≤ cond (not t) (1 + first_at 32 s) 0
        → cond t ([] ∷ words_of s) (onto_first b (words_of s)) ≡ (b ∷ s) ∷ []
    more b s true rest h = absurd (omega arith)
    more b s false rest h = ap (λ (ws : List (List ℕ)). onto_first b ws) (rest (omega arith))

    go : (s : List ℕ) → length s ≤ first_at 32 s → words_of s ≡ s ∷ []
    go [] h = refl
    go (b ∷ s) h = more b s (b == 32) (go s) h

-- the same with the rest as a part of the slice; and the first word, however many there are
abbrev pub behind_it : List ℕ → ℕ → List ℕ
behind_it s at = take (length s - (at + 1)) (drop (at + 1) s)

words_at : (s : List ℕ) (at : ℕ) → find_in 32 s ≡ Some at → words_of s ≡ take at s ∷ words_of (behind_it s at)
words_at s at e =
    let rest : drop (suc at) s ≡ behind_it s at = ap (λ (n : ℕ). drop n s) (sym (add-one at)) ∙ sym (rest_from s (at + 1)) in
    words_more s e ∙ ap (λ (l : List ℕ). take at s ∷ words_of l) rest

words_end : (s : List ℕ) (at : ℕ) → at ≡ first_at 32 s → length s ≤ at → words_of s ≡ take at s ∷ []
words_end s at e h =
    words_last s (rw (le-ltb (first_at 32 s) (length s) (omega (arith, e)))) ∙ ap (λ (l : List ℕ). l ∷ []) (sym (take_all at s h))

words_first : (s : List ℕ) (at : ℕ) → at ≡ first_at 32 s → (ws : List (List ℕ)) × (words_of s ≡ take at s ∷ ws)
words_first s at e =
    by_test (ltb at (length s)) (λ t. (words_of (behind_it s at), words_at s at (rw (← e, t))))
    (λ t. ([], words_end s at e (ltb-false at (length s) t)))

-- ---- the word at a place: a word is passed; there is none to pass; it is the first
pub word_on : (s : List ℕ) (at k : ℕ) → find_in 32 s ≡ Some at → 0 < k → get_or (words_of s) k [] ≡ get_or (words_of (behind_it s at)) (k - 1) []
word_on s at zero e p = absurd (omega arith)
word_on s at (suc k) e p =
    let one : k ≡ suc k - 1 = omega arith in
    ap (λ (ws : List (List ℕ)). get_or ws (suc k) []) (words_at s at e) ∙ ap (λ (n : ℕ). get_or (words_of (behind_it s at)) n []) one

pub word_lacks : (s : List ℕ) (k : ℕ) → find_in 32 s ≡ None → 0 < k → get_or (words_of s) k [] ≡ []
word_lacks s zero e p = absurd (omega arith)
word_lacks s (suc k) e p = ap (λ (ws : List (List ℕ)). get_or ws (suc k) []) (words_last s e)

pub word_here : (s : List ℕ) (at k : ℕ) → at ≡ first_at 32 s → k ≤ 0 → get_or (words_of s) k [] ≡ take at s
word_here s at zero e h = ap (λ (ws : List (List ℕ)). get_or ws 0 []) (words_first s at e).1
word_here s at (suc k) e h = absurd (omega arith)

not_both : true ≡ false → ⊥
not_both p = let z : ◌≡◌ {A = ℕ} 0 1 = cc in omega arith

-- ---- whether two words are the same: their lengths differ; a byte is passed; a byte differs; they end
neither : (t : Bool) → both t false ≡ false
neither true = refl
neither false = refl

pub same_length : (s t : List ℕ) → bytes_eq s t ≡ true → length s ≡ length t
same_length s t e = ap length ((bytes_eq-Decides s t).0 e)

pub same_lengths : (s t : List ℕ) → (length s ≡ length t → ⊥) → bytes_eq s t ≡ false
same_lengths s t ne = by_test (bytes_eq s t) (λ u. absurd (ne (same_length s t u))) (λ u. u)

pub same_on : (s t : List ℕ) (i : ℕ) → i < length s → i < length t → get_or s i 0 ≡ get_or t i 0
    → bytes_eq (drop i s) (drop i t) ≡ bytes_eq (drop (i + 1) s) (drop (i + 1) t)
same_on s t i h k e = rw (rest_at s i h, rest_at t i k, eq-eqb (get_or s i 0) (get_or t i 0) e)

pub same_not : (s t : List ℕ) (i : ℕ) → i < length s → i < length t → (get_or s i 0 ≡ get_or t i 0 → ⊥) → bytes_eq (drop i s) (drop i t) ≡ false
same_not s t i h k ne = rw (rest_at s i h, rest_at t i k, ne_eqb (get_or s i 0) (get_or t i 0) ne)

pub same_ended : (s t : List ℕ) (i : ℕ) → length s ≤ i → length t ≤ i → bytes_eq (drop i s) (drop i t) ≡ true
same_ended s t i h k = rw (drop_of_length-le s h, drop_of_length-le t k)

-- ---- the place of a word: it is the first name; it is none of the names; a name is passed
place_first : (w : List ℕ) (ws : List (List ℕ)) (word : List ℕ) → bytes_eq w word ≡ true → place_in (w ∷ ws) word ≡ Some 0
place_first w ws word t = rw t (here (length ws))

place_later : (w : List ℕ) (ws : List (List ℕ)) (word : List ℕ) → bytes_eq w word ≡ false → place_in (w ∷ ws) word ≡ option_map suc (place_in ws word)
place_later w ws word t = rw t (placed (position_or_len (λ name. bytes_eq name word) ws) (length ws))

pub place_here : (s word : List ℕ) (at : ℕ) → at ≡ first_at 32 s → bytes_eq (take at s) word ≡ true → place_in (words_of s) word ≡ Some 0
place_here s word at e t =
    let f = words_first s at e in
    ap (λ (ws : List (List ℕ)). place_in ws word) f.1 ∙ place_first (take at s) f.0 word t

pub place_none : (s word : List ℕ) → find_in 32 s ≡ None → bytes_eq s word ≡ false → place_in (words_of s) word ≡ None
place_none s word e t = ap (λ (ws : List (List ℕ)). place_in ws word) (words_last s e) ∙ place_later s [] word t

pub place_on : (s word : List ℕ) (at : ℕ) → find_in 32 s ≡ Some at → bytes_eq (take at s) word ≡ false
    → place_in (words_of s) word ≡ option_map suc (place_in (words_of (behind_it s at)) word)
place_on s word at e t =
    ap (λ (ws : List (List ℕ)). place_in ws word) (words_at s at e) ∙ place_later (take at s) (words_of (behind_it s at)) word t
