-- How long the lines are, and places that add up.
use mathlib.Core.Path.{◌≡◌, ap}
use mathlib.Core.List.{List, [], ◌∷◌, ◌++◌}
use Prim.Native.Nat.{ℕ, ◌+◌, ◌<◌, ◌≤◌}
use native.Mathlib.Omega.{arith}
use lib.Dec.{eqb, leb}
use lib.ListN.{length, length-append}
use borrow.Author.Tests.{lt-leb, leb-true, leb-false}
use Rattle.base.specs.Bytes.{part}
use Rattle.base.specs.Stores.{laid}
use Rattle.base.specs.Table.{pick}
use Rattle.base.proofs.Choice.{by_test}
use Rattle.base.proofs.Stores.{laid-part}
use Rattle.lines.specs.Text.{decimal, shown_hex, counted, at_place}
use Rattle.lines.proofs.Laws.{length-decimal, length-shown}
use Rattle.session.specs.declared.Answer.{Answer}
use Rattle.session.specs.declared.Answer.TheVariants.{More, Text, Binary, Ping, Pong, Close, Closed, Refused}
use Rattle.capture.specs.Listing.{put_word, text_word, binary_word, ping_word, pong_word, close_word, put_text, refused_word, refused_text, bad_words, bad_text, answer_text}
use Rattle.capture.specs.Places.{onward}

-- ---- places
pub onward-twice : (p a b : ℕ) → onward (onward p a) b ≡ onward p (a + b)
unfolding onward
onward-twice p a b =
    let most : ℕ = 18446744073709551615 in
    by_test (leb (p + a) most)
    (λ t. let e : p + a + b ≡ p + (a + b) = omega arith in rw t (ap (λ (n : ℕ). pick (leb n most) n most) e))
    (λ t.
    let h : most < p + a = leb-false (p + a) most t in
    rw (t, lt-leb (p + (a + b)) most (omega arith)) (stays b))
  where
    stays : (b : ℕ) → pick (leb (18446744073709551615 + b) 18446744073709551615) (18446744073709551615 + b) 18446744073709551615 ≡ 18446744073709551615
    stays b =
        by_test (leb (18446744073709551615 + b) 18446744073709551615)
        (λ t. rw t (let h = leb-true (18446744073709551615 + b) 18446744073709551615 t in omega arith)) (λ t. rw t)

-- ---- lines
length-counted : (word bytes : List ℕ) → length (counted word bytes) ≤ length word + (23 + (length bytes + length bytes))
unfolding counted
length-counted word bytes =
    let tail : List ℕ = shown_hex bytes ++ (10 ∷ []) in
    omega (
      arith,
      length-append word ((32 ∷ []) ++ (decimal (length bytes) ++ tail)),
      length-append (decimal (length bytes)) tail,
      length-append (shown_hex bytes) (10 ∷ []),
      length-decimal (length bytes),
      length-shown bytes,
    )

length-place : (words : List ℕ) (place : ℕ) → length (at_place words place) ≤ length words + 25
unfolding at_place
length-place words place =
    omega (
      arith,
      length-append words ((32 ∷ 97 ∷ 116 ∷ 32 ∷ []) ++ (decimal place ++ (10 ∷ []))),
      length-append (decimal place) (10 ∷ []),
      length-decimal place,
    )

-- room is asked for 65,600 bytes
abbrev Short : List ℕ → Type 0
Short text = length text ≤ 65600

pub short-bad : (place : ℕ) → Short (bad_text place)
unfolding bad_text
short-bad place = omega (arith, length-place bad_words place)

short-refused : (n place : ℕ) → Short (refused_text n place)
unfolding refused_text
short-refused n place =
    omega (
      arith,
      length-append refused_word (decimal n ++ at_place [] place),
      length-append (decimal n) (at_place [] place),
      length-decimal n,
      length-place [] place,
    )

pub short-put : (bytes : List ℕ) → length bytes ≤ 32768 → Short (put_text bytes)
unfolding put_text
short-put bytes h = by_test (eqb (length bytes) 0) (λ t. rw t (omega arith)) (λ t. rw t (omega (arith, length-counted put_word bytes)))

pub short-answer : (a : Answer) (bytes : List ℕ) (place : ℕ) → length bytes ≤ 32768 → Short (answer_text a bytes place)
short-answer More bytes place h = omega arith
short-answer (Text n) bytes place h = omega (arith, length-counted text_word bytes)
short-answer (Binary n) bytes place h = omega (arith, length-counted binary_word bytes)
short-answer (Ping n) bytes place h = omega (arith, length-counted ping_word bytes)
short-answer (Pong n) bytes place h = omega (arith, length-counted pong_word bytes)
short-answer (Close n) bytes place h = omega (arith, length-counted close_word bytes)
short-answer Closed bytes place h = omega arith
short-answer (Refused k) bytes place h = short-refused k place

-- what a step lays is what it hands out
pub laid_said : (buffer : List ℕ) (at : ℕ) (text : List ℕ) → at + 65600 ≤ length buffer → Short text → part at (length text) (laid buffer at text) ≡ text
laid_said buffer at text h k = laid-part buffer at text (omega arith)
