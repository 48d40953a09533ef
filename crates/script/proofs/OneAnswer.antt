-- Any two results that meet a promise are equal, for each public function.
use mathlib.Core.List.{[], ◌∷◌}
use Prim.Native.Nat.{ℕ}
use mathlib.Core.Path.{sym, ap, ◌∙◌}
use Rattle.base.proofs.Promise.{OneAnswer, OneStore, OnePart}
use Rattle.script.proofs.answers.Text.hex.Kinds as answers-hex
use Rattle.script.proofs.answers.Text.hex.Reads as answers-hex-reads
use Rattle.script.proofs.answers.Text.number.Kinds as number
use Rattle.script.proofs.answers.Text.number.Reads as number-reads
use Rattle.script.proofs.answers.Text.put.Kinds as put
use Rattle.script.proofs.answers.Text.put.Reads as put_reads
use Rattle.script.proofs.values.decimal.Kinds as decimal
use Rattle.script.proofs.values.decimal.Reads as decimal-reads
use Rattle.script.proofs.values.hex.Kinds as values-hex
use Rattle.script.proofs.values.hex.Reads as values-hex-reads
use Rattle.script.proofs.words.behind.Kinds as behind
use Rattle.script.proofs.words.behind.Reads as behind-reads
use Rattle.script.proofs.words.byte.Kinds as byte
use Rattle.script.proofs.words.byte.Reads as byte-reads
use Rattle.script.proofs.words.count.Kinds as count
use Rattle.script.proofs.words.count.Reads as count-reads
use Rattle.script.proofs.words.find.Kinds as find
use Rattle.script.proofs.words.find.Reads as find-reads
use Rattle.script.proofs.words.place.Kinds as place
use Rattle.script.proofs.words.place.Reads as place-reads
use Rattle.script.proofs.words.word.Kinds as word
use Rattle.script.proofs.words.word.Reads as word-reads

pub words_find_one : OneAnswer 1 find.ps find.r find-reads.Post
words_find_one κs a z z' e e' p q = p ∙ sym q

pub words_byte_one : OneAnswer 1 byte.ps byte.r byte-reads.Post
words_byte_one κs a z z' e e' p q = p ∙ sym q

pub words_behind_one : OnePart 1 behind.ps behind.r (λ κs z. (z.now, z.ref_ptr)) behind-reads.Post
words_behind_one κs a z z' e e' p q = λ i. ((p.0 ∙ sym q.0) i, (p.1 ∙ sym q.1) i)

pub words_count_one : OneAnswer 1 count.ps count.r count-reads.Post
words_count_one κs a z z' e e' p q = p ∙ sym q

-- its bytes; the promise leaves the place open
pub words_word_one : OnePart 1 word.ps word.r (λ κs z. (z.now, (0, 0))) word-reads.Post
words_word_one κs a z z' e e' p q = λ i. ((p ∙ sym q) i, (0, 0))

pub words_place_one : OneAnswer 2 place.ps place.r place-reads.Post
words_place_one κs a z z' e e' p q = p ∙ sym q

pub values_decimal_one : OneAnswer 1 decimal.ps decimal.r decimal-reads.Post
values_decimal_one κs a z z' e e' p q = p ∙ sym q

pub values_hex_one : OneAnswer 2 values-hex.ps values-hex.r values-hex-reads.Post
values_hex_one κs a z z' e e' p q = p.0 ∙ sym q.0

-- the store, its second argument
pub values_hex_one_store : OneStore 2 values-hex.ps values-hex.r (λ κs e. e.1.0.now) values-hex-reads.Post
values_hex_one_store κs a z z' e e' p q = p.1 ∙ sym q.1

-- the place behind the text
pub answers_put_one : OneStore 3 put.ps put.r (λ κs e. e.0.now.at ∷ []) put_reads.Post
answers_put_one κs a z z' e e' p q = ap (λ (n : ℕ). n ∷ []) (p.1.0 ∙ sym q.1.0)

pub answers_put_one_store : OneStore 3 put.ps put.r (λ κs e. e.0.now.store.now) put_reads.Post
answers_put_one_store κs a z z' e e' p q = p.1.1 ∙ sym q.1.1

-- the place behind the text
pub answers_number_one : OneStore 2 number.ps number.r (λ κs e. e.0.now.at ∷ []) number-reads.Post
answers_number_one κs a z z' e e' p q = ap (λ (n : ℕ). n ∷ []) (p.1.0 ∙ sym q.1.0)

pub answers_number_one_store : OneStore 2 number.ps number.r (λ κs e. e.0.now.store.now) number-reads.Post
answers_number_one_store κs a z z' e e' p q = p.1.1 ∙ sym q.1.1

-- the place behind the text
pub answers_hex_one : OneStore 3 answers-hex.ps answers-hex.r (λ κs e. e.0.now.at ∷ []) answers-hex-reads.Post
answers_hex_one κs a z z' e e' p q = ap (λ (n : ℕ). n ∷ []) (p.1.0 ∙ sym q.1.0)

pub answers_hex_one_store : OneStore 3 answers-hex.ps answers-hex.r (λ κs e. e.0.now.store.now) answers-hex-reads.Post
answers_hex_one_store κs a z z' e e' p q = p.1.1 ∙ sym q.1.1
