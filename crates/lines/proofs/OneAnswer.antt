-- Any two results that meet a promise are equal, for each public function.
use mathlib.Core.Path.{sym, ◌∙◌}
use Rattle.base.proofs.Promise.{OneAnswer, OneStore}
use Rattle.lines.proofs.line.put_at_place.Kinds as put-at-place
use Rattle.lines.proofs.line.put_at_place.Reads as put-at-place-reads
use Rattle.lines.proofs.line.put_counted.Kinds as put-counted
use Rattle.lines.proofs.line.put_counted.Reads as put-counted-reads
use Rattle.lines.proofs.line.put_word.Kinds as put_word
use Rattle.lines.proofs.line.put_word.Reads as put-word-reads
use Rattle.lines.proofs.number.put_decimal.Kinds as put-decimal
use Rattle.lines.proofs.number.put_decimal.Reads as put-decimal-reads
use Rattle.lines.proofs.number.put_hex.Kinds as put-hex
use Rattle.lines.proofs.number.put_hex.Reads as put-hex-reads

pub put_at_place_one : OneAnswer 2 put-at-place.ps put-at-place.r put-at-place-reads.Post
put_at_place_one κs a z z' e e' p q = p.0 ∙ sym q.0

-- the store, its third argument
pub put_at_place_one_store : OneStore 2 put-at-place.ps put-at-place.r (λ κs e. e.1.1.0.now) put-at-place-reads.Post
put_at_place_one_store κs a z z' e e' p q = p.1 ∙ sym q.1

pub put_counted_one : OneAnswer 3 put-counted.ps put-counted.r put-counted-reads.Post
put_counted_one κs a z z' e e' p q = p.0 ∙ sym q.0

-- the store, its third argument
pub put_counted_one_store : OneStore 3 put-counted.ps put-counted.r (λ κs e. e.1.1.0.now) put-counted-reads.Post
put_counted_one_store κs a z z' e e' p q = p.1 ∙ sym q.1

pub put_word_one : OneAnswer 2 put_word.ps put_word.r put-word-reads.Post
put_word_one κs a z z' e e' p q = p.0 ∙ sym q.0

-- the store, its second argument
pub put_word_one_store : OneStore 2 put_word.ps put_word.r (λ κs e. e.1.0.now) put-word-reads.Post
put_word_one_store κs a z z' e e' p q = p.1 ∙ sym q.1

pub put_decimal_one : OneAnswer 1 put-decimal.ps put-decimal.r put-decimal-reads.Post
put_decimal_one κs a z z' e e' p q = p.0 ∙ sym q.0

-- the store, its second argument
pub put_decimal_one_store : OneStore 1 put-decimal.ps put-decimal.r (λ κs e. e.1.0.now) put-decimal-reads.Post
put_decimal_one_store κs a z z' e e' p q = p.1 ∙ sym q.1

pub put_hex_one : OneAnswer 2 put-hex.ps put-hex.r put-hex-reads.Post
put_hex_one κs a z z' e e' p q = p.0 ∙ sym q.0

-- the store, its second argument
pub put_hex_one_store : OneStore 2 put-hex.ps put-hex.r (λ κs e. e.1.0.now) put-hex-reads.Post
put_hex_one_store κs a z z' e e' p q = p.1 ∙ sym q.1
