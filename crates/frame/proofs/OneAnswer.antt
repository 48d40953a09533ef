-- Any two results that meet the promise are equal, for each public function.
use mathlib.Core.Path.{sym, ◌∙◌}
use Rattle.base.proofs.Promise.{OneAnswer, OneStore}
use Rattle.frame.proofs.close.code_bytes.Kinds as code-bytes
use Rattle.frame.proofs.close.code_bytes.Reads as code-bytes-reads
use Rattle.frame.proofs.close.into_close.Kinds as into-close
use Rattle.frame.proofs.close.into_close.Reads as into-close-reads
use Rattle.frame.proofs.close.write_violation.Kinds as write-violation
use Rattle.frame.proofs.close.write_violation.Reads as write-violation-reads
use Rattle.frame.proofs.header.format.Kinds as format
use Rattle.frame.proofs.header.format.Reads as format-reads
use Rattle.frame.proofs.header.header_size.Kinds as header-size
use Rattle.frame.proofs.header.header_size.Reads as header-size-reads
use Rattle.frame.proofs.header.mask_of.Kinds as mask-of
use Rattle.frame.proofs.header.mask_of.Reads as mask-of-reads
use Rattle.frame.proofs.header.missing.Kinds as missing
use Rattle.frame.proofs.header.missing.Reads as missing-reads
use Rattle.frame.proofs.header.parse.Kinds as parse
use Rattle.frame.proofs.header.parse.Reads as parse-reads
use Rattle.frame.proofs.header.size_by.Kinds as size-by
use Rattle.frame.proofs.header.size_by.Reads as size-by-reads

pub parse_one : OneAnswer 1 parse.ps parse.r parse-reads.Post
parse_one κs a z z' e e' p q = p ∙ sym q

pub missing_one : OneAnswer 1 missing.ps missing.r missing-reads.Post
missing_one κs a z z' e e' p q = p ∙ sym q

pub mask_of_one : OneAnswer 1 mask-of.ps mask-of.r mask-of-reads.Post
mask_of_one κs a z z' e e' p q = p ∙ sym q

pub header-size_one : OneAnswer 0 header-size.ps header-size.r header-size-reads.Post
header-size_one κs a z z' e e' p q = p ∙ sym q

pub size_by_one : OneAnswer 0 size-by.ps size-by.r size-by-reads.Post
size_by_one κs a z z' e e' p q = p.0 ∙ sym q.0

pub format_one : OneAnswer 1 format.ps format.r format-reads.Post
format_one κs a z z' e e' p q = p.0 ∙ sym q.0

-- the store, its third argument
pub format_one_store : OneStore 1 format.ps format.r (λ κs e. e.1.1.0.now) format-reads.Post
format_one_store κs a z z' e e' p q = p.1 ∙ sym q.1

pub into_close_one : OneAnswer 1 into-close.ps into-close.r into-close-reads.Post
into_close_one κs a z z' e e' p q = p ∙ sym q

pub code_bytes_one : OneAnswer 0 code-bytes.ps code-bytes.r code-bytes-reads.Post
code_bytes_one κs a z z' e e' p q = p ∙ sym q

-- the store, its only argument
pub write_violation_one : OneStore 1 write-violation.ps write-violation.r (λ κs e. e.0.now) write-violation-reads.Post
write_violation_one κs a z z' e e' p q = p ∙ sym q
