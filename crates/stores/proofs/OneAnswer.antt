-- Any two results that meet a promise are equal, for each public function.
use mathlib.Core.Path.{sym, ◌∙◌}
use Rattle.base.proofs.Promise.{OneStore}
use Rattle.stores.proofs.copy.Kinds as copy
use Rattle.stores.proofs.copy.Reads as copy-reads
use Rattle.stores.proofs.put.Kinds as put
use Rattle.stores.proofs.put.Reads as put_reads
use Rattle.stores.proofs.to_front.Kinds as to_front
use Rattle.stores.proofs.to_front.Reads as to-front-reads

-- the store, its second argument
pub copy_one : OneStore 2 copy.ps copy.r (λ κs e. e.1.0.now) copy-reads.Post
copy_one κs a z z' e e' p q = p ∙ sym q

-- the store, its fourth argument
pub put_one : OneStore 2 put.ps put.r (λ κs e. e.1.1.1.0.now) put_reads.Post
put_one κs a z z' e e' p q = p ∙ sym q

-- the store, its first argument
pub to_front_one : OneStore 1 to_front.ps to_front.r (λ κs e. e.0.now) to-front-reads.Post
to_front_one κs a z z' e e' p q = p ∙ sym q
