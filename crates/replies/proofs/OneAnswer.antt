-- Any two results that meet a promise are equal, for each public function.
use mathlib.Core.Path.{sym, ap, ◌∙◌}
use Rattle.base.proofs.Promise.{OneAnswer, OneLent, OneStore}
use Rattle.session.specs.Replies.{Out as Left}
use Rattle.replies.proofs.frames.fits_in.Kinds as fits_in
use Rattle.replies.proofs.frames.fits_in.Reads as fits-in-reads
use Rattle.replies.proofs.frames.put_frame.Kinds as put-frame
use Rattle.replies.proofs.frames.put_frame.Reads as put-frame-reads
use Rattle.replies.proofs.reply.is_close.Kinds as is-close
use Rattle.replies.proofs.reply.is_close.Reads as is-close-reads
use Rattle.replies.proofs.reply.make_reply.Kinds as make-reply
use Rattle.replies.proofs.reply.make_reply.Reads as make-reply-reads
use Rattle.replies.proofs.reply.move_reply.Kinds as move-reply
use Rattle.replies.proofs.reply.move_reply.Reads as move-reply-reads
use Rattle.replies.proofs.reply.reply_fits.Kinds as reply_fits
use Rattle.replies.proofs.reply.reply_fits.Reads as reply-fits-reads
use Rattle.replies.proofs.reply.with_pong.Kinds as with-pong
use Rattle.replies.proofs.reply.with_pong.Reads as with-pong-reads

-- ---- a frame: the place behind it, and the output store
pub fits-in_one : OneAnswer 0 fits_in.ps fits_in.r fits-in-reads.Post
fits-in_one κs a z z' e e' p q = p ∙ sym q

pub put_frame_one : OneAnswer 3 put-frame.ps put-frame.r put-frame-reads.Post
put_frame_one κs a z z' e e' p q = p.0 ∙ sym q.0

pub put_frame_one_store : OneStore 3 put-frame.ps put-frame.r (λ κs e. e.1.1.1.1.1.0.now) put-frame-reads.Post
put_frame_one_store κs a z z' e e' p q = p.1 ∙ sym q.1

-- ---- the waiting reply
pub make_reply_one : OneLent 2 make-reply.ps make-reply.r (λ κs e. e.0.now) make-reply-reads.Post
make_reply_one κs a z z' e e' p q = p ∙ sym q

pub is_close_one : OneAnswer 0 is-close.ps is-close.r is-close-reads.Post
is_close_one κs a z z' e e' p q = p ∙ sym q

pub with_pong_one : OneLent 2 with-pong.ps with-pong.r (λ κs e. e.0.now) with-pong-reads.Post
with_pong_one κs a z z' e e' p q = p ∙ sym q

pub reply_fits_one : OneAnswer 1 reply_fits.ps reply_fits.r reply-fits-reads.Post
reply_fits_one κs a z z' e e' p q = p ∙ sym q

-- the session that is left, and the output store
pub move_reply_one : OneLent 2 move-reply.ps move-reply.r (λ κs e. e.0.now) move-reply-reads.Post
move_reply_one κs a z z' e e' p q = ap (λ (x : Left). x.session) (p.0 ∙ sym q.0)

pub move_reply_one_store : OneStore 2 move-reply.ps move-reply.r (λ κs e. e.1.1.0.now) move-reply-reads.Post
move_reply_one_store κs a z z' e e' p q = ap (λ (x : Left). x.output) (p.0 ∙ sym q.0)
