-- What demand 3 supposes, each part beside its words, and what its last sentence speaks of.
use Rattle.std.specs.Prelude.{◌≡◌, Bool, true, false, not, List, [], ◌∷◌, ◌++◌, ◌⊎◌, ℕ, ◌≤◌, length}
use Rattle.base.specs.Tests.{both, either}
use Rattle.session.specs.Calls.{Sending, waits_call}
use Rattle.session.specs.declared.Answer.{Answer}
use Rattle.session.specs.declared.Answer.TheVariants.{Refused}
use Rattle.session.specs.Range.{limits_hold}
use Rattle.session.specs.Replies.{fits, is_close_reply, reply_frame}
use Rattle.session.specs.Session.{is_server, is_terminated}
use Rattle.steady.specs.Taking.{is_done}
use Rattle.link.specs.System.{Item, End, Side, System, Keys, four, Lends, Act, send_text, send_binary, send_ping, send_pong, send_close, takes, reads, cuts, text_to, binary_to, close_to, offered, ended, swap, Turn, on_left, on_right, next}

-- ---- the outset
pub record Fit (g : Lends) : Type 0 where
  -- the session is made: "Frame limit 0 to 16,777,216; message limit 0 to 67,108,864"
  pub limits : limits_hold g.frame g.message ≡ true
  -- "Both frame limits are at least 125"
  pub wide : 125 ≤ g.frame
  -- "each caller lends the same stores, large enough": its own least sizes
  pub message_room : g.message ≤ length g.message_store
  pub control_room : 125 ≤ length g.control_store
  pub output_room : 131 ≤ length g.output_store

-- ---- each act of the left side. Some of the demand's words need no premise, since an act has nothing else to use: the stores are "the same"
-- and "unaltered", the session is "the latest", a read is offered "the next bytes of its pipe, and the end flag only where the pipe ends behind
-- them", and "an end that is Terminated ends its pipe behind its last byte" (System.antt)
-- "each message fits the other's limits": of the messages that were accepted
abbrev pub FitsOther : End → Sending → List ℕ → Type 0
FitsOther other u p =
    is_done u.handed.sent ≡ true → (length p ≤ other.session.settings.frame) × (length p ≤ other.session.settings.message)

-- "close is not called while a reply waits", where it is accepted
abbrev pub NoneWaits : End → Sending → Type 0
NoneWaits e u = is_done u.handed.sent ≡ true → waits_call e.session ≡ false

abbrev pub Allowed : System → Act → Type 0
Allowed s (send_text p k) = FitsOther s.right.end (text_to s.left.end p k) p
Allowed s (send_binary p k) = FitsOther s.right.end (binary_to s.left.end p k) p
Allowed s (send_ping p k) = Unit {0}
Allowed s (send_pong p k) = Unit {0}
Allowed s (send_close code reason k) = NoneWaits s.left.end (close_to s.left.end code reason k)
Allowed s (takes n) = Unit {0}
Allowed s (reads n flag k) = Unit {0}
Allowed s (cuts n) = Unit {0}

abbrev pub AllowedTurn : System → Turn → Type 0
AllowedTurn s (on_left a) = Allowed s a
AllowedTurn s (on_right a) = Allowed (swap s) a

unfoldable pub AllAllowed : System → List Turn → Type 0
AllAllowed s [] = Unit {0}
AllAllowed s (t ∷ ts) = AllowedTurn s t × AllAllowed (next s t) ts

-- ---- "the first ones the other accepted for sending, in order"
pub record FirstOf (handed accepted : List Item) : Type 0 where
  pub others : List Item
  pub joined : handed ++ others ≡ accepted

-- ---- how a read can be refused: by no number but 2, 16 and 19
-- "a server holding a waiting close" that does not fit (document 01, "One read call", 2)
abbrev pub close_stuck : End → Keys → Bool
close_stuck e k =
    both (is_server e.session.settings)
    (both (is_close_reply e.session.reply.waiting) (not (fits e.session.held e.output (reply_frame e.session (four k.first)))))

-- of a read call of x, offered something of y's pipe
pub record Refusals (x y : Side) (k : Keys) (answer : Answer) : Type 0 where
  pub only : (n : ℕ) → answer ≡ Refused n → (n ≡ 2) ⊎ ((n ≡ 16) ⊎ (n ≡ 19))
  -- 2 exactly in a Terminated end
  pub by_two : answer ≡ Refused 2 → is_terminated x.end.session.state ≡ true
  pub two : is_terminated x.end.session.state ≡ true → answer ≡ Refused 2
  -- 19 exactly where a server's waiting close does not fit
  pub by_nineteen : answer ≡ Refused 19 → close_stuck x.end k ≡ true
  pub nineteen : close_stuck x.end k ≡ true → answer ≡ Refused 19
  -- 16 only where some pipe was cut
  pub by_sixteen : answer ≡ Refused 16 → either x.pipe.cut y.pipe.cut ≡ true

-- ---- "no further read .., offered all that its pipe still holds and the pipe's end once it is there, would change anything": the session is
-- the same afterwards, and no byte is taken
pub record Still (x y : Side) : Type 0 where
  pub session : (k : Keys) → (offered x.end y.pipe.bytes (ended y) k).turn.session ≡ x.end.session
  pub taken : (k : Keys) → (offered x.end y.pipe.bytes (ended y) k).turn.taken ≡ 0

pub record AtRest (s : System) : Type 0 where
  -- "Where one end's close was accepted"
  pub asked : either s.left.answers.asked s.right.answers.asked ≡ true
  -- "nothing was cut"
  pub whole_left : s.left.pipe.cut ≡ false
  pub whole_right : s.right.pipe.cut ≡ false
  -- "all output was taken and delivered": none is held, and all that was taken is on the pipe or behind it
  pub all_left : s.left.end.session.held ≡ 0
  pub all_right : s.right.end.session.held ≡ 0
  -- "no further read of either end .. would change anything"
  pub still_left : Still s.left s.right
  pub still_right : Still s.right s.left
