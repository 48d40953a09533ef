-- What is known of an answer when its frame ends: a control payload fits the control store and a reply.
use Rattle.std.specs.Prelude.{◌≤◌}
use Rattle.session.specs.declared.Answer.{Answer}
use Rattle.session.specs.declared.Answer.TheVariants.{More, Text, Binary, Ping, Pong, Close, Closed, Refused}

abbrev pub Shows : Answer → Type 0
Shows More = Unit {0}
Shows (Text n) = Unit {0}
Shows (Binary n) = Unit {0}
Shows (Ping n) = n ≤ 125
Shows (Pong n) = n ≤ 125
Shows (Close n) = n ≤ 125
Shows Closed = Unit {0}
Shows (Refused k) = Unit {0}
