-- `capture::step::put_answer` meets its contract, answer by answer.
use Rattle.lines.proofs.Laws.{wrote_none}
use Rattle.capture.proofs.step.put_answer.Goals as goal

pub returns-in-More : goal.returns-in-More
returns-in-More c = rw c.in-More.is (wrote_none _ _)

pub returns-in-Text : goal.returns-in-Text
returns-in-Text c =
    rw c.in-Text.is c.put_counted.ensures

pub returns-in-Binary : goal.returns-in-Binary
returns-in-Binary c =
    rw c.in-Binary.is c.put_counted-in-Binary.ensures

pub returns-in-Ping : goal.returns-in-Ping
returns-in-Ping c =
    rw c.in-Ping.is c.put_counted-in-Ping.ensures

pub returns-in-Pong : goal.returns-in-Pong
returns-in-Pong c =
    rw c.in-Pong.is c.put_counted-in-Pong.ensures

pub returns-in-Close : goal.returns-in-Close
returns-in-Close c =
    rw c.in-Close.is c.put_counted-in-Close.ensures

pub returns-in-Closed : goal.returns-in-Closed
returns-in-Closed c =
    rw c.in-Closed.is c.put_word.ensures

pub returns-in-Refused : goal.returns-in-Refused
returns-in-Refused c =
    rw c.in-Refused.is c.put_refused.ensures
