-- `writer::send::close` meets its contract, for an empty close and for one with a code.
use mathlib.Core.Path.{◌∙◌}
use Rattle.writer.proofs.Calls.{close_empty, close_code}
use Rattle.writer.proofs.send.close.Goals as goal

pub returns-in-None : goal.returns-in-None
returns-in-None c = rw c.in-None.is (c.send_frame-sent.ensures ∙ close_empty _ _ _ _)

pub returns-in-Some : goal.returns-in-Some
returns-in-Some c =
    rw c.in-Some.is (c.send_frame-sent-in-Some.ensures ∙ close_code _ _ _ _ _ c.code_bytes-lead.ensures c.is_bad_reason-bad.ensures)
