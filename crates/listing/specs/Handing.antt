-- A capture file handed to the steps in any portions, and the text that they hand out.
use Rattle.std.specs.Prelude.{Bool, List, [], ◌∷◌, ◌++◌, ℕ, leb, length, take, drop}
use Rattle.base.specs.Bytes.{part}
use Rattle.base.specs.Tests.{both}
use Rattle.capture.specs.declared.step.Came.{Came}
use Rattle.capture.specs.declared.step.Came.TheVariants.{Lacking, Full, Line, Last}
use Rattle.capture.specs.declared.step.Replay.{Replay}
use Rattle.capture.specs.Steps.{begun, Step, step_call}

-- the replay, its three stores, the bytes of the file that are not used yet, and the text that was handed out
pub record Desk : Type 0 where
  pub replay : Replay
  pub message : List ℕ
  pub control : List ℕ
  pub output : List ℕ
  pub rest : List ℕ
  pub text : List ℕ

-- one step is offered so many of the next bytes, the end flag if it is wished and nothing follows behind them, and a buffer for a line with
-- a place in it
pub record Offer : Type 0 where
  pub count : ℕ
  pub flag : Bool
  pub buffer : List ℕ
  pub place : ℕ

-- the line that a step has laid, as the buffer has it then
abbrev pub laid_text : Came → ℕ → List ℕ → List ℕ
laid_text Lacking at buffer = []
laid_text Full at buffer = []
laid_text (Line n) at buffer = part at n buffer
laid_text (Last n) at buffer = part at n buffer

unfoldable pub step_on : Desk → Offer → Step
step_on d f =
    step_call d.replay (take f.count d.rest) (both f.flag (leb (length d.rest) f.count)) d.message d.control d.output
    f.buffer f.place

unfoldable pub handed : Desk → Offer → Desk
handed d f =
    let x : Step = step_on d f in
    record {
      replay = x.stepped.replay;
      message = x.message;
      control = x.control;
      output = x.output;
      rest = drop x.stepped.used d.rest;
      text = d.text ++ laid_text x.stepped.came f.place x.out;
    }

unfoldable pub handed_all : Desk → List Offer → Desk
handed_all d [] = d
handed_all d (f ∷ fs) = handed_all (handed d f) fs

-- before the first step, with these stores and this file
unfoldable pub opened : List ℕ → List ℕ → List ℕ → List ℕ → Desk
opened m c o file = record { replay = begun; message = m; control = c; output = o; rest = file; text = [] }
