-- `input::Window::shown` meets its contract.
use mathlib.Core.Path.{◌≡◌, refl, ap, ◌∙◌}
use borrow.Author.Tests.{le-leb, lt-leb}
use Rattle.std.proofs.Common.{List, ℕ, length, [], inl, inr}
use Rattle.std.specs.Prelude.{Option, Some, None, unwrap_or}
use Rattle.std.specs.List.{PartBy}
use denote.Ref.{Bor}
use lib.Dec.{leb}
use Rattle.base.specs.Bytes.{part}
use Rattle.base.proofs.Choice.{by_test}
use Rattle.input.specs.declared.Window.{Window}
use Rattle.input.specs.Window.{shown_of}
use Rattle.input.proofs.Window.shown.Goals as goal

-- what is got of the bytes is shown, and no byte where nothing is
got : (bytes : List ℕ) (w : Window) (r : Option (Bor (List ℕ))) (d : Bor (List ℕ)) → d.now ≡ [] → PartBy (λ (x : Bor (List ℕ)). x.now) bytes w.from w.to r
    → (unwrap_or r d).now ≡ shown_of bytes w
unfolding part
got bytes w None d e (inl h, more) = rw (lt-leb w.from w.to h) e
got bytes w None d e (inr h, more) = by_test (leb w.from w.to) (λ t. rw (t, lt-leb w.to (length bytes) h) e) (λ t. rw t e)
got bytes w (Some x) d e (h, more) = rw (le-leb w.from w.to h.0, le-leb w.to (length bytes) h.1) h.2

pub returns : goal.returns
returns c = ap (λ (r : Bor (List ℕ)). r.now) c.unwrap_or.ensures ∙ got _ c.args.self c.get.result _ refl c.get.ensures.lookup
