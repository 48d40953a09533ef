-- A part of some lent parts, or another part where there are fewer.
use mathlib.Core.Path.{◌≡◌, refl, ap, ◌∙◌}
use Rattle.std.specs.Prelude.{List, ℕ, Option, Some, None, unwrap_or}
use Rattle.std.specs.List.{slice_get}
use Rattle.std.specs.Option.{option_map}
use Rattle.std.proofs.Common.{get_or}
use Rattle.std.proofs.lemmas.Option.{unwrap_or-slice_get}
use denote.Ref.{Bor}

now_of : (o : Option (Bor (List ℕ))) (d : Bor (List ℕ)) → (unwrap_or o d).now ≡ unwrap_or (option_map (λ x. x.now) o) d.now
now_of None d = refl
now_of (Some x) d = refl

pub bytes_of_lent : (o : Option (Bor (List ℕ))) (d : Bor (List ℕ)) (parts : List (List ℕ)) (k : ℕ) → option_map (λ x. x.now) o ≡ slice_get parts k
    → (unwrap_or o d).now ≡ get_or parts k d.now
bytes_of_lent o d parts k h = now_of o d ∙ ap (λ p. unwrap_or p d.now) h ∙ unwrap_or-slice_get parts k d.now
