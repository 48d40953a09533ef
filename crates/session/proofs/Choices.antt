-- Laws of tests joined by `both` and `either`.
use mathlib.Core.Path.{◌≡◌, refl}
use mathlib.Core.Bool.{Bool, true, false, not}
use mathlib.Core.Logic.{◌⊎◌, inl, inr}
use Rattle.base.specs.Table.{pick}
use Rattle.base.specs.Tests.{both, either}

-- the second decides: the code may ask it first
pub both-none : (a : Bool) → both a false ≡ false
both-none true = refl
both-none false = refl

pub both-all : (a : Bool) → both a true ≡ a
both-all true = refl
both-all false = refl

pub either-all : (a : Bool) → either a true ≡ true
either-all true = refl
either-all false = refl

pub both-assoc : (a b c : Bool) → both a (both b c) ≡ both (both a b) c
both-assoc true b c = refl
both-assoc false b c = refl

-- what a joined test that holds says
pub both-parts : (a b : Bool) → both a b ≡ true → (a ≡ true) × (b ≡ true)
both-parts true b e = (refl, e)
both-parts false b e = (e, cc)

pub either-parts : (a b : Bool) → either a b ≡ true → (a ≡ true) ⊎ (b ≡ true)
either-parts true b e = inl refl
either-parts false b e = inr e

-- a test that is asked only where another holds
pub asked : (a b : Bool) → (a ≡ true → b ≡ true) → either (not a) b ≡ true
asked true b f = f refl
asked false b f = refl

pub chosen : (a b c : Bool) → (a ≡ true → b ≡ true) → (a ≡ false → c ≡ true) → pick a b c ≡ true
chosen true b c f h = f refl
chosen false b c f h = h refl
