-- Laws of the part that an event shows.
use mathlib.Core.Path.{◌≡◌}
use mathlib.Core.List.{List, []}
use Prim.Native.Nat.{ℕ, ◌≤◌, ◌<◌}
use borrow.Author.Tests.{lt-ltb, le-ltb}
use lib.Dec.{eqb}
use lib.ListN.{length, take}
use Rattle.base.specs.Table.{pick}
use Rattle.session.specs.Answers.{beyond}

module _ (store : List ℕ) (n : ℕ) where
  pub beyond-more : length store < n → 1 ≡ beyond store n
  unfolding beyond
  beyond-more h = rw (lt-ltb (length store) n h)

  pub beyond-none : n ≤ length store → 0 ≡ beyond store n
  unfolding beyond
  beyond-none h = rw (le-ltb (length store) n h)

  pub front_all : n ≤ length store → take n store ≡ pick (eqb (beyond store n) 0) (take n store) []
  unfolding beyond
  front_all h = rw (le-ltb (length store) n h)

  pub front_none : length store < n → [] ≡ pick (eqb (beyond store n) 0) (take n store) []
  unfolding beyond
  front_none h = rw (lt-ltb (length store) n h)
