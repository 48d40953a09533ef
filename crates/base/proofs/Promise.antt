-- What "any two results that meet a promise are equal" says of a function, over the function's own contract: `P` is the `Post` that is
-- made from its `ensures` clauses. Dropping a field or a store from the contract breaks the theorem that says so.
use mathlib.Core.Path.{◌≡◌}
use mathlib.Core.List.{List}
use Prim.Native.Nat.{ℕ}
use contract.Lifetimes.{Lfts}
use denote.Triple.Clauses.{AtExit}
use borrow.Fn.Kinds.{ParamKind, ResultKind, Dens, res_t, ended_of, Out}

-- one answer, whatever the arguments
abbrev pub OneAnswer : (n : ℕ) (ps : List (ParamKind n)) (r : ResultKind n) → Out n ps r → Type 0
OneAnswer n ps r P =
    (κs : Lfts n) (a : Dens κs ps) (z z' : (res_t r κs).Denot) (e e' : AtExit (ended_of n ps r) κs) → P κs a z e → P κs a z' e' → z ≡ z'

-- one value of what is lent, which `seen` finds among the arguments at exit
abbrev pub OneLent : {A : Type 0} (n : ℕ) (ps : List (ParamKind n)) (r : ResultKind n) → ((κs : Lfts n) → AtExit (ended_of n ps r) κs → A) → Out n ps r → Type 0
OneLent n ps r seen P =
    (κs : Lfts n) (a : Dens κs ps) (z z' : (res_t r κs).Denot) (e e' : AtExit (ended_of n ps r) κs)
    → P κs a z e → P κs a z' e' → seen κs e ≡ seen κs e'

-- one content of a lent store
abbrev pub OneStore : (n : ℕ) (ps : List (ParamKind n)) (r : ResultKind n) → ((κs : Lfts n) → AtExit (ended_of n ps r) κs → List ℕ) → Out n ps r → Type 0
OneStore n ps r seen P = OneLent n ps r seen P

-- one part of a lent store as the answer: its bytes, and its place, which is the block of memory and the offset in it where it begins
abbrev pub OnePart : (n : ℕ) (ps : List (ParamKind n)) (r : ResultKind n) → ((κs : Lfts n) → (res_t r κs).Denot → List ℕ × (ℕ × ℕ)) → Out n ps r → Type 0
OnePart n ps r seen P =
    (κs : Lfts n) (a : Dens κs ps) (z z' : (res_t r κs).Denot) (e e' : AtExit (ended_of n ps r) κs)
    → P κs a z e → P κs a z' e' → seen κs z ≡ seen κs z'
