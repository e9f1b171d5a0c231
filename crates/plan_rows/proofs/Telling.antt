-- The values that rows taken, tests and candidates tell of a row that fits.
use Rattle.std.proofs.Common.{◌≡◌, ℕ, Option, Some, None, IfSome, List, ◌∷◌, get_or, slice_get, sym, subst, Contains}
use Rattle.std.specs.Borrow.{Bor}
use Rattle.std.specs.Option.{option_copied}
use Rattle.std.specs.List.{All}
use Rattle.std.proofs.lemmas.Option.{get_or_from_slice_get}
use Rattle.cqa_value.specs.declared.value.Value.{Value}
use Rattle.cqa_value.specs.Values.{nothing}
use Rattle.cqa_model.specs.declared.query.Query.{Query}
use Rattle.cqa_model.specs.Query.{atom_at}
use Rattle.cqa_model.specs.Plan.{Placed, TestHolds}
use Rattle.cqa_model.proofs.Classic.{mem-head, mem-tail}
use Rattle.join_access.specs.Deciding.{of_all}
use Rattle.plan_rows.specs.Fitting.{AgreesInFirst, AgreesAll, Suits, GivesCandidate}
use Rattle.plan_rows.specs.Knowing.{MayFit}

-- a value that is read of a row, if there is one
pub told-cell : (P : Value → Type 0) (row : List Value) (j : ℕ) (r : Option (Bor Value)) → option_copied r ≡ slice_get row j → ((v : Value) → get_or row j nothing ≡ v → P v) → IfSome r (λ v. P v.now)
told-cell P row j None e h = tt
told-cell P row j (Some v) e h = h v.now (get_or_from_slice_get row j v.now nothing (sym e))

pub told-map : (P Q : Value → Type 0) (r : Option (Bor Value)) → ((v : Value) → P v → Q v) → IfSome r (λ v. P v.now) → IfSome r (λ v. Q v.now)
told-map P Q None h p = tt
told-map P Q (Some v) h p = h v.now p

-- the first of the rows taken, and the others
module _ (q : Query) (F : ℕ) (y : List Value) (taken : List Placed) (t : Placed) (ts : List Placed) (e : taken ≡ t ∷ ts) (all : AgreesAll q F y taken) where
  pub agrees-first : AgreesInFirst q F y t.atom t.row (atom_at q F).width
  agrees-first = all t (subst (λ z. Contains z t) (sym e) (mem-head t ts))

  pub agrees-others : AgreesAll q F y ts
  agrees-others s m = all s (subst (λ z. Contains z s) (sym e) (mem-tail s t ts m))

-- a row that may fit passes the tests, agrees with the rows taken, and has the values of the candidate, if there is one
module _ (q : Query) (taken : List Placed) (F : ℕ) (y : List Value) where
  pub may-tests : (row : Option (List Value)) → MayFit q row taken F y → All (TestHolds F y) q.conds
  may-tests None f = of_all (TestHolds F y) q.conds f.tests
  may-tests (Some row) f = of_all (TestHolds F y) q.conds f.tests

  pub may-agree : (row : Option (List Value)) → MayFit q row taken F y → AgreesAll q F y taken
  may-agree None f t m = f.agrees t (mem-tail t (record { atom = F; row = y }) taken m)
  may-agree (Some row) f t m = f.agrees t (mem-tail t (record { atom = F; row = y }) taken m)

  pub may-answer : (row : List Value) → MayFit q (Some row) taken F y → GivesCandidate q F y row
  may-answer row f = f.answers

  pub may-suit : (row : Option (List Value)) → MayFit q row taken F y → Suits q taken F y
  may-suit None f = f
  may-suit (Some row) f = record { agrees = f.agrees; tests = f.tests }
