-- What is known of the parts of a union alone, and by what its candidates are decided.
use Rattle.std.specs.Prelude.{◌≡◌, ◌↔◌, Bool, true, false, IsTrue, IfSome, Option, List}
use Rattle.std.specs.List.{AllZip}
use Rattle.cqa_value.specs.declared.value.Value.{Value}
use Rattle.cqa_model.specs.declared.query.Query.{Query}
use Rattle.cqa_model.specs.Database.{Table}
use Rattle.cqa_model.specs.Unions.{IsCertainIn}
use Rattle.union_ask.specs.Known.{IsKnown}
use Rattle.part_search.specs.declared.judging.Verdict.{Verdict}
use Rattle.part_search.specs.declared.judging.Verdict.TheVariants.{Certain, Rejected}
use Rattle.part_search.specs.Lookups.{AreBoundsOf}
use Rattle.union_ask.specs.declared.judging.UnionSearch.{UnionSearch}

-- the certain rows of each part alone that needs no search
abbrev pub AreKnownIn : List Table → List Query → List (Option (List (List Value))) → Type 0
AreKnownIn db parts known = AllZip (IsKnown db) parts known

-- whether the row is certain for the union, or nothing where that isn't told
abbrev pub SaysCertain : List Table → List Query → List Value → Option Bool → Type 0
SaysCertain db parts row told = IfSome told (λ is_certain. IsTrue is_certain ↔ IsCertainIn db parts row)

-- each part over the database, and what is known of it, if that was asked for
pub record IsSearchOf (db : List Table) (parts : List Query) (s : UnionSearch) : Type 0 where
  pub bounds : AreBoundsOf db parts s.bounds.now
  pub known : IfSome s.known (AreKnownIn db parts)

-- the verdict on a row of which it is known whether it is certain
abbrev pub IsVerdictOf : Bool → Verdict → Type 0
IsVerdictOf true verdict = verdict ≡ Certain
IsVerdictOf false verdict = verdict ≡ Rejected
