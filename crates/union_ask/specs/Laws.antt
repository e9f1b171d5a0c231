-- The laws of unions.
use Rattle.std.specs.Prelude.{◌≡◌, ◌↔◌, ℕ, Bool, List, Contains}
use Rattle.cqa_value.specs.declared.value.Value.{Value}
use Rattle.cqa_model.specs.declared.query.Query.{Query}
use Rattle.cqa_model.specs.declared.query.RowId.{RowId}
use Rattle.cqa_model.specs.Database.{Table, IsDatabase}
use Rattle.cqa_model.specs.Certain.{IsCertain, IsCandidate}
use Rattle.cqa_model.specs.Unions.{IsCertainIn, IsPossibleIn, IsCandidateIn}
use Rattle.cnf_form.specs.Literals.{literals, SatisfiesAll}
use Rattle.cdcl.specs.Outcomes.{IsModel}
use Rattle.row_lists.specs.declared.formula.Encoded.{Encoded}
use Rattle.part_search.specs.Parts.{AllFit}
use Rattle.query_strategy.specs.Apart.{AreApart}
use Rattle.union_ask.specs.Apart.{AreApartFor}
use Rattle.union_ask.specs.Encodings.{IsEncodedIn}
use Rattle.union_ask.specs.Repairs.{IsUnionRepair, AreUnionPicks, RejectsIn}
use Rattle.cqa_model.specs.Query.{FitsDatabase}
use Rattle.repair_back.specs.Results.{ArePicks, IsRepairOf, Rejects}
use Rattle.repair_clauses.specs.Encodings.{IsEncoded}

-- A row that is a candidate of one part alone is certain for the union exactly where it is certain for this part.
abbrev pub AloneDecides : Type 0
AloneDecides =
    (db : List Table) (parts : List Query) (row : List Value) (q : Query) → AllFit parts db → Contains parts q → ((p : Query) → Contains parts p → IsCandidate db p row → p ≡ q) →
    IsCertainIn db parts row ↔ IsCertain db q row

-- Some repair holds a witness of the row for some part exactly where the row is a candidate of some part.
abbrev pub PossibleIsCandidateIn : Type 0
PossibleIsCandidateIn = (db : List Table) (parts : List Query) (row : List Value) → AllFit parts db → IsPossibleIn db parts row ↔ IsCandidateIn db parts row

-- Where no table that isn't strict is in two of the parts of which a row is a candidate, the row is certain for the union exactly where it is certain for a part.
abbrev pub CandidatesDecide : Type 0
CandidatesDecide = (db : List Table) (parts : List Query) (row : List Value) → AllFit parts db → AreApartFor db parts row → IsCertainIn db parts row ↔ ((q : Query) × Contains parts q × IsCertain db q row)

-- A row that is certain for a part is certain for the union. Where no table that isn't strict is in two parts, no other row is.
pub record ApartDecide : Type 0 where
  pub some : (db : List Table) (parts : List Query) (row : List Value) (q : Query) → Contains parts q → IsCertain db q row → IsCertainIn db parts row
  pub only : (db : List Table) (parts : List Query) (row : List Value) → AllFit parts db → AreApart parts → IsCertainIn db parts row → (q : Query) × Contains parts q × IsCertain db q row

-- A row is certain for a union exactly where no assignment satisfies its formula.
abbrev pub UnionsDecide : Type 0
UnionsDecide =
    (db : List Table) (parts : List Query) (row : List Value) (e : Encoded) → IsDatabase db → AllFit parts db → IsEncodedIn db parts row e →
    IsCertainIn db parts row ↔ ((v : ℕ → Bool) → SatisfiesAll v (literals e.cnf.clauses) → ⊥)

-- A repair of the union's tables whose rows are the picks of a model of a row's formula holds no witness of the row.
abbrev pub UnionModelRejects : Type 0
UnionModelRejects =
    (db : List Table) (parts : List Query) (row : List Value) (e : Encoded) (model : List Bool) (names : List RowId) → IsDatabase db → AllFit parts db → IsEncodedIn db parts row e → IsModel e.cnf model →
    IsUnionRepair db parts names → AreUnionPicks db parts e.rows model names → RejectsIn db parts row names

-- A repair whose rows are the picks of a model of a row's formula holds no witness of the row.
abbrev pub ModelRejects : Type 0
ModelRejects = (db : List Table) (q : Query) (row : List Value) (e : Encoded) (model : List Bool) (names : List RowId) →
    FitsDatabase q db → IsEncoded q db row e → IsModel e.cnf model → IsRepairOf q db names → ArePicks q db e.rows model names → Rejects q db row names
