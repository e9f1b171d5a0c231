-- By what the witnesses of a row are looked up for each part.
use Rattle.std.specs.Prelude.{◌≡◌, ◌↔◌, Bool, IsTrue, List, length, Contains}
use Rattle.std.specs.List.{AllZip}
use Rattle.cqa_value.specs.declared.value.Value.{Value}
use Rattle.cqa_model.specs.declared.query.Query.{Query}
use Rattle.cqa_model.specs.Database.{Table}
use Rattle.cqa_model.specs.Certain.{IsCandidate}
use Rattle.table_blocks.specs.declared.bound.Bound.{Bound}
use Rattle.join_witness.specs.declared.lookup.Lookup.{Lookup}

-- the query over the database
abbrev pub IsBoundTo : List Table → Query → Bound → Type 0
IsBoundTo db q bound = (bound.query.now ≡ q) × (bound.db.now ≡ db)

-- one for each part
abbrev pub AreBoundsOf : List Table → List Query → List Bound → Type 0
AreBoundsOf db parts bounds = AllZip (IsBoundTo db) parts bounds

abbrev pub AreLookupsOf : List Table → List Query → List Lookup → Type 0
AreLookupsOf db parts lookups = AllZip (λ q lookup. IsBoundTo db q lookup.bound.now) parts lookups

-- the row is as long as the answers of the parts
abbrev pub HasLengthOf : List Query → List Value → Type 0
HasLengthOf parts row = (q : Query) → Contains parts q → length row ≡ length q.answer

-- for each part whether the row is a candidate of it
abbrev pub TellCandidates : List Table → List Query → List Value → List Bool → Type 0
TellCandidates db parts row given = AllZip (λ q gives. IsTrue gives ↔ IsCandidate db q row) parts given
