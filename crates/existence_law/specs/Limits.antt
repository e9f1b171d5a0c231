-- Whether a search takes all candidates of a query.
use Rattle.std.specs.Prelude.{◌≡◌, ◌⊎◌, List}
use Rattle.std.specs.declared.cmp.Ordering.TheVariants.{Less}
use Rattle.cqa_value.specs.declared.value.Value.{Value}
use Rattle.cqa_value.specs.Values.{row_cmp}
use Rattle.cqa_model.specs.declared.query.Query.{Query}
use Rattle.cqa_model.specs.Database.{Table}
use Rattle.cqa_model.specs.Query.{FitsDatabase}
use Rattle.cqa_model.specs.Certain.{IsCandidate}
use Rattle.join_access.specs.Listing.{HasTooMany}

-- No candidate of a query has too many witnesses, or one that has is the first.
abbrev pub FirstOverExists : Type 0
FirstOverExists = (db : List Table) (q : Query) → FitsDatabase q db → ((row : List Value) → IsCandidate db q row → HasTooMany q db row → ⊥) ⊎
    ((row : List Value) × (IsCandidate db q row × HasTooMany q db row × ((other : List Value) → IsCandidate db q other → row_cmp other row ≡ Less → HasTooMany q db other → ⊥)))
