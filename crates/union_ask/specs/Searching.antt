-- The rows of a side of a union, found candidate by candidate, ascending. A query alone is a union of one part.
use Rattle.std.specs.Prelude.{◌≡◌, ◌↔◌, ℕ, List, Contains}
use Rattle.std.specs.List.Sorted.{IsStrictlySortedBy}
use Rattle.std.specs.declared.cmp.Ordering.TheVariants.{Less}
use Rattle.cqa_value.specs.declared.value.Value.{Value}
use Rattle.cqa_value.specs.Values.{row_cmp}
use Rattle.cqa_model.specs.declared.query.Query.{Query}
use Rattle.cqa_model.specs.declared.query.RowId.{RowId}
use Rattle.cqa_model.specs.Database.{Table}
use Rattle.cqa_model.specs.Unions.{IsCertainIn, IsCandidateIn, IsPossibleIn, IsUnionAnswer}
use Rattle.cnf_form.specs.declared.formula.Cnf.{Cnf}
use Rattle.cnf_form.specs.declared.log.Log.{Log}
use Rattle.cnf_form.specs.Spent.{IsSpentLog}
use Rattle.row_answers.specs.declared.side.Side.{Side}
use Rattle.row_answers.specs.declared.side.Side.TheVariants.{Certain, Disputed}
use Rattle.row_answers.specs.Sifting.{Sifts, AreSifted}
use Rattle.part_search.specs.declared.searched.Stop.{Stop}
use Rattle.part_search.specs.declared.searched.Stop.TheVariants as stop
use Rattle.part_search.specs.declared.searched.Searched.{Searched}
use Rattle.part_search.specs.declared.searched.Searched.TheVariants.{All, Stopped}
use Rattle.part_search.specs.Judging.{IsSpentOver}
use Rattle.part_search.specs.Parts.{HasTooManyIn}
use Rattle.union_ask.specs.Encodings.{IsEncodedIn}

-- the row is a candidate, and its formula has a spent log for the budget
pub record IsSpentIn (db : List Table) (parts : List Query) (budget : ℕ) (row : List Value) (cnf : Cnf) (log : Log) : Type 0 where
  pub candidate : IsCandidateIn db parts row
  pub rows : List RowId
  pub formula : IsEncodedIn db parts row (record { cnf = cnf; rows = rows })
  pub spent : IsSpentLog cnf budget log.steps

-- no candidate before a row has too many witnesses
abbrev pub NoneBeforeIn : List Table → List Query → List Value → Type 0
NoneBeforeIn db parts row = (other : List Value) → IsCandidateIn db parts other → row_cmp other row ≡ Less → HasTooManyIn parts db other → ⊥

-- the row is the first candidate with too many witnesses
abbrev pub IsFirstOverIn : List Table → List Query → List Value → Type 0
IsFirstOverIn db parts row = IsCandidateIn db parts row × HasTooManyIn parts db row × NoneBeforeIn db parts row

-- no candidate has too many
abbrev pub IsWithinIn : List Table → List Query → Type 0
IsWithinIn db parts = (row : List Value) → IsCandidateIn db parts row → HasTooManyIn parts db row → ⊥

-- a search stops at the first candidate with too many witnesses, or before it where the budget is used up
abbrev pub IsStopIn : List Table → List Query → ℕ → Stop → Type 0
IsStopIn db parts budget (stop.Over row) = IsFirstOverIn db parts row
IsStopIn db parts budget (stop.Spent row cnf log) = IsSpentIn db parts budget row cnf log × (HasTooManyIn parts db row → ⊥) × NoneBeforeIn db parts row

-- the certain rows, where no candidate has too many witnesses; or the search stopped
abbrev pub IsSearchedIn : List Table → List Query → ℕ → Searched → Type 0
IsSearchedIn db parts budget (All answers) = IsUnionAnswer db parts answers × IsWithinIn db parts
IsSearchedIn db parts budget (Stopped why) = IsStopIn db parts budget why

-- ---- the rows of a side, by formulas over a frame

-- the disputed rows, strictly ascending: some repair holds a witness of each for some part, and not every repair does
pub record IsDisputedUnionAnswer (db : List Table) (parts : List Query) (answers : List (List Value)) : Type 0 where
  pub ascending : IsStrictlySortedBy row_cmp answers
  pub exactly : (row : List Value) → Contains answers row ↔ (IsPossibleIn db parts row × (IsCertainIn db parts row → ⊥))

-- the rows of a side, strictly ascending
abbrev pub IsAnswerIn : List Table → List Query → Side → List (List Value) → Type 0
IsAnswerIn db parts Certain answers = IsUnionAnswer db parts answers
IsAnswerIn db parts Disputed answers = IsDisputedUnionAnswer db parts answers

-- a candidate is of a side
abbrev pub IsOfIn : List Table → List Query → Side → List Value → Type 0
IsOfIn db parts Certain row = IsCertainIn db parts row
IsOfIn db parts Disputed row = IsCertainIn db parts row → ⊥

-- a search stops at the first candidate with too many witnesses, or before it where the budget is used up
abbrev pub IsStopOver : List Table → List ℕ → List Query → ℕ → Stop → Type 0
IsStopOver db frame parts budget (stop.Over row) = IsFirstOverIn db parts row
IsStopOver db frame parts budget (stop.Spent row cnf log) = IsSpentOver db frame parts budget row cnf log × (HasTooManyIn parts db row → ⊥) × NoneBeforeIn db parts row

-- the rows of the side, where no candidate has too many witnesses; or the search stopped
abbrev pub IsSearchedOver : List Table → List ℕ → List Query → Side → ℕ → Searched → Type 0
IsSearchedOver db frame parts side budget (All answers) = IsAnswerIn db parts side answers × IsWithinIn db parts
IsSearchedOver db frame parts side budget (Stopped why) = IsStopOver db frame parts budget why

-- ---- one row after the other

-- a search stops at this row
abbrev pub IsStopAtOver : List Table → List ℕ → List Query → ℕ → List Value → Stop → Type 0
IsStopAtOver db frame parts budget row (stop.Over r) = (r ≡ row) × HasTooManyIn parts db row
IsStopAtOver db frame parts budget row (stop.Spent r cnf log) = (r ≡ row) × IsSpentOver db frame parts budget row cnf log × (HasTooManyIn parts db row → ⊥)

-- a decided row is put behind those of the side exactly where it is one of them
abbrev pub SiftsIn : List Table → List Query → Side → List Value → List (List Value) → List (List Value) → Type 0
SiftsIn db parts side row old new = Sifts (IsOfIn db parts side) row old new × (HasTooManyIn parts db row → ⊥)

-- of decided rows those of the side are left, in their order
pub record SiftsAllIn (db : List Table) (parts : List Query) (side : Side) (rows answers : List (List Value)) : Type 0 where
  pub sifted : AreSifted (IsOfIn db parts side) rows answers
  pub within : (row : List Value) → Contains rows row → HasTooManyIn parts db row → ⊥
