-- The laws of lists told by numbers: they decide as the lists do, and as the row whose witnesses they are.
use Rattle.std.specs.Prelude.{◌↔◌, ℕ, List, [], ◌∷◌, Option}
use Rattle.cqa_value.specs.declared.value.Value.{Value}
use Rattle.cqa_model.specs.declared.query.Query.{Query}
use Rattle.cqa_model.specs.declared.query.RowId.{RowId}
use Rattle.cqa_model.specs.Database.{Table, IsDatabase}
use Rattle.cqa_model.specs.Query.{FitsDatabase}
use Rattle.cqa_model.specs.Certain.{IsCertain}
use Rattle.cqa_model.specs.Unions.{IsCertainIn}
use Rattle.row_lists.specs.Lists.{AreStoredLists, IsForced}
use Rattle.part_search.specs.Parts.{AllFit}
use Rattle.block_choices.specs.declared.row.BlockRow.{BlockRow}
use Rattle.block_lists.specs.declared.judging.Judged.{Judged}
use Rattle.block_lists.specs.declared.judging.Judged.TheVariants.{Certain, Open, Spent}
use Rattle.block_choices.specs.Choices.{IsForcedBy}
use Rattle.block_lists.specs.Judging.{IsJudged}
use Rattle.told_lists.specs.Telling.{AreListsTold, AreWitnessesTold, IsTelling}

-- Every repair keeps a list whole exactly where each choice of a row of each told block holds a told list whole.
abbrev pub ToldDecide : Type 0
ToldDecide =
    (db : List Table) (sizes : List ℕ) (told : RowId → Option BlockRow) (all : List (List RowId)) (lists : List (List BlockRow)) → IsDatabase db → AreStoredLists db all → IsTelling db sizes told →
    AreListsTold db told all lists → IsForced db all ↔ IsForcedBy sizes lists

-- A row is certain for a union exactly where each choice of a row of each told block holds whole one of the lists of its witnesses, as told.
abbrev pub JudgedIsCertainIn : Type 0
JudgedIsCertainIn =
    (db : List Table) (parts : List Query) (row : List Value) (sizes : List ℕ) (told : RowId → Option BlockRow) (lists : List (List BlockRow)) → IsDatabase db → AllFit parts db → IsTelling db sizes told →
    AreWitnessesTold db parts row told lists → IsCertainIn db parts row ↔ IsForcedBy sizes lists

-- The same of a query.
abbrev pub JudgedIsCertain : Type 0
JudgedIsCertain =
    (db : List Table) (q : Query) (row : List Value) (sizes : List ℕ) (told : RowId → Option BlockRow) (lists : List (List BlockRow)) → IsDatabase db → FitsDatabase q db → IsTelling db sizes told →
    AreWitnessesTold db (q ∷ []) row told lists → IsCertain db q row ↔ IsForcedBy sizes lists

-- what a verdict on the group of a row says of the row
abbrev pub Says : List Table → List Query → List Value → Judged → Type 0
Says db parts row Certain = IsCertainIn db parts row
Says db parts row Open = IsCertainIn db parts row → ⊥
Says db parts row Spent = Unit {0}

-- A row whose told group is judged certain is certain for the union, and one whose group is judged open isn't.
abbrev pub VerdictsHold : Type 0
VerdictsHold =
    (db : List Table) (parts : List Query) (row : List Value) (sizes : List ℕ) (told : RowId → Option BlockRow) (lists : List (List BlockRow)) (budget : ℕ) (choice : List ℕ) (found : Judged) → IsDatabase db →
    AllFit parts db → IsTelling db sizes told → AreWitnessesTold db parts row told lists → IsJudged sizes lists budget choice found → Says db parts row found
