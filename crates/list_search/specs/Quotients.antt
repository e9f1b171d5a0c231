-- The formula of lists over classes of rows, as code makes it: the rows that are in lists have numbers and classes.
use Rattle.std.specs.Prelude.{◌≡◌, ℕ, ◌<◌, ◌↔◌, List, [], Option, length, Contains, slice_index_or}
use Rattle.std.specs.Ordering.{nat_cmp}
use Rattle.std.specs.List.Sorted.{IsStrictlySortedBy}
use Rattle.cqa_model.specs.declared.query.RowId.{RowId}
use Rattle.cqa_model.specs.Database.{Table}
use Rattle.cqa_model.specs.Repairs.{SharesKey}
use Rattle.cnf_form.specs.declared.formula.Cnf.{Cnf}
use Rattle.cnf_form.specs.declared.formula.Lit.{Lit}
use Rattle.cnf_form.specs.Literals.{literals}
use Rattle.row_lists.specs.declared.span.Span.{Span}
use Rattle.row_lists.specs.Clauses.{Variable}
use Rattle.row_lists.specs.Spans.{at, variables_of_spans}
use Rattle.row_lists.specs.Lists.{named, IsIn}
use Rattle.row_lists.specs.Formulas.{table_at, name_in}
use Rattle.row_lists.specs.Frames.{IsInFrame}
use Rattle.list_search.specs.Classing.{HasClass, AreClassed, AreNumberedBySpans, AreClassClauses}

-- the columns of the table at a slot
abbrev pub columns_at : List (List ℕ) → ℕ → List ℕ
columns_at columns s = slice_index_or columns s []

-- a row of a slot before n that is in a list
abbrev pub IsListed : List ℕ → List (List RowId) → ℕ → ℕ → ℕ → Type 0
IsListed frame lists n s p = (s < n) × IsIn lists (name_in frame (at s p))

-- two rows of a slot agree in its columns
abbrev pub Agree : List Table → List ℕ → List (List ℕ) → ℕ → ℕ → ℕ → Type 0
Agree db frame columns s r p = SharesKey (columns_at columns s) (named db (name_in frame (at s r))) (named db (name_in frame (at s p)))

-- exactly the rows of the slots before n that are in lists have numbers
abbrev pub AreNumberedTo : List ℕ → List (List RowId) → ℕ → List Span → Type 0
AreNumberedTo frame lists n spans = AreNumberedBySpans (IsListed frame lists n) spans

-- exactly these rows have classes: rows of one class agree in the columns of their slot
abbrev pub AreClassedTo : List Table → List ℕ → List (List ℕ) → List Variable → List (List RowId) → ℕ → List (Option ℕ) → Type 0
AreClassedTo db frame columns variables lists n classes = AreClassed variables (IsListed frame lists n) (Agree db frame columns) classes

-- the row of a name has this class
abbrev pub HasClassOf : List ℕ → List Variable → List (Option ℕ) → RowId → ℕ → Type 0
HasClassOf frame variables classes id n = (s : ℕ) × (s < length frame) × (table_at frame s ≡ id.table) × HasClass variables classes s id.place n

-- all names are of tables of the frame
abbrev pub AreNamesWithin : List ℕ → List ℕ → List RowId → Type 0
AreNamesWithin frame slots names = (id : RowId) → Contains names id → IsInFrame frame slots id.table

-- the classes of the rows of a list
pub record AreClassesOf (frame : List ℕ) (variables : List Variable) (classes : List (Option ℕ)) (names : List RowId) (numbers : List ℕ) : Type 0 where
  pub rises : IsStrictlySortedBy nat_cmp numbers
  pub exactly : (n : ℕ) → Contains numbers n ↔ ((id : RowId) × Contains names id × HasClassOf frame variables classes id n)

-- the clauses of some classes of the numbered rows
abbrev pub AreQuotient : List Table → List ℕ → List (List ℕ) → List Span → List Span → List (List RowId) → List (List Lit) → Type 0
AreQuotient db frame columns numbered spans lists cs =
    (classes : List (Option ℕ)) × AreClassedTo db frame columns (variables_of_spans numbered) lists (length frame) classes ×
    AreClassClauses (variables_of_spans numbered) classes spans (AreClassesOf frame (variables_of_spans numbered) classes) lists cs

-- the formula of some classes of the rows that are in lists
abbrev pub IsQuotient : List Table → List ℕ → List (List ℕ) → List Span → List (List RowId) → Cnf → Type 0
IsQuotient db frame columns spans lists cnf =
    (numbered : List Span) × AreNumberedTo frame lists (length frame) numbered × (cnf.vars ≡ length (variables_of_spans numbered)) × AreQuotient db frame columns numbered spans lists (literals cnf.clauses)
