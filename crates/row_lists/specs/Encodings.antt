-- What is made of lists: numbered blocks, numbered clauses, and the row of each number.
use Rattle.std.specs.Prelude.{◌≡◌, ◌↔◌, ℕ, ◌++◌, ◌<◌, List, length, map, Contains}
use Rattle.std.specs.List.{AllZip}
use Rattle.std.specs.List.Sorted.{IsStrictlySortedBy}
use Rattle.cqa_model.specs.declared.query.RowId.{RowId}
use Rattle.cqa_model.specs.Database.{Table}
use Rattle.cnf_form.specs.declared.formula.Lit.{Lit}
use Rattle.cnf_form.specs.Literals.{literals}
use Rattle.table_blocks.specs.Tables.{rows_at, key_at}
use Rattle.row_lists.specs.declared.span.Span.{Span}
use Rattle.row_lists.specs.declared.numbering.Numbering.{Numbering}
use Rattle.row_lists.specs.declared.formula.Encoded.{Encoded}
use Rattle.row_lists.specs.Clauses.{Variable, Formula, negative, clauses}
use Rattle.row_lists.specs.Lists.{IsStored}
use Rattle.row_lists.specs.Formulas.{table_at, name_in, HasNumberOf, IsRelevantTo, AreNumbersOf, IsFormulaOf}
use Rattle.row_lists.specs.Spans.{at, IsInSpan, IsWholeBlock, span_cmp, AreBasedTo, variables_of_spans}

-- a whole block of a table of the frame, with a row of one of the lists
pub record IsListSpan (db : List Table) (frame : List ℕ) (lists : List (List RowId)) (s : Span) : Type 0 where
  pub there : s.slot < length frame
  pub whole : IsWholeBlock (key_at db (table_at frame s.slot)) (rows_at db (table_at frame s.slot)) s
  pub relevant : IsRelevantTo db lists (name_in frame (at s.slot s.start))

-- the relevant blocks of the slots before n, and how many variables they have
pub record AreListSpansTo (db : List Table) (frame : List ℕ) (lists : List (List RowId)) (n m : ℕ) (spans : List Span) : Type 0 where
  pub in_order : IsStrictlySortedBy span_cmp spans
  pub based : AreBasedTo 0 spans m
  pub each : (s : Span) → Contains spans s → (s.slot < n) × IsListSpan db frame lists s
  pub every : (x : Variable) → x.slot < n → IsStored db (name_in frame x) → IsRelevantTo db lists (name_in frame x) → (s : Span) × Contains spans s × IsInSpan s x

-- exactly the relevant blocks of the lists have numbers
abbrev pub AreBlocksOf : List Table → List ℕ → List (List RowId) → Numbering → Type 0
AreBlocksOf db frame lists blocks = AreListSpansTo db frame lists (length frame) blocks.vars blocks.spans

-- the numbers of the rows of these names, in any order, and maybe more than once
abbrev pub AreNumbersOfNames : List ℕ → List Span → List RowId → List ℕ → Type 0
AreNumbersOfNames frame spans names numbers = (n : ℕ) → Contains numbers n ↔ ((id : RowId) × Contains names id × HasNumberOf frame (variables_of_spans spans) id n)

-- the clause of a list: the numbers of its rows, as negative literals
abbrev pub IsListClause : List ℕ → List Span → List RowId → List Lit → Type 0
IsListClause frame spans names lits = (numbers : List ℕ) × AreNumbersOf frame (variables_of_spans spans) names numbers × (lits ≡ map negative numbers)

-- the clauses of lists are added, one for each list
pub record AddsLists (frame : List ℕ) (spans : List Span) (lists : List (List RowId)) (old new : List (List Lit)) : Type 0 where
  pub numbers : List (List ℕ)
  pub numbered : AllZip (AreNumbersOf frame (variables_of_spans spans)) lists numbers
  pub is : new ≡ old ++ map (map negative) numbers

-- the clauses and the rows are those of the formula of lists
pub record IsListEncoded (db : List Table) (frame : List ℕ) (lists : List (List RowId)) (e : Encoded) : Type 0 where
  pub formula : Formula
  pub is : IsFormulaOf db frame lists formula
  pub vars : e.cnf.vars ≡ length formula.variables
  pub are : literals e.cnf.clauses ≡ clauses formula
  pub rows : e.rows ≡ map (name_in frame) formula.variables
