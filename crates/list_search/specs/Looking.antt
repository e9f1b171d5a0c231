-- The formula over numbered blocks that is looked at without the solver.
use Rattle.std.specs.Prelude.{ℕ, List, map}
use Rattle.cqa_model.specs.declared.query.RowId.{RowId}
use Rattle.cnf_form.specs.declared.formula.Lit.{Lit}
use Rattle.row_lists.specs.declared.span.Span.{Span}
use Rattle.row_lists.specs.Clauses.{positive}
use Rattle.row_lists.specs.Spans.{numbers_in}
use Rattle.row_lists.specs.Encodings.{AddsLists}

-- these are the clauses of numbered blocks, and of lists
abbrev pub AreClausesOf : List ℕ → List Span → List (List RowId) → List (List Lit) → Type 0
AreClausesOf frame spans lists cs = AddsLists frame spans lists (map (map positive) (map numbers_in spans)) cs
