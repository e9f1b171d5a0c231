-- The laws of the formulas of rows.
use Rattle.std.specs.Prelude.{◌≡◌, ℕ, ◌<◌, ◌≤◌, ◌↔◌, List, length, Bool, Contains}
use Rattle.cqa_value.specs.declared.value.Value.{Value}
use Rattle.cqa_model.specs.declared.query.Query.{Query}
use Rattle.cqa_model.specs.declared.query.RowId.{RowId}
use Rattle.cqa_model.specs.Database.{Table, IsDatabase, stored}
use Rattle.cqa_model.specs.Repairs.{IsRepair}
use Rattle.cqa_model.specs.Query.{rows_of, IsWitness, FitsDatabase}
use Rattle.cqa_model.specs.Certain.{IsCertain}
use Rattle.cqa_model.specs.Formula.{Satisfies}
use Rattle.cnf_form.specs.declared.formula.Lit.{Lit}
use Rattle.cnf_form.specs.declared.header.TheConstants.{MOST_CLAUSES}
use Rattle.cnf_form.specs.Literals.{SatisfiesAll}
use Rattle.cnf_form.specs.Writing.{IsWritable}
use Rattle.join_access.specs.Listing.{AreAllNames}
use Rattle.row_lists.specs.declared.formula.Encoded.{Encoded}
use Rattle.repair_clauses.specs.Encodings.{IsEncoded}
use Rattle.row_lists.specs.Clauses.{Formula, IsSatisfiable, Rises, clauses}
use Rattle.row_lists.specs.Formulas.{IsFormulaOf}
use Rattle.repair_clauses.specs.Clauses.{IsFormula}
use Rattle.repair_clauses.specs.Models.{IsPicked}
use Rattle.repair_clauses.specs.Frames.{tables_of}

-- The clauses of a row have a satisfying assignment exactly where the rows have one.
abbrev pub ClausesAreExact : Type 0
ClausesAreExact =
    (db : List Table) (q : Query) (row : List Value) (f : Formula) → IsFormula q db row f →
    IsSatisfiable f ↔ ((a : ℕ → List Value → Bool) × Satisfies q (stored db) row a)

-- A row is certain exactly where no assignment satisfies its clauses.
abbrev pub ClausesDecide : Type 0
ClausesDecide =
    (db : List Table) (q : Query) (row : List Value) (f : Formula) → FitsDatabase q db → IsFormula q db row f →
    IsCertain db q row ↔ ((v : ℕ → Bool) → SatisfiesAll v (clauses f) → ⊥)

-- The repair of a satisfying assignment holds no witness of the row.
abbrev pub ModelsReject : Type 0
ModelsReject =
    (db : List Table) (q : Query) (row : List Value) (f : Formula) (v : ℕ → Bool) (kept : List (List (List Value))) →
    FitsDatabase q db → IsFormula q db row f → SatisfiesAll v (clauses f) → IsRepair db kept →
    ((F : ℕ) → F < length q.atoms → IsPicked q db f.variables v F (rows_of q kept F)) →
    (w : List (List Value)) → IsWitness q kept row w → ⊥

-- A row has at most one formula.
abbrev pub OneFormula : Type 0
OneFormula = (db : List Table) (q : Query) (row : List Value) (f g : Formula) → IsFormula q db row f → IsFormula q db row g → f ≡ g

-- The literals of each clause rise by variable.
abbrev pub ClausesRise : Type 0
ClausesRise = (db : List Table) (q : Query) (row : List Value) (f : Formula) → IsFormula q db row f → (c : List Lit) → Contains (clauses f) c → Rises (length f.variables) c

-- The formula of the lists of a row's witnesses, over the query's tables, is the formula of the row.
abbrev pub ListsGiveFormula : Type 0
ListsGiveFormula =
    (db : List Table) (q : Query) (row : List Value) (all : List (List RowId)) (f : Formula) → FitsDatabase q db → AreAllNames q db row all → IsFormulaOf db (tables_of q) all f → IsFormula q db row f

-- The formula of a row over a database can be written, if it has no more clauses than a text may name.
abbrev pub FormulaIsWritable : Type 0
FormulaIsWritable =
    (db : List Table) (q : Query) (row : List Value) (e : Encoded) → IsDatabase db → IsEncoded q db row e → length e.cnf.clauses ≤ MOST_CLAUSES → IsWritable e.cnf
