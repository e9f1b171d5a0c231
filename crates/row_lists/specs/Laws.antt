-- The laws of lists of names of rows.
use Rattle.std.specs.Prelude.{◌≡◌, ◌≤◌, ◌↔◌, ℕ, Bool, List, length, Contains}
use Rattle.cqa_value.specs.declared.value.Value.{Value}
use Rattle.cqa_model.specs.declared.query.RowId.{RowId}
use Rattle.cqa_model.specs.Database.{Table, IsDatabase}
use Rattle.cnf_form.specs.declared.formula.Lit.{Lit}
use Rattle.cnf_form.specs.declared.header.TheConstants.{MOST_CLAUSES}
use Rattle.cnf_form.specs.Literals.{SatisfiesAll}
use Rattle.cnf_form.specs.Writing.{IsWritable}
use Rattle.row_lists.specs.declared.formula.Encoded.{Encoded}
use Rattle.row_lists.specs.Encodings.{IsListEncoded}
use Rattle.row_lists.specs.Clauses.{Formula, Rises, clauses, IsSatisfiable}
use Rattle.row_lists.specs.Lists.{IsForced, AreStoredLists, KeepsAll, HasFree, SatisfiesNames}
use Rattle.row_lists.specs.Formulas.{IsFrame, AreWithin, IsFormulaOf}
use Rattle.row_lists.specs.Classes.{AreClosed, AreClasses, SatisfiesClasses}
use Rattle.row_lists.specs.Picks.{AreTruePicks}

-- Every repair keeps a list whole exactly where no assignment of names satisfies the lists.
abbrev pub NamesDecide : Type 0
NamesDecide = (db : List Table) (lists : List (List RowId)) → IsDatabase db → AreStoredLists db lists → IsForced db lists ↔ ((a : RowId → Bool) → SatisfiesNames db lists a → ⊥)

-- The formula of lists has a satisfying assignment exactly where the names have one.
abbrev pub FormulaOfNames : Type 0
FormulaOfNames =
    (db : List Table) (frame : List ℕ) (lists : List (List RowId)) (f : Formula) → IsFrame db frame → AreWithin frame lists → AreStoredLists db lists → IsFormulaOf db frame lists f →
    IsSatisfiable f ↔ ((a : RowId → Bool) × SatisfiesNames db lists a)

-- Every repair keeps a list whole exactly where no assignment satisfies the formula.
abbrev pub ListsDecide : Type 0
ListsDecide =
    (db : List Table) (frame : List ℕ) (lists : List (List RowId)) (f : Formula) → IsDatabase db → IsFrame db frame → AreWithin frame lists → AreStoredLists db lists → IsFormulaOf db frame lists f →
    IsForced db lists ↔ ((v : ℕ → Bool) → SatisfiesAll v (clauses f) → ⊥)

-- Lists have at most one formula.
abbrev pub OneListFormula : Type 0
OneListFormula = (db : List Table) (frame : List ℕ) (lists : List (List RowId)) (f g : Formula) → IsFormulaOf db frame lists f → IsFormulaOf db frame lists g → f ≡ g

-- The formula over classes has a satisfying assignment exactly where the names have one.
abbrev pub ClassesOfNames : Type 0
ClassesOfNames =
    (db : List Table) (columns : ℕ → List ℕ) (lists : List (List RowId)) (class : RowId → ℕ) → AreStoredLists db lists → AreClosed db columns lists → AreClasses db columns lists class →
    ((t : ℕ → Bool) × SatisfiesClasses db lists class t) ↔ ((a : RowId → Bool) × SatisfiesNames db lists a)

-- A repair that keeps a true row of each block that has one, under a satisfying assignment, keeps no list whole.
abbrev pub PicksRejectLists : Type 0
PicksRejectLists =
    (db : List Table) (frame : List ℕ) (lists : List (List RowId)) (f : Formula) (v : ℕ → Bool) (kept : List (List (List Value))) →
    IsFrame db frame → AreWithin frame lists → AreStoredLists db lists → IsFormulaOf db frame lists f → SatisfiesAll v (clauses f) → AreTruePicks db frame f.variables v kept →
    (names : List RowId) → Contains lists names → KeepsAll db kept names → ⊥

-- Where each list has a row whose block has a row that is in no list, some repair keeps no list whole.
abbrev pub AvoidedByFree : Type 0
AvoidedByFree =
    (db : List Table) (lists : List (List RowId)) → IsDatabase db → AreStoredLists db lists →
    ((names : List RowId) → Contains lists names → (id : RowId) × Contains names id × HasFree db lists id) → IsForced db lists → ⊥

-- The literals of each clause rise by variable.
abbrev pub ListClausesRise : Type 0
ListClausesRise = (db : List Table) (frame : List ℕ) (lists : List (List RowId)) (f : Formula) → IsFormulaOf db frame lists f → (c : List Lit) → Contains (clauses f) c → Rises (length f.variables) c

-- The formula of lists over a database can be written, if it has no more clauses than a text may name.
abbrev pub ListFormulaIsWritable : Type 0
ListFormulaIsWritable =
    (db : List Table) (frame : List ℕ) (lists : List (List RowId)) (e : Encoded) → IsFrame db frame → IsDatabase db → IsListEncoded db frame lists e → length e.cnf.clauses ≤ MOST_CLAUSES → IsWritable e.cnf
