-- The columns of a query's atoms that joins name.
use Rattle.std.specs.Prelude.{◌≡◌, ◌≢◌, ℕ, ◌<◌, List, [], slice_index_or, All, Contains}
use Rattle.std.proofs.Props.{props}
use Rattle.cqa_value.specs.declared.value.Value.{Value}
use Rattle.cqa_value.specs.Values.{nothing}
use Rattle.cqa_model.specs.declared.query.Cond.{Cond}
use Rattle.cqa_model.specs.declared.query.Cond.TheVariants.{Join, Test}
use Rattle.cqa_model.specs.declared.query.ColRef.{ColRef}
use Rattle.cqa_model.specs.declared.query.Query.{Query}
use Rattle.cqa_model.specs.declared.variable_class.Variables.{Variables}
use Rattle.cqa_model.specs.Naming.{class_at}
use Rattle.cqa_model.specs.Query.{atom_at}
use Rattle.cqa_model.specs.Variables.{AreLinked}
use Rattle.plan_rows.specs.declared.joined.JoinedColumn.{JoinedColumn}
use Rattle.plan_rows.specs.declared.joined.JoinedColumns.{JoinedColumns}

-- a condition doesn't join a column
abbrev pub LeavesOut : ColRef → Cond → Type 0
LeavesOut c (Join a b) = (a ≢ c) × (b ≢ c)
LeavesOut c (Test a op x) = Unit {0}

-- columns among the first n of F, each with the class of its variable; any other of the first n is linked to none but itself
pub record AreJoinedFirst (q : Query) (v : Variables) (F n : ℕ) (joined : List JoinedColumn) : Type 0 where
  pub within : (a : JoinedColumn) → Contains joined a → a.col < n
  pub named : (a : JoinedColumn) → Contains joined a → a.class ≡ class_at v (record { atom = F; col = a.col })
  pub others : (i : ℕ) → i < n → ((a : JoinedColumn) → Contains joined a → a.col ≢ i) → (d : ColRef) → AreLinked q (record { atom = F; col = i }) d → (F ≡ d.atom) × (i ≡ d.col)

-- so it is of all columns of F
abbrev pub AreJoinedIn : Query → Variables → ℕ → List JoinedColumn → Type 0
AreJoinedIn q v F joined = AreJoinedFirst q v F (atom_at q F).width joined

-- the list of an atom; empty for one that isn't there
abbrev pub joined_in : JoinedColumns → ℕ → List JoinedColumn
joined_in joined F = slice_index_or joined.atoms F []

-- each atom has such a list
abbrev pub AreJoined : Query → Variables → JoinedColumns → Type 0
AreJoined q v joined = (F : ℕ) → AreJoinedIn q v F (joined_in joined F)

-- there is at most one proof of it
pub joined_once : (q : Query) (v : Variables) (joined : JoinedColumns) → IsProp (AreJoined q v joined)
joined_once q v joined = hlevel props

-- x has in its column the value that y has in the other, if the two are of one variable
abbrev pub AgreesAt : JoinedColumn → List Value → List Value → JoinedColumn → Type 0
AgreesAt a x y b = a.class ≡ b.class → slice_index_or x a.col nothing ≡ slice_index_or y b.col nothing

-- so it is for each column of the one list with each of the other
abbrev pub AgreesInJoined : List Value → List JoinedColumn → List Value → List JoinedColumn → Type 0
AgreesInJoined x own y others = All (λ a. All (AgreesAt a x y) others) own
