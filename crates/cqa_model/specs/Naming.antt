-- What code that names variables works on: the class of each column, and marks on classes.
use Rattle.std.specs.Prelude.{◌≡◌, ℕ, ◌<◌, ◌↔◌, true, false, Bool, List, length, slice_index, slice_index_or}
use Rattle.cqa_value.specs.declared.row.TheConstants.{MOST_COLUMNS}
use Rattle.cqa_model.specs.declared.limits.TheConstants.{MOST_ATOMS}
use Rattle.cqa_model.specs.declared.query.Op.TheVariants.{Eq}
use Rattle.cqa_model.specs.declared.query.Cond.{Cond}
use Rattle.cqa_model.specs.declared.query.Cond.TheVariants.{Join, Test}
use Rattle.cqa_model.specs.declared.query.ColRef.{ColRef}
use Rattle.cqa_model.specs.declared.query.Query.{Query}
use Rattle.cqa_model.specs.declared.variable_class.Variables.{Variables}
use Rattle.cqa_model.specs.Shape.{IsInRange}
use Rattle.cqa_model.specs.Variables.{number, IsName, IsConstant}
use Rattle.cqa_model.specs.Labels.{label}

-- a class is marked
abbrev pub IsMarked : List Bool → ℕ → Type 0
IsMarked marks k = slice_index_or marks k false ≡ true

-- the class of a column
abbrev pub class_at : Variables → ColRef → ℕ
class_at v c = slice_index v.class (number c)

-- a class is one of the constants
abbrev pub IsConstantClass : Variables → ℕ → Type 0
IsConstantClass v k = IsMarked v.constant k

-- the class of each column names its variable, and the classes of constants are those of the query's constants
pub record AreVariables (q : Query) (v : Variables) : Type 0 where
  pub names : (c : ColRef) → IsInRange q.atoms c → IsName q c (class_at v c)
  pub constants : (c : ColRef) → IsInRange q.atoms c → IsConstantClass v (class_at v c) ↔ IsConstant q c

-- the classes after these conditions
abbrev pub AreClasses : List Cond → List ℕ → Type 0
AreClasses conds class = (c : ColRef) → c.atom < MOST_ATOMS → c.col < MOST_COLUMNS → slice_index class (number c) ≡ label conds c

-- stands for a column that is not there
abbrev pub origin : ColRef
origin = record { atom = 0; col = 0 }

-- a column that can be numbered
abbrev pub IsSmall : ColRef → Type 0
IsSmall c = (c.atom < MOST_ATOMS) × (c.col < MOST_COLUMNS)

abbrev pub AreSmallColumns : List ColRef → Type 0
AreSmallColumns columns = (j : ℕ) → j < length columns → IsSmall (slice_index_or columns j origin)

-- the class of one of the first n answer columns
abbrev pub IsAnswerClass : List ℕ → List ColRef → ℕ → ℕ → Type 0
IsAnswerClass class answer n k = (j : ℕ) × (j < n) × (k ≡ slice_index class (number (slice_index_or answer j origin)))

abbrev pub IsSmallTest : Cond → Type 0
IsSmallTest (Test c op x) = IsSmall c
IsSmallTest (Join c d) = Unit {0}

abbrev pub AreSmallTests : List Cond → Type 0
AreSmallTests conds = (j : ℕ) → j < length conds → IsSmallTest (slice_index_or conds j (Join origin origin))

-- the class of a column that is tested to be equal to a value
abbrev pub IsEqualityClass : List ℕ → Cond → ℕ → Type 0
IsEqualityClass class (Test c op x) k = (op ≡ Eq) × (k ≡ slice_index class (number c))
IsEqualityClass class (Join c d) k = ⊥

-- one of the first n conditions is such a test
abbrev pub IsTestClass : List ℕ → List Cond → ℕ → ℕ → Type 0
IsTestClass class conds n k = (j : ℕ) × (j < n) × IsEqualityClass class (slice_index_or conds j (Join origin origin)) k
