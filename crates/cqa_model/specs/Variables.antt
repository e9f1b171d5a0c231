-- The variables of a query, and views: what is left of a query once some of its atoms have been taken out (Koutris and
-- Wijsen, ACM TODS 2017). A variable is spoken of by any of its columns.
use Rattle.std.specs.Prelude.{◌≡◌, ℕ, ◌+◌, ◌*◌, ◌<◌, ◌≤◌, ◌≢◌, ◌⊎◌, List, [], ◌∷◌, length, Contains}
use Rattle.cqa_value.specs.declared.value.Value.{Value}
use Rattle.cqa_value.specs.declared.row.TheConstants.{MOST_COLUMNS}
use Rattle.cqa_model.specs.declared.query.Op.TheVariants.{Eq}
use Rattle.cqa_model.specs.declared.query.Cond.{Cond}
use Rattle.cqa_model.specs.declared.query.Cond.TheVariants.{Join, Test}
use Rattle.cqa_model.specs.declared.query.ColRef.{ColRef}
use Rattle.cqa_model.specs.declared.query.Query.{Query}
use Rattle.cqa_model.specs.Shape.{IsInRange}
use Rattle.cqa_model.specs.Query.{atom_at, atom_key}

-- the two sides of a join
abbrev pub IsJoined : List Cond → ColRef → ColRef → Type 0
IsJoined conds c d = Contains conds (Join c d) ⊎ Contains conds (Join d c)

-- c, then these columns, then d: each two neighbours are the sides of a join
abbrev pub IsChain : List Cond → ColRef → List ColRef → ColRef → Type 0
IsChain conds c [] d = c ≡ d
IsChain conds c (e ∷ es) d = IsJoined conds c e × IsChain conds e es d

-- a chain of joins leads from c to d: the equivalence of columns that the joins generate
abbrev pub IsLinked : List Cond → ColRef → ColRef → Type 0
IsLinked conds c d = (es : List ColRef) × IsChain conds c es d

-- two columns are of one variable: they are linked by the query's joins
abbrev pub AreLinked : Query → ColRef → ColRef → Type 0
AreLinked q c d = IsLinked q.conds c d

-- the number of a column. No table has more than `MOST_COLUMNS`
abbrev pub number : ColRef → ℕ
number c = MOST_COLUMNS * c.atom + c.col

-- no column of d's variable has a lesser number than d
abbrev pub IsLeast : Query → ColRef → Type 0
IsLeast q d = (e : ColRef) → AreLinked q d e → number d ≤ number e

-- the name of c's variable: the least number of its columns
abbrev pub IsName : Query → ColRef → ℕ → Type 0
IsName q c name = (d : ColRef) × IsInRange q.atoms d × AreLinked q c d × IsLeast q d × (number d ≡ name)

-- an answer column, or one with a test for one value
abbrev pub IsConstantColumn : Query → ColRef → Type 0
IsConstantColumn q c = Contains q.answer c ⊎ ((x : Value) × Contains q.conds (Test c Eq x))

-- the variable's value is known once the answer is
abbrev pub IsConstant : Query → ColRef → Type 0
IsConstant q v = (c : ColRef) × AreLinked q v c × IsConstantColumn q c

-- the atoms of a query that are left, and the variables that count as constants
pub record View : Type 1 where
  pub has : ℕ → Type 0
  pub fixed : ColRef → Type 0

-- neither constant nor fixed
abbrev pub IsFree : Query → View → ColRef → Type 0
IsFree q view v = (IsConstant q v → ⊥) × (view.fixed v → ⊥)

-- vars(F): the free variables of F's columns
abbrev pub IsVar : Query → View → ℕ → ColRef → Type 0
IsVar q view F v = IsFree q view v × ((p : ℕ) × (p < (atom_at q F).width) × AreLinked q v (record { atom = F; col = p }))

-- key(F): those with a column in F's key
abbrev pub IsKeyVar : Query → View → ℕ → ColRef → Type 0
IsKeyVar q view F v = IsFree q view v × ((p : ℕ) × Contains (atom_key q F) p × AreLinked q v (record { atom = F; col = p }))

-- all atoms, and no variable fixed
abbrev pub whole : Query → View
whole q = record { has = λ F. F < length q.atoms; fixed = λ v. ⊥ }

-- F is taken out, and its variables are fixed
abbrev pub after : Query → View → ℕ → View
after q view F = record { has = λ G. view.has G × (G ≢ F); fixed = λ v. view.fixed v ⊎ IsVar q view F v }
