-- The block by which a plan holds.
use Rattle.std.specs.Prelude.{ℕ, List, [], ◌∷◌, ◌++◌, Contains}
use Rattle.cqa_value.specs.declared.value.Value.{Value}
use Rattle.cqa_model.specs.declared.query.Query.{Query}
use Rattle.cqa_model.specs.Database.{Table, stored}
use Rattle.cqa_model.specs.Blocks.{AreBlocks}
use Rattle.cqa_model.specs.Query.{atom_key, rows_of}
use Rattle.plan_rows.specs.Links.{RowHolds}

-- the first block, in block order, all of whose rows have a property
pub record IsFirstWith (key : List ℕ) (rows : List (List Value)) (P : List Value → Type 0) (block : List (List Value)) : Type 0 where
  pub before : List (List (List Value))
  pub behind : List (List (List Value))
  pub blocks : AreBlocks key rows (before ++ block ∷ behind)
  pub all : (y : List Value) → Contains block y → P y
  pub none : (b : List (List Value)) → Contains before b → ((y : List Value) → Contains b y → P y) → ⊥

-- the first block of the plan's first atom all of whose rows fit the row, and for each of which the rest of the plan
-- holds with that row taken (Koutris and Wijsen, ACM TODS 2017)
abbrev pub IsFirstBlock : List Table → Query → List Value → List ℕ → List (List Value) → Type 0
IsFirstBlock db q row [] block = ⊥
IsFirstBlock db q row (F ∷ plan) block = IsFirstWith (atom_key q F) (rows_of q (stored db) F) (RowHolds q (stored db) row [] F plan) block
