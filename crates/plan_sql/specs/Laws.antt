-- The laws of the query of a plan.
use Rattle.std.specs.List.{filter}
use Rattle.std.specs.Prelude.{◌≡◌, ℕ, ◌<◌, ◌==◌, if◌then◌else◌, ◌↔◌, Bool, true, List, [], length, map, Contains}
use Rattle.cqa_value.specs.declared.value.Value.{Value}
use Rattle.cqa_model.specs.declared.query.Query.{Query}
use Rattle.cqa_model.specs.Database.{Table, stored}
use Rattle.cqa_model.specs.Repairs.{SharesKey}
use Rattle.cqa_model.specs.Query.{atom_key, rows_of, FitsDatabase}
use Rattle.cqa_model.specs.Certain.{IsCertain}
use Rattle.cqa_model.specs.Plan.{IsPlanOf}
use Rattle.sql_text.specs.declared.syntax.Body.{Body}
use Rattle.sql_text.specs.declared.syntax.Body.TheVariants.{Shared}
use Rattle.sql_text.specs.declared.syntax.Group.{Group}
use Rattle.sql_text.specs.declared.syntax.Step.{Step}
use Rattle.sql_text.specs.declared.syntax.Sql.{Sql}
use Rattle.sql_text.specs.Meaning.{Means, Gives, cell_value, IsChoice, Ends, StepHas}
use Rattle.sql_text.specs.Named.{AreNamedSteps, IsNamedBody, IsNamed}
use Rattle.plan_sql.specs.Statement.{sql_of}

-- over each database that the query fits, of any size, what a query in SQL means is exactly the certain answer
abbrev pub IsExactSql : Query → Sql → Type 0
IsExactSql q sql = (db : List Table) (row : List Value) → FitsDatabase q db → Means (rows_of q (stored db)) sql row ↔ IsCertain db q row

-- What the query of a plan means is exactly the certain answer.
abbrev pub SqlIsExact : Type 0
SqlIsExact = (q : Query) (plan : List ℕ) → IsPlanOf q plan → IsExactSql q (sql_of q plan)

-- The query of a plan means rows of the answer's length alone, over any tables.
abbrev pub SqlIsWide : Type 0
SqlIsWide = (tables : ℕ → List (List Value)) (q : Query) (row : List Value) (plan : List ℕ) → Means tables (sql_of q plan) row → length row ≡ length q.answer

-- The names of the query of a plan say what its places mean.
abbrev pub SqlIsNamed : Type 0
SqlIsNamed = (q : Query) (plan : List ℕ) → IsPlanOf q plan → IsNamed q (sql_of q plan)

-- over each database that a query fits, no row of a query in SQL is shown by two choices of its last select
abbrev pub ShowsOnce : Query → Sql → Type 0
ShowsOnce q sql =
    (db : List Table) (w u : List (List Value)) → FitsDatabase q db →
    IsChoice (rows_of q (stored db)) (StepHas (rows_of q (stored db)) (λ m x. ⊥) 0 sql.steps) sql.last.sources sql.last.all sql.last.only w →
    IsChoice (rows_of q (stored db)) (StepHas (rows_of q (stored db)) (λ m x. ⊥) 0 sql.steps) sql.last.sources sql.last.all sql.last.only u →
    map (cell_value w) sql.last.cells ≡ map (cell_value u) sql.last.cells → w ≡ u

-- The query of a plan shows each row once: no two choices of its last select show one.
abbrev pub SqlShowsOnce : Type 0
SqlShowsOnce = (q : Query) (plan : List ℕ) → IsPlanOf q plan → ShowsOnce q (sql_of q plan)

-- rows on several machines, such that no block is split
pub record AreShards (key : List ℕ) (rows : List (List Value)) (shards : List (List (List Value))) : Type 0 where
  pub whole : (x : List Value) → Contains rows x ↔ ((shard : List (List Value)) × Contains shards shard × Contains shard x)
  pub apart : (s t : List (List Value)) → Contains shards s → Contains shards t → (x y : List Value) → Contains s x → Contains t y → SharesKey key x y → s ≡ t

-- these rows for one atom, and none for the others
abbrev pub only_rows : ℕ → List (List Value) → ℕ → List (List Value)
only_rows F rows G = if G == F then rows else []

-- a step has over a table the rows that it has over one of its shards alone, where the steps before it are those over all tables
abbrev pub IsSpread : Query → ℕ → Body → Type 0
IsSpread q F body =
    (tables : ℕ → List (List Value)) (before : List Step) (shards : List (List (List Value))) → AreShards (atom_key q F) (tables F) shards → (row : List Value) →
    Gives tables (StepHas tables (λ m x. ⊥) 0 before) body row ↔
    ((shard : List (List Value)) × Contains shards shard × Gives (only_rows F shard) (StepHas tables (λ m x. ⊥) 0 before) body row)

-- Each step of the query of a plan can be run on each machine that has some blocks of one of its tables, over all rows of the
-- steps before it: its rows are those of the machines together, each once.
abbrev pub SqlIsSpread : Type 0
SqlIsSpread = (q : Query) (plan : List ℕ) → IsPlanOf q plan → (s : Step) → Contains (sql_of q plan).steps s → (F : ℕ) × (F < length q.atoms) × IsSpread q F s.body

-- a choice of a group shows each row once: no two of its ends show one
abbrev pub EndsOnce : (ℕ → List (List Value)) → (ℕ → List Value → Type 0) → Group → Type 0
EndsOnce tables before group =
    (w u v : List (List Value)) → IsChoice tables before group.sources group.all group.only w → Ends tables before group.children w u → Ends tables before group.children w v →
    map (cell_value u) group.cells ≡ map (cell_value v) group.cells → u ≡ v

-- Where groups share rows, over any tables, a choice shows each row once: the names of the query see to it.
abbrev pub ChoicesEndOnce : Type 0
ChoicesEndOnce =
    (q : Query) (before : List Step) (group : Group) → AreNamedSteps q [] before → IsNamedBody q before (Shared group) → (tables : ℕ → List (List Value)) →
    EndsOnce tables (StepHas tables (λ m x. ⊥) 0 before) group

-- In a list of a group's choices, in which one may stand several times, as many show a row as there are choices just where each
-- of them shows it.
abbrev pub CountIsEach : Type 0
CountIsEach = (shows : List (List Value) → Bool) (choices : List (List (List Value))) → (length (filter shows choices) ≡ length choices) ↔ ((w : List (List Value)) → Contains choices w → shows w ≡ true)
