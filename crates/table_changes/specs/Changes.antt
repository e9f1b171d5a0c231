-- What tables take and what they refuse: rows that are put in, a mark that is set, another key.
use Rattle.std.specs.Prelude.{◌≡◌, ◌+◌, ℕ, Bool, nat_le, ◌||◌, if◌then◌else◌, List, [], ◌∷◌, Option, Some, None}
use Rattle.std.specs.List.{list_any}
use Rattle.cqa_value.specs.declared.value.Value.{Value}
use Rattle.cqa_value.specs.Values.{row_eq}
use Rattle.cqa_model.specs.declared.limits.TheConstants.{MOST_ROWS}
use Rattle.cqa_model.specs.Database.{Table, row_total}
use Rattle.refusals.specs.declared.refusal.Refusal.{Refusal}
use Rattle.refusals.specs.declared.refusal.Refusal.TheVariants.{KeyBroken, Limit}
use Rattle.refusals.specs.declared.refusal.LimitKind.TheVariants.{Rows}
use Rattle.refusals.specs.Refusal.{first_of}
use Rattle.refusals.specs.Kinds.{rows_fault}
use Rattle.table_blocks.specs.declared.clash.Clash.{Clash}
use Rattle.table_blocks.specs.Keys.{first_clash}
use Rattle.table_blocks.specs.Tables.{rows_at, key_at, mark_at, kinds_at, with_rows, IsMerged, rekey_clash}
use Rattle.table_changes.specs.Taken.{taken_fault}

abbrev pub is_among : List (List Value) → List Value → Bool
is_among rows row = list_any (row_eq row) rows

-- how many of the given rows aren't stored, each counted once
abbrev pub count_new : List (List Value) → List (List Value) → ℕ
count_new stored [] = 0
count_new stored (row ∷ rows) = (if is_among stored row || is_among rows row then 0 else 1) + count_new stored rows

-- the database would have more than `MOST_ROWS` rows
abbrev pub limit_fault : List Table → ℕ → List (List Value) → Option Refusal
limit_fault db table rows = if nat_le (row_total db + count_new (rows_at db table) rows) MOST_ROWS then None else Some (Limit Rows)

-- the table is strict, and a row shares its key with a different one that is stored or stands before it
abbrev pub strict_key_fault : List Table → ℕ → List (List Value) → Option Refusal
strict_key_fault db table rows = if mark_at db table then taken_fault (key_at db table) (rows_at db table) 1 rows else None

-- the first check that fails where rows are put into a table
abbrev pub insert_fault : List Table → ℕ → List (List Value) → Option Refusal
insert_fault db table rows = first_of (rows_fault (kinds_at db table) 1 rows) (first_of (strict_key_fault db table rows) (limit_fault db table rows))

-- two rows share a key of which there should be one
abbrev pub broken_by : Option Clash → Option Refusal
broken_by None = None
broken_by (Some clash) = Some (KeyBroken clash.first clash.second)

-- the table would be strict, and rows share its key
abbrev pub strict_fault : List Table → ℕ → Option Refusal
strict_fault db table = broken_by (first_clash (key_at db table) (rows_at db table))

-- the table is strict, and rows share the key that it would have
abbrev pub rekey_fault : List Table → ℕ → List ℕ → Option Refusal
rekey_fault db table key = broken_by (rekey_clash db table key)

-- rows are put into a table: it has its old rows and the given ones, and so many of these are new
pub record Inserts (old : List Table) (table : ℕ) (given : List (List Value)) (new : List Table) (count : ℕ) : Type 0 where
  pub rows : List (List Value)
  pub merged : IsMerged (key_at old table) (rows_at old table) given rows
  pub changed : new ≡ with_rows old table rows
  pub count_is : count ≡ count_new (rows_at old table) given
