-- Statements that change tables go on.
use Rattle.std.specs.Prelude.{◌≡◌, ℕ, List, All, Option, None}
use Rattle.cqa_value.specs.declared.value.Value.{Value}
use Rattle.cqa_value.specs.Valid.{IsValidRow}
use Rattle.spj_syntax.specs.declared.tree.Change.{Change}
use Rattle.spj_syntax.specs.declared.tree.RawSchema.{RawSchema}
use Rattle.spj_syntax.specs.declared.tree.RawTest.{RawTest}
use Rattle.spj_syntax.specs.Written.{HasKey}
use Rattle.query_resolve.specs.Checks.{schema_fault}
use Rattle.reply_text.specs.declared.reply.Reply.{Reply}
use Rattle.session_state.specs.State.{State, IsState}
use Rattle.session_state.specs.Create.{Creates}
use Rattle.session_state.specs.Alter.{alter_fault, Alters}
use Rattle.session_state.specs.Insert.{insert_into_fault, InsertsInto}
use Rattle.session_state.specs.Delete.{delete_from_fault, DeletesFrom}
use Rattle.session_state.specs.Prefer.{prefer_fault, PrefersIn}
use Rattle.session_state.specs.Copy.{copy_into_fault, CopiesInto}

-- There are a reply that may be given and a valid state to go on to.
abbrev pub GoesOnTo : (Reply → State → Type 0) → Type 0
GoesOnTo May = (reply : Reply) × (new : State) × (May reply new × IsState new)

-- The law: a `create` of which no check fails makes a table.
abbrev pub CreatesGoOn : Type 0
CreatesGoOn = (old : State) (raw : RawSchema) → IsState old → schema_fault old.tables raw ≡ None → GoesOnTo (Creates old raw)

-- The law: an `alter` of which no check fails changes a table. A key that it sets has a column, as each one has that can be written.
abbrev pub AltersGoOn : Type 0
AltersGoOn = (old : State) (name : List ℕ) (change : Change) → IsState old → HasKey change → alter_fault old.tables name change ≡ None → GoesOnTo (Alters old name change)

-- The law: an `insert` of which no check fails puts its rows into a table. Their values are valid, as all are that can be written.
abbrev pub InsertsGoOn : Type 0
InsertsGoOn = (old : State) (name : List ℕ) (rows : List (List Value)) → IsState old → All IsValidRow rows → insert_into_fault old.tables name rows ≡ None → GoesOnTo (InsertsInto old name rows)

-- The law: a `delete` of which no check fails takes rows from a table.
abbrev pub DeletesGoOn : Type 0
DeletesGoOn = (old : State) (name : List ℕ) (raw : List RawTest) → IsState old → delete_from_fault old.tables name raw ≡ None → GoesOnTo (DeletesFrom old name raw)

-- The law: a `prefer` of which no check fails takes rows from a table.
abbrev pub PrefersGoOn : Type 0
PrefersGoOn = (old : State) (name : List ℕ) (raw : List RawTest) → IsState old → prefer_fault old.tables name raw ≡ None → GoesOnTo (PrefersIn old name raw)

-- The law: a `copy` whose table is there puts the rows of its block into it, or refuses the block.
abbrev pub CopiesGoOn : Type 0
CopiesGoOn = (old : State) (name : List ℕ) (block : Option (List ℕ)) → IsState old → copy_into_fault old.tables name ≡ None → GoesOnTo (CopiesInto old name block)
