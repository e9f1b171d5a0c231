-- A certificate that is being written.
use Rattle.std.specs.Prelude.{◌≡◌, ◌⊎◌, ◌<◌, ◌≤◌, ◌+◌, ℕ, List, ◌++◌, length, Contains, Some, slice_get}
use Rattle.cqa_value.specs.declared.memory.Fail.{Fail}
use Rattle.cqa_value.specs.declared.memory.Fail.TheVariants.{NoMemory, Refused}
use Rattle.cqa_model.specs.declared.query.Cond.{Cond}
use Rattle.cqa_model.specs.declared.query.ColRef.{ColRef}
use Rattle.cqa_model.specs.declared.query.Query.{Query}
use Rattle.cqa_model.specs.declared.schema.Schema.{Schema}
use Rattle.cqa_model.specs.Database.{Table}
use Rattle.cqa_model.specs.Shape.{IsInRange, columns_of}
use Rattle.script_lex.specs.declared.lexer.TheConstants.{LONGEST_TEXT}
use Rattle.rewrite_text.specs.declared.draft.Draft.{Draft}
use Rattle.rewrite_text.specs.declared.draft.TooLong.{TooLong}
use Rattle.rewrite_text.specs.declared.draft.TheConstants.{LONGEST_CERTIFICATE}
use Rattle.rewrite_text.specs.Texts.{statements_bytes}

-- what stands behind the place where a statement begins is longer than a statement may be, or the whole is too long
abbrev pub Overruns : List ℕ → ℕ → Type 0
Overruns bytes start = (start + LONGEST_TEXT < length bytes) ⊎ (LONGEST_CERTIFICATE < length bytes)

-- a part of a statement is written
pub record Writes (part : List ℕ) (old new : Draft) : Type 0 where
  pub text : new.out.items ≡ old.out.items ++ part
  pub start : new.start ≡ old.start

-- no statement is begun
abbrev pub IsBetween : Draft → Type 0
IsBetween draft = draft.start ≡ length draft.out.items

-- whole statements are written, and no text is too long by them
pub record AddsStatements (statements : List (List ℕ)) (old new : Draft) : Type 0 where
  pub text : new.out.items ≡ old.out.items ++ statements_bytes statements
  pub between : IsBetween new
  pub short : (statement : List ℕ) → Contains statements statement → length statement ≤ LONGEST_TEXT
  pub whole : length old.out.items ≤ LONGEST_CERTIFICATE → length new.out.items ≤ LONGEST_CERTIFICATE

-- a statement is longer than one may be, or all of them are behind so many bytes
abbrev pub IsTooLongBehind : ℕ → List (List ℕ) → Type 0
IsTooLongBehind before statements =
    ((statement : List ℕ) × Contains statements statement × (LONGEST_TEXT < length statement)) ⊎ (LONGEST_CERTIFICATE < before + length (statements_bytes statements))

-- the table at a place has this schema
pub record IsSchemaAt (db : List Table) (table : ℕ) (schema : Schema) : Type 0 where
  pub stored : Table
  pub found : slice_get db table ≡ Some stored
  pub is : schema ≡ stored.schema

-- columns of a query's atoms
abbrev pub AreColumnsOf : Query → List ColRef → Type 0
AreColumnsOf q columns = (c : ColRef) → Contains columns c → IsInRange q.atoms c

-- a condition on columns of a query's atoms
abbrev pub IsConditionOf : Query → Cond → Type 0
IsConditionOf q condition = AreColumnsOf q (columns_of condition)

abbrev pub AreConditionsOf : Query → List Cond → Type 0
AreConditionsOf q conditions = (condition : Cond) → Contains conditions condition → IsConditionOf q condition

-- a refusal is right only where this is so; want of memory says nothing
abbrev pub RefusesBy : Type 0 → Fail TooLong → Type 0
RefusesBy Reason NoMemory = Unit {0}
RefusesBy Reason (Refused fault) = Reason
