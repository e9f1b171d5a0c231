-- The lines of tables.
use Rattle.std.proofs.Common.{◌≡◌, ℕ, zero, suc, ◌<◌, ◌+◌, List, [], ◌∷◌, ◌++◌, length, take, slice_get, ap, subst, ◌∙◌, arith}
use Rattle.std.specs.List.{AllZip}
use Rattle.std.specs.Option.{IfSome}
use Rattle.cqa_model.specs.Database.{Table}
use Rattle.cqa_model.specs.Blocks.{HasBlocks}
use Rattle.cqa_model.specs.declared.schema.Schema.{Schema}
use Rattle.table_blocks.specs.Tables.{rows_at, key_at}
use Rattle.row_blocks.specs.Conflicts.{HasConflicts}
use Rattle.reply_text.specs.declared.reply.ConflictLine.{ConflictLine}
use Rattle.reply_text.specs.declared.reply.TableLine.{TableLine}
use Rattle.session_state.specs.ShowTables.{IsTableLine}
use Rattle.session_state.specs.ShowConflicts.{IsConflictLine}

pub line_at : (db : List Table) (at : ℕ) (line : TableLine) (schema : Schema) → at < length db → IfSome (slice_get db at) (λ t. schema ≡ t.schema) → line.schema ≡ schema → line.rows ≡ length (rows_at db at) →
    HasBlocks (key_at db at) (rows_at db at) line.blocks → IfSome (slice_get db at) (λ t. IsTableLine t line)
line_at [] at line schema l is same rows blocks = absurd (omega (arith, l))
line_at (t ∷ db) zero line schema l is same rows blocks = record { schema = same ∙ is; rows = rows; blocks = blocks }
line_at (t ∷ db) (suc at) line schema l is same rows blocks = line_at db at line schema (omega (arith, l)) is same rows blocks

pub conflicts_at : (db : List Table) (at : ℕ) (line : ConflictLine) (schema : Schema) → at < length db → IfSome (slice_get db at) (λ t. schema ≡ t.schema) → line.name ≡ schema.name → line.rows ≡ length (rows_at db at) →
    HasBlocks (key_at db at) (rows_at db at) line.blocks → HasConflicts (key_at db at) (rows_at db at) line.conflicts → IfSome (slice_get db at) (λ t. IsConflictLine t line)
conflicts_at [] at line schema l is same rows blocks conflicts = absurd (omega (arith, l))
conflicts_at (t ∷ db) zero line schema l is same rows blocks conflicts = record { name = same ∙ ap (λ s. s.name) is; rows = rows; blocks = blocks; conflicts = conflicts }
conflicts_at (t ∷ db) (suc at) line schema l is same rows blocks conflicts = conflicts_at db at line schema (omega (arith, l)) is same rows blocks conflicts

-- lines of one kind, one for each table
module _ {Line : Type 0} (Is : Table → Line → Type 0) where
  one_more : (db : List Table) (lines : List Line) (at : ℕ) (line : Line) → at < length db → AllZip Is (take at db) lines → IfSome (slice_get db at) (λ t. Is t line) →
      AllZip Is (take (suc at) db) (lines ++ line ∷ [])
  one_more [] lines at line l h is = absurd (omega (arith, l))
  one_more (t ∷ db) [] zero line l h is = (is, tt)
  one_more (t ∷ db) (x ∷ lines) zero line l h is = absurd h
  one_more (t ∷ db) [] (suc at) line l h is = absurd h
  one_more (t ∷ db) (x ∷ lines) (suc at) line l h is = (h.0, one_more db lines at line (omega (arith, l)) h.1 is)

  -- the line of the next table
  pub next_line : (db : List Table) (lines : List Line) (at : ℕ) (line : Line) → at < length db → AllZip Is (take at db) lines → IfSome (slice_get db at) (λ t. Is t line) →
      AllZip Is (take (at + 1) db) (lines ++ line ∷ [])
  next_line db lines at line l h is = let count : suc at ≡ at + 1 = omega arith in subst (λ n. AllZip Is (take n db) (lines ++ line ∷ [])) count (one_more db lines at line l h is)
