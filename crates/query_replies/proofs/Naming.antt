-- The names and the columns of tables.
use Rattle.std.proofs.Common.{◌≡◌, ℕ, zero, suc, ◌<◌, List, [], ◌∷◌, length, slice_get, ap, arith}
use Rattle.std.specs.Option.{IfSome}
use Rattle.cqa_model.specs.Database.{Table}
use Rattle.cqa_model.specs.declared.schema.Schema.{Schema}
use Rattle.query_resolve.specs.Names.{columns_at}
use Rattle.query_replies.specs.Names.{table_name_at}

-- the columns of a table are those of its schema
pub columned : (db : List Table) (table : ℕ) (schema : Schema) → table < length db → IfSome (slice_get db table) (λ t. schema ≡ t.schema) → schema.columns ≡ columns_at db table
columned [] table schema l is = absurd (omega (arith, l))
columned (t ∷ db) zero schema l is = ap (λ (s : Schema). s.columns) is
columned (t ∷ db) (suc table) schema l is = columned db table schema (omega (arith, l)) is

-- the name of a table is that of its schema
pub named : (db : List Table) (table : ℕ) (schema : Schema) → table < length db → IfSome (slice_get db table) (λ t. schema ≡ t.schema) → schema.name ≡ table_name_at db table
named [] table schema l is = absurd (omega (arith, l))
named (t ∷ db) zero schema l is = ap (λ (s : Schema). s.name) is
named (t ∷ db) (suc table) schema l is = named db table schema (omega (arith, l)) is
