-- `create`
use Rattle.std.specs.Prelude.{◌≡◌, ◌++◌, ◌∷◌, []}
use Rattle.cqa_model.specs.declared.schema.Schema.{Schema}
use Rattle.spj_syntax.specs.declared.tree.RawSchema.{RawSchema}
use Rattle.query_resolve.specs.Resolved.{IsSchemaOf}
use Rattle.reply_text.specs.declared.reply.Reply.{Reply}
use Rattle.reply_text.specs.declared.reply.Reply.TheVariants.{Created}
use Rattle.session_state.specs.State.{State, ChangesOnlyTables}

-- The table is made: it stands last, without rows.
pub record Creates (old : State) (raw : RawSchema) (reply : Reply) (new : State) : Type 0 where
  pub schema : Schema
  pub resolved : IsSchemaOf raw schema
  pub tables : new.tables ≡ old.tables ++ (record { schema = schema; rows = [] }) ∷ []
  pub others : ChangesOnlyTables old new
  pub replies : reply ≡ Created raw.name
