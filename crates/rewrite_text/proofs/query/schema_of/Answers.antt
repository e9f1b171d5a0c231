use Rattle.std.proofs.Common.{◌≡◌, ◌<◌, IfSome, length, slice_get, subst}
use Rattle.cqa_model.specs.Database.{Table}
use Rattle.cqa_model.specs.Query.{atom_at}
use Rattle.rewrite_text.proofs.Schemas.{is_schema}
use Rattle.rewrite_text.proofs.query.schema_of.Goals as goal

pub returns : goal.returns
returns c =
    let db = c.args.bound.now.db.now in
    let q = c.args.bound.now.query.now in
    let schema = c.schema.result.now in
    let is = subst (λ t. IfSome (slice_get db t) (λ (table : Table). schema ≡ table.schema)) c.table_of.ensures.table c.schema.ensures.is in
    is_schema db (atom_at q c.args.atom).table schema (subst (λ t. t < length db) c.table_of.ensures.table c.table_of.ensures.there) is
