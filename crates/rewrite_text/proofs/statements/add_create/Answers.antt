use Rattle.std.proofs.Common.{◌∙◌, ap, ◌++◌, refl, slice_get}
use Rattle.rewrite_text.specs.Texts.{certificate_create}
use Rattle.rewrite_text.proofs.Drafting.{ended_as, ended_over, over_more_so}
use Rattle.rewrite_text.proofs.Schemas.{is_schema, schema_create}
use Rattle.rewrite_text.proofs.statements.add_create.Goals as goal

pub returns-clause-ok : goal.returns-clause-ok
returns-clause-ok c =
    let db = c.args.db.now in
    let schema = c.schema.result.now in
    let create = schema_create db c.args.table schema (is_schema db c.args.table schema c.requires.there c.schema.ensures.is) in
    let text = c.in_ok-append_create.ensures ∙ ap (λ z. c.args.draft.now.out.items ++ z) create in
    ended_as (certificate_create (slice_get db c.args.table)) c.args.draft.now (record { out = c.append_create.new.out; start = c.args.draft.now.start }) c.end.new.self c.end.result c.requires.between text refl c.end.ensures.text c.end.ensures.between c.end.ensures.short c.end.ensures.whole

pub returns-clause-over : goal.returns-clause-over
returns-clause-over c =
    let db = c.args.db.now in
    let schema = c.schema.result.now in
    let create = schema_create db c.args.table schema (is_schema db c.args.table schema c.requires.there c.schema.ensures.is) in
    let text = c.in_ok-append_create.ensures ∙ ap (λ z. c.args.draft.now.out.items ++ z) create in
    over_more_so (ended_over (certificate_create (slice_get db c.args.table)) c.args.draft.now (record { out = c.append_create.new.out; start = c.args.draft.now.start }) c.requires.between text refl) c.end.result c.end.ensures.over
