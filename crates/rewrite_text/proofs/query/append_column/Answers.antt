use Rattle.std.proofs.Common.{◌∙◌, ap, sym}
use Rattle.std.proofs.lemmas.Result.{on_ok_weaker}
use Rattle.cqa_model.specs.declared.schema.Column.{Column}
use Rattle.rewrite_text.proofs.Schemas.{column_written}
use Rattle.rewrite_text.proofs.query.append_column.Goals as goal

pub returns : goal.returns
returns c =
    let db = c.args.bound.now.db.now in
    let q = c.args.bound.now.query.now in
    on_ok_weaker c.append-3.result (λ e. column_written q db c.args.column c.schema_of-schema.result.now c.args.bound.now.fits c.requires c.schema_of-schema.ensures
    c.args.out.now.items c.append.new.out.items c.append-2.new.out.items c.append-3.new.out.items c.as_str.result.now c.as_str-2.result.now c.as_slice.result.now c.index-as_slice-column.result
    c.as_slice.ensures c.index-as_slice-column.is c.as_str.ensures.is (c.as_str-2.ensures.is ∙ sym (ap (λ (z : Column). z.name) c.index-as_slice-column.is)) c.in_ok-append.ensures c.in_ok-append-2.ensures e) c.append-3.ensures
