use Rattle.std.proofs.Common.{◌∙◌, ◌++◌, ap, append_assoc, codes}
use Rattle.std.specs.List.{join_by}
use Rattle.cqa_value.specs.Literals.{row_bytes}
use Rattle.rewrite_text.specs.Texts.{atom_name, certificate_block}
use Rattle.rewrite_text.proofs.Drafting.{ended_as, ended_over, over_more_so, two_parts_over, refused_on}
use Rattle.rewrite_text.proofs.statements.add_block.Goals as goal

pub returns-clause-ok : goal.returns-clause-ok
returns-clause-ok c =
    let old = c.args.draft.now in
    let w = c.in_ok-append_block_rows.ensures.ok in
    let text = w.text ∙ ap (λ z. z ++ join_by row_bytes (codes ", ") c.args.block.now) c.in_ok-append_block_head.ensures ∙ append_assoc old.out.items (codes "block " ++ atom_name c.args.bound.now.db.now c.args.bound.now.query.now c.args.atom ++ codes " values ") (join_by row_bytes (codes ", ") c.args.block.now) in
    ended_as (certificate_block c.args.bound.now.db.now c.args.bound.now.query.now (record { atom = c.args.atom; rows = c.args.block.now })) old c.append_block_rows.new.draft c.end.new.self c.end.result c.requires text w.start c.end.ensures.text c.end.ensures.between c.end.ensures.short c.end.ensures.whole

pub returns-clause-over : goal.returns-clause-over
returns-clause-over c =
    let old = c.args.draft.now in
    let w = c.in_ok-append_block_rows.ensures.ok in
    let text = w.text ∙ ap (λ z. z ++ join_by row_bytes (codes ", ") c.args.block.now) c.in_ok-append_block_head.ensures ∙ append_assoc old.out.items (codes "block " ++ atom_name c.args.bound.now.db.now c.args.bound.now.query.now c.args.atom ++ codes " values ") (join_by row_bytes (codes ", ") c.args.block.now) in
    over_more_so (ended_over (certificate_block c.args.bound.now.db.now c.args.bound.now.query.now (record { atom = c.args.atom; rows = c.args.block.now })) old c.append_block_rows.new.draft c.requires text w.start) c.end.result c.end.ensures.over

pub returns-in_err-append_block_rows-clause-over : goal.returns-in_err-append_block_rows-clause-over
returns-in_err-append_block_rows-clause-over c =
    refused_on (two_parts_over (codes "block " ++ atom_name c.args.bound.now.db.now c.args.bound.now.query.now c.args.atom ++ codes " values ") (join_by row_bytes (codes ", ") c.args.block.now) c.args.draft.now c.append_block_head.new.out.items c.requires c.in_ok-append_block_head.ensures)
    c.from_residual-in_err-append_block_rows.result c.in_err-append_block_rows.field-0.0 c.from_residual-in_err-append_block_rows.ensures.1 c.in_err-append_block_rows.ensures.over
