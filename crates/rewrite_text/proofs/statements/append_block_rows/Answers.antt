use Rattle.std.proofs.Common.{◌≡◌, ◌∷◌, ◌++◌, ◌∙◌, ap, codes, refl, rules, sym}
use Rattle.std.specs.List.{flat_map, join_by}
use Rattle.cqa_value.specs.Literals.{row_bytes}
use Rattle.rewrite_text.proofs.Drafting.{two_parts, writes_as, over_as}
use Rattle.rewrite_text.proofs.statements.append_block_rows.Goals as goal

pub returns-clause-ok : goal.returns-clause-ok
returns-clause-ok c =
    let e : c.args.block.now ≡ c.in-Some.first.now ∷ c.in-Some.rest = search rules in
    let old = c.args.draft.now in
    let rest = flat_map (λ row. codes ", " ++ row_bytes row) c.in-Some.rest in
    writes_as rest (join_by row_bytes (codes ", ") c.args.block.now) old (record { out = c.row_text.new.out; start = old.start }) c.append_more_rows.new.draft c.append_more_rows.result
    (two_parts old.out.items (row_bytes c.in-Some.first.now) rest c.row_text.new.out.items (c.row_text.new.out.items ++ rest) c.in_ok-row_text.ensures.ok refl ∙ ap (λ z. old.out.items ++ join_by row_bytes (codes ", ") z) (sym e)) refl c.append_more_rows.ensures.ok

pub returns-clause-over : goal.returns-clause-over
returns-clause-over c =
    let e : c.args.block.now ≡ c.in-Some.first.now ∷ c.in-Some.rest = search rules in
    let old = c.args.draft.now in
    let rest = flat_map (λ row. codes ", " ++ row_bytes row) c.in-Some.rest in
    over_as rest (join_by row_bytes (codes ", ") c.args.block.now) old (record { out = c.row_text.new.out; start = old.start }) c.append_more_rows.result
    (two_parts old.out.items (row_bytes c.in-Some.first.now) rest c.row_text.new.out.items (c.row_text.new.out.items ++ rest) c.in_ok-row_text.ensures.ok refl ∙ ap (λ z. old.out.items ++ join_by row_bytes (codes ", ") z) (sym e)) refl c.append_more_rows.ensures.over
