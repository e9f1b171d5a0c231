use Rattle.std.proofs.Common.{◌≡◌, ◌∙◌, slice_index_or}
use Rattle.std.proofs.lemmas.List.{get_or_default}
use Rattle.reply_text.specs.Texts.{sql_part_text}
use Rattle.reply_text.proofs.Pieces.{one_more_numbered}
use Rattle.reply_text.proofs.united.append_sql_parts.Goals as goal

pub loop-before-preserved : goal.loop-before-preserved
loop-before-preserved c =
    let texts = c.args.texts.now in
    let at = c.loop-before.before in
    let text = c.as_slice.result.now in
    let is : text ≡ slice_index_or texts at text = c.as_slice.ensures ∙ c.index-texts-before.is ∙ get_or_default texts at c.index-texts-before.result text c.loop-before-test.true in
    one_more_numbered sql_part_text c.args.out.now.items c.loop-before.out.items c.append_sql_part.new.out.items texts at text c.loop-before-test.true is c.loop-before.invariant c.in_ok-append_sql_part.ensures
