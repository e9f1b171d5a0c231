use Rattle.std.proofs.Common.{◌++◌, codes}
use Rattle.std.specs.Fmt.{decimal}
use Rattle.std.proofs.lemmas.Result.{on_ok_weaker}
use Rattle.reply_text.proofs.Pieces.{two_more}
use Rattle.reply_text.proofs.contested.append_conflict.Goals as goal

pub returns : goal.returns
returns c =
    let line = c.args.line.now in
    let start = c.args.out.now.items in
    let rows = line.name ++ codes " rows " ++ decimal line.rows in
    let blocks = rows ++ codes " blocks " ++ decimal line.blocks in
    let now = two_more start c.append_name.new.out.items c.append_numbered.new.out.items line.name (codes " rows ") (decimal line.rows) c.in_ok-append_name.ensures c.in_ok-append_numbered.ensures in
    let then = two_more start c.append_numbered.new.out.items c.append_numbered-2.new.out.items rows (codes " blocks ") (decimal line.blocks) now c.in_ok-append_numbered-2.ensures in
    on_ok_weaker c.append_numbered-3.result (two_more start c.append_numbered-2.new.out.items c.append_numbered-3.new.out.items blocks (codes " conflicts ") (decimal line.conflicts) then) c.append_numbered-3.ensures
