use Rattle.std.proofs.Common.{◌++◌, codes}
use Rattle.std.specs.Fmt.{decimal}
use Rattle.std.proofs.lemmas.Result.{on_ok_weaker}
use Rattle.reply_text.proofs.Pieces.{two_more}
use Rattle.reply_text.proofs.united.append_shares.Goals as goal

pub returns : goal.returns
returns c =
    let start = c.args.out.now.items in
    let one = codes "no sql parts " ++ decimal c.args.first in
    let both = one ++ codes " and " ++ decimal c.args.second in
    let then = two_more start c.append_numbered.new.out.items c.append_numbered-2.new.out.items one (codes " and ") (decimal c.args.second) c.in_ok-append_numbered.ensures c.in_ok-append_numbered-2.ensures in
    on_ok_weaker c.append_named.result (two_more start c.append_numbered-2.new.out.items c.append_named.new.out.items both (codes " share ") c.args.table.now then) c.append_named.ensures
