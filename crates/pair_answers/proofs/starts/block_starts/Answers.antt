use Rattle.std.proofs.Common.{arith, [], ◌∷◌, ◌++◌, ap, ◌∙◌}
use Rattle.pair_answers.proofs.RowStarts.{row-starts}
use Rattle.pair_answers.proofs.starts.block_starts.Goals as goal

pub returns-clause-starts : goal.returns-clause-starts
returns-clause-starts c = row-starts c.args.pair.now.bound.now.db.now c.args.pair.now.bound.now.query.now c.args.pair.now.bound.now.fits c.args.pair.now.two c.table_of.result c.table_of-2.result c.in_ok-middle.middle c.len.result c.push.new.self.items c.append_ends.new.ends.items c.append_ends-2.new.ends.items
    c.table_of.ensures.table c.table_of-2.ensures.table (c.in_ok-push.ensures.items ∙ ap (λ z. z ++ 0 ∷ []) c.new-first.ensures.items) c.in_ok-middle.ensures.ends c.in_ok-middle.ensures.end (omega (arith, c.len.ensures, c.append_ends.new.ends.ok)) c.in_ok-append_ends.ensures.ends
