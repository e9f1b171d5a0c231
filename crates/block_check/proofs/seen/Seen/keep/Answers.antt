use Rattle.std.proofs.Common.{Some}
use Rattle.block_check.proofs.Keys.{kept_others}
use Rattle.block_check.proofs.seen.Seen.keep.Goals as goal

pub returns-clause-others : goal.returns-clause-others
returns-clause-others c = kept_others c.args.self.now.known c.insert.new.self c.args.key (Some c.args.at) c.in_ok-insert.ensures.updates
