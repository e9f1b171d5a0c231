use Rattle.std.proofs.Common.{◌-◌, length, take, rules}
use Rattle.row_pieces.proofs.Joining.{split_last}
use Rattle.row_pieces.proofs.pieces.Pieces.last.Goals as goal

pub returns-in-None-2-clause-some : goal.returns-in-None-2-clause-some
returns-in-None-2-clause-some c = (take (length c.args.self.now - 1) c.args.self.now, split_last c.args.self.now c.get.result.now (search rules))
