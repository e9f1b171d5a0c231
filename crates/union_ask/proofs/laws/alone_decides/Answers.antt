use Rattle.union_ask.proofs.Unions
use Rattle.union_ask.proofs.laws.alone_decides.Goals as goal

pub returns : goal.returns
returns c = Unions.alone_decides
