use Rattle.std.proofs.Common.{false, ◌∙◌}
use Rattle.std.proofs.lemmas.List.{get_or_default}
use Rattle.weak_pairs.proofs.matching.Matching.is_taken.Goals as goal

pub returns : goal.returns
returns c = c.index.ensures ∙ get_or_default c.args.self.now.taken.items c.args.edge c.index.result.now false c.requires
