use Rattle.reading_law.proofs.Trees.{statements_have_trees}
use Rattle.reading_law.proofs.texts.statements_have_trees.Goals as goal

pub returns : goal.returns
returns c = statements_have_trees
