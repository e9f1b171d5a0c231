use Rattle.reading_law.proofs.Parsing.{shapes_decide}
use Rattle.reading_law.proofs.texts.shapes_decide.Goals as goal

pub returns : goal.returns
returns c = shapes_decide
