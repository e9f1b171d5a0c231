use Rattle.reading_law.proofs.Storing.{statements_are_storable}
use Rattle.reading_law.proofs.texts.statements_are_storable.Goals as goal

pub returns : goal.returns
returns c = statements_are_storable
