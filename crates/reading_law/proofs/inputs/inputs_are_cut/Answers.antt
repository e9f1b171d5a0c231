use Rattle.reading_law.proofs.Cutting.{inputs_are_cut}
use Rattle.reading_law.proofs.inputs.inputs_are_cut.Goals as goal

pub returns : goal.returns
returns c = inputs_are_cut
