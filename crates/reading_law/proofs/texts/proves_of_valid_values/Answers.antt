use Rattle.reading_law.proofs.Storing.{proves_of_valid_values}
use Rattle.reading_law.proofs.texts.proves_of_valid_values.Goals as goal

pub returns : goal.returns
returns c = proves_of_valid_values
