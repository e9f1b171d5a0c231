use Rattle.row_lists.proofs.Classes
use Rattle.row_lists.proofs.laws.classes_of_names.Goals as goal

pub returns : goal.returns
returns c = Classes.classes_of_names
