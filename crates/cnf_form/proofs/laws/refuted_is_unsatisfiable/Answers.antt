use Rattle.cnf_form.proofs.Sound.{refutation_sound}
use Rattle.cnf_form.proofs.laws.refuted_is_unsatisfiable.Goals as goal

pub returns : goal.returns
returns c = refutation_sound
