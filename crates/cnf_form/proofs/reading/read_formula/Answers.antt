use Rattle.cnf_form.proofs.RoundTrip.{reads_back}
use Rattle.cnf_form.proofs.reading.read_formula.Goals as goal

pub returns : goal.returns
returns c = record { exact = c.read_parts.ensures; reads_written = λ cnf log w e. reads_back cnf log c.args.bytes.now c.read_parts.result c.read_parts.ensures w e }
