use Rattle.std.proofs.Common.{rules}
use Rattle.lrat_check.proofs.RoundTrip.{reads_back}
use Rattle.lrat_check.proofs.reading.read_log.Goals as goal

pub returns : goal.returns
returns c = record {
  exact = c.read_steps.ensures;
  reads_written = λ log w e. reads_back c.args.vars log c.args.bytes.now c.read_steps.result (search rules) c.read_steps.ensures w e;
}
