use Rattle.csv_rows.proofs.OneWay.{in_one_way}
use Rattle.csv_rows.proofs.laws.a_block_reads_in_one_way.Goals as goal

pub returns : goal.returns
returns c = in_one_way
