use Rattle.std.proofs.Common.{length}
use Rattle.range_join.specs.declared.carriers.Extreme.TheVariants.{Greatest}
use Rattle.range_join.specs.Peaks.{held_value}
use Rattle.range_groups.specs.Touched.{carried_at}
use Rattle.range_groups.proofs.Valued.{greatest-ends, carried-below, carried-peak}
use Rattle.range_groups.proofs.group_peaks.greatest_rows.Goals as goal

pub returns : goal.returns
returns c db table h =
    let col = c.args.col in
    let carriers = c.args.carriers.now in
    let n = length c.args.spans.now in
    greatest-ends db table h.parted (carried_at col carriers) n h.size (carried-below col n carriers c.requires.carriers) (held_value col c.surest_of.result) (held_value col c.furthest_of.result) (c.surest_of.ensures db table h)
    (carried-peak col n carriers c.requires.carriers Greatest (held_value col c.furthest_of.result) c.furthest_of.ensures)
