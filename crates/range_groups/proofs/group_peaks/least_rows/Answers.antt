use Rattle.std.proofs.Common.{length, subst}
use Rattle.range_ask.specs.Ranges.{cell}
use Rattle.range_join.specs.declared.carriers.Extreme.TheVariants.{Least, Greatest}
use Rattle.range_join.specs.Firsts.{spans_at}
use Rattle.range_join.specs.Peaks.{held_value, IsPeak}
use Rattle.range_groups.specs.Touched.{carried_at, IsSure}
use Rattle.range_groups.proofs.Valued.{sure-ends, loose-ends, carried-below, carried-peak}
use Rattle.range_groups.proofs.group_peaks.least_rows.Goals as goal

pub returns-in-Some : goal.returns-in-Some
returns-in-Some c db table h =
    let col = c.args.col in
    let carriers = c.args.carriers.now in
    let n = length c.args.spans.now in
    sure-ends db table h.parted (carried_at col carriers) n h.size (carried-below col n carriers c.requires.carriers) (cell c.in-Some.row.now col) (held_value col c.furthest_of.result)
    (subst (λ o. IsPeak Least (IsSure Least (carried_at col carriers) (spans_at db table)) (held_value col o)) c.in-Some.is (c.surest_of.ensures db table h))
    (carried-peak col n carriers c.requires.carriers Least (held_value col c.furthest_of.result) c.furthest_of.ensures)

pub returns-in-None : goal.returns-in-None
returns-in-None c db table h =
    let col = c.args.col in
    let carriers = c.args.carriers.now in
    let n = length c.args.spans.now in
    loose-ends db table h.parted (carried_at col carriers) n h.size (carried-below col n carriers c.requires.carriers) (held_value col c.furthest_of-in-None.result)
    (subst (λ o. IsPeak Least (IsSure Least (carried_at col carriers) (spans_at db table)) (held_value col o)) c.in-None.is (c.surest_of.ensures db table h))
    (carried-peak col n carriers c.requires.carriers Greatest (held_value col c.furthest_of-in-None.result) c.furthest_of-in-None.ensures)
