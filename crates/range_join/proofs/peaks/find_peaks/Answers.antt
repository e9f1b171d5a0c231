use Rattle.range_join.proofs.Chosen.{if_ok, found-least, found-greatest}
use Rattle.range_join.proofs.peaks.find_peaks.Goals as goal

pub returns-in-Least : goal.returns-in-Least
returns-in-Least c =
    if_ok c.least_peaks.result _ _ (λ peaks h. found-least c.args.found.now.bound.now.db.now c.table_of-table.result _ _ c.args.look.way c.args.look.col c.in_ok-bests.bests.items c.deref.result.now c.table_of-table.ensures.table c.in-Least.is c.deref.ensures.value
    c.in_ok-bests.ensures.size c.in_ok-bests.ensures.best peaks h) c.least_peaks.ensures

pub returns : goal.returns
returns c =
    if_ok c.greatest_peaks.result _ _ (λ peaks h. found-greatest c.args.found.now.bound.now.db.now c.table_of-table.result _ _ c.args.look.way c.args.look.col c.in_ok-bests.bests.items c.deref-in-Greatest.result.now c.table_of-table.ensures.table c.in-Greatest.is c.deref-in-Greatest.ensures.value
    c.in_ok-bests.ensures.size c.in_ok-bests.ensures.best peaks h) c.greatest_peaks.ensures
