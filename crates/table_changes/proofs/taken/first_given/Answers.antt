use Rattle.std.proofs.Common.{rules}
use Rattle.std.proofs.lemmas.Fn.{always_returns_same}
use Rattle.table_changes.proofs.ByKey.{below, references_parted, first_shown}
use Rattle.table_changes.proofs.taken.first_given.Goals as goal

pub bounds-sorted-at : goal.bounds-sorted-at
bounds-sorted-at c =
    let key = c.args.key.now in
    let row = c.args.row.now in
    (first_shown key c.args.sorted.now row c.requires.ascending c.partition_point-at.result c.partition_point-at.ensures.bound
    (c.partition_point-at.ensures.partitioned (λ r. below key r.now row) (always_returns_same _ _ _ (λ a r f k. search rules)) (references_parted key c.args.sorted.now row c.requires.ascending))
    c.requires.there).0

pub returns : goal.returns
returns c =
    let key = c.args.key.now in
    let row = c.args.row.now in
    (first_shown key c.args.sorted.now row c.requires.ascending c.partition_point-at.result c.partition_point-at.ensures.bound
    (c.partition_point-at.ensures.partitioned (λ r. below key r.now row) (always_returns_same _ _ _ (λ a r f k. search rules)) (references_parted key c.args.sorted.now row c.requires.ascending))
    c.requires.there).1 c.index-sorted-at.result c.index-sorted-at.is
