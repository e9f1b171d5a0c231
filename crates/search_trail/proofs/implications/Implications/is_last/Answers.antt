use Rattle.std.proofs.Common.{arith}
use Rattle.search_trail.specs.Trail.{held}
use Rattle.search_trail.proofs.Works.{held_at}
use Rattle.search_trail.proofs.Marking.{last_seen, read_true}
use Rattle.search_trail.proofs.Walking.{entry_at, entry_in, no_entry}
use Rattle.search_trail.proofs.implications.Implications.is_last.Goals as goal

pub index-requires : goal.index-requires
index-requires c =
    let r = entry_in c.args.self.now c.args.marks.now c.args.at c.requires.marks c.requires.at in
    omega (arith, r, c.args.marks.now.seen.ok)

pub returns-then-marks-le1 : goal.returns-then-marks-le1
returns-then-marks-le1 c e =
    let g = c.args.self.now in
    let m = c.args.marks.now in
    let x = (entry_at g c.args.at).lit in
    last_seen (held g.trail.now) g.start c.args.at m.seen.items m.left x c.requires.after (held_at g.trail.now c.args.at no_entry c.requires.at)
    (read_true m.seen.items x.var _ (entry_in g m c.args.at c.requires.marks c.requires.at) c.index.ensures e) c.if-marks-le1.true c.requires.few
