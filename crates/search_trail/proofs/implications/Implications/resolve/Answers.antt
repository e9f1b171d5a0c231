use Rattle.std.proofs.Common.{arith}
use Rattle.cqa_value.proofs.Words.{clash}
use Rattle.search_trail.specs.Trail.{held}
use Rattle.search_trail.proofs.Works.{At-get_or}
use Rattle.search_trail.proofs.Marking.{at_most_past, read_false}
use Rattle.search_trail.proofs.Reasons.{reason_in}
use Rattle.search_trail.proofs.Walking.{walked_few, entry_in, no_entry, works_cited, works_past}
use Rattle.search_trail.proofs.implications.Implications.resolve.Goals as goal

pub index-requires : goal.index-requires
index-requires c =
    let r = entry_in c.args.self.now c.args.marks.now c.args.at c.requires.walked.marks c.requires.at in
    omega (arith, r, c.args.marks.now.seen.ok)

pub returns-then-not-index : goal.returns-then-not-index
returns-then-not-index c =
    let g = c.args.self.now in
    let m = c.args.marks.now in
    record {
      marks = c.requires.walked.marks;
      few = at_most_past (held g.trail.now) g.start c.args.at m.seen.items m.left c.requires.walked.few;
      works = works_past g m.seen.items _ c.args.at _ c.requires.at (λ seen. clash _ seen (read_false m.seen.items _ _ c.index.ensures c.if-not-index.true)) c.requires.walked.works;
    }

pub overflow_sub-marks : goal.overflow_sub-marks
overflow_sub-marks c = (walked_few c.args.self.now c.args.at c.args.marks.now c.args.hints.now.items _ c.requires.at c.requires.after c.requires.walked c.index.ensures c.if-not-index.false).0

pub cite-requires-clause-index : goal.cite-requires-clause-index
cite-requires-clause-index c =
    let g = c.args.self.now in
    reason_in g.clauses.now g.trail.now c.args.at _ g.reasons (At-get_or g.trail.now c.args.at no_entry c.requires.at) _ c.in-Some.is

pub returns-in_ok-cite : goal.returns-in_ok-cite
returns-in_ok-cite c =
    let g = c.args.self.now in
    let m = c.args.marks.now in
    let hints = c.args.hints.now.items in
    let more = c.in_ok-cite.ensures.more in
    record {
      marks = more.marks;
      few = more.counted c.args.at (walked_few g c.args.at m hints _ c.requires.at c.requires.after c.requires.walked c.index.ensures c.if-not-index.false).1;
      works = works_cited g m.seen.items _ _ c.args.at c.in-Some.reason hints _ c.requires.at c.in-Some.is more.grow c.in_ok-cite.ensures.seen c.in_ok-cite.ensures.hint c.requires.walked.works;
    }
