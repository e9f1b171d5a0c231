use Rattle.join_access.specs.Listing.{names_of}
use Rattle.row_lists.specs.Classes.{AreClosed}
use Rattle.list_search.specs.Scopes.{columns_of}
use Rattle.list_search.specs.Judging.{IsJudged}
use Rattle.part_search.proofs.Parts.{not-over-lists}
use Rattle.part_search.proofs.Verdicts.{verdict-of}
use Rattle.part_search.proofs.Over.{of-lists, to-lists}
use Rattle.part_search.proofs.Forced.{closed_by_parts}
use Rattle.part_search.proofs.judging.judge_lists.Goals as goal

pub judge-judged-requires-clause-closed : goal.judge-judged-requires-clause-closed
judge-judged-requires-clause-closed c =
    let parts = c.args.parts.now in
    let lists = c.in_ok-lists.lists in
    let same = c.in_ok-lists.ensures in
    to-lists (λ db frame all. AreClosed db (columns_of c.args.scope.now) all) parts.db.now lists.db.now c.args.scope.now.frame lists.frame.now c.args.lists.now lists.lists.now same.0 same.1 same.2
    (closed_by_parts parts.db.now parts.queries.now c.args.row.now (names_of c.args.lists.now) (columns_of c.args.scope.now) parts.parts.fits c.requires.scope.spoken c.requires.names)

pub returns : goal.returns
returns c =
    let parts = c.args.parts.now in
    let lists = c.in_ok-lists.lists in
    let same = c.in_ok-lists.ensures in
    verdict-of parts.db.now parts.queries.now c.args.row.now (names_of c.args.lists.now) c.requires.names parts.parts.fits
    (not-over-lists parts.db.now c.args.row.now parts.queries.now c.args.lists.now c.requires.names c.requires.few) c.args.scope.now.frame.tables c.args.budget c.in_ok-judged.field-0 c.verdict_of.result
    (of-lists (λ db frame all. IsJudged db frame all c.args.budget c.in_ok-judged.field-0) parts.db.now lists.db.now c.args.scope.now.frame lists.frame.now c.args.lists.now lists.lists.now same.0 same.1 same.2 c.in_ok-judged.ensures)
    c.verdict_of.ensures
