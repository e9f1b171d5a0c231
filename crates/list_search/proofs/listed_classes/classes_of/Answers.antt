use Rattle.std.proofs.Common.{rules, ◌≡◌, length, subst, arith}
use Rattle.join_access.specs.Listing.{names_of}
use Rattle.row_lists.specs.Lists.{IsIn}
use Rattle.row_lists.specs.Formulas.{name_in}
use Rattle.row_lists.specs.Spans.{at, variables_of_spans}
use Rattle.list_search.specs.Quotients.{Agree, AreClassedTo}
use Rattle.list_search.proofs.Marking.{classed-none}
use Rattle.list_search.proofs.SingleRows.{long}
use Rattle.list_search.proofs.listed_classes.classes_of.Goals as goal

pub returns : goal.returns
returns c =
    let l = c.args.lists.now in
    let e : c.loop-slot.slot ≡ length l.frame.now.tables = omega arith in
    subst (λ n. AreClassedTo l.db.now l.frame.now.tables c.args.scope.now.columns (variables_of_spans c.args.numbered.now.spans) (names_of l.lists.now) n c.loop-slot.classes.items) e c.loop-slot.invariant

pub loop-slot-init : goal.loop-slot-init
loop-slot-init c =
    let l = c.args.lists.now in
    let size = c.in_ok-resize.ensures.len in
    let same = long c.args.numbered.now.spans c.requires.rows.single in
    classed-none (variables_of_spans c.args.numbered.now.spans) (λ s p. IsIn (names_of l.lists.now) (name_in l.frame.now.tables (at s p))) (Agree l.db.now l.frame.now.tables c.args.scope.now.columns) c.resize.new.self.items (omega (arith, size, same)) (search rules)
