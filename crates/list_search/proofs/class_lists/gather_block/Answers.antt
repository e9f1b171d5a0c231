use Rattle.std.proofs.Common.{◌≡◌, ◌+◌, ℕ, None, Some, refl, sym, ◌∙◌, arith}
use Rattle.row_lists.specs.Spans.{variables_of_spans}
use Rattle.list_search.proofs.ClassLists.{range-none, range-more}
use Rattle.list_search.proofs.SingleRows.{rising}
use Rattle.list_search.proofs.class_lists.gather_block.Goals as goal

pub loop-at-init : goal.loop-at-init
loop-at-init c = range-none (variables_of_spans c.args.classed.now.rows.spans) (rising c.args.classed.now.rows.spans c.args.classed.now.single) c.args.classed.now.classes.items c.args.span.now.slot c.args.span.now.start c.args.numbers.now.items c.requires.none

pub loop-at-preserved : goal.loop-at-preserved
loop-at-preserved c =
    range-more (variables_of_spans c.args.classed.now.rows.spans) (rising c.args.classed.now.rows.spans c.args.classed.now.single) c.args.classed.now.classes.items c.args.span.now.slot c.args.span.now.start c.loop-at.at c.in-Some.class
    c.loop-at.numbers.items c.push.new.self.items c.loop-at.invariant ((c.class_at.ensures c.in-Some.class).0 c.in-Some.is) c.in_ok-push-in-Some.ensures.items

no_class : (n : ℕ) → None ≡ Some n → ⊥
no_class n e = cc

pub returns-in-None-clause-some : goal.returns-in-None-clause-some
returns-in-None-clause-some c = λ f whole.
    let p = c.args.span.now.start + c.loop-at.at in
    let n = whole p (refl, omega arith, omega arith) in
    no_class n.0 (sym c.in-None.is ∙ (c.class_at.ensures n.0).1 n.1)
