use Rattle.std.proofs.Common.{◌≡◌, ◌<◌, ◌++◌, ◌∷◌, [], ◌∙◌, ℕ, List, length, ap, get_or, sym, subst}
use Rattle.std.proofs.lemmas.List.{get_or_default}
use Rattle.row_lists.specs.declared.span.Span.{Span}
use Rattle.row_lists.specs.Spans.{variables_of_spans}
use Rattle.row_lists.proofs.Reading.{no_span, read_in}
use Rattle.list_search.proofs.ClassLists.{lists-push, lists-skip}
use Rattle.list_search.proofs.SingleRows.{rising}
use Rattle.list_search.proofs.class_lists.add_block_list.Goals as goal

-- the span that is read is the list's
read : (spans items : List Span) (at : ℕ) → items ≡ spans → at < length spans → get_or items at no_span ≡ get_or spans at (get_or items at no_span)
read spans items at e l = ap (λ ss. get_or ss at no_span) e ∙ get_or_default spans at no_span (get_or items at no_span) l

pub gather_block-requires-clause-within : goal.gather_block-requires-clause-within
gather_block-requires-clause-within c =
    let blocks = c.args.blocks.now in
    let items = c.as_slice.result.now in
    blocks.kept.within (get_or items c.args.at no_span) (read_in blocks.spans items c.args.at c.as_slice.ensures (subst (λ ss. c.args.at < length ss) (sym c.as_slice.ensures) c.requires.there))

pub returns-in_ok-push : goal.returns-in_ok-push
returns-in_ok-push c =
    let classed = c.args.classed.now in
    let spans = c.args.blocks.now.spans in
    let items = c.as_slice.result.now in
    lists-push (variables_of_spans classed.rows.spans) (rising classed.rows.spans classed.single) classed.classes.items spans c.args.at (get_or items c.args.at no_span) c.requires.there
    (read spans items c.args.at c.as_slice.ensures c.requires.there) c.args.lists.now.items c.requires.so_far
    c.gather_block.new.numbers.items c.put_in_order.new.numbers.items c.push.new.self.items (c.in_ok-gather_block.ensures.all c.if-branch.true) c.put_in_order.ensures.rises c.put_in_order.ensures.same
    (c.in_ok-push.ensures.items ∙ ap (λ ns. c.args.lists.now.items ++ ns ∷ []) c.from_vec.ensures)

pub returns-else-branch : goal.returns-else-branch
returns-else-branch c =
    let classed = c.args.classed.now in
    let spans = c.args.blocks.now.spans in
    let items = c.as_slice.result.now in
    lists-skip (variables_of_spans classed.rows.spans) (rising classed.rows.spans classed.single) classed.classes.items spans c.args.at (get_or items c.args.at no_span) c.requires.there
    (read spans items c.args.at c.as_slice.ensures c.requires.there) c.args.lists.now.items c.requires.so_far (c.in_ok-gather_block.ensures.some c.if-branch.false)
