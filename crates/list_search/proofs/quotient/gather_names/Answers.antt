use Rattle.std.proofs.Common.{inl, inr, List, get_or, take, sym, subst, arith}
use Rattle.std.proofs.lemmas.List.{get_or_default, take_all}
use Rattle.std.proofs.lemmas.List.Elements.{Contains-get_or}
use Rattle.cqa_model.specs.declared.query.RowId.{RowId}
use Rattle.join_access.specs.Listing.{no_name}
use Rattle.row_lists.specs.Spans.{variables_of_spans}
use Rattle.list_search.specs.Quotients.{HasClassOf}
use Rattle.list_search.proofs.ClassLists.{AreGathered, gathered-none, gathered-more, taken-next}
use Rattle.list_search.proofs.quotient.gather_names.Goals as goal

pub loop-id-init : goal.loop-id-init
loop-id-init c = gathered-none (HasClassOf c.args.frame.now.tables (variables_of_spans c.args.classed.now.rows.spans) c.args.classed.now.classes.items) c.args.numbers.now.items c.requires.none

pub class_of-requires : goal.class_of-requires
class_of-requires c = c.requires.within (get_or c.args.names.now c.loop-id.id-index no_name) (Contains-get_or c.args.names.now c.loop-id.id-index no_name (omega arith))

pub loop-id-preserved : goal.loop-id-preserved
loop-id-preserved c =
    let i = c.loop-id.id-index in
    let id = get_or c.args.names.now i no_name in
    let is = get_or_default c.args.names.now i no_name id (omega arith) in
    let f = c.args.frame.now in
    subst (λ xs. AreGathered (HasClassOf f.tables (variables_of_spans c.args.classed.now.rows.spans) c.args.classed.now.classes.items) xs c.push_class.new.numbers.items) (sym (taken-next c.args.names.now i id (omega arith) is))
    (gathered-more (HasClassOf f.tables (variables_of_spans c.args.classed.now.rows.spans) c.args.classed.now.classes.items) (take i c.args.names.now) id c.loop-id.numbers.items c.push_class.new.numbers.items c.loop-id.invariant
    (λ n. (
      λ m. elim ((c.in_ok-push_class.ensures n).0 m) [
        | inl o ↦ inl o
        | inr e ↦ inr ((c.class_of.ensures n).0 e)
      ],
      λ o. elim o [
        | inl m ↦ (c.in_ok-push_class.ensures n).1 (inl m)
        | inr h ↦ (c.in_ok-push_class.ensures n).1 (inr ((c.class_of.ensures n).1 h))
      ],
    )))

pub returns : goal.returns
returns c =
    subst (λ (xs : List RowId). AreGathered (HasClassOf c.args.frame.now.tables (variables_of_spans c.args.classed.now.rows.spans) c.args.classed.now.classes.items) xs c.loop-id.numbers.items)
    (take_all c.loop-id.id-index c.args.names.now (omega arith)) c.loop-id.invariant
