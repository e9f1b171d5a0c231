use Rattle.std.proofs.Common.{◌≡◌, ◌+◌, ◌++◌, ◌∷◌, ◌∙◌, List, [], take, ap, sym, subst, arith}
use Rattle.std.proofs.lemmas.List.{map_push, take_all}
use Rattle.cqa_value.proofs.Words.{Contains-map}
use Rattle.join_access.specs.declared.witness.Witness.{Witness}
use Rattle.join_access.specs.Listing.{names_of}
use Rattle.row_lists.specs.Spans.{variables_of_spans}
use Rattle.list_search.specs.Classing.{AreListsOf}
use Rattle.list_search.specs.Quotients.{AreClassesOf, AreNamesWithin}
use Rattle.list_search.proofs.ClassLists.{lists-of-more, lists-of-none, taken-next}
use Rattle.list_search.proofs.quotient.names_lists.Goals as goal

pub loop-list-init : goal.loop-list-init
loop-list-init c =
    subst (AreListsOf (AreClassesOf c.args.frame.now.tables (variables_of_spans c.args.classed.now.rows.spans) c.args.classed.now.classes.items) []) (sym c.in_ok-numbers.ensures.items)
    (lists-of-none (AreClassesOf c.args.frame.now.tables (variables_of_spans c.args.classed.now.rows.spans) c.args.classed.now.classes.items))

pub names_list-requires : goal.names_list-requires
names_list-requires c =
    let i = c.loop-list.list-index in
    let w = c.list-item.result in
    let f = c.args.frame.now in
    subst (AreNamesWithin f.tables f.slots) (sym c.as_slice.ensures) (λ id m. c.requires id (w.rows, Contains-map (λ (x : Witness). x.rows) c.args.lists.now w (i, omega arith, sym c.list-item.is), m))

pub loop-list-preserved : goal.loop-list-preserved
loop-list-preserved c =
    let i = c.loop-list.list-index in
    let w = c.list-item.result in
    let ws = c.args.lists.now in
    let numbers = c.in_ok-names_list.field-0 in
    let names : names_of (take (i + 1) ws) ≡ names_of (take i ws) ++ w.rows ∷ [] = ap names_of (taken-next ws i w (omega arith) c.list-item.is) ∙ map_push (λ (x : Witness). x.rows) (take i ws) w in
    subst (λ all. AreListsOf (AreClassesOf c.args.frame.now.tables (variables_of_spans c.args.classed.now.rows.spans) c.args.classed.now.classes.items) all c.push.new.self.items) (sym names)
    (lists-of-more (AreClassesOf c.args.frame.now.tables (variables_of_spans c.args.classed.now.rows.spans) c.args.classed.now.classes.items) (names_of (take i ws)) w.rows c.loop-list.numbers.items c.push.new.self.items numbers c.loop-list.invariant
    (subst (λ ns. AreClassesOf c.args.frame.now.tables (variables_of_spans c.args.classed.now.rows.spans) c.args.classed.now.classes.items ns numbers) c.as_slice.ensures c.in_ok-names_list.ensures) c.in_ok-push.ensures.items)

pub returns : goal.returns
returns c =
    subst (λ (ws : List Witness). AreListsOf (AreClassesOf c.args.frame.now.tables (variables_of_spans c.args.classed.now.rows.spans) c.args.classed.now.classes.items) (names_of ws) c.loop-list.numbers.items)
    (take_all c.loop-list.list-index c.args.lists.now (omega arith)) c.loop-list.invariant
