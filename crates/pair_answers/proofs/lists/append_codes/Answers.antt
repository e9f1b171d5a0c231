use Rattle.std.proofs.Common.{rules, sym, subst, map, ap, ◌∙◌, ◌∷◌, []}
use Rattle.std.proofs.lemmas.List.{map-append}
use Rattle.weak_pairs.specs.Packing.{list_of}
use Rattle.pair_answers.proofs.Listing.{AreListedSoFar, listed-none, listed-more, listed-all}
use Rattle.pair_answers.proofs.lists.append_codes.Goals as goal

pub loop-x-init : goal.loop-x-init
loop-x-init c = listed-none c.args.side.now.bound.now.query.now c.args.side.now.row.now c.args.side.now.columns.now c.args.side.now.atom c.args.rows.now (map list_of c.args.codes.now.items) c.into_iter-x-iterator.result (search rules)

pub loop-x-preserved : goal.loop-x-preserved
loop-x-preserved c =
    let q = c.args.side.now.bound.now.query.now in
    let columns = c.args.side.now.columns.now in
    let old = map list_of c.args.codes.now.items in
    subst (AreListedSoFar q c.args.side.now.row.now columns c.args.side.now.atom c.args.rows.now c.next.new.self old) (sym (ap (map list_of) c.in_ok-push.ensures.items ∙ map-append list_of c.loop-x.codes.items (c.in-Some-code_of.code ∷ [])))
    (listed-more q c.args.side.now.row.now columns c.args.side.now.atom c.args.rows.now old c.loop-x.x-iterator c.next.new.self c.in-Some.x.now (map list_of c.loop-x.codes.items) (list_of c.in-Some-code_of.code) c.loop-x.invariant c.in-Some.ensures.steps c.in-Some-code_of.ensures)

pub returns : goal.returns
returns c _ = listed-all c.args.side.now.bound.now.query.now c.args.side.now.row.now c.args.side.now.columns.now c.args.side.now.atom c.args.rows.now (map list_of c.args.codes.now.items) c.loop-x.x-iterator (map list_of c.loop-x.codes.items) c.loop-x.invariant c.in-None.ensures.steps.0
