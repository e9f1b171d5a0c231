use Rattle.std.proofs.Common.{◌∷◌, [], length, get_or, ap, sym, subst, arith}
use Rattle.std.specs.Option.{option_copied}
use Rattle.cqa_model.specs.Query.{rows_of}
use Rattle.plan_rows.specs.Knowing.{MayFit}
use Rattle.plan_rows.specs.Over.{look_query, look_tables, look_taken}
use Rattle.plan_rows.specs.Links.{HasReached, atoms_on}
use Rattle.plan_rows.proofs.Looking.{up-next, up-all, read-row}
use Rattle.plan_rows.proofs.Guessing.{reached-more, reached-all, path-of, links-first, links-rest}
use Rattle.plan_rows.proofs.reached.+reached.Goals as goal

pub add_guesses-loop-place-preserved : goal.add_guesses-loop-place-preserved
add_guesses-loop-place-preserved t c =
    let look = c.args.look.now in
    let q = look_query look in
    let tables = look_tables look in
    let row = option_copied c.args.row in
    let links = atoms_on c.args.later.now in
    let at = c.loop-place.place in
    let z = read-row (rows_of q tables c.args.atom) c.rows_of-rows.result at c.get.result.now c.rows_of-rows.ensures.rows c.get.ensures in
    record {
      kept = λ p m. c.in_ok-add_guess.ensures.kept p (c.loop-place.invariant.kept p m);
      added = up-next q tables row (look_taken look) [] c.args.atom (rows_of q tables c.args.atom) c.args.places.now c.requires.places
          (λ j. HasReached q tables row (record { atom = c.args.atom; row = get_or (rows_of q tables c.args.atom) j [] } ∷ look_taken look) links look.atom c.add_guess.new.found)
          at c.after-place.result c.after-place.ensures.passed
          (reached-more q tables row (look_taken look) c.args.atom links look.atom c.loop-place.found c.add_guess.new.found at c.in_ok-add_guess.ensures.kept c.loop-place.invariant.added)
          (subst (λ x. MayFit q row (look_taken look) c.args.atom x → HasReached q tables row (record { atom = c.args.atom; row = x } ∷ look_taken look) links look.atom c.add_guess.new.found) (sym z) c.in_ok-add_guess.ensures.added);
    }

pub add_guesses-returns-clause-added : goal.add_guesses-returns-clause-added
add_guesses-returns-clause-added t c =
    let look = c.args.look.now in
    let q = look_query look in
    let tables = look_tables look in
    let row = option_copied c.args.row in
    let links = atoms_on c.args.later.now in
    reached-all q tables row (look_taken look) c.args.atom links look.atom c.loop-place.found
    (up-all q tables row (look_taken look) [] c.args.atom (rows_of q tables c.args.atom) c.args.places.now c.requires.places
    (λ j. HasReached q tables row (record { atom = c.args.atom; row = get_or (rows_of q tables c.args.atom) j [] } ∷ look_taken look) links look.atom c.loop-place.found)
    c.loop-place.place c.loop-place-test.false c.loop-place.invariant.added)

pub add_reached-invariant_of-guess : goal.add_reached-invariant_of-guess
add_reached-invariant_of-guess t c =
    let look = c.args.look.now in
    record { there = (links-first (look_query look) look.setting.now.bound.now.db.now c.args.links.now c.in-Some.link.now c.in-Some.later.now c.in-Some.ensures.cases.0 c.requires.links).0 }

pub add_reached-new-places-requires : goal.add_reached-new-places-requires
add_reached-new-places-requires t c =
    let look = c.args.look.now in
    let link = c.in-Some.link.now in
    let first = links-first (look_query look) look.setting.now.bound.now.db.now c.args.links.now link c.in-Some.later.now c.in-Some.ensures.cases.0 c.requires.links in
    record { path = path-of (rows_of (look_query look) (look_tables look) link.atom) link.path c.as_ref.result c.as_ref.ensures.value first.1 }

pub add_reached-add_guesses-added-requires : goal.add_reached-add_guesses-added-requires
add_reached-add_guesses-added-requires t c =
    let look = c.args.look.now in
    let q = look_query look in
    let db = look.setting.now.bound.now.db.now in
    let links = c.args.links.now in
    let is = c.in-Some.ensures.cases.0 in
    let size = ap length is in (
      omega (arith, c.decreases, size),
      (c.requires.path, ((links-first q db links c.in-Some.link.now c.in-Some.later.now is c.requires.links).0, (c.new-places.ensures, links-rest q db links c.in-Some.link.now c.in-Some.later.now is c.requires.links))),
    )
