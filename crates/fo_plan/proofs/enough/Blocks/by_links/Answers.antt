use Rattle.std.proofs.Common.{◌≡◌, ◌<◌, ℕ, IfSome, length, subst, sym, Contains}
use Rattle.std.specs.Option.{option_copied}
use Rattle.cqa_model.specs.Database.{stored}
use Rattle.cqa_model.specs.Query.{rows_of}
use Rattle.plan_rows.specs.Links.{LeadsTo, AreLinks, atoms_on}
use Rattle.plan_rows.specs.Wanted.{IsWanted}
use Rattle.fo_plan.specs.Enough.{row_at_place}
use Rattle.fo_plan.proofs.Looks.{of-look, to-look}
use Rattle.fo_plan.proofs.Reached.{whole-reached}
use Rattle.fo_plan.proofs.enough.Blocks.by_links.Goals as goal

pub reached_places-requires-clause-path : goal.reached_places-requires-clause-path
reached_places-requires-clause-path c =
    let look = c.look.ensures in
    to-look c.args.step.now c.look.result look.setting look.taken look.atom (λ s taken F. IfSome c.index_of-path.result (λ x. x.now.rows ≡ rows_of s.bound.now.query.now (stored s.bound.now.db.now) F)) c.index_of-path.ensures

pub reached_places-requires-clause-links : goal.reached_places-requires-clause-links
reached_places-requires-clause-links c =
    let look = c.look.ensures in
    to-look c.args.step.now c.look.result look.setting look.taken look.atom (λ s taken F. AreLinks s.bound.now.query.now s.bound.now.db.now c.links-links.result.now) c.links-links.ensures.links

pub whole-requires : goal.whole-requires
whole-requires c = c.in_ok-places.ensures.ascending

pub returns : goal.returns
returns c =
    let step = c.args.step.now in
    let given = option_copied c.args.row in
    let look = c.look.ensures in
    let links = atoms_on c.links-links.result.now in
    let places = c.in_ok-places.places.items in
    let all = of-look step c.look.result look.setting look.taken look.atom
    (λ s taken F. (i : ℕ) → i < length (rows_of s.bound.now.query.now (stored s.bound.now.db.now) F) → LeadsTo s.bound.now.query.now (stored s.bound.now.db.now) given taken links F (row_at_place (rows_of s.bound.now.query.now (stored s.bound.now.db.now) F) i) → Contains places i)
    c.in_ok-places.ensures.all in
    whole-reached step given c.whole.result links c.links-links.ensures.behind c.whole.ensures.key c.whole.ensures.rows
    (λ at there leads. subst (λ w. IsWanted w at) (sym c.whole.ensures.same) (all at there leads))
