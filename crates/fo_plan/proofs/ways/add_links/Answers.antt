use Rattle.std.proofs.Common.{◌≡◌, ◌+◌, ◌<◌, length, get_or, drop, ◌∷◌, ◌++◌, rules, sym, subst, add-one, drop-cons}
use Rattle.std.proofs.lemmas.List.Elements.{Contains-get_or}
use Rattle.plan_rows.specs.declared.links.Link.{Link}
use Rattle.plan_rows.specs.Links.{AreLinks, atoms_on}
use Rattle.fo_plan.proofs.LinkLists.{links-push, links-further}
use Rattle.fo_plan.proofs.ways.add_links.Goals as goal

pub loop-at-preserved : goal.loop-at-preserved
loop-at-preserved c =
    let q = c.args.setting.now.bound.now.query.now in
    let db = c.args.setting.now.bound.now.db.now in
    let atoms = c.args.atoms.now in
    let at = c.loop-at.at in
    let within : at < length atoms = search rules in
    let link : Link = record { atom = get_or atoms at 0; path = c.in_ok-path.path } in
    let put = c.in_ok-push.ensures.ok in
    let next : drop at atoms ≡ get_or atoms at 0 ∷ drop (at + 1) atoms = rw (add-one, drop-cons atoms at 0) in
    record {
      links = subst (AreLinks q db) (sym put) (links-push q db c.loop-at.links link c.loop-at.invariant.links (c.requires.atoms (get_or atoms at 0) (Contains-get_or atoms at 0 within)) c.in_ok-path.ensures);
      atoms = subst (λ z. atoms_on z ++ drop (at + 1) atoms ≡ drop c.args.taken atoms) (sym put) (links-further c.loop-at.links link (drop (at + 1) atoms) (drop c.args.taken atoms) (subst (λ z. atoms_on c.loop-at.links ++ z ≡ drop c.args.taken atoms) next c.loop-at.invariant.atoms));
    }
