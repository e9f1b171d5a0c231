use Rattle.std.proofs.Common.{◌≡◌, ◌∙◌, ◌+◌, ◌∷◌, ◌++◌, length, sym, ap, subst}
use Rattle.std.proofs.lemmas.List.{length_push}
use Rattle.plan_rows.specs.Links.{AreWays}
use Rattle.fo_plan.proofs.LinkLists.{ways-push}
use Rattle.fo_plan.proofs.ways.add_ways.Goals as goal

pub loop-atom-preserved : goal.loop-atom-preserved
loop-atom-preserved c =
    let q = c.args.setting.now.bound.now.query.now in
    let db = c.args.setting.now.bound.now.db.now in
    let order = c.args.order.now in
    let ways = c.loop-atom.ways.items in
    let links = c.in_ok-links.links in
    let put = c.in_ok-push.ensures.items in
    record {
      size = ap length put ∙ length_push ways links ∙ ap (λ n. n + 1) c.loop-atom.invariant.size;
      ways = subst (AreWays q db order) (sym put) (ways-push q db order ways links c.loop-atom.invariant.ways c.in_ok-links.ensures.links
          (λ front rest whole. c.in_ok-links.ensures.behind front rest (subst (λ n. order ≡ front ++ n ∷ rest) c.loop-atom.invariant.size whole)));
    }
