use Rattle.std.proofs.Common.{[], subst, Contains}
use Rattle.std.specs.Option.{option_copied}
use Rattle.plan_rows.specs.Knowing.{MayFit}
use Rattle.plan_rows.specs.Over.{look_query, look_tables, look_taken, look_rows}
use Rattle.plan_rows.proofs.Looking.{up-next, up-all, up-grown, read-row}
use Rattle.plan_rows.proofs.reached.add_places.Goals as goal

pub loop-at-preserved : goal.loop-at-preserved
loop-at-preserved c =
    let look = c.args.look.now in
    let q = look_query look in
    let row = option_copied c.args.row in
    let at = c.loop-at.at in
    let y = read-row (look_rows look) c.rows_of-rows.result at c.get.result.now c.rows_of-rows.ensures.rows c.get.ensures in
    record {
      kept = λ p m. c.in_ok-add_place.ensures.kept p (c.loop-at.invariant.kept p m);
      added = up-next q (look_tables look) row (look_taken look) [] look.atom (look_rows look) c.args.places.now c.requires (Contains c.add_place.new.found) at c.after-at.result c.after-at.ensures.passed
          (up-grown (look_rows look) (λ z. MayFit q row (look_taken look) look.atom z) (Contains c.loop-at.found) (Contains c.add_place.new.found) at c.in_ok-add_place.ensures.kept c.loop-at.invariant.added)
          (λ f. c.in_ok-add_place.ensures.added (subst (λ z. MayFit q row (look_taken look) look.atom z) y f));
    }

pub returns-clause-added : goal.returns-clause-added
returns-clause-added c =
    let look = c.args.look.now in
    up-all (look_query look) (look_tables look) (option_copied c.args.row) (look_taken look) [] look.atom (look_rows look) c.args.places.now c.requires (Contains c.loop-at.found) c.loop-at.at c.loop-at-test.false c.loop-at.invariant.added
