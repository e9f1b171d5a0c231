use Rattle.std.proofs.Common.{sym, subst, Contains}
use Rattle.plan_rows.specs.Over.{query_of, rows_before}
use Rattle.plan_rows.specs.Underway.{atoms_of}
use Rattle.plan_rows.specs.Links.{AreLinks, atoms_on}
use Rattle.plan_rows.proofs.Linked.{ways-links, ways-behind}
use Rattle.plan_rows.proofs.steps.Step.links.Goals as goal

pub returns-clause-links : goal.returns-clause-links
returns-clause-links c =
    let step = c.args.self.now in
    let course = step.course.now in
    subst (AreLinks (query_of step) course.setting.bound.now.db.now) (sym c.links_on.ensures) (ways-links (query_of step) course.setting.bound.now.db.now course.order.now course.ways.now course.linked step.atom)

pub returns-clause-behind : goal.returns-clause-behind
returns-clause-behind c = λ F m.
    let step = c.args.self.now in
    let course = step.course.now in
    ways-behind (query_of step) course.setting.bound.now.db.now course.order.now course.ways.now course.linked step.atom (atoms_of (rows_before step)) step.rest.now step.underway.place F
    (subst (λ links. Contains (atoms_on links) F) c.links_on.ensures m)
