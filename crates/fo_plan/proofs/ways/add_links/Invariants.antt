use Rattle.std.proofs.Common.{◌≡◌, ◌++◌, drop}
use Rattle.plan_rows.specs.Links.{AreLinks, atoms_on}
use Rattle.fo_plan.proofs.ways.add_links.Given as goal

-- there are links of the atoms so far
abbrev pub invariant-loop-at : goal.invariant-loop-at
invariant-loop-at l = record {
  links : AreLinks l.setting.bound.now.query.now l.setting.bound.now.db.now l.links;
  atoms : atoms_on l.links ++ drop l.at l.atoms ≡ drop l.taken l.atoms;
}
