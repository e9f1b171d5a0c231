use Rattle.std.proofs.Common.{List, ℕ, sym, subst}
use Rattle.std.specs.List.{AllZip}
use Rattle.join_access.proofs.Naming.{zip-length}
use Rattle.part_search.specs.Spoken.{AreSpokenIn}
use Rattle.part_search.proofs.Scoping.{spoken-at}
use Rattle.part_search.proofs.scope.scope_over.Goals as goal

pub invariant_of-result : goal.invariant_of-result
invariant_of-result c = record {
  wide = sym (zip-length (AreSpokenIn c.args.parts.now.queries.now) c.args.frame.tables c.in_ok-columns.columns
      (subst (λ (tables : List ℕ). AllZip (AreSpokenIn c.args.parts.now.queries.now) tables c.in_ok-columns.columns) c.as_slice.ensures c.in_ok-columns.ensures));
}

pub returns-clause-scope : goal.returns-clause-scope
returns-clause-scope c = record {
  wide = c.requires.wide;
  frame = c.requires.frame;
  spoken = spoken-at c.args.parts.now.queries.now c.args.frame c.in_ok-columns.columns c.requires.frame.all
      (subst (λ (tables : List ℕ). AllZip (AreSpokenIn c.args.parts.now.queries.now) tables c.in_ok-columns.columns) c.as_slice.ensures c.in_ok-columns.ensures);
}
