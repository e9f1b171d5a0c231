use Rattle.std.proofs.Common.{◌<◌, length, arith, sym, ap, subst, ◌∙◌, refl}
use Rattle.query_resolve.specs.Resolved.{IsAtomOf, IsJoinGoalOf, IsJoinGroupOf, lax_of}
use Rattle.query_resolve.proofs.JoinGoals.{goal_inside, group_inside}
use Rattle.query_resolve.proofs.Lookups.{at_most, passes, zip_length}
use Rattle.query_resolve.proofs.Ranges.{sound, query_kept, query_fits, atoms_kept, conds_kept, lax_inside, others_strict}
use Rattle.query_resolve.proofs.range.resolve_range.Goals as goal

pub lax_atom-lax-requires : goal.lax_atom-lax-requires
lax_atom-lax-requires c =
    let few = at_most _ _ (passes _ _ c.in_ok-check_size.ensures.valid) in
    let many = zip_length (IsAtomOf c.args.db.now) c.as_slice-names.result.now c.in_ok-atoms.atoms c.in_ok-atoms.ensures.checked.is in
    omega (arith, few, many, ap length c.as_slice-5.ensures)

pub invariant_of-query : goal.invariant_of-query
invariant_of-query c = record {
  kept =
      query_kept c.args.db.now c.args.range.now c.as_slice-names.result.now c.as_slice-3.result.now c.in_ok-atoms.atoms c.in_ok-conds.conds c.new.result c.as_slice-names.ensures c.as_slice-3.ensures c.new.ensures
      c.in_ok-atoms.ensures.checked.is c.in_ok-atoms.ensures.checked.valid c.in_ok-conds.ensures.is c.in_ok-conds.ensures.valid c.in_ok-check_size.ensures.valid;
}

pub returns : goal.returns
returns c =
    let db = c.args.db.now in
    let raw = c.args.range.now in
    let names = c.as_slice-names.result.now in
    let atoms = c.in_ok-atoms.atoms in
    let are = c.in_ok-atoms.ensures.checked.is in
    let same = c.as_slice-names.ensures in
    let lax = c.lax_atom-lax.ensures ∙ ap lax_of c.as_slice-5.ensures in
    let some : 0 < length atoms = let many = zip_length (IsAtomOf db) names atoms are in let two = raw.some_other in omega (arith, many, two, ap length same) in
    record {
      refused = tt;
      valid = sound db raw names c.as_slice-3.result.now same c.as_slice-3.ensures c.in_ok-check_size.ensures.valid c.in_ok-atoms.ensures.checked.valid c.in_ok-goal.ensures.valid c.in_ok-conds.ensures.valid c.in_ok-group.ensures.valid c.in_ok-check_strict.ensures.valid;
      is = record {
        atoms = atoms_kept c.args.db.now c.args.range.now c.as_slice-names.result.now c.as_slice-3.result.now c.in_ok-atoms.atoms c.in_ok-conds.conds c.new.result c.as_slice-names.ensures c.as_slice-3.ensures c.new.ensures
            c.in_ok-atoms.ensures.checked.is c.in_ok-atoms.ensures.checked.valid c.in_ok-conds.ensures.is c.in_ok-conds.ensures.valid;
        conds = conds_kept c.args.db.now c.args.range.now c.as_slice-names.result.now c.as_slice-3.result.now c.in_ok-atoms.atoms c.in_ok-conds.conds c.new.result c.as_slice-names.ensures c.as_slice-3.ensures c.new.ensures
            c.in_ok-atoms.ensures.checked.is c.in_ok-atoms.ensures.checked.valid c.in_ok-conds.ensures.is c.in_ok-conds.ensures.valid;
        answer = c.new.ensures;
        goal = subst (λ l. IsJoinGoalOf db l raw.goal c.in_ok-goal.goal c.in_ok-goal.atom) same c.in_ok-goal.ensures.is;
        goal_inside = goal_inside db names atoms are some raw.goal c.in_ok-goal.goal c.in_ok-goal.atom c.in_ok-goal.ensures.is;
        group = subst (λ l. IsJoinGroupOf db l raw.group c.in_ok-group.group) same c.in_ok-group.ensures.is;
        group_inside = group_inside db names atoms are some raw.group c.in_ok-group.group c.in_ok-group.ensures.is;
        inside = subst (λ n. n < length atoms) (sym lax) (lax_inside db names atoms are some);
        strict = λ F inside other. others_strict db names atoms are c.in_ok-check_strict.ensures.valid F inside (λ e. other (e ∙ sym lax));
        fits = query_fits c.args.db.now c.args.range.now c.as_slice-names.result.now c.as_slice-3.result.now c.in_ok-atoms.atoms c.in_ok-conds.conds c.new.result c.as_slice-names.ensures c.as_slice-3.ensures c.new.ensures
            c.in_ok-atoms.ensures.checked.is c.in_ok-atoms.ensures.checked.valid c.in_ok-conds.ensures.is c.in_ok-conds.ensures.valid c.in_ok-atoms.ensures.database _ refl refl refl;
      };
    }
