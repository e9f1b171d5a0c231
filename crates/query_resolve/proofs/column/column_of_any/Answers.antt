use Rattle.std.proofs.Common.{◌∙◌, sym, ap, arith, Some}
use Rattle.refusals.specs.declared.refusal.Refusal.TheVariants.{AmbiguousColumn}
use Rattle.query_resolve.specs.Names.{atom_scope}
use Rattle.query_resolve.proofs.Members.{refused_at}
use Rattle.query_resolve.proofs.Scopes.{tables_there, as_many, scope_is, nowhere, twice, once, place_of, only_owner}
use Rattle.query_resolve.proofs.column.column_of_any.Goals as goal

pub owner_from-requires-clause-there : goal.owner_from-requires-clause-there
owner_from-requires-clause-there c = tables_there c.args.db.now c.args.names.now c.args.atoms.now c.requires.atoms

pub owner_from-requires-clause-few : goal.owner_from-requires-clause-few
owner_from-requires-clause-few c = let many = as_many c.args.db.now c.args.names.now c.args.atoms.now c.requires.atoms in let few = c.requires.few in omega (arith, many, few)

pub owner_from-requires-2-clause-there : goal.owner_from-requires-2-clause-there
owner_from-requires-2-clause-there c = tables_there c.args.db.now c.args.names.now c.args.atoms.now c.requires.atoms

pub owner_from-requires-2-clause-few : goal.owner_from-requires-2-clause-few
owner_from-requires-2-clause-few c = let many = as_many c.args.db.now c.args.names.now c.args.atoms.now c.requires.atoms in let few = c.requires.few in omega (arith, many, few)

pub returns-in_default : goal.returns-in_default
returns-in_default c =
    refused_at c.unknown_column.ensures
    (nowhere c.args.db.now c.args.names.now c.args.name.now (atom_scope c.args.db.now c.args.atoms.now) (scope_is c.args.db.now c.args.names.now c.args.atoms.now c.requires.atoms) c.in_default.ensures)

pub returns-in-None : goal.returns-in-None
returns-in-None c = let same = scope_is c.args.db.now c.args.names.now c.args.atoms.now c.requires.atoms in record {
  refused = tt;
  valid = once c.args.db.now c.args.names.now c.args.name.now (atom_scope c.args.db.now c.args.atoms.now) same c.in-Some.col c.in-Some.ensures c.in-None.ensures;
  is = record {
    atom = only_owner c.args.db.now c.args.names.now c.args.name.now (atom_scope c.args.db.now c.args.atoms.now) same c.in-Some.col c.in-Some.ensures c.in-None.ensures;
    place = place_of c.args.db.now c.args.names.now c.args.name.now (atom_scope c.args.db.now c.args.atoms.now) same c.in-Some.col c.in-Some.ensures;
  };
}

pub returns-in_ok-name-in-Some-owner_from : goal.returns-in_ok-name-in-Some-owner_from
returns-in_ok-name-in-Some-owner_from c = record {
  refused =
      twice c.args.db.now c.args.names.now c.args.name.now (atom_scope c.args.db.now c.args.atoms.now) (scope_is c.args.db.now c.args.names.now c.args.atoms.now c.requires.atoms)
      c.in-Some.col c.in-Some-owner_from.field-0 c.in-Some.ensures c.in-Some-owner_from.ensures
      ∙ ap (λ n. Some (AmbiguousColumn n)) (sym c.in_ok-name-in-Some-owner_from.ensures);
  valid = tt;
  is = tt;
}
