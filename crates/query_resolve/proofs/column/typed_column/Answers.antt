use Rattle.std.proofs.Common.{◌∙◌}
use Rattle.query_resolve.proofs.Scopes.{atom_there, table_of_column, column_there, kind_found}
use Rattle.query_resolve.proofs.column.typed_column.Goals as goal

pub kind_of_column-kind-requires-clause-atom : goal.kind_of_column-kind-requires-clause-atom
kind_of_column-kind-requires-clause-atom c = atom_there c.args.db.now c.args.names.now c.args.atoms.now c.requires.atoms c.args.column.now c.in_ok-col.col c.in_ok-col.ensures.is

pub kind_of_column-kind-requires-clause-table : goal.kind_of_column-kind-requires-clause-table
kind_of_column-kind-requires-clause-table c = table_of_column c.args.db.now c.args.names.now c.args.atoms.now c.requires.atoms c.args.column.now c.in_ok-col.col c.in_ok-col.ensures.is

pub kind_of_column-kind-requires-clause-column : goal.kind_of_column-kind-requires-clause-column
kind_of_column-kind-requires-clause-column c = column_there c.args.db.now c.args.names.now c.args.atoms.now c.requires.atoms c.args.column.now c.in_ok-col.col c.in_ok-col.ensures.is

pub returns : goal.returns
returns c = record {
  refused = tt;
  valid = c.in_ok-col.ensures.valid;
  is = (
    c.in_ok-col.ensures.is,
    c.kind_of_column-kind.ensures ∙ kind_found c.args.db.now c.args.names.now c.args.atoms.now c.requires.atoms c.args.column.now c.in_ok-col.col c.in_ok-col.ensures.is c.in_ok-col.ensures.valid,
  );
}
