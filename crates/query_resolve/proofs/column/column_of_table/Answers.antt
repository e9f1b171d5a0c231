use Rattle.std.proofs.Common.{◌∙◌, Some, sym, ap}
use Rattle.refusals.specs.declared.refusal.Refusal.TheVariants.{UnknownColumn}
use Rattle.query_resolve.specs.Names.{column_named}
use Rattle.query_resolve.proofs.Members.{refused_at}
use Rattle.query_resolve.proofs.Scopes.{tables_there, atom_inside, columns_seen, column_passes, column_fails}
use Rattle.query_resolve.proofs.column.column_of_table.Goals as goal

pub bounds-atoms-atom : goal.bounds-atoms-atom
bounds-atoms-atom c = atom_inside c.args.db.now c.args.names.now c.args.atoms.now c.requires.atoms c.args.table.now c.in-Some.atom (sym c.in-Some.ensures)

pub bounds-atoms-atom-in-Some : goal.bounds-atoms-atom-in-Some
bounds-atoms-atom-in-Some c = atom_inside c.args.db.now c.args.names.now c.args.atoms.now c.requires.atoms c.args.table.now c.in-Some.atom (sym c.in-Some.ensures)

pub table_columns-columns-requires : goal.table_columns-columns-requires
table_columns-columns-requires c =
    tables_there c.args.db.now c.args.names.now c.args.atoms.now c.requires.atoms c.in-Some.atom c.index-atoms-atom.result
    (atom_inside c.args.db.now c.args.names.now c.args.atoms.now c.requires.atoms c.args.table.now c.in-Some.atom (sym c.in-Some.ensures))

pub returns-in_default-place_of_column : goal.returns-in_default-place_of_column
returns-in_default-place_of_column c =
    refused_at c.unknown_column.ensures (column_fails c.args.db.now c.args.names.now c.args.table.now c.args.name.now c.in-Some.atom (sym c.in-Some.ensures) c.table_columns-columns.result.now
    (columns_seen c.args.db.now c.args.names.now c.args.atoms.now c.requires.atoms c.args.table.now c.in-Some.atom c.index-atoms-atom.result _ (sym c.in-Some.ensures) c.table_columns-columns.ensures.is)
    (sym c.in_default-place_of_column.ensures)
    ∙ ap (λ t. Some (UnknownColumn (Some t) c.args.name.now)) (sym c.in_ok-table.ensures))

pub returns : goal.returns
returns c =
    let seen = columns_seen c.args.db.now c.args.names.now c.args.atoms.now c.requires.atoms c.args.table.now c.in-Some.atom c.index-atoms-atom.result _ (sym c.in-Some.ensures) c.table_columns-columns.ensures.is in
    record {
      refused = tt;
      valid = column_passes c.args.db.now c.args.names.now c.args.table.now c.args.name.now c.in-Some.atom (sym c.in-Some.ensures) c.table_columns-columns.result.now seen c.in-Some-place_of_column.col (sym c.in-Some-place_of_column.ensures);
      is = record { atom = sym c.in-Some.ensures; place = ap (λ l. column_named l c.args.name.now) (sym seen) ∙ sym c.in-Some-place_of_column.ensures };
    }
