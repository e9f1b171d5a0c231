use Rattle.std.proofs.Common.{◌∙◌, refl, rules}
use Rattle.query_resolve.proofs.Schemas.{kept_schema, key_seen, free_name, has_room}
use Rattle.query_resolve.proofs.schema.resolve_schema.Goals as goal

pub invariant_of-result : goal.invariant_of-result
invariant_of-result c = record {
  kept =
      kept_schema c.args.db.now c.args.raw.now c.in_ok-columns.columns c.as_slice.result.now c.as_slice-2.result.now c.as_slice-3.result.now c.in_ok-key.key c.as_slice.ensures c.as_slice-2.ensures c.as_slice-3.ensures
      c.in_ok-columns.ensures.is c.args.raw.now.some_column c.args.raw.now.some_key c.in_ok-check_table.ensures.valid c.in_ok-columns.ensures.valid c.in_ok-key.ensures.valid c.in_ok-key.ensures.is;
}

pub returns-clause-checked : goal.returns-clause-checked
returns-clause-checked c = record {
  refused = tt;
  valid = search rules;
  is = record {
    name = c.in_ok-name.ensures;
    columns = c.in_ok-columns.ensures.is ∙ c.as_slice.ensures;
    key = key_seen c.args.raw.now c.as_slice-2.result.now c.as_slice-3.result.now c.in_ok-key.key c.as_slice-2.ensures c.as_slice-3.ensures c.in_ok-key.ensures.is;
    strict = refl;
  };
}

pub returns-clause-room : goal.returns-clause-room
returns-clause-room c = has_room c.args.db.now c.args.raw.now c.in_ok-check_table.ensures.valid

pub returns-clause-free : goal.returns-clause-free
returns-clause-free c = free_name c.args.db.now c.args.raw.now c.in_ok-check_table.ensures.valid
