use Rattle.std.proofs.Common.{rules}
use Rattle.query_resolve.proofs.Queries.{parts_seen, is_query, query_of}
use Rattle.query_resolve.proofs.query.resolve.Goals as goal

pub invariant_of-result : goal.invariant_of-result
invariant_of-result c = record {
  kept =
      is_query c.args.db.now c.args.select.now c.in_ok-atoms.atoms c.in_ok-conds.conds c.in_ok-answer.answer
      (parts_seen c.args.db.now c.args.select.now c.as_slice-names.result.now c.as_slice-2.result.now c.as_slice-4.result.now c.in_ok-atoms.atoms c.in_ok-conds.conds c.in_ok-answer.answer
      c.as_slice-names.ensures c.as_slice-2.ensures c.as_slice-4.ensures
      (record { are = c.in_ok-atoms.ensures.checked.is; apart = c.in_ok-atoms.ensures.checked.valid; selected = c.in_ok-answer.ensures.is; meant = c.in_ok-conds.ensures.is; sound = c.in_ok-conds.ensures.valid }))
      c.args.select.now.some_table c.in_ok-check_sizes.ensures.valid;
}

pub returns : goal.returns
returns c = record {
  refused = tt;
  valid = search rules;
  is =
      query_of c.args.db.now c.in_ok-atoms.ensures.database c.args.select.now _
      (parts_seen c.args.db.now c.args.select.now c.as_slice-names.result.now c.as_slice-2.result.now c.as_slice-4.result.now c.in_ok-atoms.atoms c.in_ok-conds.conds c.in_ok-answer.answer
      c.as_slice-names.ensures c.as_slice-2.ensures c.as_slice-4.ensures
      (record { are = c.in_ok-atoms.ensures.checked.is; apart = c.in_ok-atoms.ensures.checked.valid; selected = c.in_ok-answer.ensures.is; meant = c.in_ok-conds.ensures.is; sound = c.in_ok-conds.ensures.valid }));
}
