use Rattle.std.proofs.Common.{◌≡◌, IsTrue, List, Contains, sym, subst}
use Rattle.std.specs.List.Sorted.{IsStrictlySortedBy}
use Rattle.std.proofs.lemmas.Option.{MatchOption-at_none}
use Rattle.cqa_value.specs.declared.value.Value.{Value}
use Rattle.cqa_model.specs.Database.{AreConsistent, block_cmp}
use Rattle.row_order.specs.Ordered.{block_order}
use Rattle.row_order.proofs.Reordering.{order_sorted, order_members}
use Rattle.table_blocks.proofs.table.Table.rekey.Goals as goal
use Rattle.table_blocks.proofs.table.Table.rekey.Goals.{After-drop-self-inside}

ordered : (c : After-drop-self-inside) → (c.put_in_order_of.new.rows ≡ block_order c.args.key c.self.inside.rows) × (IsTrue c.self.inside.schema.strict → AreConsistent c.args.key c.put_in_order_of.new.rows)
ordered c = subst (λ key. (c.put_in_order_of.new.rows ≡ block_order key c.self.inside.rows) × (IsTrue c.self.inside.schema.strict → AreConsistent key c.put_in_order_of.new.rows)) c.as_slice.ensures (MatchOption-at_none _ _ c.in-None.is c.in_ok-clash.ensures.changed)

member : (c : After-drop-self-inside) (row : List Value) → Contains c.put_in_order_of.new.rows row → Contains c.self.inside.rows row
member c row h = (order_members c.args.key c.self.inside.rows row).0 (subst (λ rows. Contains rows row) (ordered c).0 h)

pub invariant_of-self-in-None : goal.invariant_of-self-in-None
invariant_of-self-in-None c = (
  record {
    in_order = subst (IsStrictlySortedBy (block_cmp c.args.key)) (sym (ordered c).0) (order_sorted c.args.key c.self.inside.rows);
    of_schema = λ row h. c.self.invariant.0.of_schema row (member c row h);
    strict = (ordered c).1;
  },
  λ row h. c.self.invariant.1 row (member c row h),
)

pub returns-in-None-clause-table : goal.returns-in-None-clause-table
returns-in-None-clause-table c = record {
  in_order = subst (IsStrictlySortedBy (block_cmp c.args.key)) (sym (ordered c).0) (order_sorted c.args.key c.self.inside.rows);
  of_schema = λ row h. c.self.invariant.0.of_schema row (member c row h);
  strict = (ordered c).1;
}

pub returns-in-None-clause-valid : goal.returns-in-None-clause-valid
returns-in-None-clause-valid c row h = c.self.invariant.1 row (member c row h)
