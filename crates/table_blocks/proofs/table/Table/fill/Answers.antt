use Rattle.std.proofs.Common.{◌≡◌, false, true≢false, List, Contains, sym, subst, ◌∙◌}
use Rattle.std.specs.List.Sorted.{IsStrictlySortedBy}
use Rattle.cqa_value.specs.declared.value.Value.{Value}
use Rattle.cqa_model.specs.Database.{Table, IsRowOf, IsTable, block_cmp}
use Rattle.table_blocks.specs.Tables.{AreValidRows}
use Rattle.table_blocks.proofs.table.Table.fill.Goals as goal

-- rows in block order that fit the columns of a table that isn't strict
whole : (now : Table) (rows : List (List Value)) → IsStrictlySortedBy (block_cmp now.schema.key) rows → ((row : List Value) → Contains rows row → IsRowOf now.schema row) → now.schema.strict ≡ false → IsTable (record now { rows = rows })
whole now rows s f lax = record {
  in_order = s;
  of_schema = f;
  strict = λ t. absurd (true≢false (sym t ∙ lax));
}

filled : (c : goal.After-drop) → IsTable (record { schema = c.self.inside.schema; rows = c.replace.new.dest })
filled c = subst (λ (t : Table). IsTable (record t { rows = c.replace.new.dest })) (sym c.self.view_is) (subst (λ rows. IsTable (record c.args.self.now { rows = rows })) (sym c.replace.ensures.after) (whole c.args.self.now c.args.rows c.requires.ascending c.requires.fits c.requires.lax))

pub invariant_of-self : goal.invariant_of-self
invariant_of-self c = (filled c, subst AreValidRows (sym c.replace.ensures.after) c.requires.valid)

pub returns-clause-table : goal.returns-clause-table
returns-clause-table c = filled c
