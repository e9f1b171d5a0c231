use Rattle.std.proofs.Common.{◌≡◌, ◌≤◌, ◌+◌, [], List, ◌∙◌, sym, ap, subst, arith, length, Some, slice_get, slice_set}
use Rattle.std.specs.List.Sorted.{IsStrictlySortedBy}
use Rattle.cqa_value.specs.declared.value.Value.{Value}
use Rattle.cqa_model.specs.Database.{Table, block_cmp, row_total}
use Rattle.cqa_model.proofs.Places.{rows-at, key-at, mark-at}
use Rattle.table_blocks.specs.Tables.{AreValidRows, with_rows}
use Rattle.table_blocks.proofs.Changing.{set_with_rows}
use Rattle.table_blocks.proofs.Naming.{named_more, values_set}
use Rattle.table_blocks.proofs.database.Database.fill.Goals as goal

-- the table that is found
here : (c : goal.In-Some) → slice_get c.args.self.now c.args.table ≡ Some c.in-Some.found.now
here c = subst (λ db. slice_get db c.args.table ≡ Some c.in-Some.found.now) c.self.view_is (sym c.in-Some.ensures.value)

pub fill-requires-clause-ascending : goal.fill-requires-clause-ascending
fill-requires-clause-ascending c = subst (λ key. IsStrictlySortedBy (block_cmp key) c.args.rows) (key-at c.args.self.now c.args.table c.in-Some.found.now (here c)) c.requires.ascending

pub fill-requires-clause-lax : goal.fill-requires-clause-lax
fill-requires-clause-lax c = sym (mark-at c.args.self.now c.args.table c.in-Some.found.now (here c)) ∙ c.requires.lax

there : (c : goal.After-self-in-Some-1) → slice_get c.args.self.now c.args.table ≡ Some c.in-Some.found.now
there c = subst (λ db. slice_get db c.args.table ≡ Some c.in-Some.found.now) c.self.view_is (sym c.in-Some.ensures.value)

-- none stood there before
counted : (rows old : List (List Value)) → old ≡ [] → length rows ≡ length old + length rows
counted rows old none = let e = ap length none in omega (arith, e)

pub invariant_of-self : goal.invariant_of-self
invariant_of-self c =
    let w = c.fill.new.self in
    let found = c.in-Some.found.now in
    named_more c.self.inside.tables.entries c.args.table found w (length c.args.rows) c.self.invariant (sym c.in-Some.ensures.value) (ap (λ (z : Table). z.schema.name) c.fill.ensures.is) c.fill.ensures.table (subst (λ (z : Table). AreValidRows z.rows) (sym c.fill.ensures.is) c.requires.valid)
    (ap (λ (z : Table). length z.rows) c.fill.ensures.is ∙ counted c.args.rows found.rows (sym (rows-at c.args.self.now c.args.table found (there c)) ∙ c.requires.empty))
    (subst (λ db. row_total db + length c.args.rows ≤ 1_000_000) (sym c.self.view_is) c.requires.room)

pub returns-clause-filled : goal.returns-clause-filled
returns-clause-filled c =
    let w = c.fill.new.self in
    let found = c.in-Some.found.now in
    values_set c.self.inside.tables.entries c.args.table w
    ∙ ap (λ db. slice_set db c.args.table w) c.self.view_is
    ∙ set_with_rows found w (ap (λ (z : Table). z.schema) c.fill.ensures.is) c.args.self.now c.args.table (there c)
    ∙ ap (with_rows c.args.self.now c.args.table) (ap (λ (z : Table). z.rows) c.fill.ensures.is)

pub returns-clause-stored : goal.returns-clause-stored
returns-clause-stored c = (invariant_of-self c).1
