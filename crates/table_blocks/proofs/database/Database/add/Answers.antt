use Rattle.std.proofs.Common.{◌≡◌, ◌≤◌, ◌+◌, ℕ, ◌++◌, ◌∙◌, sym, ap, subst, arith, length, Some, slice_get, slice_set}
use Rattle.cqa_value.proofs.Words.{on_err}
use Rattle.cqa_model.specs.declared.schema.Schema.{Schema}
use Rattle.cqa_model.specs.Database.{Table, AreConsistent, row_total}
use Rattle.cqa_model.proofs.Places.{rows-at, key-at, mark-at}
use Rattle.table_blocks.specs.Tables.{AreMergeable, IsMerged, key_at}
use Rattle.table_blocks.proofs.Changing.{set_with_rows, set_same}
use Rattle.table_blocks.proofs.Naming.{named_more, at_place, values_set}
use Rattle.table_blocks.proofs.database.Database.add.Goals as goal

-- the table that is found
here : (c : goal.In-Some) → slice_get c.args.self.now c.args.table ≡ Some c.in-Some.found.now
here c = subst (λ db. slice_get db c.args.table ≡ Some c.in-Some.found.now) c.self.view_is (sym c.in-Some.ensures.value)

pub add-requires-clause-mergeable : goal.add-requires-clause-mergeable
add-requires-clause-mergeable c =
    let db = c.args.self.now in
    let table = c.args.table in
    let found = c.in-Some.found.now in
    subst (λ key. AreMergeable key found.rows c.args.fresh.rows.items c.args.fresh.places.items) (key-at db table found (here c))
    (subst (λ rows. AreMergeable (key_at db table) rows c.args.fresh.rows.items c.args.fresh.places.items) (rows-at db table found (here c)) c.requires.mergeable)

pub add-requires-clause-consistent : goal.add-requires-clause-consistent
add-requires-clause-consistent c t =
    let db = c.args.self.now in
    let table = c.args.table in
    let found = c.in-Some.found.now in
    subst (λ key. AreConsistent key (found.rows ++ c.args.fresh.rows.items)) (key-at db table found (here c))
    (subst (λ rows. AreConsistent (key_at db table) (rows ++ c.args.fresh.rows.items)) (rows-at db table found (here c)) (c.requires.consistent (mark-at db table found (here c) ∙ t)))

nothing_more : (n : ℕ) → n ≡ n + 0
nothing_more n = omega arith

no_more : (n : ℕ) → n ≤ 1_000_000 → n + 0 ≤ 1_000_000
no_more n h = omega (arith, h)

pub invariant_of-self : goal.invariant_of-self
invariant_of-self c =
    let es = c.self.inside.tables.entries in
    let same = c.in_err-add-in-Some.ensures.err in
    named_more es c.args.table c.in-Some.found.now c.add.new.self 0 c.self.invariant (sym c.in-Some.ensures.value) (ap (λ (z : Table). z.schema.name) same) c.add.ensures.table c.add.ensures.valid
    (ap (λ (z : Table). length z.rows) same ∙ nothing_more _) (no_more _ c.self.invariant.1.database.few_rows)

pub invariant_of-self-2 : goal.invariant_of-self-2
invariant_of-self-2 c =
    let es = c.self.inside.tables.entries in
    named_more es c.args.table c.in-Some.found.now c.add.new.self (length c.args.fresh.rows.items) c.self.invariant (sym c.in-Some.ensures.value) (ap (λ (s : Schema). s.name) c.add.ensures.schema) c.add.ensures.table c.add.ensures.valid
    c.in_ok-add-in-Some.ensures.count (subst (λ db. row_total db + length c.args.fresh.rows.items ≤ 1_000_000) (sym c.self.view_is) c.requires.room)

pub returns-clause-changed : goal.returns-clause-changed
returns-clause-changed c =
    let found = subst (λ db. slice_get db c.args.table ≡ Some c.in-Some.found.now) c.self.view_is (sym c.in-Some.ensures.value) in
    let w = c.add.new.self in (
      w.rows,
      at_place (λ key rows. IsMerged key rows c.args.fresh.rows.items w.rows) c.args.self.now c.args.table c.in-Some.found.now found c.in_ok-add-in-Some.ensures.merged,
      values_set c.self.inside.tables.entries c.args.table w ∙ ap (λ db. slice_set db c.args.table w) c.self.view_is ∙ set_with_rows c.in-Some.found.now w c.add.ensures.schema c.args.self.now c.args.table found,
    )

pub returns-in_err-add-in-Some-clause-err : goal.returns-in_err-add-in-Some-clause-err
returns-in_err-add-in-Some-clause-err c =
    let found = subst (λ db. slice_get db c.args.table ≡ Some c.in-Some.found.now) c.self.view_is (sym c.in-Some.ensures.value) in
    on_err c.from_residual.result
    (values_set c.self.inside.tables.entries c.args.table c.add.new.self ∙ ap (λ db. slice_set db c.args.table c.add.new.self) c.self.view_is
    ∙ ap (λ t. slice_set c.args.self.now c.args.table t) c.in_err-add-in-Some.ensures.err ∙ set_same c.args.self.now c.args.table c.in-Some.found.now found)

pub returns-clause-stored : goal.returns-clause-stored
returns-clause-stored c = (invariant_of-self-2 c).1

pub returns-in_err-add-in-Some-clause-stored : goal.returns-in_err-add-in-Some-clause-stored
returns-in_err-add-in-Some-clause-stored c = (invariant_of-self c).1
