use Rattle.std.proofs.Common.{◌≡◌, ◌∙◌, ℕ, List, ◌+◌, ◌++◌, IsTrue, length, sym, ap, subst, inl, inr}
use Rattle.cqa_value.specs.declared.value.Value.{Value}
use Rattle.cqa_model.specs.Database.{Table, AreConsistent, IsRowOf, IsTable, block_cmp}
use Rattle.table_blocks.specs.Tables.{AreMergeable, AreValidRows, IsMerged}
use Rattle.std.proofs.lemmas.List.Elements.{Contains-append_left, Contains-append_right}
use Rattle.row_pieces.specs.Inserted.{with_items, AreRising}
use Rattle.table_blocks.proofs.Placing.{places-long}
use Rattle.table_blocks.proofs.Merging.{with_items-long}
use Rattle.table_blocks.proofs.Inserting.{merged_in, rising_in}
use Rattle.table_blocks.proofs.Sharing.{consistent_within}
use Rattle.table_blocks.proofs.table.Table.add.Goals as goal

-- the fresh rows and their places, beside the rows as they are held
held : (fresh : List (List Value)) (places : List ℕ) (inside now : Table) → inside ≡ now → AreMergeable now.schema.key now.rows fresh places → AreMergeable inside.schema.key inside.rows fresh places
held fresh places inside now e m = subst (λ (t : Table). AreMergeable t.schema.key t.rows fresh places) (sym e) m

pub insert-requires-clause-each : goal.insert-requires-clause-each
insert-requires-clause-each c = ap length c.as_slice.ensures.value ∙ places-long (block_cmp c.self.inside.schema.key) c.self.inside.rows c.args.fresh.rows.items c.args.fresh.places.items (held c.args.fresh.rows.items c.args.fresh.places.items _ c.args.self.now c.self.view_is c.requires.mergeable).placed

pub insert-requires-clause-rising : goal.insert-requires-clause-rising
insert-requires-clause-rising c = subst (AreRising 0 (length c.self.inside.rows)) (sym c.as_slice.ensures.value) (rising_in c.self.inside.schema.key c.self.inside.rows c.args.fresh.rows.items c.args.fresh.places.items (held c.args.fresh.rows.items c.args.fresh.places.items _ c.args.self.now c.self.view_is c.requires.mergeable))

inserted : (c : goal.After-drop-places-2) → c.insert.new.self ≡ with_items c.self.inside.rows c.args.fresh.rows.items c.args.fresh.places.items
inserted c = c.in_ok-insert.ensures.ok ∙ ap (with_items c.self.inside.rows c.args.fresh.rows.items) c.as_slice.ensures.value

gave : (c : goal.After-drop-places-2) → IsMerged c.self.inside.schema.key c.self.inside.rows c.args.fresh.rows.items c.insert.new.self
gave c = subst (IsMerged c.self.inside.schema.key c.self.inside.rows c.args.fresh.rows.items) (sym (inserted c)) (merged_in c.self.inside.schema.key c.self.inside.rows c.args.fresh.rows.items c.args.fresh.places.items (held c.args.fresh.rows.items c.args.fresh.places.items _ c.args.self.now c.self.view_is c.requires.mergeable))

in_block_order : (c : goal.After-drop-places-2) → IsTable (record { schema = c.self.inside.schema; rows = c.insert.new.self }) × AreValidRows c.insert.new.self
in_block_order c = (
  record {
    in_order = (gave c).in_order;
    of_schema = λ row h. elim (((gave c).members row).0 h) [
      | inl m ↦ c.self.invariant.0.of_schema row m
      | inr m ↦ subst (λ schema. IsRowOf schema row) (sym (ap (λ t. t.schema) c.self.view_is)) (c.requires.fits row m)
    ];
    strict = λ t. consistent_within c.self.inside.schema.key (c.self.inside.rows ++ c.args.fresh.rows.items) c.insert.new.self
        (subst (λ (z : Table). IsTrue z.schema.strict → AreConsistent z.schema.key (z.rows ++ c.args.fresh.rows.items)) (sym c.self.view_is) c.requires.consistent t)
        (λ row h. elim (((gave c).members row).0 h) [ inl m ↦ Contains-append_left c.self.inside.rows c.args.fresh.rows.items row m | inr m ↦ Contains-append_right c.self.inside.rows c.args.fresh.rows.items row m ]);
  },
  λ row h. elim (((gave c).members row).0 h) [ inl m ↦ c.self.invariant.1 row m | inr m ↦ c.requires.valid row m ],
)

pub invariant_of-self-2 : goal.invariant_of-self-2
invariant_of-self-2 c = in_block_order c

pub returns-clause-table : goal.returns-clause-table
returns-clause-table c = (in_block_order c).0

pub returns-clause-valid : goal.returns-clause-valid
returns-clause-valid c = (in_block_order c).1

pub returns-clause-merged : goal.returns-clause-merged
returns-clause-merged c = subst (λ t. IsMerged t.schema.key t.rows c.args.fresh.rows.items c.insert.new.self) c.self.view_is (gave c)

pub returns-clause-count : goal.returns-clause-count
returns-clause-count c =
    ap length (inserted c) ∙ with_items-long c.self.inside.rows c.args.fresh.rows.items c.args.fresh.places.items (places-long (block_cmp c.self.inside.schema.key) c.self.inside.rows c.args.fresh.rows.items c.args.fresh.places.items (held c.args.fresh.rows.items c.args.fresh.places.items _ c.args.self.now c.self.view_is c.requires.mergeable).placed)
    ∙ ap (λ (z : Table). length z.rows + length c.args.fresh.rows.items) c.self.view_is
