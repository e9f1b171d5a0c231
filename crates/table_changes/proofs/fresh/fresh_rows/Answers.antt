use Rattle.std.proofs.Common.{◌≡◌, ◌↔◌, ℕ, List, Contains, not, subst, sym}
use Rattle.std.specs.Prelude.{Result, Ok, Err, IfOk}
use Rattle.std.specs.List.{filter}
use Rattle.std.specs.List.Sorted.{IsStrictlySortedBy}
use Rattle.std.proofs.lemmas.List.Kept.{IsStrictlySortedBy-filter}
use Rattle.std.proofs.lemmas.Result.{IfOk-weaker}
use Rattle.cqa_value.specs.declared.value.Value.{Value}
use Rattle.cqa_value.proofs.Words.{Contains-filter}
use Rattle.cqa_model.specs.Database.{block_cmp}
use Rattle.row_order.specs.Ordered.{block_order}
use Rattle.table_changes.specs.Changes.{is_among}
use Rattle.table_changes.proofs.Counting.{counted}
use Rattle.table_changes.proofs.Membership.{not_among}
use Rattle.row_order.proofs.Reordering.{order_sorted, order_members}
use Rattle.table_changes.proofs.fresh.fresh_rows.Goals as goal

if_both : {T E : Type 0} (r : Result T E) (P Q R : T → Type 0) → ((v : T) → P v → Q v → R v) → IfOk r P → IfOk r Q → IfOk r R
if_both (Ok v) P Q R f p q = f v p q
if_both (Err e) P Q R f p q = tt

module _ (key : List ℕ) (stored rows sorted : List (List Value)) (is : sorted ≡ block_order key rows) where
  kept : List (List Value)
  kept = filter (λ row. not (is_among stored row)) sorted

  in_order : IsStrictlySortedBy (block_cmp key) kept
  unfolding kept
  in_order = IsStrictlySortedBy-filter (block_cmp key) (λ row. not (is_among stored row)) sorted (subst (IsStrictlySortedBy (block_cmp key)) (sym is) (order_sorted key rows))

  joined : (row : List Value) → Contains kept row ↔ (Contains rows row × (Contains stored row → ⊥))
  unfolding kept
  joined row =
      let passes = Contains-filter (λ row. not (is_among stored row)) sorted row in
      let other = not_among stored row in
      let same = subst (λ sorted. Contains sorted row ↔ Contains rows row) (sym is) (order_members key rows row) in (
        λ h. let k = passes.0 h in (same.0 k.0, other.0 k.1),
        λ h. passes.1 (same.1 h.0, other.1 h.1),
      )

pub without-requires-clause-given : goal.without-requires-clause-given
without-requires-clause-given c = subst (IsStrictlySortedBy (block_cmp c.args.key.now)) (sym c.put_in_order.ensures) (order_sorted c.args.key.now c.args.rows.items)

pub returns-clause-new : goal.returns-clause-new
unfolding kept
returns-clause-new c =
    IfOk-weaker c.without.result (λ fresh. fresh.rows.items ≡ filter (λ row. not (is_among c.args.stored.now row)) c.put_in_order.new.rows.items) _
    (λ fresh e row. subst (λ rows. Contains rows row ↔ (Contains c.args.rows.items row × (Contains c.args.stored.now row → ⊥))) (sym e) (joined c.args.key.now c.args.stored.now c.args.rows.items c.put_in_order.new.rows.items c.put_in_order.ensures row))
    c.without.ensures.fresh

pub returns-clause-count : goal.returns-clause-count
unfolding kept
returns-clause-count c =
    let key = c.args.key.now in
    let stored = c.args.stored.now in
    let sorted = c.put_in_order.new.rows.items in
    IfOk-weaker c.without.result (λ fresh. fresh.rows.items ≡ filter (λ row. not (is_among stored row)) sorted) _
    (λ fresh e. counted key stored c.args.rows.items fresh.rows.items (subst (IsStrictlySortedBy (block_cmp key)) (sym e) (in_order key stored c.args.rows.items sorted c.put_in_order.ensures))
    (λ row. subst (λ rows. Contains rows row ↔ (Contains c.args.rows.items row × (Contains stored row → ⊥))) (sym e) (joined key stored c.args.rows.items sorted c.put_in_order.ensures row)))
    c.without.ensures.fresh

pub returns-clause-mergeable : goal.returns-clause-mergeable
unfolding kept
returns-clause-mergeable c =
    let key = c.args.key.now in
    let stored = c.args.stored.now in
    let sorted = c.put_in_order.new.rows.items in
    if_both c.without.result (λ fresh. fresh.rows.items ≡ filter (λ row. not (is_among stored row)) sorted) _ _
    (λ fresh e placed. record {
      ascending = c.requires;
      rising = subst (IsStrictlySortedBy (block_cmp key)) (sym e) (in_order key stored c.args.rows.items sorted c.put_in_order.ensures);
      apart = λ row m h. ((joined key stored c.args.rows.items sorted c.put_in_order.ensures row).0 (subst (λ rows. Contains rows row) e h)).1 m;
      placed = placed;
    })
    c.without.ensures.fresh c.without.ensures.placed
