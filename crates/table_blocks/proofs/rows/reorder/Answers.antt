use Rattle.std.proofs.Common.{◌≡◌, ◌∙◌, Result, Ok, Err, Option, Some, None, length, sym, ap, refl, subst, true≢false}
use Rattle.std.specs.Prelude.{IfOk, MatchOption}
use Rattle.std.specs.List.Sorted.{IsStrictlySortedBy}
use Rattle.cqa_value.proofs.Words.{on_err}
use Rattle.cqa_model.specs.Database.{block_cmp}
use Rattle.row_order.specs.Ordered.{block_order}
use Rattle.row_order.proofs.Reordering.{order_sorted, order_members, order_is, order_long}
use Rattle.table_blocks.proofs.rows.reorder.Goals as goal

pub clash_of-found-requires : goal.clash_of-found-requires
clash_of-found-requires c =
    subst (IsStrictlySortedBy (block_cmp c.args.key.now)) (sym (c.over-ordered.ensures ∙ c.as_slice.ensures.value ∙ c.put_in_order.ensures)) (order_sorted c.args.key.now c.args.rows.now.items)

-- the rows stand as before
restored : (c : goal.After-put_in_order-then-not-is_clear) → c.put_in_order-then-not-is_clear.new.rows.items ≡ c.args.rows.now.items
restored c =
    c.put_in_order-then-not-is_clear.ensures ∙ ap (block_order c.args.old_key.now) c.put_in_order.ensures
    ∙ sym (order_is c.args.old_key.now c.args.rows.now.items (block_order c.args.key.now c.args.rows.now.items) c.requires (λ row. let h = order_members c.args.key.now c.args.rows.now.items row in (h.1, h.0)))

-- what holds where two rows were found, or none could be looked for
unless_clear : {A E : Type 0} (found : Result (Option A) E) (P Q : Type 0) → (found ≡ Ok None → ⊥) → Q → IfOk found (λ clash. MatchOption clash P (λ _. Q))
unless_clear (Ok None) P Q other q = absurd (other refl)
unless_clear (Ok (Some clash)) P Q other q = q
unless_clear (Err e) P Q other q = tt

pub returns-then-not-is_clear-clause-changed : goal.returns-then-not-is_clear-clause-changed
returns-then-not-is_clear-clause-changed c =
    unless_clear c.clash_of-found.result _ _ (λ e. true≢false (sym (c.is_clear.ensures.1 e) ∙ c.if-not-is_clear.true)) (restored c)

pub returns-then-not-is_clear-clause-err : goal.returns-then-not-is_clear-clause-err
returns-then-not-is_clear-clause-err c = on_err c.clash_of-found.result (restored c)

pub returns-then-not-is_clear-clause-as_many : goal.returns-then-not-is_clear-clause-as_many
returns-then-not-is_clear-clause-as_many c = ap length (restored c)

pub returns-else-not-is_clear-clause-as_many : goal.returns-else-not-is_clear-clause-as_many
returns-else-not-is_clear-clause-as_many c = ap length c.put_in_order.ensures ∙ order_long c.args.key.now c.args.old_key.now c.args.rows.now.items c.requires

pub returns-then-not-strict-clause-as_many : goal.returns-then-not-strict-clause-as_many
returns-then-not-strict-clause-as_many c = ap length c.put_in_order.ensures ∙ order_long c.args.key.now c.args.old_key.now c.args.rows.now.items c.requires
