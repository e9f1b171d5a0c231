use Rattle.std.proofs.Common.{◌↔◌, ℕ, List, length, get_or, Contains, sym, subst, arith}
use Rattle.std.proofs.lemmas.List.Elements.{Contains-get_or}
use Rattle.std.proofs.lemmas.Result.{IfOk-weaker}
use Rattle.std.specs.Ordering.{nat_cmp}
use Rattle.std.specs.List.Sorted.{IsStrictlySortedBy}
use Rattle.row_lists.specs.declared.frame.Frame.{Frame}
use Rattle.row_lists.proofs.Framing.{later, few_below, rising_apart}
use Rattle.row_lists.proofs.frame.rising_frame.Goals as goal

pub frame_of-requires-clause-few : goal.frame_of-requires-clause-few
frame_of-requires-clause-few c =
    let tables = c.put_in_order.new.numbers.items in
    let few = few_below tables (length c.args.db.now) (later tables c.put_in_order.ensures.rises) (λ t m. c.requires t ((c.put_in_order.ensures.same t).0 m)) in
    let most = c.count-tables.ensures.database.few_tables in
    omega (arith, few, most)

pub frame_of-requires-clause-there : goal.frame_of-requires-clause-there
frame_of-requires-clause-there c s l =
    let tables = c.put_in_order.new.numbers.items in
    c.requires (get_or tables s 0) ((c.put_in_order.ensures.same (get_or tables s 0)).0 (Contains-get_or tables s 0 l))

pub frame_of-requires-clause-apart : goal.frame_of-requires-clause-apart
frame_of-requires-clause-apart c = rising_apart c.put_in_order.new.numbers.items c.put_in_order.ensures.rises

pub returns-clause-rises : goal.returns-clause-rises
returns-clause-rises c = IfOk-weaker c.frame_of.result _ _ (λ (f : Frame) e. subst (IsStrictlySortedBy nat_cmp) (sym e) c.put_in_order.ensures.rises) c.frame_of.ensures.same

pub returns-clause-same : goal.returns-clause-same
returns-clause-same c = IfOk-weaker c.frame_of.result _ _ (λ (f : Frame) e. λ t. subst (λ (xs : List ℕ). Contains xs t ↔ Contains c.args.tables.items t) (sym e) (c.put_in_order.ensures.same t)) c.frame_of.ensures.same
