use Rattle.std.proofs.Common.{List, [], ◌≡◌, subst, sym, arith}
use Rattle.std.specs.List.Sorted.{IsStrictlySortedBy}
use Rattle.std.specs.Option.{option_copied}
use Rattle.cqa_value.specs.declared.value.Value.{Value}
use Rattle.cqa_model.specs.Database.{block_cmp}
use Rattle.cqa_model.specs.Query.{atom_key, rows_of}
use Rattle.cqa_model.proofs.Classic.{mem-nil}
use Rattle.row_order.specs.Spans.{first_key}
use Rattle.plan_rows.specs.Knowing.{MayFit}
use Rattle.plan_rows.specs.Over.{query_of, stored_rows, rows_before}
use Rattle.fo_plan.proofs.Looks.{of-look}
use Rattle.fo_plan.proofs.Spanned.{span-enough}
use Rattle.fo_plan.proofs.enough.Blocks.by_key.Goals as goal

pub invariant_of-result : goal.invariant_of-result
invariant_of-result c =
    let within = c.rows_with-rows.ensures.within in
    record {
      in_order = subst (λ key. IsStrictlySortedBy (block_cmp key) c.rows_with-rows.result.1) (sym c.key_of-key.ensures) c.rows_with-rows.ensures.in_order;
      few = omega (arith, within);
      sized = tt;
    }

pub returns : goal.returns
returns c =
    let step = c.args.step.now in
    let q = query_of step in
    let given = option_copied c.args.row in
    let key = c.key_of-key.result.now in
    let values = c.known_values-values.result in
    let look = c.look.ensures in
    let known = of-look step c.look.result look.setting look.taken look.atom (λ s taken F. (y : List Value) → MayFit s.bound.now.query.now given taken F y → first_key key values y ≡ values) c.known_values-values.ensures.known in
    record {
      key = c.key_of-key.ensures;
      links = [];
      behind = λ G m. absurd (mem-nil G m);
      enough = span-enough (atom_key q step.atom) (rows_of q (stored_rows step) step.atom) values c.rows_with-rows.result.0 c.rows_with-rows.result.1 c.rows_with-rows.ensures.span (MayFit q given (rows_before step) step.atom)
          (λ y f. subst (λ ks. first_key ks values y ≡ values) c.key_of-key.ensures (known y f));
      wanted = λ at there may. tt;
    }
