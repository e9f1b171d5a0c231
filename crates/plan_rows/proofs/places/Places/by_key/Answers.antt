use Rattle.std.proofs.Common.{◌≡◌, inl, inr, [], length, get_or, subst, arith}
use Rattle.row_order.specs.Spans.{first_key}
use Rattle.cqa_model.specs.Query.{atom_key}
use Rattle.plan_rows.specs.Over.{look_query, look_rows}
use Rattle.plan_rows.proofs.Spanning.{outside, span-within}
use Rattle.plan_rows.proofs.places.Places.by_key.Goals as goal

pub returns : goal.returns
returns c =
    let look = c.args.look.now in
    let q = look_query look in
    let key = atom_key q look.atom in
    let rows = look_rows look in
    let values = c.known_values-values.result in
    let start = c.rows_with-start.result.0 in
    let part = c.rows_with-start.result.1 in
    let span = c.rows_with-start.ensures.span in
    let count : c.len.result ≡ length part = c.len.ensures in
    let all = span-within key rows values start part span in
    record {
      within = omega (arith, count, all);
      others = λ i l o f. outside key rows values start part span i l (elim o [ inl low ↦ inl low | inr high ↦ inr (omega (arith, count, high)) ])
          (subst (λ ks. first_key ks values (get_or rows i []) ≡ values) c.key_of.ensures (c.known_values-values.ensures.known (get_or rows i []) f));
      known = λ i l f. tt;
    }
