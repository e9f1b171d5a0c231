use Rattle.std.proofs.Common.{◌≡◌, inl, inr, length, ap, ◌∙◌, arith, le_of_eq}
use Rattle.plan_rows.specs.Over.{look_rows}
use Rattle.plan_rows.proofs.places.Places.by_links.Goals as goal

pub returns : goal.returns
returns c =
    let look = c.args.look.now in
    let size : c.len-end.result ≡ length (look_rows look) = c.len-end.ensures ∙ ap length c.rows_of.ensures.rows in
    record {
      within = le_of_eq size;
      others = λ i l o f. elim o [
        | inl low ↦ c.first.ensures.none i (omega arith) low (c.in_ok-places.ensures.all i l f)
        | inr high ↦ absurd (omega (arith, high, l, size))
      ];
      known = λ i l f. c.in_ok-places.ensures.all i l f;
    }
