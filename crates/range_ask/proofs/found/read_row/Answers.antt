use Rattle.std.proofs.Common.{◌≡◌, ◌+◌, true, refl, sym, ◌∙◌, ap, subst}
use Rattle.range_ask.specs.Ranges.{meets}
use Rattle.range_ask.specs.Finding.{row_in_block, IsFurthest}
use Rattle.range_ask.proofs.Further.{missing-more}
use Rattle.range_ask.proofs.found.read_row.Goals as goal

pub returns-then-meets-clause-met : goal.returns-then-meets-clause-met
returns-then-meets-clause-met c =
    let look = c.args.look.now in
    let p = meets look.tests.now in
    let n = c.args.held.read in
    let turn = c.turned-back.ensures in
    λ block met e.
    let t : p (row_in_block block n) ≡ true = ap p (sym e) ∙ (sym c.meets.ensures ∙ c.if-meets.true) in
    record {
      read_is = refl;
      missing = missing-more p block n c.args.held.missing t met.missing;
      near = subst (λ w. IsFurthest w p look.col block (n + 1) c.further_spot-near.result) turn (c.further_spot-near.ensures p block (subst (λ w. IsFurthest w p look.col block n c.args.held.near) (sym turn) met.near) t (sym e));
      far = c.further_spot-far.ensures p block met.far t (sym e);
    }
