use Rattle.std.proofs.Common.{sym, subst, arith}
use Rattle.join_access.specs.Listing.{names_of}
use Rattle.row_witnesses.proofs.Told.{all_names}
use Rattle.row_lists.specs.Spans.{IsSpanNumbering}
use Rattle.pair_formula.specs.Full.{AreFullSpans}
use Rattle.pair_formula.proofs.FullSpans.{full-joined, full-numbering}
use Rattle.pair_formula.proofs.full.full_blocks.Goals as goal

pub invariant_of-result : goal.invariant_of-result
invariant_of-result c =
    let w = c.args.witnesses.now in
    let q = w.bound.now.query.now in
    let db = w.bound.now.db.now in
    let all = names_of w.list in
    let vars = c.in_ok-vars.vars in
    let a = c.in_ok-first.ensures.small in
    let b = c.in_ok-vars.ensures.small in
    let full = full-joined q db all c.requires c.in_ok-first.first vars c.full_of_atom.new.spans.items c.full_of_atom-2.new.spans.items c.in_ok-first.ensures.blocks c.in_ok-vars.ensures.blocks (omega (arith, a, b)) in
    record {
      kept = subst (λ ss. IsSpanNumbering ss vars) (sym c.from_vec.ensures) (subst (λ ss. IsSpanNumbering ss vars) (sym c.in_ok-append.ensures.items)
          (full-numbering q db w.row.now all (all_names w) vars _ full w.bound.now.database));
    }

pub returns : goal.returns
returns c =
    let w = c.args.witnesses.now in
    let q = w.bound.now.query.now in
    let db = w.bound.now.db.now in
    let all = names_of w.list in
    let vars = c.in_ok-vars.vars in
    let a = c.in_ok-first.ensures.small in
    let b = c.in_ok-vars.ensures.small in
    subst (AreFullSpans q db all vars) (sym c.from_vec.ensures) (subst (AreFullSpans q db all vars) (sym c.in_ok-append.ensures.items)
    (full-joined q db all c.requires c.in_ok-first.first vars c.full_of_atom.new.spans.items c.full_of_atom-2.new.spans.items c.in_ok-first.ensures.blocks c.in_ok-vars.ensures.blocks (omega (arith, a, b))))
