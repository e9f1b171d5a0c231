use Rattle.std.proofs.Common.{◌≡◌, length, sym, subst, arith}
use Rattle.join_access.specs.Listing.{names_of}
use Rattle.row_lists.specs.Formulas.{table_at}
use Rattle.row_lists.specs.Spans.{IsSpanNumbering}
use Rattle.list_search.specs.Quotients.{AreNumberedTo, IsListed}
use Rattle.list_search.proofs.Listed.{listed_few}
use Rattle.list_search.proofs.SingleRows.{numbering}
use Rattle.list_search.proofs.listed_rows.listed_rows.Goals as goal

pub invariant_of-result : goal.invariant_of-result
invariant_of-result c =
    let l = c.args.lists.now in
    let all = names_of l.lists.now in
    let frame = l.frame.now.tables in
    let spans = c.loop-slot.numbered.items in
    let ended : c.loop-slot.slot ≡ length frame = omega arith in
    let rows = subst (λ n. AreNumberedTo frame all n spans) ended c.loop-slot.invariant.rows in
    let len = c.len-vars.ensures in
    let long : c.len-vars.result ≡ length spans = omega (arith, len, c.loop-slot.numbered.ok.0) in
    record {
      kept = subst (λ ss. IsSpanNumbering ss c.len-vars.result) (sym c.from_vec.ensures)
          (numbering (IsListed frame all (length frame)) spans rows (λ s p i. listed_few l.db.now all l.database l.stored (table_at frame s) p i.1) c.len-vars.result long);
    }

pub returns : goal.returns
returns c =
    let l = c.args.lists.now in
    let all = names_of l.lists.now in
    let frame = l.frame.now.tables in
    let ended : c.loop-slot.slot ≡ length frame = omega arith in
    subst (AreNumberedTo frame all (length frame)) (sym c.from_vec.ensures) (subst (λ n. AreNumberedTo frame all n c.loop-slot.numbered.items) ended c.loop-slot.invariant.rows)
