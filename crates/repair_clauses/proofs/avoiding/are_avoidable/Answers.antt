use Rattle.std.proofs.Common.{◌≡◌, true, false, length, get_or, ap, subst, arith}
use Rattle.std.proofs.lemmas.List.{length-map}
use Rattle.join_access.specs.declared.witness.Witness.{Witness}
use Rattle.join_access.specs.Listing.{names_of}
use Rattle.row_witnesses.proofs.Told.{all_names}
use Rattle.repair_clauses.proofs.FreeRows.{avoided}
use Rattle.repair_clauses.proofs.avoiding.are_avoidable.Goals as goal

pub returns : goal.returns
returns c = λ t certain.
    let w = c.args.witnesses.now in
    let b = w.bound.now in
    let size = length-map w.list (λ (x : Witness). x.rows) in
    let i = c.loop-at.invariant in
    let same = c.as_slice.ensures.value in
    let many = i.size in
    let long = ap length same in
    avoided b.query.now b.db.now w.row.now (names_of w.list) b.database (all_names w) b.fits (λ k l. i.marks k l
    (subst (λ marks. get_or marks k false ≡ true) same (c.are_all_set.ensures t k (omega (arith, l, size, many, long))))) certain
