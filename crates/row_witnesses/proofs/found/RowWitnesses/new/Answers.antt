use Rattle.std.proofs.Common.{◌∙◌, List, Contains, sym, subst}
use Rattle.join_access.specs.declared.witness.Witness.{Witness}
use Rattle.join_access.specs.Listing.{names_of}
use Rattle.join_access.proofs.Naming.{not_over}
use Rattle.row_witnesses.specs.Columns.{AreColumnsOfAtoms}
use Rattle.row_witnesses.proofs.Columns.{rows_many}
use Rattle.row_witnesses.proofs.found.RowWitnesses.new.Goals as goal

pub columns_of-requires : goal.columns_of-requires
columns_of-requires c w m =
    let b = c.args.bound.now in
    rows_many b.query.now b.db.now c.args.row.now c.args.list c.requires.all w (subst (λ (ws : List Witness). Contains ws w) c.as_slice.ensures m) ∙ sym c.len.ensures

pub invariant_of-result : goal.invariant_of-result
invariant_of-result c =
    let b = c.args.bound.now in
    record {
      all = ∣ c.requires.all ∣₁;
      few = c.requires.few;
      within = not_over b.query.now b.db.now c.args.row.now c.args.list c.requires.all c.requires.few;
      wide = c.in-Ok.ensures.size ∙ c.len.ensures;
      sorted = ∣ subst (λ (ws : List Witness). AreColumnsOfAtoms (names_of ws) c.in-Ok.columns) c.as_slice.ensures c.in-Ok.ensures.columns ∣₁;
    }
