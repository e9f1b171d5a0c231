use Rattle.std.proofs.Common.{◌<◌, ◌++◌, ◌∷◌, [], ◌∙◌, List, ℕ, ap, length, length-append, sym, subst, arith}
use Rattle.join_access.specs.Listing.{names_of}
use Rattle.row_witnesses.specs.Columns.{AreColumnsOfAtoms}
use Rattle.row_witnesses.proofs.Columns.{columns_more}
use Rattle.row_witnesses.proofs.column.columns_of.Goals as goal

pub loop-atom-init : goal.loop-atom-init
loop-atom-init c = record {
  size = ap length c.in_ok-columns.ensures.items;
  columns = λ F l. absurd (subst (λ (cs : List (List ℕ)). F < length cs → ⊥) (sym c.in_ok-columns.ensures.items) (λ m. omega (arith, m)) l);
}

pub column-requires : goal.column-requires
column-requires c w m = let many = c.requires w m in omega (arith, many)

pub loop-atom-preserved : goal.loop-atom-preserved
loop-atom-preserved c =
    let all = names_of c.args.witnesses.now in
    let old = c.loop-atom.columns.items in
    let i = c.loop-atom.invariant in
    let places = c.in_ok-column.field-0.items in
    let pushed = c.in_ok-push.ensures.items ∙ ap (λ ps. old ++ ps ∷ []) c.from_vec.ensures in
    record {
      size = let long = ap length pushed in let more = length-append old (places ∷ []) in let size = i.size in omega (arith, long, more, size);
      columns = subst (AreColumnsOfAtoms all) (sym pushed) (columns_more all old places c.loop-atom.atom i.size i.columns c.in_ok-column.ensures);
    }

pub returns-clause-size : goal.returns-clause-size
returns-clause-size c = let size = c.loop-atom.invariant.size in let same = ap length c.from_vec-2.ensures in omega (arith, size, same)

pub returns-clause-columns : goal.returns-clause-columns
returns-clause-columns c = subst (AreColumnsOfAtoms (names_of c.args.witnesses.now)) (sym c.from_vec-2.ensures) c.loop-atom.invariant.columns
