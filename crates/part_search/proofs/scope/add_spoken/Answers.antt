use Rattle.std.proofs.Common.{◌≡◌, ◌<◌, ◌∙◌, List, [], false, length, get_or, ap, arith}
use Rattle.std.proofs.lemmas.List.{get_or_default}
use Rattle.cqa_model.specs.declared.query.Atom.{Atom}
use Rattle.cqa_model.specs.Query.{atom_at}
use Rattle.part_search.proofs.Scoping.{spoken-none, spoken-passed, spoken-more}
use Rattle.part_search.proofs.scope.add_spoken.Goals as goal

pub loop-atom-init : goal.loop-atom-init
loop-atom-init c = record { kept = λ p m. m; spoken = spoken-none c.args.query.now c.args.table c.args.columns.now.items }

pub loop-atom-preserved-then-as_slice-atom : goal.loop-atom-preserved-then-as_slice-atom
loop-atom-preserved-then-as_slice-atom c =
    let atoms = c.args.query.now.atoms in
    let at = c.loop-atom.atom in
    let l : at < length atoms = omega (arith, c.loop-atom-test.true, c.len-atom-end.ensures) in
    let item : Atom = c.index-as_slice-atom.result in
    let is : get_or c.as_slice.result.now at item ≡ atom_at c.args.query.now at = ap (λ (xs : List Atom). get_or xs at item) c.as_slice.ensures ∙ get_or_default atoms at item (record { table = 0; width = 0; key = []; strict = false }) l in
    record {
      kept = c.loop-atom.invariant.kept;
      spoken = spoken-passed c.args.query.now c.args.table at c.loop-atom.columns.items (λ e. c.if-as_slice-atom.true (ap (λ (a : Atom). a.table) is ∙ e)) c.loop-atom.invariant.spoken;
    }

pub loop-atom-preserved : goal.loop-atom-preserved
loop-atom-preserved c = record {
  kept = λ p m. c.in_ok-add_atom.ensures.kept p (c.loop-atom.invariant.kept p m);
  spoken = spoken-more c.args.query.now c.args.table c.loop-atom.atom c.loop-atom.columns.items c.add_atom.new.columns.items c.loop-atom.invariant.spoken c.in_ok-add_atom.ensures.kept c.in_ok-add_atom.ensures.added;
}
