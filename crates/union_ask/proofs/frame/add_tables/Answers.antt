use Rattle.std.proofs.Common.{◌≡◌, ◌<◌, ◌≤◌, ◌∙◌, inl, inr, List, [], false, length, get_or, ap, subst, arith}
use Rattle.std.proofs.lemmas.List.{get_or_default}
use Rattle.cqa_model.specs.declared.query.Atom.{Atom}
use Rattle.cqa_model.specs.Query.{atom_at}
use Rattle.union_ask.proofs.Sets.{atom-tables-none, atom-tables-more}
use Rattle.union_ask.proofs.frame.add_tables.Goals as goal

pub loop-atom-init : goal.loop-atom-init
loop-atom-init c = atom-tables-none c.args.query.now c.args.tables.now.items

pub loop-atom-preserved : goal.loop-atom-preserved
loop-atom-preserved c =
    let atoms = c.args.query.now.atoms in
    let i = c.loop-atom.atom-index in
    let same : c.as_slice-atom-items.result.now ≡ atoms = c.as_slice-atom-items.ensures in
    let l : i < length atoms = subst (λ (xs : List Atom). i < length xs) same c.loop-atom-test.true in
    let item : c.atom-item.result ≡ get_or atoms i c.atom-item.result = subst (λ (xs : List Atom). c.atom-item.result ≡ get_or xs i c.atom-item.result) same c.atom-item.is in
    let is : c.atom-item.result ≡ atom_at c.args.query.now i = item ∙ get_or_default atoms i c.atom-item.result (record { table = 0; width = 0; key = []; strict = false }) l in
    atom-tables-more c.args.query.now c.args.tables.now.items i c.loop-atom.tables.items c.push.new.self.items c.atom-item.result.table (ap (λ (a : Atom). a.table) is) c.loop-atom.invariant c.in_ok-push.ensures.items

pub returns : goal.returns
returns c t =
    let atoms = c.args.query.now.atoms in
    let same : c.as_slice-atom-items.result.now ≡ atoms = c.as_slice-atom-items.ensures in
    let over : length atoms ≤ c.loop-atom.atom-index = subst (λ (xs : List Atom). length xs ≤ c.loop-atom.atom-index) same c.loop-atom-test.false in
    let end = c.loop-atom.auto.atom-index-end in
    let low : c.loop-atom.atom-index ≤ length atoms = subst (λ (xs : List Atom). c.loop-atom.atom-index ≤ length xs) same end in
    let h = c.loop-atom.invariant t in (
      λ m. elim (h.0 m) [ inl o ↦ inl o | inr (F, l, e) ↦ inr (F, (let z : F < length atoms = omega (arith, l, low) in z), e) ],
      λ s. h.1 (elim s [ inl o ↦ inl o | inr (F, l, e) ↦ inr (F, (let z : F < c.loop-atom.atom-index = omega (arith, l, over) in z), e) ]),
    )
