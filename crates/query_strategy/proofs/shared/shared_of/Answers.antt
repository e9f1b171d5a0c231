use Rattle.std.proofs.Common.{◌≡◌, ◌<◌, ◌∙◌, List, false, length, get_or, ap, subst, sym, refl, arith}
use Rattle.cqa_model.specs.declared.query.Atom.{Atom}
use Rattle.cqa_model.specs.declared.query.Query.{Query}
use Rattle.cqa_model.specs.Query.{atom_at}
use Rattle.query_strategy.specs.Apart.{IsPartAt}
use Rattle.query_strategy.proofs.Places.{passed, atom_is, of_part, later_again}
use Rattle.query_strategy.proofs.shared.shared_of.Goals as goal

pub loop-atom-preserved-then-atoms-atom : goal.loop-atom-preserved-then-atoms-atom
loop-atom-preserved-then-atoms-atom c x s e = passed c.loop-atom.atom x.atom (c.loop-atom.invariant x s e) (λ same.
    let q = c.index-parts-first.result in
    let loose = of_part c.args.parts.now q x c.args.first (c.requires, sym c.index-parts-first.is) s e in
    let is = atom_is q c.as_slice-atoms.result.now c.loop-atom.atom c.index-atoms-atom-in-loop-atom.result (c.as_slice-atoms.ensures ∙ ap (λ (p : Query). p.atoms) (sym c.index-parts-first.is)) c.loop-atom-test.true in
    let strict = c.if-atoms-atom.true in
    let here : (atom_at q c.loop-atom.atom).strict ≡ false = subst (λ F. (atom_at q F).strict ≡ false) (sym same) loose.2 in
    let there = ap (λ (a : Atom). a.strict) is in
    absurd (cc))

pub returns-in-Some-clause-some : goal.returns-in-Some-clause-some
returns-in-Some-clause-some c =
    let q = c.index-parts-first.result in
    let atoms = c.as_slice-atoms.result.now in
    let at = c.loop-atom.atom in
    let there = c.as_slice-atoms.ensures ∙ ap (λ (p : Query). p.atoms) (sym c.index-parts-first.is) in
    let is = atom_is q atoms at c.index-atoms-atom.result there c.loop-atom-test.true in
    let is_too = atom_is q atoms at c.index-atoms-atom-in-loop-atom.result there c.loop-atom-test.true in
    let place : IsPartAt c.args.parts.now c.args.first q = (c.requires, sym c.index-parts-first.is) in
    record {
      shared = record {
        first = (
          q,
          place,
          (
            subst (λ (xs : List Atom). at < length xs) there c.loop-atom-test.true,
            sym (ap (λ (a : Atom). a.table) is),
            sym (ap (λ (a : Atom). a.strict) is_too) ∙ c.if-atoms-atom.false,
          ),
        );
        second = c.in-Some.ensures.some;
      };
      of_part = refl;
      first_table = c.loop-atom.invariant;
      first_later = λ x s e f. c.in-Some.ensures.least x.second (later_again c.args.parts.now q x c.args.first at (get_or atoms at c.index-atoms-atom.result) place s e f is);
    }

pub loop-atom-preserved : goal.loop-atom-preserved
loop-atom-preserved c x s e = passed c.loop-atom.atom x.atom (c.loop-atom.invariant x s e) (λ same.
    let q = c.index-parts-first.result in
    let atoms = c.as_slice-atoms.result.now in
    let at = c.loop-atom.atom in
    let there = c.as_slice-atoms.ensures ∙ ap (λ (p : Query). p.atoms) (sym c.index-parts-first.is) in
    let is = atom_is q atoms at c.index-atoms-atom.result there c.loop-atom-test.true in
    c.in_default.ensures.none refl x.second (later_again c.args.parts.now q x c.args.first at (get_or atoms at c.index-atoms-atom.result) (c.requires, sym c.index-parts-first.is) s e (sym same) is))

pub returns-clause-none : goal.returns-clause-none
returns-clause-none c u x s e =
    let q = c.index-parts-first.result in
    let loose = of_part c.args.parts.now q x c.args.first (c.requires, sym c.index-parts-first.is) s e in
    let there = c.as_slice-atoms.ensures ∙ ap (λ (p : Query). p.atoms) (sym c.index-parts-first.is) in
    absurd (omega (arith, c.loop-atom.invariant x s e, c.loop-atom-test.false, ap (λ (xs : List Atom). length xs) there, loose.0))
