use Rattle.std.proofs.Common.{◌≡◌, ◌∷◌, ◌++◌, ◌∙◌, ap, codes, rules, sym}
use Rattle.std.specs.List.{flat_map, join_by}
use Rattle.std.proofs.lemmas.Result.{on_ok_weaker}
use Rattle.rewrite_text.specs.Texts.{atom_name}
use Rattle.rewrite_text.proofs.Drafting.{two_parts}
use Rattle.rewrite_text.proofs.query.append_atoms.Goals as goal

pub returns : goal.returns
returns c =
    let e : c.args.atoms.now ≡ c.in-Some.first.now ∷ c.in-Some.rest.now = search rules in
    let old = c.args.out.now.items in
    on_ok_weaker c.append_more_atoms.result (λ h. two_parts old (atom_name c.args.bound.now.db.now c.args.bound.now.query.now c.in-Some.first.now) (flat_map (λ F. codes ", " ++ atom_name c.args.bound.now.db.now c.args.bound.now.query.now F) c.in-Some.rest.now)
    c.append_atom.new.out.items c.append_more_atoms.new.out.items c.in_ok-append_atom.ensures h ∙ ap (λ z. old ++ join_by (atom_name c.args.bound.now.db.now c.args.bound.now.query.now) (codes ", ") z) (sym e)) c.append_more_atoms.ensures
