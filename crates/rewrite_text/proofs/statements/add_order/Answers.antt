use Rattle.std.proofs.Common.{◌∙◌, ◌++◌, ap, append_assoc, codes, refl}
use Rattle.std.specs.List.{join_by}
use Rattle.rewrite_text.specs.Texts.{atom_name, certificate_order}
use Rattle.rewrite_text.proofs.Drafting.{ended_as, ended_over, over_more_so}
use Rattle.rewrite_text.proofs.statements.add_order.Goals as goal

pub returns-clause-ok : goal.returns-clause-ok
returns-clause-ok c =
    let db = c.args.bound.now.db.now in
    let q = c.args.bound.now.query.now in
    let old = c.args.draft.now in
    let names = join_by (atom_name db q) (codes ", ") c.args.plan.now in
    let text = c.in_ok-append_atoms.ensures ∙ ap (λ z. z ++ names) c.in_ok-append.ensures ∙ append_assoc old.out.items (codes "order ") names in
    ended_as (certificate_order db q c.args.plan.now) old (record { out = c.append_atoms.new.out; start = old.start }) c.end.new.self c.end.result c.requires text refl c.end.ensures.text c.end.ensures.between c.end.ensures.short c.end.ensures.whole

pub returns-clause-over : goal.returns-clause-over
returns-clause-over c =
    let db = c.args.bound.now.db.now in
    let q = c.args.bound.now.query.now in
    let old = c.args.draft.now in
    let names = join_by (atom_name db q) (codes ", ") c.args.plan.now in
    let text = c.in_ok-append_atoms.ensures ∙ ap (λ z. z ++ names) c.in_ok-append.ensures ∙ append_assoc old.out.items (codes "order ") names in
    over_more_so (ended_over (certificate_order db q c.args.plan.now) old (record { out = c.append_atoms.new.out; start = old.start }) c.requires text refl) c.end.result c.end.ensures.over
