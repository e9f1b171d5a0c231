use Rattle.std.proofs.Common.{Contains, slice_get, subst, sym}
use Rattle.std.proofs.lemmas.List.Elements.{Contains-get_or}
use Rattle.cqa_model.specs.declared.query.Atom.{Atom}
use Rattle.rewrite_text.specs.Texts.{certificate_create}
use Rattle.rewrite_text.proofs.Drafting.{adds_none, add_more, add_last, more_over, refused_on}
use Rattle.rewrite_text.proofs.statements.add_creates.Goals as goal

pub loop-atom-init : goal.loop-atom-init
loop-atom-init c = adds_none c.args.draft.now c.requires.between

pub add_create-requires-clause-there : goal.add_create-requires-clause-there
add_create-requires-clause-there c =
    c.requires.there c.atom-item.result (subst (Contains c.args.atoms.now) (sym c.atom-item.is) (Contains-get_or c.args.atoms.now c.loop-atom.atom-index c.atom-item.result c.loop-atom-test.true))

pub add_create-requires-clause-between : goal.add_create-requires-clause-between
add_create-requires-clause-between c = c.loop-atom.invariant.between

pub loop-atom-preserved : goal.loop-atom-preserved
loop-atom-preserved c =
    add_more (λ (atom : Atom). certificate_create (slice_get c.args.db.now atom.table)) c.args.atoms.now c.loop-atom.atom-index c.atom-item.result c.args.draft.now c.loop-atom.draft c.add_create.new.draft c.loop-atom-test.true c.atom-item.is
    c.loop-atom.invariant c.in_ok-add_create.ensures.ok

pub returns-clause-ok : goal.returns-clause-ok
returns-clause-ok c =
    add_last (λ (atom : Atom). certificate_create (slice_get c.args.db.now atom.table)) c.args.atoms.now c.loop-atom.atom-index c.args.draft.now c.loop-atom.draft c.loop-atom-test.false c.loop-atom.invariant

pub returns-in_err-add_create-clause-over : goal.returns-in_err-add_create-clause-over
returns-in_err-add_create-clause-over c =
    refused_on (more_over (λ (atom : Atom). certificate_create (slice_get c.args.db.now atom.table)) c.args.atoms.now c.loop-atom.atom-index c.atom-item.result c.args.draft.now c.loop-atom.draft c.loop-atom-test.true c.atom-item.is c.loop-atom.invariant)
    c.from_residual.result c.in_err-add_create.field-0.0 c.from_residual.ensures.1 c.in_err-add_create.ensures.over
