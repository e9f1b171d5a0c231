use Rattle.std.proofs.Common.{◌<◌, ◌≡◌, subst}
use Rattle.cqa_model.specs.Query.{atom_at}
use Rattle.cqa_model.specs.Naming.{class_at}
use Rattle.cqa_model.specs.declared.query.Atom.{Atom}
use Rattle.sql_steps.proofs.Steps.{atom-read, variables-more}
use Rattle.sql_steps.proofs.shape.variables_of.Goals as goal

pub loop-col-preserved : goal.loop-col-preserved
loop-col-preserved c =
    let q = c.args.query.now in
    let l : c.loop-col.col < (atom_at q c.args.atom).width = subst (λ (z : Atom). c.loop-col.col < z.width) (atom-read q c.as_slice.result.now c.args.atom c.index-as_slice-atom.result c.as_slice.ensures c.requires.atom) c.loop-col-test.true in
    let e : c.from.result ≡ class_at c.args.variables.now (record { atom = c.args.atom; col = c.loop-col.col }) = cc in
    variables-more q c.args.variables.now c.requires.variables c.args.atom c.loop-col.col c.from.result c.loop-col.list c.push.new.self c.requires.atom l c.loop-col.invariant c.in_ok-push.ensures.ok e
