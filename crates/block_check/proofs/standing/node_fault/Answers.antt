use Rattle.std.proofs.Common.{sym, subst, ◌∙◌}
use Rattle.std.proofs.lemmas.Bool.{false≢true, not-false}
use Rattle.plan_rows.specs.Over.{query_of, rows_before}
use Rattle.block_tree.specs.Trees.{FitEach}
use Rattle.block_check.specs.Walking.{due_of}
use Rattle.block_check.proofs.Faults.{otherwise, fits_not, stands}
use Rattle.block_check.proofs.standing.node_fault.Goals as goal

pub returns-then-not-list_same : goal.returns-then-not-list_same
returns-then-not-list_same c =
    let a = c.args in
    otherwise (query_of a.step.now) a.nodes.now a.marks.now a.at (due_of a.step.now) c.index-nodes-at.result c.index-nodes-mark.result c.requires.there c.requires.marks c.index-nodes-at.is c.index-nodes-mark.is c.if-node-step.false (not-false _ c.if-not-mark.false)
    a.row.now (λ e. false≢true (sym c.if-not-list_same.true ∙ c.list_same.ensures.1 e))

pub returns-then-not-fit_each : goal.returns-then-not-fit_each
returns-then-not-fit_each c =
    let a = c.args in
    fits_not (query_of a.step.now) a.nodes.now a.marks.now a.at (due_of a.step.now) c.index-nodes-at.result c.index-nodes-mark.result c.requires.there c.requires.marks c.index-nodes-at.is c.index-nodes-mark.is c.if-node-step.false (not-false _ c.if-not-mark.false)
    a.row.now c.requires.alike (c.list_same.ensures.0 c.if-not-list_same.false) (λ fit. false≢true (sym c.if-not-fit_each.true ∙ c.fit_each.ensures.1 (subst (FitEach (query_of a.step.now) a.row.now (rows_before a.step.now) a.step.now.atom) (sym c.as_slice.ensures) fit)))

pub returns : goal.returns
returns c =
    let a = c.args in
    stands (query_of a.step.now) a.nodes.now a.marks.now a.at (due_of a.step.now) c.index-nodes-at.result c.index-nodes-mark.result c.requires.there c.requires.marks c.index-nodes-at.is c.index-nodes-mark.is c.if-node-step.false (not-false _ c.if-not-mark.false)
    a.row.now c.requires.alike (c.list_same.ensures.0 c.if-not-list_same.false) (subst (FitEach (query_of a.step.now) a.row.now (rows_before a.step.now) a.step.now.atom) c.as_slice.ensures (c.fit_each.ensures.0 c.if-not-fit_each.false))
