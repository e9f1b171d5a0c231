use Rattle.std.proofs.Common.{◌+◌, ◌<◌, [], ◌∷◌, length, ap, sym, ◌∙◌, subst, arith, rules}
use Rattle.block_tree.specs.Trees.{FitEach}
use Rattle.block_check.specs.Walking.{due_of, WalksOn, Breaks}
use Rattle.block_check.proofs.Faults.{nth_is}
use Rattle.block_check.proofs.Going.{alike_more, stands_on, below_breaks}
use Rattle.block_tree.specs.Judging.{dues_below}
use Rattle.std.proofs.lemmas.Result.{IfOk-weaker, IfErr-weaker}
use Rattle.plan_rows.specs.Over.{query_of, rows_before}
use Rattle.plan_rows.specs.Taking.{placed}
use Rattle.plan_rows.specs.Underway.{IsUnderway}
use Rattle.plan_rows.proofs.Suiting.{suits-from}
use Rattle.plan_rows.proofs.PlanParts.{plan-split}
use Rattle.plan_rows.proofs.Sharing.{first-atom, underway-more}
use Rattle.block_check.proofs.walk.+tree.Goals as goal

pub tree-invariant_of-step : goal.tree-invariant_of-step
tree-invariant_of-step t c =
    let rest = c.args.rest.now in
    let underway = subst (IsUnderway rest.course.now (placed rest.taken.now)) (plan-split rest.plan.now c.in-len1-up.len_at_least) rest.underway in
    record { underway = underway; there = first-atom rest.course.now (placed rest.taken.now) _ _ underway }

pub under-invariant_of-rest : goal.under-invariant_of-rest
under-invariant_of-rest t c =
    let step = c.args.step.now in
    let x = c.x-item.result in
    record { underway = underway-more step.course.now (rows_before step) step.atom step.rest.now x step.underway (suits-from (query_of step) (rows_before step) step.atom x c.args.row.now (c.requires.fit x (c.loop-x.x-index, c.loop-x-test.true, sym c.x-item.is))) }

pub one-under-requires : goal.one-under-requires
one-under-requires t c =
    let a = c.args in
    let q = query_of a.step.now in
    let l : a.at < length a.nodes.now = omega (arith, c.requires.within, c.if-at-nodes.false) in
    let stands = c.in_default.ensures in
    let rows = c.as_slice.ensures ∙ ap (λ z. z.rows) (sym c.index-nodes-at.is ∙ nth_is a.nodes.now a.at c.index-nodes-at.result l c.index-nodes-at.is) in
    (search rules, (omega (arith, l), (c.requires.marks, (alike_more q a.row.now a.nodes.now (due_of a.step.now) a.at l c.requires.alike stands, subst (FitEach q a.row.now (rows_before a.step.now) a.step.now.atom) (sym rows) stands.1))))

pub one-returns-clause-on : goal.one-returns-clause-on
one-returns-clause-on t c =
    let a = c.args in
    let q = query_of a.step.now in
    let d = due_of a.step.now in
    let l : a.at < length a.nodes.now = omega (arith, c.requires.within, c.if-at-nodes.false) in
    let rows = c.as_slice.ensures ∙ ap (λ z. z.rows) (sym c.index-nodes-at.is ∙ nth_is a.nodes.now a.at c.index-nodes-at.result l c.index-nodes-at.is) in
    IfOk-weaker c.under.result (λ on. WalksOn q a.row.now a.nodes.now (dues_below d c.as_slice.result.now) (a.at + 1) [] on) (λ on. WalksOn q a.row.now a.nodes.now (d ∷ []) a.at [] on)
    (λ on goes. stands_on q a.row.now a.nodes.now d a.at on l c.in_default.ensures (subst (λ z. WalksOn q a.row.now a.nodes.now (dues_below d z) (a.at + 1) [] on) rows goes)) c.under.ensures.on

pub one-returns-clause-fault : goal.one-returns-clause-fault
one-returns-clause-fault t c =
    let a = c.args in
    let q = query_of a.step.now in
    let d = due_of a.step.now in
    let l : a.at < length a.nodes.now = omega (arith, c.requires.within, c.if-at-nodes.false) in
    let rows = c.as_slice.ensures ∙ ap (λ z. z.rows) (sym c.index-nodes-at.is ∙ nth_is a.nodes.now a.at c.index-nodes-at.result l c.index-nodes-at.is) in
    IfErr-weaker c.under.result (λ f. Breaks q a.row.now a.nodes.now (dues_below d c.as_slice.result.now) (a.at + 1) f) (λ f. Breaks q a.row.now a.nodes.now (d ∷ []) a.at f)
    (λ f breaks. below_breaks q a.row.now a.nodes.now d a.at f l c.in_default.ensures (subst (λ z. Breaks q a.row.now a.nodes.now (dues_below d z) (a.at + 1) f) rows breaks)) c.under.ensures.fault
