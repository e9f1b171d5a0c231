use Rattle.std.proofs.Common.{[], subst}
use Rattle.block_tree.specs.Judging.{due_first}
use Rattle.block_check.specs.Walking.{WalksOn, Breaks}
use Rattle.block_check.proofs.Going.{whole_verified, whole_surplus, whole_breaks}
use Rattle.block_check.proofs.judging.judge.Goals as goal

pub returns-in-Ok : goal.returns-in-Ok
returns-in-Ok c =
    let a = c.args in
    let q = a.rest.now.course.now.setting.bound.now.query.now in
    let plan = a.rest.now.plan.now in
    whole_verified q a.row.now a.nodes.now plan c.in-Ok.on (subst (λ z. WalksOn q a.row.now a.nodes.now (due_first z plan) 0 [] c.in-Ok.on) c.requires.free c.in-Ok.ensures.on) c.if-on-nodes.true

pub returns-in-Ok-2 : goal.returns-in-Ok-2
returns-in-Ok-2 c =
    let a = c.args in
    let q = a.rest.now.course.now.setting.bound.now.query.now in
    let plan = a.rest.now.plan.now in
    whole_surplus q a.row.now a.nodes.now plan c.in-Ok.on (subst (λ z. WalksOn q a.row.now a.nodes.now (due_first z plan) 0 [] c.in-Ok.on) c.requires.free c.in-Ok.ensures.on) c.if-on-nodes.false

pub returns-in-Err : goal.returns-in-Err
returns-in-Err c =
    let a = c.args in
    let q = a.rest.now.course.now.setting.bound.now.query.now in
    let plan = a.rest.now.plan.now in
    whole_breaks q a.row.now a.nodes.now plan c.in-Err.fault (subst (λ z. Breaks q a.row.now a.nodes.now (due_first z plan) 0 c.in-Err.fault) c.requires.free c.in-Err.ensures.fault)
