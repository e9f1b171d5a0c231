use Rattle.std.proofs.Common.{ℕ, ◌<◌, Contains, get_or, below_more, sym, subst, arith}
use Rattle.cqa_model.specs.Query.{atom_at}
use Rattle.plan_rows.specs.Left.{IsTold}
use Rattle.plan_rows.proofs.Columns.{each-atom}
use Rattle.plan_rows.proofs.shared.shared_of.Goals as goal

pub loop-atom-preserved : goal.loop-atom-preserved
loop-atom-preserved c =
    below_more (λ k. (j : ℕ) → j < (atom_at c.args.setting.now.bound.now.query.now (get_or c.args.front.now k 0)).width → IsTold c.args.setting.now.bound.now.query.now c.args.rest.now (record { atom = get_or c.args.front.now k 0; col = j }) → Contains c.add_shared.new.columns.items (record { atom = get_or c.args.front.now k 0; col = j }))
    c.loop-atom.atom-index (λ k l j lj h. c.in_ok-add_shared.ensures.kept (record { atom = get_or c.args.front.now k 0; col = j }) (c.loop-atom.invariant k l j lj h)) c.in_ok-add_shared.ensures.added

pub returns : goal.returns
returns c = λ G j m l h.
    subst (λ cs. Contains cs (record { atom = G; col = j })) (sym c.from_vec.ensures)
    (each-atom (λ H. (j : ℕ) → j < (atom_at c.args.setting.now.bound.now.query.now H).width → IsTold c.args.setting.now.bound.now.query.now c.args.rest.now (record { atom = H; col = j }) → Contains c.loop-atom.columns.items (record { atom = H; col = j }))
    c.args.front.now c.loop-atom.atom-index (omega (arith, c.loop-atom-test.false, c.loop-atom.auto.atom-index-end)) c.loop-atom.invariant G m j l h)
