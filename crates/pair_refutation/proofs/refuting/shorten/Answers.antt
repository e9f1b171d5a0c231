use Rattle.std.proofs.Common.{ℕ, ℤ, List, [], ◌≡◌, ◌+◌, ◌++◌, ◌∷◌, ◌∙◌, pos, length, ap, subst, arith, Contains}
use Rattle.pair_refutation.specs.Refuting.{left_literals, lost_hints}
use Rattle.pair_refutation.proofs.Losing.{rows-within, rows-rise, vars-read, vars-small, own-left, short-step, read-at}
use Rattle.pair_refutation.proofs.refuting.shorten.Goals as goal

pub slice_bounds-vars-count : goal.slice_bounds-vars-count
slice_bounds-vars-count c =
    let start = c.args.graph.now.start.items in
    let v = c.args.v in
    let b = c.requires.block in
    let f = read-at start v c.index-first.result.now (omega (arith, b)) c.index-first.ensures in
    let e = read-at start (v + 1) c.index-end.result.now b c.index-end.ensures in
    let r = rows-rise c.args.cnf.now c.args.graph.now c.requires.read v b in
    omega (arith, f, e, r)

pub slice_bounds-vars-start : goal.slice_bounds-vars-start
slice_bounds-vars-start c =
    let start = c.args.graph.now.start.items in
    let v = c.args.v in
    let b = c.requires.block in
    let f = read-at start v c.index-first.result.now (omega (arith, b)) c.index-first.ensures in
    let e = read-at start (v + 1) c.index-end.result.now b c.index-end.ensures in
    let r = rows-rise c.args.cnf.now c.args.graph.now c.requires.read v b in
    omega (arith, f, e, r)

pub slice_bounds-vars-end : goal.slice_bounds-vars-end
slice_bounds-vars-end c =
    let e = read-at c.args.graph.now.start.items (c.args.v + 1) c.index-end.result.now c.requires.block c.index-end.ensures in
    let w = rows-within c.args.cnf.now c.args.graph.now c.requires.read c.args.v c.requires.block in
    let d = ap (λ (z : List ℕ). length z) c.deref.ensures.value in
    omega (arith, e, w, d)

pub lost_hints-requires : goal.lost_hints-requires
lost_hints-requires c =
    let cnf = c.args.cnf.now in
    let g = c.args.graph.now in
    let v = c.args.v in
    let is = vars-read cnf g c.requires.read v c.requires.block c.deref.result.now c.index-first.result.now c.index-end.result.now c.deref.ensures.value c.index-first.ensures c.index-end.ensures in
    λ x m. let s = vars-small cnf g c.requires.read v x c.requires.block (subst (λ z. Contains z x) is m) in let t = c.requires.so_far.size in omega (arith, s, t)

pub returns-then-is_empty-clause-left : goal.returns-then-is_empty-clause-left
returns-then-is_empty-clause-left c =
    let cnf = c.args.cnf.now in
    let g = c.args.graph.now in
    let v = c.args.v in
    let is = vars-read cnf g c.requires.read v c.requires.block c.deref.result.now c.index-first.result.now c.index-end.result.now c.deref.ensures.value c.index-first.ensures c.index-end.ensures in
    let hints = c.in_ok-hints.hints in
    let h = ap (λ (z : List ℤ). length z) (c.in_ok-hints.ensures ∙ ap (lost_hints c.args.lost.now) is) in
    let k = hints.ok.0 in
    let t = c.is_empty.ensures in
    let u = c.if-is_empty.true in
    let n : length hints.items ≡ 0 = grind (arith, k, t, u) in
    own-left cnf g c.requires.read c.args.steps.now.items c.args.lost.now c.requires.so_far v c.requires.block (omega (arith, h, n))

pub left_of-requires : goal.left_of-requires
left_of-requires c =
    let cnf = c.args.cnf.now in
    let g = c.args.graph.now in
    let v = c.args.v in
    let is = vars-read cnf g c.requires.read v c.requires.block c.deref.result.now c.index-first.result.now c.index-end.result.now c.deref.ensures.value c.index-first.ensures c.index-end.ensures in
    λ x m. let s = vars-small cnf g c.requires.read v x c.requires.block (subst (λ z. Contains z x) is m) in let t = c.requires.so_far.size in omega (arith, s, t)

pub returns-clause-so_far : goal.returns-clause-so_far
returns-clause-so_far c =
    let cnf = c.args.cnf.now in
    let g = c.args.graph.now in
    let v = c.args.v in
    let is = vars-read cnf g c.requires.read v c.requires.block c.deref.result.now c.index-first.result.now c.index-end.result.now c.deref.ensures.value c.index-first.ensures c.index-end.ensures in
    let lost = c.args.lost.now in
    (short-step cnf g c.requires.read c.args.steps.now.items lost c.requires.so_far c.in_ok-id.id c.in_ok-id.ensures.id c.add.new.steps.items c.in_ok-lits.lits c.push_hint.new.hints.items c.in_ok-id.ensures.steps v c.requires.block
    (c.in_ok-lits.ensures ∙ ap (left_literals lost) is) (c.in_ok-push_hint.ensures ∙ ap (λ z. z ++ pos (v + 1) ∷ []) (c.in_ok-hints.ensures ∙ ap (lost_hints lost) is))).0

pub returns-clause-left : goal.returns-clause-left
returns-clause-left c =
    let cnf = c.args.cnf.now in
    let g = c.args.graph.now in
    let v = c.args.v in
    let is = vars-read cnf g c.requires.read v c.requires.block c.deref.result.now c.index-first.result.now c.index-end.result.now c.deref.ensures.value c.index-first.ensures c.index-end.ensures in
    let lost = c.args.lost.now in
    (short-step cnf g c.requires.read c.args.steps.now.items lost c.requires.so_far c.in_ok-id.id c.in_ok-id.ensures.id c.add.new.steps.items c.in_ok-lits.lits c.push_hint.new.hints.items c.in_ok-id.ensures.steps v c.requires.block
    (c.in_ok-lits.ensures ∙ ap (left_literals lost) is) (c.in_ok-push_hint.ensures ∙ ap (λ z. z ++ pos (v + 1) ∷ []) (c.in_ok-hints.ensures ∙ ap (lost_hints lost) is))).1
