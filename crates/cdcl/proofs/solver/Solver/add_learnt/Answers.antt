use Rattle.std.proofs.Common.{◌≡◌, ◌-◌, ◌++◌, ◌∷◌, [], List, sym, subst, ap, length, ◌∙◌, arith}
use Rattle.std.proofs.lemmas.List.{map-append, length_push}
use Rattle.cnf_form.specs.declared.formula.Lit.{Lit}
use Rattle.cnf_form.specs.declared.formula.Clause.{Clause}
use Rattle.cnf_form.specs.Literals.{literals}
use Rattle.search_trail.specs.declared.trail.Entry.{Entry}
use Rattle.search_trail.specs.Trail.{At, held}
use Rattle.cdcl.specs.State.{IsSearchState}
use Rattle.cdcl.specs.Looking.{CanWatch, IsPairFor}
use Rattle.cdcl.proofs.States.{state_learnt, length_held}
use Rattle.cdcl.proofs.Learning.{learnt_watchful, learnt_base, learnt_pair}
use Rattle.cdcl.proofs.solver.Solver.add_learnt.Goals as goal

pub force-requires-clause-sound : goal.force-requires-clause-sound
force-requires-clause-sound c =
    let s = c.args.self.now in
    let old = c.args.self.now.clauses.items in
    let lits = c.args.lits.items in
    let clause : Clause = record { lits = c.from_vec.result } in
    let more : literals c.push.new.self.items ≡ literals old ++ lits ∷ [] =
    ap literals c.in_ok-push.ensures.items ∙ map-append (λ (x : Clause). x.lits) old (clause ∷ []) ∙ ap (λ (x : List Lit). literals old ++ x ∷ []) c.from_vec.ensures in
    subst (λ (d : List (List Lit)). IsSearchState d s.trail.items s.places.items s.level_starts.items) (sym more)
    (state_learnt (literals old) s.trail.items s.places.items s.level_starts.items lits c.requires.ready.watchful.sound c.requires.range c.requires.low)

pub attach_none-requires-clause-watchful : goal.attach_none-requires-clause-watchful
attach_none-requires-clause-watchful c =
    let old = c.args.self.now.clauses.items in
    let lits = c.args.lits.items in
    let clause : Clause = record { lits = c.from_vec.result } in
    let more : literals c.push.new.self.items ≡ literals old ++ lits ∷ [] =
    ap literals c.in_ok-push.ensures.items ∙ map-append (λ (x : Clause). x.lits) old (clause ∷ []) ∙ ap (λ (x : List Lit). literals old ++ x ∷ []) c.from_vec.ensures in
    learnt_watchful c.args.self.now c.force.new.self c.push.new.self lits c.args.asserted c.requires.ready.watchful c.requires.settled more c.force.ensures.same c.in_ok-force.ensures.trail c.in_ok-force.ensures.sound

pub attach_none-requires-clause-base : goal.attach_none-requires-clause-base
attach_none-requires-clause-base c =
    let old = c.args.self.now.clauses.items in
    let lits = c.args.lits.items in
    let clause : Clause = record { lits = c.from_vec.result } in
    let more : literals c.push.new.self.items ≡ literals old ++ lits ∷ [] =
    ap literals c.in_ok-push.ensures.items ∙ map-append (λ (x : Clause). x.lits) old (clause ∷ []) ∙ ap (λ (x : List Lit). literals old ++ x ∷ []) c.from_vec.ensures in
    learnt_base c.args.self.now c.force.new.self c.push.new.self lits c.args.asserted c.args.end c.requires.ready.all more c.force.ensures.same c.in_ok-force.ensures.trail
    c.requires.forced.inside c.requires.below c.if-end-eq0.true

pub lit_at-requires : goal.lit_at-requires
lit_at-requires c =
    let trail = c.args.self.now.trail.items in
    let put = c.in_ok-force.ensures.trail in
    let m = c.requires.last (c.args.end - 1) (omega (arith, c.if-end-eq0.false)) in
    let old = length_held trail in
    let new = length_push trail put.0 in
    let e : length c.force.new.self.trail.items ≡ length (trail ++ put.0 ∷ []) = ap (λ (es : List Entry). length es) put.2 in
    let v : length c.as_slice.result.now ≡ length c.force.new.self.trail.items = ap (λ (es : List Entry). length es) c.as_slice.ensures.value in
    omega (arith, m.2.0, old, new, e, v)

pub attach-requires-clause-watchful : goal.attach-requires-clause-watchful
attach-requires-clause-watchful c =
    let old = c.args.self.now.clauses.items in
    let lits = c.args.lits.items in
    let clause : Clause = record { lits = c.from_vec.result } in
    let more : literals c.push.new.self.items ≡ literals old ++ lits ∷ [] =
    ap literals c.in_ok-push.ensures.items ∙ map-append (λ (x : Clause). x.lits) old (clause ∷ []) ∙ ap (λ (x : List Lit). literals old ++ x ∷ []) c.from_vec.ensures in
    learnt_watchful c.args.self.now c.force.new.self c.push.new.self lits c.args.asserted c.requires.ready.watchful c.requires.settled more c.force.ensures.same c.in_ok-force.ensures.trail c.in_ok-force.ensures.sound

pub attach-requires-clause-pair : goal.attach-requires-clause-pair
attach-requires-clause-pair c =
    let old = c.args.self.now.clauses.items in
    let lits = c.args.lits.items in
    let clause : Clause = record { lits = c.from_vec.result } in
    let more : literals c.push.new.self.items ≡ literals old ++ lits ∷ [] =
    ap literals c.in_ok-push.ensures.items ∙ map-append (λ (x : Clause). x.lits) old (clause ∷ []) ∙ ap (λ (x : List Lit). literals old ++ x ∷ []) c.from_vec.ensures in
    let s' = c.force.new.self in
    let x = c.lit_at.result in
    let at : At (held s'.trail.items) (c.args.end - 1) x = subst (λ (es : List Entry). At (held es) (c.args.end - 1) x) c.as_slice.ensures.value c.lit_at.ensures in
    subst (λ (y : Lit). CanWatch s' (IsPairFor s' c.args.asserted y) c.args.asserted y) (sym c.opposite-deepest.ensures)
    (learnt_pair c.args.self.now s' c.push.new.self lits c.args.asserted x c.args.end c.requires.ready.all more c.force.ensures.same c.in_ok-force.ensures.trail
    c.in_ok-force.ensures.sound c.requires.forced c.requires.below c.requires.last (λ e. absurd (omega (arith, e, c.if-end-eq0.false))) at)
