use Rattle.std.proofs.Common.{Some, List, sym, subst, refl}
use Rattle.cnf_form.specs.Literals.{literals}
use Rattle.search_trail.specs.declared.trail.Entry.{Entry}
use Rattle.search_trail.specs.Trail.{held, AreTrailPlaces}
use Rattle.cdcl.specs.State.{IsSearchState}
use Rattle.search_trail.proofs.Works.{At-contains}
use Rattle.cdcl.proofs.States.{state_forced}
use Rattle.cdcl.proofs.solver.Solver.force.Goals as goal

pub enqueue-requires-clause-range : goal.enqueue-requires-clause-range
enqueue-requires-clause-range c =
    let d = c.requires.forced in
    c.requires.sound.db_in d.0 (At-contains _ _ _ d.1) c.args.lit d.2.inside

pub returns-clause-sound : goal.returns-clause-sound
returns-clause-sound c =
    let d = c.requires.forced in
    let entry : Entry = record { lit = c.args.lit; reason = Some c.args.index } in
    let db = literals c.args.self.now.clauses.items in
    let e = c.in_ok-enqueue.ensures.trail in
    subst (λ (es : List Entry). IsSearchState db es c.enqueue.new.places.items c.args.self.now.level_starts.items) (sym e)
    (state_forced db c.args.self.now.trail.items c.args.self.now.places.items c.enqueue.new.places.items c.args.self.now.level_starts.items c.args.lit c.args.index d.0 entry
    refl refl c.requires.sound d.1 d.2.inside d.2.others (c.requires.sound.db_in d.0 (At-contains _ _ _ d.1) c.args.lit d.2.inside)
    (subst (λ (es : List Entry). AreTrailPlaces (held es) c.enqueue.new.places.items) e c.in_ok-enqueue.ensures.places) c.enqueue.ensures.len)
