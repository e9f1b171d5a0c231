use Rattle.std.proofs.Common.{◌≡◌, ℕ, List, length, set, sym, ◌∙◌, ap, subst, arith}
use Rattle.cnf_form.specs.Literals.{literals}
use Rattle.cdcl.specs.declared.watch.Pair.{Pair}
use Rattle.search_trail.specs.Trail.{At}
use Rattle.cdcl.specs.Watching.{code_of, listed_at}
use Rattle.cdcl.specs.Looking.{IsLooking}
use Rattle.search_trail.proofs.Works.{At-contains}
use Rattle.cdcl.proofs.WatchState.{code_small}
use Rattle.cdcl.proofs.LookState.{looking_move}
use Rattle.cdcl.proofs.Visiting.{small_at, within_at, clause_at, drop_at, kept_at, force_at}
use Rattle.cdcl.proofs.solver.Solver.visit.Goals as goal

pub index-requires : goal.index-requires
index-requires c =
    let s = small_at c.args.self.now c.args.lit c.requires.0 c.requires.1 c.args.index c.requires.2 in omega (arith, s, c.args.self.now.pairs.ok)

pub returns-in_default-clause-visit : goal.returns-in_default-clause-visit
returns-in_default-clause-visit c kept rest l =
    let s = c.args.self.now in
    drop_at s c.args.lit kept rest c.args.index c.index.result.now (small_at s c.args.lit kept rest c.args.index l, sym c.index.ensures) c.in_default.ensures l

pub seek-requires-clause-inside : goal.seek-requires-clause-inside
seek-requires-clause-inside c =
    let s = c.args.self.now in
    let l = c.requires.2 in
    clause_at s c.args.lit c.in-Some.other c.requires.0 c.requires.1 c.args.index c.index.result.now
    (small_at s c.args.lit c.requires.0 c.requires.1 c.args.index l, sym c.index.ensures) c.in-Some.ensures l

pub index_mut-requires : goal.index_mut-requires
index_mut-requires c =
    let s = small_at c.args.self.now c.args.lit c.requires.0 c.requires.1 c.args.index c.requires.2 in omega (arith, s, c.args.self.now.pairs.ok)

pub push_index-requires : goal.push_index-requires
push_index-requires c =
    let s = c.args.self.now in
    let l = c.requires.2 in
    let d = clause_at s c.args.lit c.in-Some.other c.requires.0 c.requires.1 c.args.index c.index.result.now
    (small_at s c.args.lit c.requires.0 c.requires.1 c.args.index l, sym c.index.ensures) c.in-Some.ensures l in
    let f = c.in-Free.ensures d.0 d.1 in
    let range = code_small c.in-Free.new (length s.places.items) (l.sound.db_in d.0 (At-contains _ _ _ d.1) c.in-Free.new f.0) in
    omega (arith, range, c.code.ensures, l.lists_are.room)

pub force-requires-clause-forced : goal.force-requires-clause-forced
force-requires-clause-forced c =
    let s = c.args.self.now in
    let l = c.requires.2 in
    let d = clause_at s c.args.lit c.in-Some.other c.requires.0 c.requires.1 c.args.index c.index.result.now
    (small_at s c.args.lit c.requires.0 c.requires.1 c.args.index l, sym c.index.ensures) c.in-Some.ensures l in
    (d.0, d.1, c.in-Forces.ensures d.0 d.1)

pub returns-in-Holds-clause-visit : goal.returns-in-Holds-clause-visit
returns-in-Holds-clause-visit c kept rest l =
    let s = c.args.self.now in
    let at : At s.pairs.items c.args.index c.index.result.now = (small_at s c.args.lit kept rest c.args.index l, sym c.index.ensures) in
    let d = clause_at s c.args.lit c.in-Some.other kept rest c.args.index c.index.result.now at c.in-Some.ensures l in
    kept_at s c.args.lit c.in-Some.other kept rest c.args.index c.index.result.now at c.in-Some.ensures (c.in-Holds.ensures d.0 d.1) l

pub returns-in_ok-push_index-in-Free-clause-visit : goal.returns-in_ok-push_index-in-Free-clause-visit
returns-in_ok-push_index-in-Free-clause-visit c kept rest l =
    let s = c.args.self.now in
    let made : Pair = record { first = c.in-Some.other; second = c.in-Free.new } in
    let at : At s.pairs.items c.args.index c.index.result.now = (small_at s c.args.lit kept rest c.args.index l, sym c.index.ensures) in
    let d = clause_at s c.args.lit c.in-Some.other kept rest c.args.index c.index.result.now at c.in-Some.ensures l in
    let f = c.in-Free.ensures d.0 d.1 in
    let lists : c.push_index.new.lists.items ≡ listed_at s.lists.items (code_of c.in-Free.new) c.args.index =
    c.in_ok-push_index-in-Free.ensures ∙ ap (λ (i : ℕ). listed_at s.lists.items i c.args.index) c.code.ensures in
    subst (λ (ls : List (List ℕ)). IsLooking s.permanent (literals s.clauses.items) s.trail.items s.places.items s.level_starts.items s.head (set s.pairs.items c.args.index made) ls c.args.lit kept rest) (sym lists)
    (looking_move (literals s.clauses.items) s.trail.items s.places.items s.level_starts.items s.head s.pairs.items s.lists.items c.args.lit c.in-Some.other c.in-Free.new kept rest c.args.index
    d.0 c.index.result.now d.1 at c.in-Some.ensures f.0 f.1 f.2 l)

pub returns-in_ok-force-in-Forces-clause-visit : goal.returns-in_ok-force-in-Forces-clause-visit
returns-in_ok-force-in-Forces-clause-visit c kept rest l =
    let s = c.args.self.now in
    let at : At s.pairs.items c.args.index c.index.result.now = (small_at s c.args.lit kept rest c.args.index l, sym c.index.ensures) in
    force_at s c.force.new.self c.args.lit c.in-Some.other kept rest c.args.index c.index.result.now at c.in-Some.ensures
    c.force.ensures.same c.in_ok-force-in-Forces.ensures.trail c.in_ok-force-in-Forces.ensures.sound l

pub returns-in-AllFalse-clause-visit : goal.returns-in-AllFalse-clause-visit
returns-in-AllFalse-clause-visit c kept rest l = (l, (within_at c.args.self.now c.args.lit kept rest c.args.index l, c.in-AllFalse.ensures))
