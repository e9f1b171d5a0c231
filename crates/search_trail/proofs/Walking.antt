-- How an analysis goes back over the implications of a trail.
use Rattle.std.proofs.Common.{◌≡◌, ◌<◌, ◌≤◌, ◌+◌, ◌-◌, ℕ, ℤ, Bool, List, [], ◌∷◌, ◌++◌, pos, refl, sym, ◌∙◌, ap, subst, arith, length, get_or, reverse, true, false, None, Some}
use Rattle.std.proofs.lemmas.List.{length-map}
use Rattle.std.proofs.lemmas.Option.{same_Some}
use Rattle.cnf_form.specs.declared.formula.Clause.{Clause}
use Rattle.cnf_form.specs.declared.formula.Lit.{Lit}
use Rattle.cnf_form.specs.Literals.{literals}
use Rattle.search_trail.specs.declared.analysis.SeenMarks.{SeenMarks}
use Rattle.search_trail.specs.declared.implications.Implications.{Implications}
use Rattle.search_trail.specs.declared.trail.Entry.{Entry}
use Rattle.search_trail.specs.Marks.{IsVarSeen, AllClear}
use Rattle.search_trail.specs.Trail.{At, held}
use Rattle.search_trail.specs.Analysis.{AllSeen, AreMarks, AtMostSeen, Grow, Works}
use Rattle.search_trail.specs.Walks.{AreMoreMarks, IsConflictIn, IsWalkedTo}
use Rattle.search_trail.proofs.Marking.{at_most_none, at_most_walked, grow_none, read_true}
use Rattle.search_trail.proofs.Places.{consistent}
use Rattle.search_trail.proofs.Reasons.{told}
use Rattle.search_trail.proofs.Works.{At-contains, At-get_or, grow_on, held_at, reverse_push, works_first, works_resolve, works_skip}

abbrev pub no_entry : Entry
no_entry = record { lit = record { var = 0; positive = false }; reason = None }

abbrev pub entry_at : Implications → ℕ → Entry
entry_at g at = get_or g.trail.now at no_entry

-- the variable of an entry has a mark
pub entry_in : (g : Implications) (m : SeenMarks) (at : ℕ) → AreMarks (length g.places.now) m → at < length g.trail.now → (entry_at g at).lit.var < length m.seen.items
entry_in g m at are h =
    let r = g.held_in _ (At-contains (held g.trail.now) at _ (held_at g.trail.now at no_entry h)) in
    omega (arith, r, are.room)

-- what is left once a walk has come to an entry that is marked
pub walked_few : (g : Implications) (at : ℕ) (m : SeenMarks) (hints : List ℤ) (b : Bool) → at < length g.trail.now → g.start ≤ at → IsWalkedTo g (at + 1) m hints
    → b ≡ get_or m.seen.items (entry_at g at).lit.var b → b ≡ true → (1 ≤ m.left) × AtMostSeen (held g.trail.now) g.start at m.seen.items (m.left - 1)
walked_few g at m hints b h after w read is =
    at_most_walked (held g.trail.now) g.start at m.seen.items m.left (entry_at g at).lit after (held_at g.trail.now at no_entry h)
    (read_true m.seen.items (entry_at g at).lit.var b (entry_in g m at w.marks h) read is) w.few

pub more_none : (g : Implications) (m : SeenMarks) → AreMarks (length g.places.now) m → AreMoreMarks g m m
more_none g m are = record { marks = are; grow = grow_none m.seen.items; counted = λ end few. few }

pub more_on : (g : Implications) (a b c : SeenMarks) → AreMoreMarks g a b → AreMoreMarks g b c → AreMoreMarks g a c
more_on g a b c m n = record { marks = n.marks; grow = grow_on _ _ _ m.grow n.grow; counted = λ end few. n.counted end (m.counted end few) }

-- an entry that isn't marked is passed over
pub works_past : (g : Implications) (seen : List Bool) (lits : List Lit) (at : ℕ) (hints : List ℤ) → at < length g.trail.now
    → (IsVarSeen seen (entry_at g at).lit.var → ⊥) → Works (literals g.clauses.now) (held g.trail.now) seen lits (at + 1) hints
    → Works (literals g.clauses.now) (held g.trail.now) seen lits at hints
works_past g seen lits at hints h unseen w =
    works_skip (literals g.clauses.now) (held g.trail.now) seen lits at hints (entry_at g at).lit (held_at g.trail.now at no_entry h) unseen w

-- the reason of a marked entry is cited
pub works_cited : (g : Implications) (seen seen' : List Bool) (lits : List Lit) (at r : ℕ) (hints hints' : List ℤ) → at < length g.trail.now
    → (entry_at g at).reason ≡ Some r → Grow seen seen' → ((c : List Lit) → At (literals g.clauses.now) r c → AllSeen seen' c)
    → hints' ≡ hints ++ pos (r + 1) ∷ [] → Works (literals g.clauses.now) (held g.trail.now) seen lits (at + 1) (reverse hints)
    → Works (literals g.clauses.now) (held g.trail.now) seen' lits at (reverse hints')
works_cited g seen seen' lits at r hints hints' h is grow all put w =
    let db = literals g.clauses.now in
    let t = held g.trail.now in
    let e = entry_at g at in
    let f = told db g.trail.now g.reasons at e r (At-get_or g.trail.now at no_entry h) is in
    let there : At db r f.clause = subst (λ (n : ℕ). At db n f.clause) (same_Some _ _ (sym f.is ∙ is)) f.there in
    subst (λ (hs : List ℤ). Works db t seen' lits at hs) (sym (ap reverse put ∙ reverse_push hints (pos (r + 1))))
    (works_resolve db t seen seen' lits at (reverse hints) e.lit (pos (r + 1)) r f.clause refl (consistent t g.places.now g.placed)
    (held_at g.trail.now at no_entry h) there f.inside f.others grow (all f.clause there) w)

-- a walk begins with the conflict
pub walked_first : (g : Implications) (conflict : ℕ) (old new : SeenMarks) (hints : List ℤ) → IsConflictIn g conflict → AllClear old.seen.items
    → AreMoreMarks g old new → ((c : List Lit) → At (literals g.clauses.now) conflict c → AllSeen new.seen.items c) → hints ≡ pos (conflict + 1) ∷ []
    → IsWalkedTo g (length g.trail.now) new hints
walked_first g conflict old new hints false' clear more all put =
    let db = literals g.clauses.now in
    let t = held g.trail.now in
    let n = length-map g.clauses.now (λ (x : Clause). x.lits) in
    let there : At db conflict (get_or db conflict []) = At-get_or db conflict [] (omega (arith, n, false'.0)) in
    record {
      marks = more.marks;
      few = more.counted (length g.trail.now) (at_most_none t g.start (length g.trail.now) old.seen.items old.left clear);
      works = subst (λ (k : ℕ). Works db t new.seen.items [] k (reverse hints)) (length-map g.trail.now (λ (x : Entry). x.lit))
          (subst (λ (hs : List ℤ). Works db t new.seen.items [] (length t) (reverse hs)) (sym put)
          (works_first db t new.seen.items [] (pos (conflict + 1)) conflict (get_or db conflict []) refl there (false'.1 _ there) (all _ there)));
    }
