use Rattle.std.proofs.Common.{arith, ◌≡◌, ◌++◌, ◌∷◌, [], ℕ, Some, List, sym, subst, ap, length, ◌∙◌, set}
use Rattle.std.proofs.lemmas.List.{length-map, map-append}
use Rattle.cnf_form.specs.declared.formula.Lit.{Lit}
use Rattle.search_trail.specs.declared.trail.Entry.{Entry}
use Rattle.search_trail.specs.Trail.{held, AreTrailPlaces}
use Rattle.search_trail.proofs.Places.{places_put}
use Rattle.search_trail.proofs.trail.enqueue.Goals as goal

pub returns-clause-places : goal.returns-clause-places
returns-clause-places c =
    let t = held c.args.trail.now.items in
    let len : length t ≡ c.len-place.result = let m = length-map c.args.trail.now.items (λ (e : Entry). e.lit) in omega (arith, m, c.len-place.ensures, c.args.trail.now.ok) in
    let more : held c.push.new.self.items ≡ t ++ c.args.entry.lit ∷ [] =
    ap held c.in_ok-push.ensures.items ∙ map-append (λ (e : Entry). e.lit) c.args.trail.now.items (c.args.entry ∷ []) in
    subst (λ (xs : List Lit). AreTrailPlaces xs (set c.args.places.now.items c.args.entry.lit.var (Some c.len-place.result))) (sym more)
    (subst (λ (k : ℕ). AreTrailPlaces (t ++ c.args.entry.lit ∷ []) (set c.args.places.now.items c.args.entry.lit.var (Some k))) len
    (places_put t c.args.places.now.items c.args.entry.lit c.requires.places c.requires.range c.requires.open))
