use Rattle.std.proofs.Common.{◌≡◌, ◌++◌, ◌∷◌, [], List, subst, ap, length, ◌∙◌}
use Rattle.std.proofs.lemmas.List.{map-append}
use Rattle.std.proofs.lemmas.List.Elements.{Contains-push}
use Rattle.cnf_form.specs.declared.formula.Lit.{Lit}
use Rattle.search_trail.specs.declared.trail.Entry.{Entry}
use Rattle.search_trail.specs.Trail.{held, AreTrailPlaces, AllInRange}
use Rattle.search_trail.proofs.Places.{places_off}
use Rattle.search_trail.proofs.trail.take_off.Goals as goal

pub returns-in-Some-clause-places : goal.returns-in-Some-clause-places
returns-in-Some-clause-places c =
    let t = held c.pop.new.self.items in
    let x = c.in-Some.entry.lit in
    let more : held c.args.trail.now.items ≡ t ++ x ∷ [] =
    ap held c.in-Some.ensures.items ∙ map-append (λ (e : Entry). e.lit) c.pop.new.self.items (c.in-Some.entry ∷ []) in
    places_off t c.args.places.now.items x (subst (λ (xs : List Lit). AreTrailPlaces xs c.args.places.now.items) more c.requires.places)
    ((subst (λ (xs : List Lit). AllInRange xs (length c.args.places.now.items)) more c.requires.range) x (Contains-push t x))
