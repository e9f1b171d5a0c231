use Rattle.std.proofs.Common.{arith, refl}
use Rattle.std.proofs.lemmas.List.{length-map}
use Rattle.search_trail.specs.declared.trail.Entry.{Entry}
use Rattle.search_trail.proofs.Works.{At-get_or}
use Rattle.search_trail.proofs.Reasons.{reason_in}
use Rattle.search_trail.proofs.Walking.{no_entry}
use Rattle.search_trail.proofs.implications.Implications.reason_of.Goals as goal

pub returns : goal.returns
returns c =
    let g = c.args.self.now in
    let place = c.in_ok-self.field-0 in
    let r = g.placed.right c.args.var place c.in_ok-self.was in
    let n = length-map g.trail.now (λ (x : Entry). x.lit) in
    reason_in g.clauses.now g.trail.now place _ g.reasons (At-get_or g.trail.now place no_entry (omega (arith, n, r.0))) _ refl
