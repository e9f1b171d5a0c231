use Rattle.std.proofs.Common.{Option, List, Bool, subst, sym}
use Rattle.std.specs.Option.{IfSome}
use Rattle.cqa_value.specs.declared.value.Value.{Value}
use Rattle.part_search.specs.Lookups.{TellCandidates}
use Rattle.union_ask.specs.Knowing.{AreKnownIn}
use Rattle.union_ask.proofs.judging.told.Goals as goal

pub ask_known-requires : goal.ask_known-requires
ask_known-requires c = record { bounds = c.requires.search.bounds; known = c.requires.search.known }

pub told_by-requires : goal.told_by-requires
told_by-requires c =
    let parts = c.args.parts.now in
    record {
      known = subst (λ (k : Option (List (Option (List (List Value))))). IfSome k (AreKnownIn parts.db.now parts.queries.now)) c.in-Some.is c.ask_known.ensures;
      given = subst (λ (given : List Bool). TellCandidates parts.db.now parts.queries.now c.args.row.now given) (sym c.as_slice.ensures.value) c.requires.given;
    }
