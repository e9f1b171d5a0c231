-- Unions: a row of one part alone, and the possible rows.
use Rattle.std.proofs.Common.{List, subst}
use Rattle.cqa_value.specs.declared.value.Value.{Value}
use Rattle.cqa_model.specs.Database.{stored, keys_of}
use Rattle.cqa_model.specs.Repairs.{IsRepair}
use Rattle.cqa_model.specs.Query.{IsWitness}
use Rattle.cqa_model.specs.Unions.{HoldsSome}
use Rattle.cqa_model.proofs.Fitting.{fits_tables}
use Rattle.cqa_model.proofs.Witnesses.{witness-stored}
use Rattle.cqa_model.proofs.Databases as databases
use Rattle.union_ask.specs.Laws.{AloneDecides, PossibleIsCandidateIn}

pub alone_decides : AloneDecides
alone_decides db parts row q fits mq alone = (
  λ certain kept hr. go kept hr (certain kept hr),
  λ certain kept hr. let w = certain kept hr in (q, mq, w),
)
  where
    go : (kept : List (List (List Value))) → IsRepair db kept → HoldsSome parts kept row → (w : List (List Value)) × IsWitness q kept row w
    go kept hr (p, mp, (w, hw)) =
        let ws = witness-stored p (keys_of db) (stored db) (fits_tables p db (fits p mp)) row kept hr w hw in
        (w, subst (λ z. IsWitness z kept row w) (alone p mp (w, ws)) hw)

pub possible_is_candidate_in : PossibleIsCandidateIn
possible_is_candidate_in db parts row fits = (
  λ p. let c = p.2 in (c.0, c.1, (databases.possible_is_candidate.possible db c.0 row (fits c.0 c.1)).0 (p.0, p.1, c.2)),
  λ c. let p = (databases.possible_is_candidate.possible db c.0 row (fits c.0 c.1)).1 c.2 in (p.0, p.1, (c.0, c.1, p.2)),
)
