use Rattle.std.proofs.Common.{◌↔◌, List, Contains, sym, subst}
use Rattle.std.specs.List.Sorted.{IsStrictlySortedBy}
use Rattle.cqa_value.specs.declared.value.Value.{Value}
use Rattle.cqa_value.specs.Values.{row_cmp}
use Rattle.cqa_model.specs.Certain.{IsCandidate}
use Rattle.cqa_model.proofs.Databases.{possible_is_candidate}
use Rattle.row_answers.specs.declared.side.Side.TheVariants.{Disputed}
use Rattle.row_answers.specs.Sides.{IsDisputedAnswer, IsOf}
use Rattle.row_answers.proofs.Sieving.{sifted-as, answer-of}
use Rattle.query_statements.proofs.sides.disputed_beside.Goals as goal

pub without-requires-clause-rows : goal.without-requires-clause-rows
without-requires-clause-rows c = subst (IsStrictlySortedBy row_cmp) (sym c.into_vec-rows.ensures) c.in_ok-candidates.ensures.possible.ascending

pub without-requires-clause-among : goal.without-requires-clause-among
without-requires-clause-among c = λ row m.
    let q = c.args.bound.now.query.now in
    let db = c.args.bound.now.db.now in
    subst (λ xs. Contains xs row) (sym c.into_vec-rows.ensures)
    ((c.in_ok-candidates.ensures.candidates row).1 (possible_is_candidate.certain db q row c.args.bound.now.fits ((c.requires.exactly row).0 m)))

pub returns : goal.returns
returns c =
    let q = c.args.bound.now.query.now in
    let db = c.args.bound.now.db.now in
    let certain = c.args.certain.now in
    let rows = c.into_vec-rows.result.items in
    let left = c.in_ok-left.left.items in
    let is = c.into_vec-rows.ensures in
    let ascends = subst (IsStrictlySortedBy row_cmp) (sym is) c.in_ok-candidates.ensures.possible.ascending in
    let exactly = subst (λ (xs : List (List Value)). (row : List Value) → Contains xs row ↔ IsCandidate db q row) (sym is) c.in_ok-candidates.ensures.candidates in
    subst (IsDisputedAnswer db q) (sym c.from_vec.ensures) (answer-of db q c.args.bound.now.fits rows left ascends exactly Disputed
    (sifted-as (λ row. Contains certain row → ⊥) (IsOf db q Disputed) (λ row n k. n ((c.requires.exactly row).1 k)) (λ row n m. n ((c.requires.exactly row).0 m)) rows left c.in_ok-left.ensures))
