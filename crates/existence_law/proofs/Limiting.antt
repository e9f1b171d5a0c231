-- The first candidate with too many witnesses: the candidates are a list, and of each it is decided whether it has.
use Rattle.std.proofs.Common.{inl, inr}
use Rattle.cqa_value.specs.Values.{row_cmp, row_cmp_total}
use Rattle.join_access.specs.Listing.{HasTooMany}
use Rattle.existence_law.specs.Limits.{FirstOverExists}
use Rattle.existence_law.proofs.Answering.{candidate_list}
use Rattle.join_witness.proofs.Listing.{dec_too_many}
use Rattle.join_witness.proofs.Sorting.{first_with}

pub first_over_exists : FirstOverExists
first_over_exists db q fits =
    let l = candidate_list db q fits in
    elim (first_with row_cmp row_cmp_total (λ row. HasTooMany q db row) (dec_too_many db q) l.0 l.1.0) [
      | inl none ↦ inl (λ row c. none row ((l.1.1 row).1 c))
      | inr f ↦ inr (f.0, ((l.1.1 f.0).0 f.1.0, f.1.1, λ other c less. f.1.2 other ((l.1.1 other).1 c) less))
    ]
