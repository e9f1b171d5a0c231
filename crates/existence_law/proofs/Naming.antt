-- All witnesses of a row are listed by the names of their rows, and so it is known whether they are too many.
use Rattle.std.proofs.Common.{inl, inr}
use Rattle.join_witness.proofs.Listing.{all_names, dec_too_many}
use Rattle.existence_law.specs.Formulas.{WitnessesAreListed}

pub witnesses_are_listed : WitnessesAreListed
witnesses_are_listed = record {
  names = λ db q row. all_names db q row;
  count = λ db q row. elim (dec_too_many db q row) [ yes t ↦ inl t | no f ↦ inr f ];
}
