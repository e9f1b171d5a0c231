use Rattle.std.proofs.Common.{subst, Contains, slice_index_or}
use Rattle.std.proofs.lemmas.List.Elements.{Contains-get_or}
use Rattle.cqa_model.specs.declared.query.ColRef.{ColRef}
use Rattle.pair_answers.proofs.fits.answer_fits.Goals as goal

pub have_value-requires : goal.have_value-requires
have_value-requires c =
    let none : ColRef = record { atom = 0; col = 0 } in
    let answer = c.as_slice-answer.result.now in
    let column = slice_index_or answer c.loop-k.k none in
    c.args.side.now.bound.now.query.now.kept.answer_in_range column (subst (λ z. Contains z column) c.as_slice-answer.ensures (Contains-get_or answer c.loop-k.k none c.loop-k-test.true))
