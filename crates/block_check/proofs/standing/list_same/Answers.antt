use Rattle.std.proofs.Common.{◌∙◌, sym}
use Rattle.std.proofs.lemmas.Slice.Eq.{slice_eq-Decides}
use Rattle.cqa_value.specs.Values.{row_decides}
use Rattle.block_check.proofs.standing.list_same.Goals as goal

pub returns : goal.returns
returns c =
    let same = slice_eq-Decides row_decides c.as_slice.result.now c.as_slice-2.result.now c.eq.result c.eq.ensures in
    (λ t. sym c.as_slice.ensures ∙ same.0 t ∙ c.as_slice-2.ensures, λ e. same.1 (c.as_slice.ensures ∙ e ∙ sym c.as_slice-2.ensures))
