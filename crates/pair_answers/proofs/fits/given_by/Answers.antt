use Rattle.std.proofs.Common.{[], sym, subst, Contains}
use Rattle.cqa_model.specs.declared.query.Cond.{Cond}
use Rattle.cqa_model.specs.Shape.{columns_of}
use Rattle.cqa_model.proofs.Classic.{mem-head}
use Rattle.pair_answers.proofs.fits.given_by.Goals as goal

pub have_value-requires : goal.have_value-requires
have_value-requires c =
    let column = c.in-Test-default-Eq-default.col in
    c.requires column (subst (λ (k : Cond). Contains (columns_of k) column) (sym c.in-Test-default-Eq-default.is) (mem-head column []))
