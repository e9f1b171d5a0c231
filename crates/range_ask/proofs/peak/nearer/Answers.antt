use Rattle.std.proofs.Common.{refl, subst}
use Rattle.std.specs.Prelude.{Some}
use Rattle.std.specs.Option.{option_copied}
use Rattle.cqa_value.proofs.Words.{clash}
use Rattle.range_ask.specs.Tallying.{Furthers}
use Rattle.range_ask.proofs.peak.nearer.Goals as goal

pub returns : goal.returns
returns c = record {
  before_same = λ e. refl;
  before_other = λ n. absurd (n c.if-peak-turn.false);
  none = λ e. absurd (clash c.args.turn.sure c.if-not-turn.false e);
  near_same = λ s e. subst (λ w. Furthers w c.args.col (option_copied c.args.peak.near) (Some c.args.row.now) (option_copied c.further_row-near.result)) c.turned.ensures c.further_row-near.ensures;
  near_other = λ s n. absurd (n c.if-peak-turn.false);
}
