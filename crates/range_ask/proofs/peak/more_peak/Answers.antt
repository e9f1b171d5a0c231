use Rattle.std.proofs.Common.{refl, subst}
use Rattle.std.specs.Option.{option_copied}
use Rattle.std.specs.Prelude.{Some}
use Rattle.range_ask.specs.Tallying.{Furthers}
use Rattle.range_ask.proofs.Peaking.{far-more, peak-more}
use Rattle.range_ask.proofs.peak.more_peak.Goals as goal

pub returns-clause-far : goal.returns-clause-far
returns-clause-far c = λ p front block n l e t h.
    far-more c.args.way p c.args.col front block n c.args.peak _ c.args.row.now l e t c.further_row-2.ensures
    (subst (λ w. Furthers w c.args.col (option_copied c.args.peak.top) (Some c.args.row.now) (option_copied c.further_row-3.result)) c.turned.ensures c.further_row-3.ensures) h

pub returns-clause-peaking : goal.returns-clause-peaking
returns-clause-peaking c = λ p front block n is h l e t o.
    peak-more c.args.way p c.args.col c.args.turn.sure front block h n l c.args.row.now e t c.args.turn is refl c.args.peak _ refl c.nearer.ensures c.further_row.ensures o
