use Rattle.spj_syntax.proofs.Fitting.{short_fits}
use Rattle.spj_syntax.proofs.parser.unfit.Goals as goal

pub returns-then-token-le-SURELY_FITS : goal.returns-then-token-le-SURELY_FITS
returns-then-token-le-SURELY_FITS c = short_fits c.args.text.now c.args.token c.requires.readable c.if-token-le-SURELY_FITS.true
