use Rattle.std.proofs.Common.{◌∙◌, refl, ap}
use Rattle.range_join.specs.Peaks.{value_end, held_value}
use Rattle.range_join.proofs.Peaking.{end-held}
use Rattle.range_join.proofs.peaks.loose_peaks.Goals as goal

pub returns : goal.returns
returns c = record {
  top = c.top_of-top.result;
  is_top = c.top_of-top.ensures;
  high = c.in_ok-high.ensures c.args.col;
  low_is = refl;
  least = refl;
  greatest = c.in_ok-greatest.ensures ∙ (end-held c.args.col c.row_for.result ∙ ap (λ o. value_end (held_value c.args.col o)) c.row_for.ensures);
}
