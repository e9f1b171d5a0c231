use Rattle.std.proofs.lemmas.Result.{on_ok_weaker}
use Rattle.sql_text.specs.Texts.{kept_text}
use Rattle.sql_text.proofs.Steps.{three}
use Rattle.sql_text.proofs.groups.append_kept.Goals as goal

pub returns : goal.returns
unfolding kept_text
returns c = on_ok_weaker c.append-2.result (λ e. three c.args.out.now.items _ _ _ _ _ _ c.in_ok-append.ensures c.in_ok-append_group_fits.ensures e) c.append-2.ensures
