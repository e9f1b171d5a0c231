use Rattle.std.proofs.lemmas.Result.{on_ok_weaker}
use Rattle.sql_text.specs.Texts.{least_text}
use Rattle.sql_text.proofs.Steps.{three}
use Rattle.sql_text.proofs.groups.append_least.Goals as goal

pub returns : goal.returns
unfolding least_text
returns c = on_ok_weaker c.append-2.result (λ e. three c.args.out.now.items _ _ _ _ _ _ c.in_ok-append.ensures c.in_ok-append_fit.ensures e) c.append-2.ensures
