use Rattle.std.proofs.Common.{rules}
use Rattle.std.specs.Int.Signed.{lt_z}
use Rattle.std.proofs.lemmas.Result.{IfOk-weaker}
use Rattle.range_join.specs.Worths.{number_at}
use Rattle.range_join.proofs.Bounding.{down, most}
use Rattle.range_join.proofs.bounds.highest.Goals as goal

pub returns : goal.returns
returns c =
    let w = number_at c.args.numbers.now in
    IfOk-weaker c.firsts.result _ _ (λ places h. most w c.args.db.now c.args.table places.items (h (λ i j. lt_z (w j) (w i)) (down w) (λ i j goes li lj post. search rules))) c.firsts.ensures
