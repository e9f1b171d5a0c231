use Rattle.key_closure.specs.Members.{IsIn, seen, IsAmong, IsUsed}
use Rattle.key_closure.proofs.Growing.{closure-map}
use Rattle.key_closure.proofs.set_by_query.closure.Goals as goal

pub returns : goal.returns
returns c =
    let q = c.args.query.now in
    let v = c.args.view.now in
    record {
      is = λ d. (
        (λ m. closure-map q (seen q v) (IsAmong q c.used-atoms.result) (IsUsed q v c.args.without) (IsIn q c.args.start.now) (IsIn q c.args.start.now) (λ K u. (c.used-atoms.ensures K).0 u) (λ w i. i) d ((c.closure.ensures.is d).0 m)),
        (λ p. (c.closure.ensures.is d).1 (closure-map q (seen q v) (IsUsed q v c.args.without) (IsAmong q c.used-atoms.result) (IsIn q c.args.start.now) (IsIn q c.args.start.now) (λ K u. (c.used-atoms.ensures K).1 u) (λ w i. i) d p)),
      );
      proper = c.closure.ensures.proper;
    }
