use Rattle.std.proofs.Common.{ap, arith, length}
use Rattle.join_access.specs.Listing.{names_of}
use Rattle.rows_against.proofs.Walking.{begins_first}
use Rattle.rows_against.proofs.hits.all_hits.Goals as goal

pub loop-at-init : goal.loop-at-init
loop-at-init c =
    let w = c.args.witnesses.now in
    let b = w.bound.now in
    record {
      size = ap length c.in_ok-hits.ensures.items;
      each = λ F l. absurd (omega (arith, l));
      begins = begins_first b.db.now b.query.now b.fits (names_of w.list) c.args.names.now c.requires;
    }
