use Rattle.std.proofs.Common.{false, refl}
use Rattle.cqa_value.proofs.Words.{clash}
use Rattle.union_ask.proofs.Knowing.{among-certain, ascending, given-long, known-long, not-among}
use Rattle.union_ask.proofs.judging.told_by.Goals as goal

pub is_among-requires : goal.is_among-requires
is_among-requires c =
    let parts = c.args.parts.now in
    record {
      one_each = known-long parts.db.now parts.queries.now c.args.known.now c.requires.known c.args.row.now c.args.given.now c.requires.given;
      ascending = ascending parts.db.now parts.queries.now c.args.known.now c.requires.known;
    }

pub returns-then-is_among : goal.returns-then-is_among
returns-then-is_among c =
    let parts = c.args.parts.now in
    (λ t. among-certain parts.db.now parts.queries.now c.args.known.now c.requires.known c.args.row.now c.args.given.now (c.is_among.ensures.0 c.if-is_among.true), λ h. refl)

pub are_known-requires : goal.are_known-requires
are_known-requires c =
    let parts = c.args.parts.now in
    known-long parts.db.now parts.queries.now c.args.known.now c.requires.known c.args.row.now c.args.given.now c.requires.given

pub are_apart-is_apart-requires : goal.are_apart-is_apart-requires
are_apart-is_apart-requires c =
    let parts = c.args.parts.now in
    given-long parts.db.now parts.queries.now c.args.row.now c.args.given.now c.requires.given

pub returns-then-is_apart : goal.returns-then-is_apart
returns-then-is_apart c =
    let parts = c.args.parts.now in (
      λ t. absurd (clash false t refl),
      λ certain. absurd (not-among parts.db.now parts.queries.now c.args.known.now c.requires.known c.args.row.now c.args.given.now c.requires.given parts.parts.fits (c.are_known.ensures.0 c.if-not-are_known.false)
          (c.are_apart-is_apart.ensures.0 c.if-is_apart.true) (λ h. clash c.is_among.result (c.is_among.ensures.1 h) c.if-is_among.false) certain),
    )
