use Rattle.std.proofs.Common.{◌≡◌, ◌-◌, ◌++◌, length, map, take, drop, ap, sym, ◌∙◌, arith}
use Prim.Native.Nat.{min}
use Rattle.row_pieces.specs.Retained.{retained}
use Rattle.row_pieces.proofs.Retaining.{retained_across, retained_behind}
use Rattle.row_pieces.proofs.Telling.{told_behind, told_here, told_rest}
use Rattle.row_pieces.proofs.take.retain_told_some.Goals as goal

pub returns-then-len-from-clause-kept : goal.returns-then-len-from-clause-kept
returns-then-len-from-clause-kept c p behind k =
    let early = c.if-len-from.true in
    let len = c.len-len.ensures in
    let rows = c.args.rows.now in (
      told_behind p c.args.stays.now c.args.from c.args.to rows behind c.requires.order k (omega (arith, early, len)),
      retained_behind p c.args.from c.args.to rows behind c.requires.order (omega (arith, early, len)),
    )

pub returns-clause-kept : goal.returns-clause-kept
returns-clause-kept c p behind k =
    let rows = c.args.rows.now in
    let from = c.args.from in
    let to = c.args.to in
    let end = c.min-end.result in
    let late = c.if-len-from.false in
    let len = c.len-len.ensures in
    let order = c.requires.order in
    let least : end ≡ min to (length rows) = c.min-end.ensures ∙ ap (min to) len in
    let here : take (end - from) c.args.stays.now ≡ map p (take (end - from) (drop from rows)) = told_here p c.args.stays.now from to rows behind order k end (omega (arith, least, order, late, len)) (omega (arith, least)) (omega (arith, least)) in (
      c.split_at.ensures.back ∙ ap (λ n. drop (n - from) c.args.stays.now) least ∙ told_rest p c.args.stays.now from to rows behind order k (omega (arith, late, len)),
      retained_across p from to rows behind order (omega (arith, late, len))
          ∙ ap (λ xs. xs ++ retained p (from - length rows) (to - length rows) behind) (sym (c.retain_told.ensures.retained p (c.split_at.ensures.front ∙ here) ∙ ap (λ n. retained p from n rows) least)),
    )
