use Rattle.std.proofs.Common.{◌-◌, ◌++◌, length, ap, sym, ◌∙◌, arith}
use Prim.Native.Nat.{min}
use Rattle.row_pieces.specs.Retained.{retained}
use Rattle.row_pieces.proofs.Retaining.{retained_across, retained_behind}
use Rattle.row_pieces.proofs.take.retain_some.Goals as goal

pub returns-then-len-from-clause-kept : goal.returns-then-len-from-clause-kept
returns-then-len-from-clause-kept g c p behind k =
    let early = c.if-len-from.true in
    let len = c.len-len.ensures in
    (k, retained_behind p c.args.from c.args.to c.args.rows.now behind c.requires.order (omega (arith, early, len)))

pub returns-clause-kept : goal.returns-clause-kept
returns-clause-kept g c p behind k =
    let rows = c.args.rows.now in
    let from = c.args.from in
    let late = c.if-len-from.false in
    let len = c.len-len.ensures in
    let done = c.retain_range.ensures.retained p k in
    let least = c.min.ensures ∙ ap (λ n. min c.args.to n) (len) in (
      done.0,
      retained_across p from c.args.to rows behind c.requires.order (omega (arith, late, len))
          ∙ ap (λ xs. xs ++ retained p (from - length rows) (c.args.to - length rows) behind) (sym (done.1 ∙ ap (λ n. retained p from n rows) least)),
    )
