use Rattle.std.proofs.Common.{◌≡◌, ◌+◌, ◌++◌, ◌∷◌, ◌∙◌, [], List, length, length-append, take, get_or, ap, sym, arith}
use Rattle.std.proofs.lemmas.List.{append_assoc, length-take-le, take_all, take_more}
use Rattle.row_lists.specs.declared.span.Span.{Span}
use Rattle.list_search.specs.Classing.{rows_from}
use Rattle.list_search.proofs.SingleRows.{rows-long, rows-push, row_from}
use Rattle.list_search.proofs.singles.add_places.Goals as goal

pub overflow_cast-len : goal.overflow_cast-len
overflow_cast-len c =
    let i = c.loop-place.place-index in
    let old = c.args.numbered.now.items in
    let ps = c.args.places.now in
    let is = ap (λ (ss : List Span). length ss) c.loop-place.invariant in
    let joined = length-append old (rows_from c.args.slot (length old) (take i ps)) in
    let more = rows-long c.args.slot (length old) (take i ps) in
    let some = length-take-le i ps (omega arith) in
    let len = c.len.ensures in
    let small = c.requires in
    omega (arith, is, joined, more, some, len, small)

pub loop-place-preserved : goal.loop-place-preserved
loop-place-preserved c =
    let i = c.loop-place.place-index in
    let F = c.args.slot in
    let old = c.args.numbered.now.items in
    let ps = c.args.places.now in
    let p = get_or ps i 0 in
    let rows = rows_from F (length old) (take i ps) in
    let is = ap (λ (ss : List Span). length ss) c.loop-place.invariant in
    let joined = length-append old rows in
    let more = rows-long F (length old) (take i ps) in
    let len = c.len.ensures in
    let base : c.len.result ≡ length old + length (take i ps) = omega (arith, is, joined, more, len) in
    c.in_ok-push.ensures.items
    ∙ (ap (λ (ss : List Span). ss ++ row_from F c.len.result p ∷ []) c.loop-place.invariant
    ∙ (append_assoc old rows (row_from F c.len.result p ∷ [])
    ∙ ap (λ (ss : List Span). old ++ ss) (ap (λ b. rows ++ row_from F b p ∷ []) base
    ∙ (sym (rows-push F (length old) (take i ps) p) ∙ ap (rows_from F (length old)) (sym (take_more ps i 0 (omega arith)))))))

pub returns : goal.returns
returns c =
    let old = c.args.numbered.now.items in
    c.loop-place.invariant ∙ ap (λ xs. old ++ rows_from c.args.slot (length old) xs) (take_all c.loop-place.place-index c.args.places.now (omega arith))
