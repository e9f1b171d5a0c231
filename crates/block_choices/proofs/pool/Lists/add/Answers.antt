use Rattle.std.proofs.Common.{rules, ◌≡◌, ◌++◌, ◌∷◌, ◌∙◌, [], List, ap, sym, subst, length}
use Rattle.block_choices.specs.declared.row.BlockRow.{BlockRow}
use Rattle.block_choices.specs.declared.pool.Stretch.{Stretch}
use Rattle.block_choices.specs.Pools.{lists_of, AreWithin}
use Rattle.cqa_value.proofs.Words.{on_err}
use Rattle.block_choices.proofs.Stretches.{lists-added, lists-kept, within-grown, within-added}
use Rattle.block_choices.proofs.pool.Lists.add.Goals as goal

pub invariant_of-self-in_err-push : goal.invariant_of-self-in_err-push
invariant_of-self-in_err-push c =
    let pool = c.self.inside.pool.items in
    let names = c.args.names.now in
    let old = c.self.inside.stretches.items in
    subst (λ (ss : List Stretch). AreWithin c.extend_from_slice.new.self.items ss) (sym c.in_err-push.ensures.items)
    (subst (λ (p : List BlockRow). AreWithin p old) (sym c.in_ok-extend_from_slice.ensures.items) (within-grown pool names old c.self.invariant))

pub invariant_of-self-2 : goal.invariant_of-self-2
invariant_of-self-2 c =
    let pool = c.self.inside.pool.items in
    let names = c.args.names.now in
    let old = c.self.inside.stretches.items in
    let s : Stretch = record { start = c.len-start.result; end = c.len.result } in
    let start : c.len-start.result ≡ length pool = search rules in
    let end : c.len.result ≡ length (pool ++ names) = search rules in
    subst (λ (ss : List Stretch). AreWithin c.extend_from_slice.new.self.items ss) (sym c.in_ok-push.ensures.items)
    (subst (λ (p : List BlockRow). AreWithin p (old ++ s ∷ [])) (sym c.in_ok-extend_from_slice.ensures.items)
    (within-added pool names old s c.self.invariant start end))

pub returns : goal.returns
returns c =
    let pool = c.self.inside.pool.items in
    let names = c.args.names.now in
    let old = c.self.inside.stretches.items in
    let s : Stretch = record { start = c.len-start.result; end = c.len.result } in
    let start : c.len-start.result ≡ length pool = search rules in
    let end : c.len.result ≡ length (pool ++ names) = search rules in
    record {
      ok = ap (λ (ss : List Stretch). lists_of c.extend_from_slice.new.self.items ss) c.in_ok-push.ensures.items
          ∙ (ap (λ (p : List BlockRow). lists_of p (old ++ s ∷ [])) c.in_ok-extend_from_slice.ensures.items
          ∙ (lists-added pool names old s c.self.invariant start end ∙ ap (λ (cs : List (List BlockRow)). cs ++ names ∷ []) c.self.view_is));
      err = tt;
    }

pub returns-in_err-push-clause-err : goal.returns-in_err-push-clause-err
returns-in_err-push-clause-err c =
    let pool = c.self.inside.pool.items in
    let names = c.args.names.now in
    let old = c.self.inside.stretches.items in
    on_err c.from_residual-in_err-push.result
    (ap (λ (ss : List Stretch). lists_of c.extend_from_slice.new.self.items ss) c.in_err-push.ensures.items
    ∙ (ap (λ (p : List BlockRow). lists_of p old) c.in_ok-extend_from_slice.ensures.items ∙ (lists-kept pool names old c.self.invariant ∙ c.self.view_is)))
