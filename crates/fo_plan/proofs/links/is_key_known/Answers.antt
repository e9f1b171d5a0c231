use Rattle.std.proofs.Common.{get_or, Contains, subst, rules}
use Rattle.std.proofs.lemmas.List.Elements.{Contains-get_or}
use Rattle.table_blocks.proofs.Binding.{key-in-range}
use Rattle.fo_plan.proofs.links.is_key_known.Goals as goal

pub is_known-requires : goal.is_known-requires
is_known-requires c =
    let key = c.key_of-col-items.result.now in
    let col = get_or key c.loop-col.col-index 0 in
    key-in-range c.args.bound.now.query.now c.args.atom col (subst (λ ks. Contains ks col) c.key_of-col-items.ensures (Contains-get_or key c.loop-col.col-index 0 (search rules)))
