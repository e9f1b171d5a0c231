use Rattle.std.proofs.Common.{rules, ◌≡◌, List, ◌∙◌, sym, ap, subst, Some, length, ◌+◌, ◌++◌, ◌∷◌, [], slice_index_or}
use Rattle.std.specs.Vec.{vec_len}
use Rattle.std.specs.BTreeMap.{get}
use Rattle.cqa_value.specs.Values.{row_cmp}
use Rattle.cqa_value.specs.declared.value.Value.{Value}
use Rattle.block_check.specs.Firsts.{KnowsFirsts, node_key}
use Rattle.block_check.proofs.Keys.{known_more, new_more}
use Rattle.block_check.proofs.seen.Seen.turn.Goals as goal

pub returns-in_ok-push-in-Some : goal.returns-in_ok-push-in-Some
returns-in_ok-push-in-Some c =
    let a = c.args in
    let s = a.self.now in
    subst (λ z. KnowsFirsts a.query.now a.nodes.now (length s.firsts.items + 1) s.known z) (sym c.in_ok-push-in-Some.ensures.items)
    (known_more a.query.now a.nodes.now (length s.firsts.items) s.known s.firsts.items c.requires.knows c.in-Some.first (ap (λ z. get row_cmp s.known z) (sym c.requires.key) ∙ sym c.told.ensures ∙ c.in-Some.is))

pub returns-in_ok-push-in-None : goal.returns-in_ok-push-in-None
returns-in_ok-push-in-None c =
    let a = c.args in
    let s = a.self.now in
    let n = length s.firsts.items in
    let key = node_key a.query.now (slice_index_or a.nodes.now n (record { atom = 0; rows = [] })) in
    let same_long : vec_len s.firsts ≡ n = search rules in
    let new = c.keep.new.self.known in
    let told = ap (λ z. get row_cmp s.known z) (sym c.requires.key) ∙ sym c.told.ensures ∙ c.in-None.is in
    let at = ap (λ z. get row_cmp new z) (sym c.requires.key) ∙ c.in_ok-keep-in-None.ensures.here ∙ ap Some (c.len-at.ensures ∙ same_long) in
    let others : (k : List Value) → (key ≡ k → ⊥) → get row_cmp new k ≡ get row_cmp s.known k = λ k ne. c.in_ok-keep-in-None.ensures.others k (λ e. ne (sym c.requires.key ∙ e)) in
    let known = new_more a.query.now a.nodes.now n s.known s.firsts.items c.requires.knows new told at others in
    subst (λ z. KnowsFirsts a.query.now a.nodes.now (n + 1) new z) (sym (c.in_ok-push-in-None.ensures.items ∙ ap (λ z. z.items ++ c.len-at.result ∷ []) c.in_ok-keep-in-None.ensures.same ∙ ap (λ z. s.firsts.items ++ z ∷ []) (c.len-at.ensures ∙ same_long))) known
