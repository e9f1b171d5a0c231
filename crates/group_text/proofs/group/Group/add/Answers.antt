use Rattle.std.proofs.Common.{◌≡◌, ◌++◌, ◌∷◌, [], ℕ, ◌+◌, List, Ok, ◌<◌, length, sym, ◌∙◌, ap, subst, arith, rules}
use Rattle.std.specs.Prelude.{ℤ}
use mir.Val.{SFits, to_z, of_z}
use mir.Syntax.{w64, w128}
use Rattle.std.proofs.lemmas.Int.{to_z-of_z}
use Rattle.block_choices.specs.declared.row.BlockRow.{BlockRow}
use Rattle.choice_values.specs.Values.{Weighted}
use Rattle.cnf_form.specs.Lines.{line_of, tokens}
use Rattle.group_text.specs.Fitting.{IsFit}
use Rattle.group_text.specs.Groups.{Draft, list_of, told_list}
use Rattle.group_text.specs.Names.{AreNamed}
use Rattle.group_text.specs.Weights.{before_weight, from_weight, weighs}
use Rattle.group_text.proofs.Fit.{fit_more, list_joins}
use Rattle.group_text.proofs.group.Group.add.Goals as goal

-- an integer of 64 bits among those of 128
widened : (w : ℤ) → SFits w64 w → SFits w128 w → to_z w128 (of_z w128 (to_z w64 (of_z w64 w))) ≡ w
widened w fits wide = ap (λ (n : ℤ). to_z w128 (of_z w128 n)) (to_z-of_z w64 w fits) ∙ to_z-of_z w128 w wide

pub invariant_of-self-in-Ok : goal.invariant_of-self-in-Ok
invariant_of-self-in-Ok c =
    let read = rw c.in-Ok.is at c.in_ok-fault.ensures in
    let list : Weighted = record { weight = c.in-Ok.weight; names = c.read_list.new.rows.items } in
    let fits : SFits w64 c.in-Ok.weight = search rules in
    let wide : SFits w128 c.in-Ok.weight = search rules in
    let joined : c.add.new.self ≡ c.self.inside.lists ++ list ∷ [] = c.in_ok-add-in-Ok.ensures.ok ∙ ap (λ (w : ℤ). c.self.inside.lists ++ record { weight = w; names = c.as_slice-in-Ok.result.now } ∷ []) (widened c.in-Ok.weight fits wide) ∙ ap (λ (xs : List BlockRow). c.self.inside.lists ++ record { weight = c.in-Ok.weight; names = xs } ∷ []) c.as_slice-in-Ok.ensures.value in
    let named : AreNamed c.self.inside.sizes.items c.self.inside.named c.read_list.new.rows.items = subst (λ (xs : List ℕ). AreNamed xs c.self.inside.named c.read_list.new.rows.items) c.as_slice.ensures.value read.1 in
    let counted : c.len-in-Ok.result ≡ length c.read_list.new.rows.items = search arith in
    subst (λ (ls : List Weighted). IsFit c.self.inside.sizes.items ls (c.self.inside.named + c.len-in-Ok.result)) (sym joined)
    (subst (λ (n : ℕ). IsFit c.self.inside.sizes.items (c.self.inside.lists ++ list ∷ []) (c.self.inside.named + n)) (sym counted)
    (fit_more c.self.inside.sizes.items c.self.inside.lists c.self.inside.named list c.self.invariant named (omega (arith, c.if-len-ge-MOST_GROUP_LISTS.false, c.len.ensures))))

pub returns-in_ok-add-in-Ok : goal.returns-in_ok-add-in-Ok
returns-in_ok-add-in-Ok c =
    let read = rw c.in-Ok.is at c.in_ok-fault.ensures in
    let ts = tokens (line_of c.args.line.now) in
    let list : Weighted = record { weight = c.in-Ok.weight; names = c.read_list.new.rows.items } in
    let fits : SFits w64 c.in-Ok.weight = search rules in
    let wide : SFits w128 c.in-Ok.weight = search rules in
    let joined : c.add.new.self ≡ c.self.inside.lists ++ list ∷ [] = c.in_ok-add-in-Ok.ensures.ok ∙ ap (λ (w : ℤ). c.self.inside.lists ++ record { weight = w; names = c.as_slice-in-Ok.result.now } ∷ []) (widened c.in-Ok.weight fits wide) ∙ ap (λ (xs : List BlockRow). c.self.inside.lists ++ record { weight = c.in-Ok.weight; names = xs } ∷ []) c.as_slice-in-Ok.ensures.value in
    let told : told_list c.self.inside.sizes.items c.self.inside.named (before_weight (weighs c.args.wanted) ts) (from_weight (weighs c.args.wanted) ts) ≡ Ok list =
    ap (λ (xs : List ℕ). told_list xs c.self.inside.named (before_weight (weighs c.args.wanted) ts) (from_weight (weighs c.args.wanted) ts)) (sym c.as_slice.ensures.value) ∙ read.0 in
    let room : length c.self.inside.lists < 1000000 = omega (arith, c.if-len-ge-MOST_GROUP_LISTS.false, c.len.ensures) in
    subst (λ (d : Draft). (x : Weighted) × (list_of c.args.wanted d ts ≡ Ok x) × (record { sizes = c.self.inside.sizes.items; lists = c.add.new.self } ≡ record d { lists = d.lists ++ x ∷ [] })) c.self.view_is
    (list, list_joins c.args.wanted c.self.inside.sizes.items c.self.inside.lists c.self.inside.named ts list c.self.invariant room told, ap (λ (ls : List Weighted). record { sizes = c.self.inside.sizes.items; lists = ls }) joined)
