use Rattle.std.proofs.Common.{◌≡◌, ◌∷◌, ◌++◌, List, [], inl, inr, length, length-append, get_or, ap, sym, subst, ◌∙◌, arith}
use Rattle.std.proofs.lemmas.Bool.{cases_lt}
use Rattle.std.proofs.lemmas.List.{get_or_append_left}
use Rattle.std.proofs.Math.Seq.{get_or-append_seam}
use Rattle.plan_rows.specs.declared.joined.JoinedColumn.{JoinedColumn}
use Rattle.plan_rows.specs.Joining.{AreJoinedIn}
use Rattle.plan_rows.proofs.Joining.{joined-past}
use Rattle.plan_rows.proofs.joined.JoinedColumns.new.Goals as goal

pub loop-atom-preserved : goal.loop-atom-preserved
loop-atom-preserved c =
    let q = c.args.bound.now.query.now in
    let v = c.args.bound.now.variables in
    let old = c.loop-atom.atoms in
    let at = c.loop-atom.atom in
    let size = c.loop-atom.invariant.size in record {
      size = (let more = ap length c.push.ensures ∙ length-append old (c.joined_columns.result ∷ []) in omega (arith, size, more));
      found = λ F l. subst (λ (lists : List (List JoinedColumn)). AreJoinedIn q v F (get_or lists F [])) (sym c.push.ensures) (elim (cases_lt F at) [
        | inl less ↦ subst (AreJoinedIn q v F) (sym (get_or_append_left old (c.joined_columns.result ∷ []) [] F (omega (arith, less, size)))) (c.loop-atom.invariant.found F less)
        | inr past ↦
            (let e : F ≡ length old = omega (arith, l, past, size) in
            let is : F ≡ at = omega (arith, l, past) in
            subst (AreJoinedIn q v F) (sym (ap (λ n. get_or (old ++ c.joined_columns.result ∷ []) n []) e ∙ get_or-append_seam old c.joined_columns.result [] []))
            (subst (λ n. AreJoinedIn q v n c.joined_columns.result) (sym is) c.joined_columns.ensures))
      ]);
    }

pub returns : goal.returns
returns c F =
    let q = c.args.bound.now.query.now in
    let v = c.args.bound.now.variables in
    elim (cases_lt F c.loop-atom.atom) [
      | inl less ↦ c.loop-atom.invariant.found F less
      | inr past ↦ joined-past q v F _ (omega (arith, past, c.loop-atom-test.false, c.len-atom-end.ensures, c.loop-atom.invariant.size)) (omega (arith, past, c.loop-atom.invariant.size))
    ]
