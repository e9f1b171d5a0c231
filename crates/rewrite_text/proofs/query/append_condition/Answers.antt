use Rattle.std.proofs.Common.{◌∷◌, [], Contains, subst, sym}
use Rattle.cqa_model.specs.Shape.{columns_of}
use Rattle.cqa_model.proofs.Classic.{mem-head, mem-tail}
use Rattle.rewrite_text.proofs.query.append_condition.Goals as goal

pub append_column-requires : goal.append_column-requires
append_column-requires c = c.requires c.in-Join.left (subst (λ k. Contains (columns_of k) c.in-Join.left) (sym c.in-Join.is) (mem-head c.in-Join.left (c.in-Join.right ∷ [])))

pub append_column-requires-in-Join : goal.append_column-requires-in-Join
append_column-requires-in-Join c =
    c.requires c.in-Join.right (subst (λ k. Contains (columns_of k) c.in-Join.right) (sym c.in-Join.is) (mem-tail c.in-Join.right c.in-Join.left (c.in-Join.right ∷ []) (mem-head c.in-Join.right [])))

pub append_column-requires-in-Test : goal.append_column-requires-in-Test
append_column-requires-in-Test c = c.requires c.in-Test.col (subst (λ k. Contains (columns_of k) c.in-Test.col) (sym c.in-Test.is) (mem-head c.in-Test.col []))
