use Rattle.union_ask.proofs.candidates.candidates_of_all.Goals as goal

pub returns-in_ok-list-in-Ok : goal.returns-in_ok-list-in-Ok
returns-in_ok-list-in-Ok c =
    let list = c.in_ok-list-in-Ok.ensures in
    record {
      ascending = list.ascending;
      exactly = λ row. (λ m. (c.in-Ok.ensures row).0 ((list.same row).0 m), λ k. (list.same row).1 ((c.in-Ok.ensures row).1 k));
    }
