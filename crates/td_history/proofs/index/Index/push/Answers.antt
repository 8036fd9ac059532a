use Rattle.std.proofs.Common.{◌++◌, ◌∷◌, [], List, None, arith}
use Rattle.td_history.specs.declared.index.Logged.{Logged}
use Rattle.td_history.proofs.Places.{replaced}
use Rattle.td_history.proofs.index.Index.push.Goals as goal

pub returns-clause-lists : goal.returns-clause-lists
returns-clause-lists c =
    let here = rw c.place.ensures.place at c.index_mut.ensures.value in
    rw (c.place.ensures.place, ← c.self.view_is)
    (replaced _ (λ (list : List Logged). list ++ record { number = c.args.number; decided = None } ∷ []) _ _
    c.index_mut.result.now _ (omega arith) here c.push_reserved.ensures.items)
