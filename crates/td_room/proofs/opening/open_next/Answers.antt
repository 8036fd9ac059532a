use Rattle.std.proofs.Common.{◌≡◌, ◌+◌, ◌∙◌, ◌++◌, ◌∷◌, [], ℕ, List, length, sym, ap, subst, rules}
use Rattle.td_view.specs.Values.{ReaderValue}
use Rattle.td_law_meeting.specs.Thin.{Loss}
use Rattle.td_peer.specs.Opening.{IsFreshRow}
use Rattle.td_room.specs.Workers.{WorkerValue}
use Rattle.td_room.specs.Opening.{IsOpen, OpenedNext}
use Rattle.td_room.proofs.opening.open_next.Goals as goal

pub returns-clause-next : goal.returns-clause-next
returns-clause-next g c =
    let ws : List WorkerValue = c.args.workers.now.items in
    let w : WorkerValue = c.in_ok-worker.worker in
    let its : List ReaderValue = c.in_ok-worker.its in
    let n : c.len.result ≡ length ws = search rules in
    let site : c.at-site.result ≡ length ws + 1 = c.at-site.ensures ∙ ap (λ (k : ℕ). k + 1) n in
    let next : OpenedNext c.args.homes.now c.args.n (length ws + 1) c.first_row-row.result ws
    c.push_reserved.new.self.items
    c.args.readers.now.items c.push_reserved-2.new.self.items =
    record {
      worker = w;
      its = its;
      last = c.push_reserved.ensures.items ∙ ap (λ (xs : List WorkerValue). xs ++ w ∷ []) c.reserve.ensures.items;
      theirs = c.push_reserved-2.ensures.items ∙ ap (λ (xs : List (List ReaderValue)). xs ++ its ∷ [])
          c.reserve-2.ensures.items;
      peers = c.in_ok-worker.ensures.peers;
      opened = λ (lost : Loss) fresh.
          subst (λ (k : ℕ). IsOpen [] c.args.homes.now c.args.n lost [] k w its) site
          (c.in_ok-worker.ensures.opens lost
          (subst (λ (k : ℕ). IsFreshRow c.args.n k lost c.first_row-row.result) (sym site) fresh));
    } in
    (c.first_row-row.result, c.first_row-row.ensures, next)
