use Rattle.std.proofs.Common.{◌≡◌, ◌∙◌, ◌++◌, ◌∷◌, [], List, sym, ap, subst}
use Rattle.td_line.specs.Lines.{LineValue}
use Rattle.td_line.specs.Editors.{IsNewLine}
use Rattle.td_room.specs.Workers.{WorkerValue, IsWorker}
use Rattle.td_room.proofs.Opens.{new_line}
use Rattle.td_room.proofs.worker.Worker.push_line.Goals as goal

pub invariant_of-self-2 : goal.invariant_of-self-2
invariant_of-self-2 g c =
    let s = c.self.inside.site in
    let ls : List LineValue = c.self.inside.lines.items in
    let l : LineValue = c.args.line in
    let e : c.push_reserved.new.self.items ≡ ls ++ l ∷ [] =
    c.push_reserved.ensures.items ∙ ap (λ (xs : List LineValue). xs ++ l ∷ []) c.reserve.ensures.items in
    let n : IsNewLine c.requires.0 s.writer.views l =
    subst (λ (w : WorkerValue). IsNewLine c.requires.0 w.site.writer.views l) (sym c.self.view_is) c.requires.1 in
    subst (λ (xs : List LineValue). IsWorker (record { site = s; lines = xs; peers = c.self.inside.peers.items }))
    (sym e)
    (record {
      connected = c.self.invariant.connected;
      serving = new_line s ls l c.requires.0 n c.self.invariant.serving;
    })
