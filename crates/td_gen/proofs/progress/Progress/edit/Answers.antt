use Rattle.std.proofs.Common.{◌∙◌, ap, ℕ}
use Rattle.td_gen.specs.Generator.{edit_at}
use Rattle.td_gen.proofs.Making.{edit_made}
use Rattle.td_gen.proofs.progress.Progress.edit.Goals as goal

pub returns : goal.returns
returns c =
    let p = c.args.self.now in
    let site : ℕ = c.site_at-site.result in
    let a : ℕ = c.next_word-a.result in
    let b : ℕ = c.next_word-b.result in
    let made = c.in_ok-done.ensures ∙ ap (λ (least : ℕ). edit_at site least a b) c.at.ensures in
    edit_made c.args.number p site a b c.next_word-a.new.self c.next_word-b.new.self c.in_ok-done.done c.set.new.self
    c.push.new.self
    c.next_word-a.ensures c.next_word-b.ensures c.site_at-site.ensures made c.set.ensures c.in_ok-push.ensures.ok
