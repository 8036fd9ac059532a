use Rattle.std.proofs.Common.{sym, ap, ◌∙◌}
use Rattle.td_base.specs.Value.{DotValue}
use Rattle.td_wire.specs.Reading.{byte_at, max_site, dot_at}
use Rattle.td_wire.proofs.Decoding.{op_in}
use Rattle.td_wire.proofs.reader.Reader.op.Goals as goal

pub of-requires : goal.of-requires
of-requires c =
    let most = sym c.max_site-max_site.ensures in
    let site = sym (ap (λ (d : DotValue). d.site) c.own.view_is) ∙ sym c.number.ensures.value in
    op_in c.args.format c.args.kind c.in_ok-own.own c.in_ok-n.n
    c.deps.new.deps c.in_ok-body.body c.args.self.now.rest.now c.dot.new.self.rest.now
    c.byte.new.self.rest.now c.deps.new.self.rest.now c.body.new.self.rest.now
    (record { least = c.requires.least; most = c.requires.most })
    (ap (λ m. dot_at m c.args.self.now.rest.now) most ∙ c.in_ok-own.ensures)
    (ap (λ s. byte_at s (max_site c.args.format) c.dot.new.self.rest.now) site
    ∙ ap (λ m. byte_at c.number.result m c.dot.new.self.rest.now) most ∙ c.in_ok-n.ensures)
    c.in_ok-deps.ensures c.in_ok-body.ensures
