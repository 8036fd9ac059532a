use Rattle.std.proofs.Common.{sym, ap, ◌∙◌, true, false}
use Rattle.std.specs.Prelude.{slice_get}
use Rattle.std.specs.Option.{option_and_then}
use Rattle.td_causal.proofs.Least.{number_within, number_deps, ready_at, none_at, past_at}
use Rattle.td_causal.proofs.buffer.Buffer.ready_of.Goals as goal

pub returns-in_err-dot-clause-ready : goal.returns-in_err-dot-clause-ready
returns-in_err-dot-clause-ready c =
    ap (option_and_then (slice_get c.args.ops.now.ops)) c.from_residual.ensures
    ∙ past_at c.args.have.now c.args.ops.now.ops c.args.self.now c.requires.entries c.requires.stored c.args.site
    c.get.result c.get.ensures.number c.in_err-dot.ensures

pub returns-in_err-number-clause-ready : goal.returns-in_err-number-clause-ready
returns-in_err-number-clause-ready c =
    ap (option_and_then (slice_get c.args.ops.now.ops)) c.from_residual-in_err-number.ensures
    ∙ none_at c.args.have.now c.args.ops.now.ops c.args.self.now c.requires.entries c.requires.stored c.args.site
    c.get.result c.in_ok-dot.dot c.get.ensures.number c.in_ok-dot.ensures.1
    (sym c.number_of.ensures ∙ c.in_err-number.was)

pub deps-requires : goal.deps-requires
deps-requires c =
    number_within _ c.args.ops.now.ops c.in_ok-dot.dot c.in_ok-number.number c.args.self.now c.requires.stored
    (sym c.number_of.ensures ∙ c.in_ok-number.was)

pub covers-requires : goal.covers-requires
covers-requires c =
    number_deps _ c.args.ops.now.ops c.in_ok-dot.dot c.in_ok-number.number c.args.self.now c.deps.result
    c.requires.stored (sym c.number_of.ensures ∙ c.in_ok-number.was) c.deps.ensures

pub returns-then-covers-clause-ready : goal.returns-then-covers-clause-ready
returns-then-covers-clause-ready c =
    ready_at c.args.have.now c.args.ops.now.ops c.args.self.now c.requires.entries c.requires.stored c.args.site
    c.get.result c.in_ok-number.number c.in_ok-dot.dot c.deps.result true c.get.ensures.number c.in_ok-dot.ensures.1
    (sym c.number_of.ensures ∙ c.in_ok-number.was) c.deps.ensures (sym c.if-covers.true ∙ c.covers.ensures)

pub returns-then-covers-clause-within : goal.returns-then-covers-clause-within
returns-then-covers-clause-within c =
    number_within _ c.args.ops.now.ops c.in_ok-dot.dot c.in_ok-number.number c.args.self.now c.requires.stored
    (sym c.number_of.ensures ∙ c.in_ok-number.was)

pub returns-else-covers-clause-ready : goal.returns-else-covers-clause-ready
returns-else-covers-clause-ready c =
    ready_at c.args.have.now c.args.ops.now.ops c.args.self.now c.requires.entries c.requires.stored c.args.site
    c.get.result c.in_ok-number.number c.in_ok-dot.dot c.deps.result false c.get.ensures.number c.in_ok-dot.ensures.1
    (sym c.number_of.ensures ∙ c.in_ok-number.was) c.deps.ensures (sym c.if-covers.false ∙ c.covers.ensures)
