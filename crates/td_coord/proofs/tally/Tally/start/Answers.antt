use Rattle.std.proofs.Common.{find, ap, ◌∙◌, ◌≡◌, ◌+◌, ◌<◌, ◌^◌, length, is_some, arith}
use Rattle.std.specs.Int.{from_bool}
use Rattle.std.specs.Prelude.{reverse}
use Rattle.td_machine.specs.Decision.{Ballot, is_on}
use Rattle.td_coord.specs.Tally.{TallyValue, told, started, put_ballot}
use Rattle.td_coord.proofs.Placed.{is_gap, put_reversed}
use Rattle.td_coord.proofs.Kept.{start_parts}
use Rattle.td_coord.proofs.tally.Tally.start.Goals as goal

pub unwrap_err-place-requires : goal.unwrap_err-place-requires
unwrap_err-place-requires c =
    let p = c.args.proposal in
    is_gap p c.self.inside.ballots.items c.place_of.result c.self.invariant.rising
    (rw c.deref.ensures.value at c.place_of.ensures)
    (ap (λ (t : TallyValue). is_some (find (is_on p) t.ballots)) c.self.view_is ∙ c.requires)

pub overflow_add-self : goal.overflow_add-self
overflow_add-self c =
    let old = c.self.inside in
    let few : length old.ballots.items + 1 < 2 ^ 32 = omega (arith, c.len.ensures, c.if-len.false) in
    let parts = start_parts old.size old.own old.undecided c.from.result c.args.proposal old.ballots.items
    c.unwrap_err-place.result c.start-ballot.result c.self.invariant
    (rw (c.deref.ensures.value, c.unwrap_err-place.ensures) at c.place_of.ensures)
    few c.start-ballot.ensures (c.from.ensures ∙ ap from_bool c.is_open-open.ensures) in
    omega (arith, parts.0)

pub invariant_of-self-2 : goal.invariant_of-self-2
invariant_of-self-2 c =
    let old = c.self.inside in
    let few : length old.ballots.items + 1 < 2 ^ 32 = omega (arith, c.len.ensures, c.if-len.false) in
    rw c.in_ok-insert.ensures.items
    (start_parts old.size old.own old.undecided c.from.result c.args.proposal old.ballots.items
    c.unwrap_err-place.result c.start-ballot.result c.self.invariant
    (rw (c.deref.ensures.value, c.unwrap_err-place.ensures) at c.place_of.ensures)
    few c.start-ballot.ensures (c.from.ensures ∙ ap from_bool c.is_open-open.ensures)).1

pub returns-clause-ok : goal.returns-clause-ok
returns-clause-ok c =
    let p = c.args.proposal in
    let old = c.self.inside in
    let xs = old.ballots.items in
    let k = c.unwrap_err-place.result in
    let on : c.start-ballot.result.proposal ≡ p =
    ap (λ (b : Ballot). b.proposal) c.start-ballot.ensures in (
      c.state-state.ensures ∙ ap (λ (b : Ballot). told b.decision) c.start-ballot.ensures
          ∙ ap (λ (t : TallyValue). told (started t.size t.own p).decision) c.self.view_is,
      ap reverse c.in_ok-insert.ensures.items
          ∙ put_reversed p xs k c.start-ballot.result
          (rw (c.deref.ensures.value, c.unwrap_err-place.ensures) at c.place_of.ensures) on
          ∙ ap (λ (b : Ballot). put_ballot b (reverse xs)) c.start-ballot.ensures
          ∙ ap (λ (t : TallyValue). put_ballot (started t.size t.own p) t.ballots) c.self.view_is,
    )
