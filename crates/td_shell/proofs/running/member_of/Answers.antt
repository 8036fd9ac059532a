use Rattle.std.proofs.Common.{arith}
use Rattle.td_shell.specs.Running.{IsMember}
use Rattle.td_shell.proofs.Members.{either_way, no_member}
use Rattle.td_shell.proofs.running.member_of.Goals.{then-number-count-via-then-number-count}
use Rattle.td_shell.proofs.running.member_of.Goals.{then-number-count-via-else-number-count+then-count-from}
use Rattle.td_shell.proofs.running.member_of.Goals as goal

pub returns-then-number-count-clause-none : goal.returns-then-number-count-clause-none
returns-then-number-count-clause-none c =
    let site = c.in_ok-number.ensures.some in
    let sites = c.in_ok-count.ensures.some in
    no_member c.args.site.now c.args.sites.now c.in_ok-number.number c.in_ok-count.count site.0 sites.0 site.1 sites.1
    (λ (m : IsMember c.in_ok-number.number c.in_ok-count.count).
    let within = m.within in
    let few = m.few in
    elim c.then-number-count.branch [
      | then-number-count-via-then-number-count w ↦ omega (arith, w.if-number-count.true, within)
      | then-number-count-via-else-number-count+then-count-from w ↦
          omega (arith, w.from.ensures, w.if-count-from.true, few)
    ])

pub returns-in_err-new-clause-none : goal.returns-in_err-new-clause-none
returns-in_err-new-clause-none c =
    let site = c.in_ok-number.ensures.some in
    let sites = c.in_ok-count.ensures.some in
    let none = no_member c.args.site.now c.args.sites.now c.in_ok-number.number c.in_ok-count.count site.0 sites.0
    site.1 sites.1 (λ (m : IsMember c.in_ok-number.number c.in_ok-count.count).
    let some = m.some in
    let within = m.within in
    let few = m.few in
    c.in_err-new.ensures (some, omega (arith, within, few))) in
    either_way c.from_residual-in_err-new.result _ none
