use Rattle.std.proofs.Common.{ℕ, ◌+◌, List, true, false, inl, inr, subst}
use Rattle.td_disk.specs.Calls.{Puts}
use Rattle.td_disk.proofs.Moments.{joined, at_err}
use Rattle.td_disk.proofs.Growing.{all_but_first, behind_put, gate_put, both_put}
use Rattle.td_disk.proofs.gated.Gated.grow.Goals as goal

pub returns-in_err-put-clause-any_moment : goal.returns-in_err-put-clause-any_moment
returns-in_err-put-clause-any_moment g c =
    behind_put g.D.Disk c.args.self.now.disk c.args.self.now.end c.args.bytes.now c.requires.settled.within
    c.requires.settled.shut c.requires.piece c.put.new.disk _ c.put.ensures.any_moment

pub returns-in_err-put-2-clause-any_moment : goal.returns-in_err-put-2-clause-any_moment
returns-in_err-put-2-clause-any_moment g c =
    joined g.D.Disk _ _ _ _
    (behind_put g.D.Disk c.args.self.now.disk c.args.self.now.end c.args.bytes.now c.requires.settled.within
    c.requires.settled.shut c.requires.piece c.put.new.disk _ c.put.ensures.any_moment)
    (gate_put g.D.Disk c.args.self.now.disk c.args.self.now.end c.args.bytes.now c.requires.settled.within
    c.requires.settled.shut c.requires.piece c.put.new.disk c.put-2.new.disk c.in_ok-put.ensures.written
    c.put-2.ensures.any_moment)

pub returns-clause-any_moment : goal.returns-clause-any_moment
returns-clause-any_moment g c =
    joined g.D.Disk _ _ _ _
    (behind_put g.D.Disk c.args.self.now.disk c.args.self.now.end c.args.bytes.now c.requires.settled.within
    c.requires.settled.shut c.requires.piece c.put.new.disk _ c.put.ensures.any_moment)
    (gate_put g.D.Disk c.args.self.now.disk c.args.self.now.end c.args.bytes.now c.requires.settled.within
    c.requires.settled.shut c.requires.piece c.put.new.disk c.put-2.new.disk c.in_ok-put.ensures.written
    c.put-2.ensures.any_moment)

pub returns-clause-grown : goal.returns-clause-grown
returns-clause-grown g c =
    (both_put g.D.Disk c.args.self.now.disk c.args.self.now.end c.args.bytes.now c.requires.settled.within
    c.requires.settled.shut c.requires.piece c.put.new.disk c.put-2.new.disk c.in_ok-put.ensures.written
    c.in_ok-put-2.ensures.written).front_is

pub returns-clause-settled : goal.returns-clause-settled
returns-clause-settled g c =
    let now = both_put g.D.Disk c.args.self.now.disk c.args.self.now.end c.args.bytes.now c.requires.settled.within
    c.requires.settled.shut c.requires.piece c.put.new.disk c.put-2.new.disk c.in_ok-put.ensures.written
    c.in_ok-put-2.ensures.written in
    record { within = now.within; shut = now.shut; synced = c.in_ok-put-2.ensures.synced }

pub returns-clause-done : goal.returns-clause-done
returns-clause-done g c = (
  c.put.new.disk,
  subst (λ (l : List ℕ). Puts g.D.Disk c.args.self.now.disk (c.args.self.now.end + 1) l true c.put.new.disk)
      (all_but_first c.args.bytes.now) c.in_ok-put.ensures.done,
  c.in_ok-put-2.ensures.done,
)

pub returns-in_err-put-clause-not_done : goal.returns-in_err-put-clause-not_done
returns-in_err-put-clause-not_done g c =
    at_err c.from_residual.result _
    (inl (subst (λ (l : List ℕ). Puts g.D.Disk c.args.self.now.disk (c.args.self.now.end + 1) l false c.put.new.disk)
    (all_but_first c.args.bytes.now) c.in_err-put.ensures.not_done))

pub returns-in_err-put-2-clause-not_done : goal.returns-in_err-put-2-clause-not_done
returns-in_err-put-2-clause-not_done g c =
    at_err c.from_residual-in_err-put-2.result _
    (inr (
      c.put.new.disk,
      subst (λ (l : List ℕ). Puts g.D.Disk c.args.self.now.disk (c.args.self.now.end + 1) l true c.put.new.disk)
          (all_but_first c.args.bytes.now) c.in_ok-put.ensures.done,
      c.in_err-put-2.ensures.not_done,
    ))
