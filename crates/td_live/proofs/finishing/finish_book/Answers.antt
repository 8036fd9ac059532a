use Rattle.std.proofs.Common.{◌≡◌, ◌≤◌, ◌∙◌, refl, arith}
use Rattle.td_world.specs.World.{family_of, size}
use Rattle.td_live.proofs.Furthering.{further_self, further_then}
use Rattle.td_live.proofs.finishing.finish_book.Goals as goal

pub loop-over-init : goal.loop-over-init
loop-over-init g c =
    record {
      further = further_self (family_of c.args.world.now) c.args.book.now;
      size = refl;
      over = λ e. absurd (cc e);
      nobody = λ h. h;
    }

pub step-requires : goal.step-requires
step-requires g c =
    let v = c.loop-over.invariant in
    let h : c.loop-over.book.home ≡ c.args.book.now.home = v.further.home in
    let s : size c.loop-over.world ≡ size c.args.world.now = v.size in
    let w : c.args.book.now.home ≤ size c.args.world.now = c.requires.home in
    omega (arith, h, s, w)

pub loop-over-preserved : goal.loop-over-preserved
loop-over-preserved g c =
    let n = c.step.new in
    let v = c.loop-over.invariant in
    record {
      further = further_then (family_of c.args.world.now) c.args.book.now (family_of c.loop-over.world) c.loop-over.book
          (family_of n.world) n.book v.further c.in_ok-over.ensures.further;
      size = c.in_ok-over.ensures.size ∙ v.size;
      over = c.in_ok-over.ensures.over;
      nobody = λ h. c.in_ok-over.ensures.nobody (v.nobody h);
    }
