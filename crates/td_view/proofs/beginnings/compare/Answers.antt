use Rattle.std.proofs.Common.{ap, subst, List}
use mathlib.Core.List.{IsPrefix}
use Rattle.td_view.specs.declared.publish.Publish.{Publish}
use Rattle.td_view.specs.History.{HoldsHistory}
use Rattle.td_view.proofs.Rising.{legal_prefix}
use Rattle.td_view.proofs.Prefixes.{prefix_shorter}
use Rattle.td_view.proofs.beginnings.compare.Goals as goal

pub returns-clause-prefix : goal.returns-clause-prefix
returns-clause-prefix c =
    let both = c.learn.new.self.log in
    let first : IsPrefix c.args.first.now.log both =
    subst (λ (l : List Publish). IsPrefix l both) (ap (λ s. s.log) c.again-both.ensures) c.learn.ensures.2 in
    prefix_shorter c.args.first.now.log c.args.second.now.log both first c.learn.ensures.3 c.requires.shorter

pub returns-clause-legal : goal.returns-clause-legal
returns-clause-legal c = let k : HoldsHistory _ c.learn.new.self.log = c.learn.ensures.4.1 in
    legal_prefix c.args.second.now.log c.learn.new.self.log c.learn.ensures.3 k.legal
