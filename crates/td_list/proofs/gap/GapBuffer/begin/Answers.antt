use Rattle.std.proofs.Common.{◌≡◌, ◌∙◌, List, sym, subst, arith}
use Rattle.td_list.specs.Items.{Item}
use Rattle.td_list.specs.Buffered.{halves, IsGapBuffer}
use Rattle.td_list.proofs.Halves.{none_before}
use Rattle.td_list.proofs.gap.GapBuffer.begin.Goals as goal

pub invariant_of-self-2 : goal.invariant_of-self-2
invariant_of-self-2 c =
    let piece = c.args.piece.now in
    let is : halves c.put_between.new.front.items c.put_between.new.back.items ≡ piece = c.in_ok-put_between.ensures.ok
    ∙ none_before c.self.inside.front.items c.self.inside.back.items piece (c.self.view_is ∙ c.requires.empty) in
    subst (λ (xs : List Item). IsGapBuffer xs c.weight_of-self-inside.result c.least_of-self-inside.result) (sym is)
    (record {
      apart = c.requires.apart;
      few = omega (arith, c.if-piece-gt-MOST.false);
      weighed = c.weight_of-self-inside.ensures;
      light = omega (arith, c.weight_of-self-inside.ensures, c.requires.light);
      bound = c.least_of-self-inside.ensures.names;
    })

pub returns-clause-put : goal.returns-clause-put
returns-clause-put c = λ t. c.in_ok-put_between.ensures.ok
    ∙ none_before c.self.inside.front.items c.self.inside.back.items c.args.piece.now
    (c.self.view_is ∙ c.requires.empty)
