use Rattle.std.proofs.Common.{◌∙◌, nat_le, rules, tests}
use Rattle.std.proofs.lemmas.Iterator.{YieldsList-from_slice, YieldsList-from_zip}
use Rattle.std.proofs.lemmas.Iterator.Search.{all_from_yields_List}
use Rattle.td_clock.proofs.VectorLemmas.{all_covered}
use Rattle.td_clock.proofs.vector.Vector.covers.Goals as goal

pub returns : goal.returns
returns c =
    let v = c.args.self.now in
    let w = c.args.other.now in
    all_from_yields_List (λ p. nat_le p.1 p.0) c.all.new.self _ c.all.result c.all.ensures.ran
    (YieldsList-from_zip {s = c.zip.result} (YieldsList-from_slice v cc) (YieldsList-from_slice w cc))
    (λ x b q k. search (rules, tests))
    ∙ all_covered v w c.requires
