use Rattle.std.proofs.Common.{◌≡◌, List, Some, ap, ◌∙◌, sym}
use Rattle.std.proofs.lemmas.Bool.{eqb-true}
use Rattle.std.specs.List.{slice_get}
use Rattle.std.proofs.lemmas.Option.{same_Some}
use Rattle.td_op.specs.Message.{sender}
use Rattle.td_world.specs.declared.post.Post.{Post}
use Rattle.td_world.specs.World.{WorldValue}
use Rattle.td_world.proofs.Kept.{get_found, posted_at}
use Rattle.td_world.proofs.world.World.is_from.Goals as goal

pub returns-in-Some : goal.returns-in-Some
returns-in-Some g c = λ own m sent.
    let found : slice_get c.self.inside.posts.items c.args.k ≡ Some c.in-Some.post.now =
    ap (λ (l : List Post). slice_get l c.args.k) (sym c.deref.ensures.value)
    ∙ get_found c.deref.result.now c.args.k c.in-Some.post.now c.in-Some.ensures.lookup.3.0 c.in-Some.ensures.lookup.1
    in
    let here = posted_at c.self.inside.replicas.items c.self.inside.posts.items c.self.inside.passed.items
    c.self.invariant
    c.args.k c.in-Some.post.now c.number.ensures.least found in
    let same : here.message ≡ m =
    same_Some here.message m (sym here.sent ∙ ap (λ (w : WorldValue). slice_get w.sent c.args.k) c.self.view_is
    ∙ sent) in
    ap sender (sym same) ∙ here.from ∙ sym c.number.ensures.value ∙ eqb-true c.number.result c.number-in-Some.result own
    ∙ c.number-in-Some.ensures.value
