use Rattle.std.proofs.Common.{◌≡◌, ◌≤◌, ◌<◌, ◌++◌, ◌∷◌, [], ℕ, List, All, length, length-append, sym, ap, subst, arith}
use Rattle.std.proofs.lemmas.List.Elements.{All-push}
use Rattle.test_room.proofs.room.many.all_sites.Goals as goal

pub loop-place-preserved : goal.loop-place-preserved
loop-place-preserved g c =
    let xs : List ℕ = c.loop-place.sites.items in
    let x : ℕ = c.site.result in
    let e = ap (λ (l : List ℕ). length l) c.in_ok-push.ensures.items in
    let f = length-append xs (x ∷ []) in
    let few : x ≤ 64 = omega (arith, c.site.ensures, c.loop-place-test.true) in
    record {
      count = omega (arith, e, f, c.loop-place.invariant.count);
      within = subst (λ (l : List ℕ). All (λ site. site ≤ 64) l) (sym c.in_ok-push.ensures.items)
          (All-push (λ site. site ≤ 64) xs x c.loop-place.invariant.within few);
    }
