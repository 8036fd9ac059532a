use Rattle.std.proofs.Common.{◌≤◌, ◌∙◌, List, sym, ap, subst}
use Rattle.std.specs.List.{AllByRecursion}
use Rattle.td_world.specs.World.{WorldValue, family_of, size}
use Rattle.td_live.specs.Books.{BookValue, AreBooks}
use Rattle.td_live.specs.Ending.{IsTraceFrom}
use Rattle.td_live.proofs.NewBooks.{new_are_books, new_within, new_world_size, traced_among}
use Rattle.td_live.proofs.alone.conclude_alone.Goals as goal

pub wind_up-requires-clause-sites : goal.wind_up-requires-clause-sites
wind_up-requires-clause-sites g c = sym (ap size c.in_ok-world.ensures.new ∙ new_world_size c.args.sites)

pub wind_up-requires-clause-homes : goal.wind_up-requires-clause-homes
wind_up-requires-clause-homes g c =
    subst (λ (bs : List BookValue). AllByRecursion (λ (b : BookValue). b.home ≤ size c.in_ok-world.world) bs)
    (sym c.in_ok-books.ensures)
    (new_within c.args.sites (size c.in_ok-world.world) c.args.homes.now c.args.lines.items
    (sym (ap size c.in_ok-world.ensures.new ∙ new_world_size c.args.sites)) c.requires.homes)

pub returns : goal.returns
returns g c =
    traced_among c.args.sites c.args.homes.now c.args.lines.items c.in_ok-bytes.bytes c.requires.each
    (subst
    (λ (x : WorldValue × List BookValue). AreBooks (family_of x.0) c.args.lines.items x.1
    → IsTraceFrom c.args.lines.items (family_of x.0) x.1 c.in_ok-bytes.bytes)
    (λ i. (c.in_ok-world.ensures.new i, c.in_ok-books.ensures i)) (c.in_ok-bytes.ensures c.args.lines.items)
    (new_are_books c.args.sites c.args.homes.now c.args.lines.items c.requires.each c.requires.homes))
