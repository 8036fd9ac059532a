use Rattle.std.proofs.Common.{◌≡◌, length, rules}
use Rattle.td_live.specs.Drafts.{all_brought_up}
use Rattle.td_live.proofs.Drafts.{up_all}
use Rattle.td_live.proofs.ending.bring_all_up.Goals as goal

pub returns : goal.returns
returns c =
    let none : length c.loop-books.books.items ≡ 0 = search rules in
    up_all c.loop-books.all.items (all_brought_up c.args.answers.items c.args.books.items) c.loop-books.answers.items
    c.loop-books.books.items none c.loop-books.invariant.can c.loop-books.invariant.all
