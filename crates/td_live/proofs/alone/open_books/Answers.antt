use Rattle.std.proofs.Common.{◌≡◌, ◌<◌, ◌+◌, ◌++◌, ◌∷◌, ◌∙◌, [], List, suc, length, ap, arith}
use Rattle.td_base.proofs.Places.{first_out}
use Rattle.td_script.specs.declared.live.editor_line.EditorLine.{EditorLine}
use Rattle.td_live.specs.Alone.{new_books}
use Rattle.td_live.specs.Books.{BookValue}
use Rattle.td_live.proofs.NewBooks.{open_next, open_all}
use Rattle.td_live.proofs.alone.open_books.Goals as goal

pub loop-home-preserved : goal.loop-home-preserved
loop-home-preserved c =
    let v = c.loop-home.invariant in
    let all : length c.loop-home.lines.items + c.loop-home.home-index ≡ length c.args.homes.now = v.many in
    let less : c.loop-home.home-index < length c.args.homes.now = omega (arith, c.loop-home-test.true) in
    let some : 0 < length c.loop-home.lines.items = omega (arith, all, less) in
    let first = first_out c.loop-home.lines.items c.remove.new.self.items c.remove.result some c.remove.ensures.value
    c.remove.ensures.items in
    let long : length c.loop-home.lines.items ≡ suc (length c.remove.new.self.items) =
    ap (λ (l : List (List EditorLine)). length l) first in
    record {
      many = omega (arith, all, long);
      books = open_next c.args.homes.now c.loop-home.home-index c.home-item.result c.loop-home.lines.items
          c.remove.new.self.items c.remove.result c.loop-home.books.items c.push.new.self.items
          (new_books c.args.homes.now c.args.lines.items) less c.home-item.is first v.books
          (c.in_ok-push.ensures.items ∙ ap (λ (b : BookValue). c.loop-home.books.items ++ b ∷ []) c.new.ensures);
    }

pub returns : goal.returns
returns c =
    open_all c.args.homes.now c.loop-home.home-index c.loop-home.lines.items c.loop-home.books.items
    (new_books c.args.homes.now c.args.lines.items) (omega (arith, c.loop-home-test.false)) c.loop-home.invariant.books
