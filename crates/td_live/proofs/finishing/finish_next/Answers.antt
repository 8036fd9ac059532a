use Rattle.std.proofs.Common.{◌++◌, ◌∷◌, ◌∙◌, [], ap}
use Rattle.td_base.proofs.Places.{first_out}
use Rattle.td_trace.specs.declared.log.EditorLog.{EditorLog}
use Rattle.td_world.specs.World.{size}
use Rattle.td_live.proofs.Finishes.{home_first}
use Rattle.td_live.proofs.finishing.finish_next.Goals as goal

pub finish_book-requires : goal.finish_book-requires
finish_book-requires g c =
    record {
      home = home_first (size c.args.world.now) c.args.books.now.items c.remove-book.new.self.items c.remove-book.result
          (first_out c.args.books.now.items c.remove-book.new.self.items c.remove-book.result c.requires.some
          c.remove-book.ensures.value c.remove-book.ensures.items)
          c.requires.homes;
    }

pub returns-clause-finished : goal.returns-clause-finished
returns-clause-finished g c =
    record {
      book = c.remove-book.result;
      last = c.finish_book.new.book;
      first = first_out c.args.books.now.items c.remove-book.new.self.items c.remove-book.result c.requires.some
          c.remove-book.ensures.value c.remove-book.ensures.items;
      further = c.in_ok-finish_book.ensures.further;
      over = c.in_ok-finish_book.ensures.over;
      one = c.in_ok-push.ensures.items ∙ ap (λ (log : EditorLog). c.args.logs.now.items ++ log ∷ []) c.into_log.ensures;
    }
