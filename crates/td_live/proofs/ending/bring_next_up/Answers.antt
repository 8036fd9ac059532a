use Rattle.td_base.proofs.Places.{first_out}
use Rattle.td_live.proofs.Drafts.{can_next, some_answers}
use Rattle.td_live.proofs.ending.bring_next_up.Goals as goal

pub returns-clause-can : goal.returns-clause-can
returns-clause-can c =
    (can_next c.args.answers.now.items c.remove-its.new.self.items c.args.books.now.items c.remove-book.new.self.items
    c.remove-its.result c.remove-book.result
    (first_out c.args.answers.now.items c.remove-its.new.self.items c.remove-its.result
    (some_answers c.args.answers.now.items c.args.books.now.items c.requires.can c.requires.some)
    c.remove-its.ensures.value c.remove-its.ensures.items)
    (first_out c.args.books.now.items c.remove-book.new.self.items c.remove-book.result c.requires.some
    c.remove-book.ensures.value c.remove-book.ensures.items)
    c.requires.can).1
