use Rattle.std.proofs.Common.{refl, true, None}
use Rattle.td_line.specs.Lines.{LineValue}
use Rattle.td_line.proofs.Working.{served_done}
use Rattle.td_line.proofs.line.Line.do_ask.Goals as goal

pub returns-clause-served : goal.returns-clause-served
returns-clause-served g c =
    let s = c.args.site.now in
    let t = c.do_request.new.site in
    let inside : LineValue = record {
      editor = c.self.inside.editor;
      asks = c.self.inside.asks;
      answers = c.self.inside.answers;
      ask = c.self.inside.ask;
      given = c.self.inside.given.items;
      owed = c.self.inside.owed;
    } in
    let m : LineValue = record inside { ask = None; given = c.do_request.new.given.items; owed = true } in
    rw (← c.self.view_is) (
    served_done s t inside m c.in-Some.ask c.do_request.ensures.later c.in-Some.is c.in_ok-do_request.ensures.done refl
    )
