use Rattle.td_line.specs.Lines.{Served}
use Rattle.td_line.proofs.Working.{served_then, served_shown}
use Rattle.td_line.proofs.line.Line.answer.Goals as goal

pub returns-in_err-show-clause-served : goal.returns-in_err-show-clause-served
returns-in_err-show-clause-served g c =
    let t = c.do_ask.new.site in
    let u = c.show.new.self in
    let m = c.do_ask.new.self in
    served_then c.args.site.now t u c.args.self.now m m c.do_ask.ensures.served
    (served_shown t u m c.show.ensures.later c.show.ensures.replica)

pub returns-clause-served : goal.returns-clause-served
returns-clause-served g c =
    let s = c.args.site.now in
    let t = c.do_ask.new.site in
    let u = c.show.new.self in
    let l = c.args.self.now in
    let m = c.do_ask.new.self in
    let shown : Served s l u m =
    served_then s t u l m m c.do_ask.ensures.served
    (served_shown t u m c.show.ensures.later c.show.ensures.replica) in
    served_then s u u l m c.send.new.self shown c.send.ensures.served
