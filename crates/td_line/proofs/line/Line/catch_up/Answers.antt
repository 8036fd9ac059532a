use Rattle.td_line.specs.Lines.{Served}
use Rattle.td_line.proofs.Working.{served_then, served_shown}
use Rattle.td_line.proofs.line.Line.catch_up.Goals as goal

pub returns-in_err-answer-clause-served : goal.returns-in_err-answer-clause-served
returns-in_err-answer-clause-served g c =
    let s = c.args.site.now in
    let t = c.show.new.self in
    let l = c.args.self.now in
    let m = c.send.new.self in
    let sent : Served s l t m =
    served_then s t t l l m (served_shown s t l c.show.ensures.later c.show.ensures.replica) c.send.ensures.served in
    served_then s t c.answer.new.site l m c.answer.new.self sent c.answer.ensures.served

pub returns-clause-served : goal.returns-clause-served
returns-clause-served g c =
    let s = c.args.site.now in
    let t = c.show.new.self in
    let l = c.args.self.now in
    let m = c.send.new.self in
    let sent : Served s l t m =
    served_then s t t l l m (served_shown s t l c.show.ensures.later c.show.ensures.replica) c.send.ensures.served in
    served_then s t c.answer.new.site l m c.answer.new.self sent c.answer.ensures.served
