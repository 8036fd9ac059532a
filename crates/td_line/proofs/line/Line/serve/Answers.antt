use Rattle.std.proofs.Common.{◌≡◌, ap}
use Rattle.td_link.specs.Ends.{RxValue}
use Rattle.td_line.specs.declared.ask.Ask.{Ask}
use Rattle.td_line.specs.Lines.{Served}
use Rattle.td_line.proofs.Working.{served_then, served_taken, turned_end}
use Rattle.td_line.proofs.line.Line.serve.Goals as goal

pub answer-requires-clause-served : goal.answer-requires-clause-served
answer-requires-clause-served g c =
    let t = c.catch_up.new.site in
    let m = c.catch_up.new.self in
    let taken : Served t m t c.take.new.self =
    served_taken t m c.take.new.self c.in_ok-catch_up.ensures.done c.take.ensures.same c.take.ensures.link
    c.take.ensures.taken in
    taken.served (c.catch_up.ensures.served.served c.requires.served)

pub returns-in_err-answer-clause-served : goal.returns-in_err-answer-clause-served
returns-in_err-answer-clause-served g c =
    let s = c.args.site.now in
    let t = c.catch_up.new.site in
    let l = c.args.self.now in
    let m = c.catch_up.new.self in
    let n = c.take.new.self in
    let taken : Served s l t n =
    served_then s t t l m n c.catch_up.ensures.served
    (served_taken t m n c.in_ok-catch_up.ensures.done c.take.ensures.same c.take.ensures.link c.take.ensures.taken) in
    served_then s t c.answer.new.site l n c.answer.new.self taken c.answer.ensures.served

pub returns-clause-served : goal.returns-clause-served
returns-clause-served g c =
    let s = c.args.site.now in
    let t = c.catch_up.new.site in
    let l = c.args.self.now in
    let m = c.catch_up.new.self in
    let n = c.take.new.self in
    let taken : Served s l t n =
    served_then s t t l m n c.catch_up.ensures.served
    (served_taken t m n c.in_ok-catch_up.ensures.done c.take.ensures.same c.take.ensures.link c.take.ensures.taken) in
    served_then s t c.answer.new.site l n c.answer.new.self taken c.answer.ensures.served

pub returns-clause-turned : goal.returns-clause-turned
returns-clause-turned g c =
    let before : c.catch_up.new.self.asks.taken ≡ c.args.self.now.asks.taken =
    ap (λ (a : RxValue Ask (Unit {0})). a.taken) c.catch_up.ensures.asks in
    let e = c.in_ok-answer.ensures in
    turned_end c.args.self.now c.catch_up.new.self c.take.new.self c.answer.new.self before c.take.ensures.taken
    c.take.ensures.empty c.answer.ensures.asks e.done e.full
