use Rattle.std.proofs.Common.{◌≡◌, ◌+◌, ◌-◌, ℕ, List, take, drop, length, length-drop, arith, sym, rules}
use Rattle.std.proofs.lemmas.List.{take_all}
use Rattle.td_shell.proofs.Heard.{cut_off, cut_so}
use Rattle.td_shell.proofs.lines.Lines.next.Goals as goal

pub returns-clause-some : goal.returns-clause-some
returns-clause-some c =
    let bytes : List ℕ = c.as_slice-bytes.result.now in
    let place : ℕ = c.in-Some.place in
    let all : c.args.self.now ≡ bytes = search rules in
    let line : c.push.new.self ≡ take place bytes = search rules in
    let whole : take (length bytes - (place + 1)) (drop (place + 1) bytes) ≡ drop (place + 1) bytes =
    take_all (length bytes - (place + 1)) (drop (place + 1) bytes) (omega (arith, length-drop (place + 1) bytes)) in
    let rest : c.push-2.new.self ≡ drop (place + 1) bytes = search (rules, whole) in
    cut_so c.args.self.now bytes c.push.new.self c.push-2.new.self (take place bytes) (drop (place + 1) bytes)
    all line rest (cut_off bytes place (sym c.in-Some.ensures.value))
