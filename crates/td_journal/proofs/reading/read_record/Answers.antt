use Rattle.std.proofs.Common.{◌≡◌, ◌++◌, ℕ, List, drop, ap, sym, ◌∙◌}
use Rattle.td_input.specs.Spelling.{input_bytes}
use Rattle.td_journal.specs.Check.{bytes_of}
use Rattle.td_journal.specs.Journal.{body_bytes, check_of, next_check}
use Rattle.td_journal.proofs.Unique.{input_is_short, parts, same_record, body_is, if_none, none_some}
use Rattle.td_journal.proofs.reading.read_record.Goals as goal

pub returns-in_err-len-clause-none : goal.returns-in_err-len-clause-none
returns-in_err-len-clause-none c =
    if_none c.from_residual.result (λ input can b.
    c.in_err-len.ensures.none (input_bytes input) (next_check c.args.check.format (bytes_of c.args.check) input
    ++ b.0) (input_is_short input can)
    (b.1 ∙ parts c.args.check.format (bytes_of c.args.check) input b.0))

pub returns-in_err-input-clause-none : goal.returns-in_err-input-clause-none
returns-in_err-input-clause-none c =
    if_none c.from_residual-in_err-input.result (λ input can b.
    let same = same_record c.args.bytes.now c.in_ok-len.len c.in_ok-len.ensures.within c.in_ok-len.ensures.is
    c.args.check.format (bytes_of c.args.check) input can c.in_ok-len.ensures.short b in
    none_some input (c.in_err-input.ensures.only input can
    (c.split_at-2.ensures.back ∙ ap (drop 3) c.split_at.ensures.front ∙ same.0)))

pub returns-in_err-rest-clause-none : goal.returns-in_err-rest-clause-none
returns-in_err-rest-clause-none c =
    if_none c.from_residual-in_err-rest.result (λ input can b.
    let same = same_record c.args.bytes.now c.in_ok-len.len c.in_ok-len.ensures.within c.in_ok-len.ensures.is
    c.args.check.format (bytes_of c.args.check) input can c.in_ok-len.ensures.short b in
    let body : c.split_at-3.result.1.now ≡ body_bytes input =
    c.split_at-3.ensures.back ∙ ap (drop 1) c.split_at.ensures.front
    ∙ body_is c.args.bytes.now c.in_ok-len.len c.in_ok-len.ensures.within c.in_ok-len.ensures.is input same.0 in
    let next : bytes_of c.next-next.result ≡ next_check c.args.check.format (bytes_of c.args.check) input =
    c.next-next.ensures.bytes ∙ ap (λ (l : List ℕ). check_of c.args.check.format (bytes_of c.args.check ++ l)) body in
    c.in_err-rest.ensures.none b.0 (c.split_at.ensures.back ∙ same.1 ∙ ap (λ (l : List ℕ). l ++ b.0) (sym next)))
