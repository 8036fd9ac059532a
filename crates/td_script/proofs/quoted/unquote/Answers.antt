use Rattle.std.proofs.Common.{ℕ, List, Some, false, get_or, sym, ap, ◌∙◌, arith, true≢false}
use Rattle.std.proofs.lemmas.Str.Pattern.{contains_char, split_parts}
use Rattle.td_script.proofs.Cutting.{lacks_by_index}
use Rattle.td_script.proofs.TextWords.{read_as_it_stands, read_to_quote}
use Rattle.td_script.proofs.quoted.unquote.Goals as goal

pub returns-clause-some : goal.returns-clause-some
returns-clause-some c =
    let text = c.in-Some.text.now in
    let parts = split_parts 34 c.args.quoted.now (Some (c.in-Some.text, c.in-Some.field-0-1))
    c.in-Some.ensures.cases (omega arith) in
    let escapes = contains_char 92 text false c.if-not-contains.ensures.cases (omega arith) in
    let slash = lacks_by_index 92 text (λ i inside is. absurd (true≢false (sym (escapes.1 i inside is)))) in
    rw c.in_ok-from_str.ensures.ok
    (read_as_it_stands c.args.quoted.now text c.in-Some.field-0-1.now parts.0 (lacks_by_index 34 text parts.1) slash)

pub unwrap-requires : goal.unwrap-requires
unwrap-requires c =
    let bytes = c.as_bytes-byte-items.ensures in
    let quote = ap (λ (bs : List ℕ). get_or bs c.loop-at.at 0) (sym bytes.value) ∙ c.in-34.is in
    c.from_utf8.ensures.succeeds
    (read_to_quote c.args.quoted.now c.loop-at.text.items c.loop-at.at c.loop-at.is_escaped c.utf8.quoted
    (omega (arith, bytes.len)) quote c.if-not-is_escaped.true c.loop-at.invariant)
