use Rattle.std.proofs.Common.{◌≡◌, Err, Some, None, sym, ap, ◌∙◌, arith}
use Rattle.std.proofs.lemmas.Str.Pattern.{split_parts}
use Rattle.td_script.specs.declared.kind.Kind.TheVariants.{Dot}
use Rattle.td_script.specs.Arguments.{dot_of_numbers, dot_of_parts, site_of, number_of}
use Rattle.td_script.proofs.Cutting.{lacks_by_index, no_dot_cut, dot_parts}
use Rattle.td_script.proofs.Results.{dot_of_no_site, dot_of_no_number, dot_made}
use Rattle.td_script.proofs.argument.dot_word.Goals.{in_default-2-via-in-Ok+in_default, in_default-2-via-in_default}
use Rattle.td_script.proofs.argument.dot_word.Goals as goal

pub returns-in_default : goal.returns-in_default
returns-in_default c =
    let word = c.args.word.now in
    let none = split_parts 46 word None c.in_default.ensures.cases (omega arith) in
    sym (ap (dot_of_parts c.args.sites) (no_dot_cut word (lacks_by_index 46 word none)))

pub returns-in_default-2 : goal.returns-in_default-2
returns-in_default-2 c =
    let site = c.in-Some.site in
    let seq = c.in-Some.seq in
    let parts = split_parts 46 c.args.word.now (Some (site, seq)) c.in-Some.ensures.cases (omega arith) in
    let cut = ap (dot_of_parts c.args.sites) (dot_parts c.args.word.now site.now seq.now parts.0 parts.1) in
    let none : dot_of_numbers (site_of c.args.sites site.now) (number_of seq.now) ≡ Err Dot =
    elim c.in_default-2.branch [
      | in_default-2-via-in-Ok+in_default w ↦
          dot_of_no_number _ _ w.in_default-2.field-0-1 (sym c.number_word.ensures ∙ w.in_default-2.is-1)
      | in_default-2-via-in_default w ↦
          dot_of_no_site _ _ w.in_default-2.field-0-0 (sym c.site_word.ensures ∙ w.in_default-2.is-0)
    ] in
    sym (cut ∙ none)

pub returns : goal.returns
returns c =
    let site = c.in-Some.site in
    let seq = c.in-Some.seq in
    let parts = split_parts 46 c.args.word.now (Some (site, seq)) c.in-Some.ensures.cases (omega arith) in
    let cut = ap (dot_of_parts c.args.sites) (dot_parts c.args.word.now site.now seq.now parts.0 parts.1) in
    c.ok_or.ensures.value
    ∙ dot_made (site_of c.args.sites site.now) (number_of seq.now) c.in-Ok-Ok.site c.in-Ok-Ok.seq c.new.result
    (sym c.in-Ok-Ok.ensures) (sym c.in-Ok-Ok.ensures') c.new.ensures
    ∙ sym cut
