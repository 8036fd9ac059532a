use Rattle.std.proofs.Common.{ℕ, List, drop, Some, None, string_bytes, true, ap, subst, ◌∙◌, length-drop, arith}
use Rattle.std.proofs.lemmas.Str.Pattern.{strip_prefix_char}
use Rattle.unicode_segmentation.specs.Grapheme.{graphemes}
use Rattle.td_text.specs.Clusters.{IsFirstLong}
use Rattle.td_script.proofs.TextReading.{no_opening, read_text, long_text, whole_text}
use Rattle.td_script.proofs.quoted.text.Goals as goal

pub returns-in_default : goal.returns-in_default
returns-in_default c =
    let all = c.in_ok-argument.argument.now in
    no_opening c.args.rest.now all c.in_ok-argument.ensures
    (strip_prefix_char 34 all None c.in_default.ensures.cases (omega arith))

pub returns-in-Err-Long : goal.returns-in-Err-Long
returns-in-Err-Long c =
    let rest = c.args.rest.now in
    let all = c.in_ok-argument.argument.now in
    let inner = c.in-Some.quoted.now in
    let text = string_bytes c.in-Some-2.text in
    let left = drop c.in-Some-2.len inner in
    let opens = strip_prefix_char 34 all (Some c.in-Some.quoted) c.in-Some.ensures.cases (omega arith) in
    let read = rw c.in-Some-2.is at c.in_ok-text.ensures.some in
    let long = rw c.in-Err-Long.field-0-is at c.in-Err-Long.ensures.fault in
    long_text rest text left c.in-Err-Long.field-0-0
    (read_text rest all inner text left c.in_ok-argument.ensures opens read.1)
    (subst (λ (bs : List ℕ). IsFirstLong (graphemes true bs) c.in-Err-Long.field-0-0) c.deref.ensures long)

pub returns : goal.returns
returns c =
    let rest = c.args.rest.now in
    let all = c.in_ok-argument.argument.now in
    let inner = c.in-Some.quoted.now in
    let text = string_bytes c.in-Some-2.text in
    let left = drop c.in-Some-2.len inner in
    let opens = strip_prefix_char 34 all (Some c.in-Some.quoted) c.in-Some.ensures.cases (omega arith) in
    let read = rw c.in-Some-2.is at c.in_ok-text.ensures.some in (
      left,
      whole_text rest text left c.in-Ok.atoms (read_text rest all inner text left c.in_ok-argument.ensures opens
          read.1) (c.in-Ok.ensures.ok ∙ ap (graphemes true) c.deref.ensures) c.in-Ok.ensures.atoms,
      length-drop c.in-Some-2.len inner,
    )
