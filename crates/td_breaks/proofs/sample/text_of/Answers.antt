use Rattle.std.proofs.Common.{◌≡◌, ◌∙◌, ◌++◌, [], ℕ, List, ap, sym, string_bytes}
use Rattle.std.specs.List.{concat}
use Rattle.std.proofs.lemmas.List.{append-nil}
use Rattle.td_breaks.proofs.Atoms.{next_bytes}
use Rattle.td_breaks.proofs.sample.text_of.Goals as goal

pub loop-atom-preserved : goal.loop-atom-preserved
loop-atom-preserved c =
    let same : c.as_str.result.now ≡ c.in-Some.atom = c.as_str.ensures in
    record {
      can = tt;
      ends = tt;
      bytes = rw (c.in_ok-push_str.ensures.bytes, same)
          (next_bytes (string_bytes c.loop-atom.text) c.in-Some.atom c.next.new.self c.loop-atom.atom-iterator
          (concat c.args.atoms.now)
          c.loop-atom.invariant.bytes c.in-Some.ensures.steps);
    }

pub returns : goal.returns
returns c =
    let so_far : List ℕ = string_bytes c.loop-atom.text in
    let none : c.loop-atom.atom-iterator ≡ [] = c.in-None.ensures.steps.0 in
    sym (append-nil so_far) ∙ ap (λ (left : List (List ℕ)). so_far ++ concat left) (sym none)
    ∙ c.loop-atom.invariant.bytes
