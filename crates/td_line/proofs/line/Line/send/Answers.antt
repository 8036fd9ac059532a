use Rattle.std.proofs.Common.{◌≡◌, ◌-◌, ◌∙◌, ap, sym, subst, length, slice_get, List, Some, le_trans}
use Rattle.logbook.specs.Pages.{Book}
use Rattle.td_view.specs.Values.{ToldValue}
use Rattle.td_line.specs.declared.answer.Answer.{Answer}
use Rattle.td_line.specs.Lines.{LineValue}
use Rattle.td_line.proofs.Calling.{last_within}
use Rattle.td_line.proofs.line.Line.send.Goals as goal

pub try_send-requires : goal.try_send-requires
try_send-requires g c m h =
    let s = c.args.site.now in
    let l = c.args.self.now in
    let mark : l.answers.mark ≡ Some m = subst (λ (x : LineValue). x.answers.mark ≡ Some m) c.self.view_is h in
    let given : c.deref.result.now ≡ l.given =
    subst (λ (x : LineValue). c.deref.result.now ≡ x.given) c.self.view_is c.deref.ensures.value in
    let last : Some c.in-Some.last.now ≡ slice_get l.given (length l.given - 1) =
    subst (λ (w : List Answer). Some c.in-Some.last.now ≡ slice_get w (length w - 1)) given c.in-Some.ensures.value in
    let views : s.writer.views ≡ m = same s.writer.views m (sym c.requires.views ∙ mark) in
    let within =
    last_within s.replica.entries 0 c.requires.served.done l.given c.in-Some.last.now c.requires.served.recorded last in
    let upto = c.told.ensures.upto in
    (ap (λ (x : ToldValue). x.views) c.told.ensures.told ∙ views, (upto.0, upto.1, le_trans within upto.2))
  where
    same : (a b : Book) → Some a ≡ Some b → a ≡ b
    same a b e = cc e
