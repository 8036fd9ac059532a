use Rattle.std.proofs.Common.{◌≡◌, ◌++◌, ◌∷◌, ◌∙◌, [], ap}
use Rattle.td_base.proofs.Places.{first_out}
use Rattle.td_line.specs.Editors.{EditorValue}
use Rattle.td_live.specs.Books.{BookValue}
use Rattle.td_live.specs.Drafts.{book_of}
use Rattle.td_live.proofs.ending.take_next_apart.Goals as goal

pub returns : goal.returns
returns c =
    let p = c.parts-editor.ensures in
    let home = c.home.ensures ∙ ap (λ (e : EditorValue). e.home) c.parts-editor.ensures.editor in
    let book : c.in_ok-of.field-0 ≡ book_of c.remove-desk.result =
    c.in_ok-of.ensures ∙ (λ i. record { home = home i; rest = p.rest i; did = p.did i }) in
    record {
      desk = c.remove-desk.result;
      is = c.parts-editor.ensures.desk;
      first = first_out c.args.desks.now.items c.remove-desk.new.self.items c.remove-desk.result c.requires
          c.remove-desk.ensures.value c.remove-desk.ensures.items;
      editor = c.in_ok-push-2.ensures.items
          ∙ ap (λ (e : EditorValue). c.args.editors.now.items ++ e ∷ []) c.parts-editor.ensures.editor;
      book = c.in_ok-push.ensures.items ∙ ap (λ (b : BookValue). c.args.books.now.items ++ b ∷ []) book;
    }
