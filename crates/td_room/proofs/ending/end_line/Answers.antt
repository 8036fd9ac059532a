use Rattle.std.proofs.Common.{List}
use Rattle.td_line.specs.Lines.{LineValue}
use Rattle.td_line.specs.Editors.{EditorValue}
use Rattle.td_room.proofs.Lines.{first_out, first_joined, first_served}
use Rattle.td_room.proofs.ending.end_line.Goals as goal

pub end-requires-clause-belongs : goal.end-requires-clause-belongs
end-requires-clause-belongs g c =
    let ls : List LineValue = c.args.lines.now.items in
    let es : List EditorValue = c.args.editors.now.items in
    let p = first_out ls c.remove-line.new.self.items c.remove-line.result c.requires.some.0
    c.remove-line.ensures.value c.remove-line.ensures.items in
    let q = first_out es c.remove-editor.new.self.items c.remove-editor.result c.requires.some.1
    c.remove-editor.ensures.value c.remove-editor.ensures.items in
    (first_joined c.args.site.now.writer.views ls c.remove-line.new.self.items es c.remove-editor.new.self.items
    c.remove-line.result c.remove-editor.result p q c.requires.joined).belongs

pub end-requires-clause-served : goal.end-requires-clause-served
end-requires-clause-served g c =
    let ls : List LineValue = c.args.lines.now.items in
    let p = first_out ls c.remove-line.new.self.items c.remove-line.result c.requires.some.0
    c.remove-line.ensures.value c.remove-line.ensures.items in
    first_served c.args.site.now.replica.entries ls c.remove-line.new.self.items c.remove-line.result p
    c.requires.served
