use Rattle.std.proofs.Common.{◌≡◌, ◌<◌, ◌∙◌, List, length, sym, ap, subst, rules}
use Rattle.std.specs.List.{AllZip}
use Rattle.td_site.proofs.Later.{later_self, later_then}
use Rattle.td_line.specs.declared.answer.Answer.{Answer}
use Rattle.td_room.specs.Closing.{IsAnswered, all_at}
use Rattle.td_room.proofs.Lines.{only_self, only_then, lines_first, lines_next, lines_last, some_editor}
use Rattle.td_room.proofs.ending.end_lines.Goals as goal

pub loop-alloc-init : goal.loop-alloc-init
loop-alloc-init g c =
    let s = c.args.site.now in
    record {
      late = c.requires.late;
      later = later_self s;
      only = only_self s.replica.entries;
      ends = lines_first c.args.editors.items s c.args.lines.items _ _ c.requires.serving c.requires.joined
          (search rules) (search rules);
    }

pub end_line-requires-clause-some : goal.end_line-requires-clause-some
end_line-requires-clause-some g c =
    let h : 0 < length c.loop-alloc.lines.items = search rules in (
      h,
      some_editor c.loop-alloc.site.writer.views c.loop-alloc.lines.items c.loop-alloc.editors.items
          c.loop-alloc.invariant.ends.joined h,
    )

pub loop-alloc-preserved : goal.loop-alloc-preserved
loop-alloc-preserved g c =
    let v = c.loop-alloc.invariant in
    let n = c.end_line.new in
    let s = c.args.site.now in
    record {
      late = c.in_ok-end_line.ensures.late;
      later = later_then s c.loop-alloc.site n.site v.later c.end_line.ensures.later;
      only = only_then s.replica.entries c.loop-alloc.site.replica.entries n.site.replica.entries v.only
          c.end_line.ensures.only;
      ends = lines_next c.args.editors.items c.loop-alloc.site n.site c.loop-alloc.lines.items n.lines.items
          c.loop-alloc.editors.items n.editors.items c.loop-alloc.answers.items n.answers.items
          c.loop-alloc.readers.items n.readers.items v.ends c.in_ok-end_line.ensures.ended c.end_line.ensures.later;
    }

pub returns-in_err-end_line-clause-later : goal.returns-in_err-end_line-clause-later
returns-in_err-end_line-clause-later g c =
    later_then c.args.site.now c.loop-alloc.site c.end_line.new.site c.loop-alloc.invariant.later
    c.end_line.ensures.later

pub returns-in_err-end_line-clause-only : goal.returns-in_err-end_line-clause-only
returns-in_err-end_line-clause-only g c =
    only_then c.args.site.now.replica.entries c.loop-alloc.site.replica.entries c.end_line.new.site.replica.entries
    c.loop-alloc.invariant.only c.end_line.ensures.only

pub returns-clause-answered : goal.returns-clause-answered
returns-clause-answered g c =
    let none : length c.loop-alloc.lines.items ≡ 0 = search rules in
    let e = lines_last c.args.editors.items c.loop-alloc.site c.loop-alloc.lines.items c.loop-alloc.editors.items
    c.loop-alloc.answers.items c.loop-alloc.readers.items none c.loop-alloc.invariant.ends in
    subst (λ (all : List (List Answer)). AllZip (IsAnswered c.loop-alloc.site.replica) c.args.editors.items all)
    (sym c.of.ensures) e.answered

pub returns-clause-counted : goal.returns-clause-counted
returns-clause-counted g c =
    let none : length c.loop-alloc.lines.items ≡ 0 = search rules in
    let e = lines_last c.args.editors.items c.loop-alloc.site c.loop-alloc.lines.items c.loop-alloc.editors.items
    c.loop-alloc.answers.items c.loop-alloc.readers.items none c.loop-alloc.invariant.ends in
    λ k. ap (all_at k) c.of.ensures ∙ e.counted k

pub returns-clause-readers : goal.returns-clause-readers
returns-clause-readers g c =
    let none : length c.loop-alloc.lines.items ≡ 0 = search rules in
    (lines_last c.args.editors.items c.loop-alloc.site c.loop-alloc.lines.items c.loop-alloc.editors.items
    c.loop-alloc.answers.items c.loop-alloc.readers.items none c.loop-alloc.invariant.ends).readers_are
