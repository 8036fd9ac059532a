use Rattle.std.proofs.Common.{◌≡◌, ◌+◌, ◌∙◌, ℕ, List, map, sym, ap, subst}
use Rattle.std.specs.List.{AllZip}
use Rattle.td_line.specs.declared.answer.Answer.{Answer}
use Rattle.td_line.specs.Editors.{EditorValue}
use Rattle.td_room.specs.Closing.{IsAnsweredAtHome, all_at, answers_of}
use Rattle.td_room.specs.Ending.{gathered, CanGather}
use Rattle.td_room.proofs.Ends.{lengths, linked_rows, all_go_on, all_looked, closed, closed_sites, closed_nobody}
use Rattle.td_room.proofs.Closeds.{can_gather, all_answered, only_these}
use Rattle.td_room.proofs.closing.close.Goals as goal

pub meet_all-requires : goal.meet_all-requires
meet_all-requires g c =
    let o = c.in-Ok-end_each in
    linked_rows c.args.editors.items c.args.workers.items o.replicas.items o.answers.items o.rows.items
    o.ensures.ended c.requires

pub gather-requires : goal.gather-requires
gather-requires g c =
    let o = c.in-Ok-end_each in
    let es : List EditorValue = c.args.editors.items in
    let homes : c.in-Ok.homes.items ≡ map (λ (e : EditorValue). e.home) es =
    c.in-Ok.ensures ∙ ap (λ (l : List EditorValue). map (λ (e : EditorValue). e.home) l) c.deref.ensures.value in
    subst (λ (hs : List ℕ). CanGather hs o.answers.items) (sym homes)
    (can_gather es c.args.workers.items o.replicas.items o.answers.items o.rows.items c.requires o.ensures.ended)

pub returns-clause-sites : goal.returns-clause-sites
returns-clause-sites g c =
    let o = c.in-Ok-end_each in
    closed_sites c.args.editors.items c.args.workers.items o.replicas.items o.answers.items o.rows.items c.requires
    o.ensures.ended

pub returns-clause-all : goal.returns-clause-all
returns-clause-all g c =
    let o = c.in-Ok-end_each in
    (lengths c.args.editors.items c.args.workers.items o.replicas.items o.answers.items o.rows.items o.ensures.ended).0

pub returns-clause-nobody : goal.returns-clause-nobody
returns-clause-nobody g c =
    let o = c.in-Ok-end_each in
    closed_nobody c.args.editors.items c.args.workers.items o.replicas.items o.answers.items o.rows.items c.requires
    o.ensures.ended

pub returns-clause-consistent : goal.returns-clause-consistent
returns-clause-consistent g c =
    let o = c.in-Ok-end_each in
    closed c.args.editors.items c.args.workers.items o.replicas.items o.answers.items o.rows.items c.requires
    o.ensures.ended
    c.in_ok-meet_all.ensures

pub returns-clause-goes_on : goal.returns-clause-goes_on
returns-clause-goes_on g c =
    let o = c.in-Ok-end_each in
    all_go_on c.args.editors.items c.args.workers.items o.replicas.items o.answers.items o.rows.items o.ensures.ended

pub returns-clause-answered : goal.returns-clause-answered
returns-clause-answered g c =
    let o = c.in-Ok-end_each in
    let es : List EditorValue = c.args.editors.items in
    let homes : c.in-Ok.homes.items ≡ map (λ (e : EditorValue). e.home) es =
    c.in-Ok.ensures ∙ ap (λ (l : List EditorValue). map (λ (e : EditorValue). e.home) l) c.deref.ensures.value in
    subst (λ (all : List (List Answer)). AllZip (IsAnsweredAtHome o.replicas.items) es all)
    (ap (λ (hs : List ℕ). gathered hs o.answers.items) (sym homes) ∙ sym c.in_ok-answers.ensures)
    (all_answered es c.args.workers.items o.replicas.items o.answers.items o.rows.items c.requires o.ensures.ended)

pub returns-clause-only : goal.returns-clause-only
returns-clause-only g c =
    let o = c.in-Ok-end_each in
    let es : List EditorValue = c.args.editors.items in
    let homes : c.in-Ok.homes.items ≡ map (λ (e : EditorValue). e.home) es =
    c.in-Ok.ensures ∙ ap (λ (l : List EditorValue). map (λ (e : EditorValue). e.home) l) c.deref.ensures.value in
    let same : c.in_ok-answers.answers.items ≡ gathered (map (λ (e : EditorValue). e.home) es) o.answers.items =
    c.in_ok-answers.ensures ∙ ap (λ (hs : List ℕ). gathered hs o.answers.items) homes in
    λ (place k : ℕ) l.
    ap (λ (all : List (List Answer)). all_at k (answers_of (place + 1) es all)) same
    ∙ only_these es c.args.workers.items o.replicas.items o.answers.items o.rows.items c.requires o.ensures.ended
    place k l

pub returns-clause-looks : goal.returns-clause-looks
returns-clause-looks g c =
    let o = c.in-Ok-end_each in
    all_looked c.args.editors.items c.args.workers.items o.replicas.items o.answers.items o.rows.items o.ensures.ended
