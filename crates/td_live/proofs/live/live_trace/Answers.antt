use Rattle.std.proofs.Common.{◌≡◌, ◌≤◌, ℕ, List, length, map, subst, sym, ap, ◌∙◌, inr}
use Rattle.std.specs.Prelude.{All}
use Rattle.std.specs.List.{AllByRecursion, AllZip}
use Rattle.td_script.specs.Script.{IsSiteOf}
use Rattle.td_script.specs.declared.live.editor_line.EditorLine.{EditorLine}
use Rattle.td_script.proofs.LiveFits.{editors_fit, lines_fit}
use Rattle.td_live.specs.Live.{IsTraceAmong, IsLiveTraceOf}
use Rattle.td_live.specs.Seating.{CanSit, homes_of}
use Rattle.td_live.proofs.Openings.{all_can, as_many_counts, homes_within, traced_room}
use Rattle.td_live.proofs.Seats.{count_of}
use Rattle.td_live.proofs.Turns.{if_ok}
use Rattle.td_live.proofs.live.live_trace.Goals as goal

pub room-opened-requires-clause-within : goal.room-opened-requires-clause-within
room-opened-requires-clause-within g c =
    subst (λ (homes : List ℕ). All (λ (home : ℕ). home ≤ c.args.script.sites) homes) (sym c.as_slice-2.ensures)
    (homes_within c.args.script.sites c.args.script.homes (editors_fit c.requires.0 c.args.script c.requires.1))

pub room-opened-requires-clause-calls : goal.room-opened-requires-clause-calls
room-opened-requires-clause-calls g c =
    let counts : c.in_ok-calls.calls.items ≡ map count_of c.args.script.lines =
    c.in_ok-calls.ensures ∙ ap (map count_of) c.as_slice.ensures in
    ap (λ (l : List ℕ). length l) c.deref.ensures.value
    ∙ as_many_counts c.args.script.lines c.in_ok-calls.calls.items c.args.script.homes counts
    (lines_fit c.requires.0 c.args.script c.requires.1)
    ∙ sym (ap (λ (l : List ℕ). length l) c.as_slice-2.ensures)

pub in_room-requires-clause-can : goal.in_room-requires-clause-can
in_room-requires-clause-can g c κs within =
    let counts : c.deref.result.now ≡ map count_of c.args.script.lines =
    c.deref.ensures.value ∙ c.in_ok-calls.ensures ∙ ap (map count_of) c.as_slice.ensures in
    let same : length c.args.script.lines ≡ length c.as_slice-2.result.now =
    lines_fit c.requires.0 c.args.script c.requires.1 ∙ sym (ap (λ (l : List ℕ). length l) c.as_slice-2.ensures) in
    subst (λ (lines : List (List EditorLine)). AllZip CanSit c.in-Ok.editors.items lines) (sym c.into_vec-lines.ensures)
    (all_can c.args.script.sites c.as_slice-2.result.now c.deref.result.now _ c.in-Ok.workers.items
    c.in-Ok.editors.items
    c.args.script.lines c.in-Ok.ensures.room counts same)

pub returns-in-Ok : goal.returns-in-Ok
returns-in-Ok g c =
    let counts : c.deref.result.now ≡ map count_of c.args.script.lines =
    c.deref.ensures.value ∙ c.in_ok-calls.ensures ∙ ap (map count_of) c.as_slice.ensures in
    let same : length c.args.script.lines ≡ length c.as_slice-2.result.now =
    lines_fit c.requires.0 c.args.script c.requires.1 ∙ sym (ap (λ (l : List ℕ). length l) c.as_slice-2.ensures) in
    if_ok _ (IsLiveTraceOf c.args.script) c.in_room.result
    (λ bytes is.
    inr (subst (λ (homes : List ℕ). IsTraceAmong c.args.script.sites homes c.args.script.lines bytes)
    c.as_slice-2.ensures
    (traced_room c.args.script.sites c.as_slice-2.result.now c.deref.result.now _ c.in-Ok.workers.items
    c.in-Ok.editors.items c.args.script.lines c.in-Ok.ensures.room counts same bytes
    (subst (λ (lines : List (List EditorLine)).
    IsTraceAmong (length c.in-Ok.workers.items) (homes_of c.in-Ok.editors.items) lines bytes)
    c.into_vec-lines.ensures is))))
    c.in_room.ensures

pub conclude_alone-requires-clause-homes : goal.conclude_alone-requires-clause-homes
conclude_alone-requires-clause-homes g c =
    subst (λ (homes : List ℕ). AllByRecursion (IsSiteOf c.args.script.sites) homes)
    (sym c.as_slice-in-Err-Refused.ensures)
    (editors_fit c.requires.0 c.args.script c.requires.1)

pub conclude_alone-requires-clause-each : goal.conclude_alone-requires-clause-each
conclude_alone-requires-clause-each g c =
    ap (λ (l : List (List EditorLine)). length l) c.into_vec-lines.ensures
    ∙ lines_fit c.requires.0 c.args.script c.requires.1
    ∙ sym (ap (λ (l : List ℕ). length l) c.as_slice-in-Err-Refused.ensures)
