use Rattle.std.proofs.Common.{◌≡◌, ◌<◌, ◌≤◌, ◌+◌, ◌∙◌, ◌++◌, ◌∷◌, [], ℕ, List, length, take}
use Rattle.std.proofs.Common.{drop, get_or, refl, sym, ap, subst, arith}
use Rattle.td_law_meeting.specs.Thin.{Loss}
use Rattle.td_line.specs.Editors.{EditorValue}
use Rattle.td_room.specs.Opening.{AreOpen, AreOpened}
use Rattle.td_room.proofs.Opens.{take_one, drop_one, take_length, take_whole, drop_whole}
use Rattle.td_room.proofs.Opens.{opened_more, all_get, as_many_workers}
use Rattle.td_room.proofs.opening.open_editors.Goals as goal

pub loop-i-init : goal.loop-i-init
loop-i-init g c =
    let e = c.new-editors.ensures.items in
    record {
      all = refl;
      peers = refl;
      opened = subst (λ (es : List EditorValue). AreOpened [] [] es) (sym e) tt;
      opens = λ (size : ℕ) (lost : Loss) o.
          subst (λ (es : List EditorValue). AreOpen [] c.args.homes.now size lost es 1 c.args.workers.now.items
          c.args.readers.items) (sym e) o;
    }

pub open_editor-requires : goal.open_editor-requires
open_editor-requires g c =
    let v = c.loop-i.invariant in
    let i : ℕ = c.loop-i.i in
    let hs : List ℕ = c.args.homes.now in
    let h : ℕ = c.index-homes-i.result in
    let lt : i < length hs = c.loop-i-test.true in
    let before : i ≤ length hs = omega arith in
    let many = as_many_workers c.loop-i.workers.items c.args.workers.now.items v.peers in
    let few : h ≤ length c.args.workers.now.items =
    all_get (λ x. x ≤ length c.args.workers.now.items) hs i h c.requires.within lt c.index-homes-i.is in
    let front : drop i hs ≡ h ∷ drop (i + 1) hs =
    drop_one hs i h lt ∙ ap (λ (k : ℕ). k ∷ drop (i + 1) hs) (sym c.index-homes-i.is) in
    record {
      within = omega arith;
      opens = record {
        done = take i hs;
        left = drop (i + 1) hs;
        size = c.requires.opens.0;
        lost = c.requires.opens.1;
        number_is = ap (λ (k : ℕ). k + 1) (sym (take_length hs i before));
        are_open = subst (λ (l : List ℕ). AreOpen (take i hs) l c.requires.opens.0 c.requires.opens.1
            c.loop-i.editors.items 1
            c.loop-i.workers.items c.loop-i.readers.items) front
            (v.opens c.requires.opens.0 c.requires.opens.1 c.requires.opens.2);
      };
    }

pub loop-i-preserved : goal.loop-i-preserved
loop-i-preserved g c =
    let v = c.loop-i.invariant in
    let i : ℕ = c.loop-i.i in
    let hs : List ℕ = c.args.homes.now in
    let cs : List ℕ = c.args.calls.now in
    let h : ℕ = c.index-homes-i.result in
    let lt : i < length hs = c.loop-i-test.true in
    let before : i ≤ length hs = omega arith in
    let as_many : length cs ≡ length hs = c.requires.calls in
    let below : i < length cs = omega arith in
    let upto : i ≤ length cs = omega arith in
    let front : drop i hs ≡ h ∷ drop (i + 1) hs =
    drop_one hs i h lt ∙ ap (λ (k : ℕ). k ∷ drop (i + 1) hs) (sym c.index-homes-i.is) in
    let more : take (i + 1) hs ≡ take i hs ++ h ∷ [] =
    take_one hs i h lt ∙ ap (λ (k : ℕ). take i hs ++ k ∷ []) (sym c.index-homes-i.is) in
    let counts : take (i + 1) cs ≡ take i cs ++ get_or cs i 0 ∷ [] = take_one cs i 0 below in
    let e = c.in_ok-open_editor.ensures.opened in
    let same : length (take i cs) ≡ length (take i hs) = take_length cs i upto ∙ sym (take_length hs i before) in
    record {
      all = refl;
      peers = c.in_ok-open_editor.ensures.peers ∙ v.peers;
      opened = subst (λ (x : List ℕ × List ℕ × List EditorValue). AreOpened x.0 x.1 x.2)
          (λ j. (sym more j, sym counts j, sym e.1 j))
          (opened_more (take i hs) (take i cs) c.loop-i.editors.items h (get_or cs i 0) e.0 same v.opened e.2);
      opens = λ (size : ℕ) (lost : Loss) o.
          subst (λ (l : List ℕ). AreOpen l (drop (i + 1) hs) size lost c.open_editor.new.editors.items 1
          c.open_editor.new.workers.items c.open_editor.new.readers.items) (sym more)
          (c.in_ok-open_editor.ensures.opens (take i hs) (drop (i + 1) hs) size lost
          (ap (λ (k : ℕ). k + 1) (sym (take_length hs i before)))
          (subst (λ (l : List ℕ). AreOpen (take i hs) l size lost c.loop-i.editors.items 1 c.loop-i.workers.items
          c.loop-i.readers.items)
          front (v.opens size lost o)));
    }

pub returns : goal.returns
returns g c =
    let v = c.loop-i.invariant in
    let i : ℕ = c.loop-i.i in
    let hs : List ℕ = c.args.homes.now in
    let cs : List ℕ = c.args.calls.now in
    let all : length hs ≤ i = c.loop-i-test.false in
    let as_many : length cs ≡ length hs = c.requires.calls in
    let upto : length cs ≤ i = omega arith in
    record {
      opens = λ (size : ℕ) (lost : Loss) o. (
        c.loop-i.readers.items,
        subst (λ (x : List ℕ × List ℕ). AreOpen x.0 x.1 size lost c.loop-i.editors.items 1 c.loop-i.workers.items
            c.loop-i.readers.items)
            (λ j. (take_whole hs i all j, drop_whole hs i all j)) (v.opens size lost o),
      );
      opened = subst (λ (x : List ℕ × List ℕ). AreOpened x.0 x.1 c.loop-i.editors.items)
          (λ j. (take_whole hs i all j, take_whole cs i upto j)) v.opened;
      peers = v.peers;
    }
