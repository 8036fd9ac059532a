use Rattle.std.proofs.Common.{List, ℕ, ◌++◌, ◌∷◌, [], ◌≡◌, true, All, sym, ap, subst, ◌∙◌, append_assoc}
use Rattle.std.proofs.lemmas.List.Elements.{All-push}
use Rattle.td_base.specs.Atom.{IsAtom}
use Rattle.td_base.specs.Run.{letters}
use Rattle.unicode_segmentation.specs.Grapheme.{graphemes}
use Rattle.unicode_segmentation.specs.Iter.{graphemes_left}
use Rattle.td_text.proofs.AtomListLemmas.{letters_each}
use Rattle.td_text.proofs.PlainText.{plain_graphemes}
use Rattle.td_text.proofs.TextClusters.{short_atom, first_long}
use Rattle.td_text.proofs.clusters.cut.Goals as goal

-- the text is the atoms so far, the next cluster and those behind it
split : (text : List ℕ) (atoms left : List (List ℕ)) (cluster : List ℕ) (behind : List (List ℕ)) → graphemes true text
    ≡ atoms ++ left
    → left ≡ cluster ∷ behind → graphemes true text ≡ atoms ++ cluster ∷ behind
split text atoms left cluster behind whole next = whole ∙ ap (λ (l : List (List ℕ)). atoms ++ l) next

pub returns-then-not-contains-clause-ok : goal.returns-then-not-contains-clause-ok
returns-then-not-contains-clause-ok c =
    c.in_ok-of_letters.ensures ∙ ap letters c.as_bytes-then-not-contains.ensures.value
    ∙ sym (plain_graphemes c.args.text.now c.if-is_ascii.ensures.cases
    (rw c.as_bytes.ensures.value at (sym c.if-not-contains.ensures.value)))

pub returns-then-not-contains-clause-atoms : goal.returns-then-not-contains-clause-atoms
returns-then-not-contains-clause-atoms c =
    subst (All IsAtom) (sym (c.in_ok-of_letters.ensures ∙ ap letters c.as_bytes-then-not-contains.ensures.value))
    (letters_each c.args.text.now c.if-is_ascii.ensures.cases)

pub returns-then-bytes-gt-MAX_ATOM_LEN-clause-fault : goal.returns-then-bytes-gt-MAX_ATOM_LEN-clause-fault
returns-then-bytes-gt-MAX_ATOM_LEN-clause-fault c =
    first_long c.args.text.now c.loop-cluster.atoms c.in-Some.cluster.now (graphemes_left c.next.new.self) c.len.result
    (split c.args.text.now c.loop-cluster.atoms _ c.in-Some.cluster.now _ c.loop-cluster.invariant.whole
    c.in-Some.ensures.steps)
    c.loop-cluster.invariant.each (rw c.as_bytes-bytes.ensures.value at c.if-bytes-gt-MAX_ATOM_LEN.true) c.len.ensures

pub push_bytes-requires : goal.push_bytes-requires
push_bytes-requires c = rw c.as_bytes-bytes.ensures.value
    (short_atom c.args.text.now c.loop-cluster.atoms c.in-Some.cluster.now (graphemes_left c.next.new.self)
    (split c.args.text.now c.loop-cluster.atoms _ c.in-Some.cluster.now _ c.loop-cluster.invariant.whole
    c.in-Some.ensures.steps)
    (rw c.as_bytes-bytes.ensures.value at c.as_bytes-bytes.ensures.utf8)
    (rw c.as_bytes-bytes.ensures.value at c.if-bytes-gt-MAX_ATOM_LEN.false))

pub loop-cluster-preserved : goal.loop-cluster-preserved
loop-cluster-preserved c =
    let whole = split c.args.text.now c.loop-cluster.atoms _ c.in-Some.cluster.now _ c.loop-cluster.invariant.whole
    c.in-Some.ensures.steps in
    let is = short_atom c.args.text.now c.loop-cluster.atoms c.in-Some.cluster.now (graphemes_left c.next.new.self)
    whole
    (rw c.as_bytes-bytes.ensures.value at c.as_bytes-bytes.ensures.utf8)
    (rw c.as_bytes-bytes.ensures.value at c.if-bytes-gt-MAX_ATOM_LEN.false) in
    rw (c.in_ok-push_bytes.ensures.ok, c.as_bytes-bytes.ensures.value) record {
      whole = whole ∙ sym (append_assoc c.loop-cluster.atoms (c.in-Some.cluster.now ∷ []) _);
      each = All-push IsAtom c.loop-cluster.atoms c.in-Some.cluster.now c.loop-cluster.invariant.each is;
    }
