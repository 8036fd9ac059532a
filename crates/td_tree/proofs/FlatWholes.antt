-- A tree stays whole where a slot is flattened.
use Rattle.std.proofs.Common.{◌≡◌, ◌<◌, ◌∙◌, ℕ, List, Some, sym, subst, inl, inr, ⊎_elim}
use Rattle.td_path.specs.declared.slot.Slot.{Slot}
use Rattle.td_brackets.specs.Brackets.{Entry}
use Rattle.td_identities.specs.declared.identities.Identities.{Identities}
use Rattle.td_identities.specs.Identities.{number_of}
use Rattle.td_tree.specs.declared.tree_row.RowState.TheVariants.{Gone}
use Rattle.td_tree.specs.Parts.{Parts, state_at, table, IsFlattened}
use Rattle.td_tree.specs.Whole.{IsSeen, IsWhole}

pub flat_whole : (p q : Parts) (identities : Identities) (seen : List ℕ) (slot : Slot) → IsWhole p identities seen
    → IsFlattened p q slot → IsWhole q identities seen
flat_whole p q identities seen slot w k = record {
  tree = k.tree;
  named = record {
    found = λ id r e. let f = w.named.found id r e in
        (subst (λ (n : ℕ). r < n) (sym k.long) f.0, (λ i. (k.entries i r).id) ∙ f.1);
    here = λ r l. ⊎_elim (λ (g : state_at p r ≡ Gone). inl (k.gone r g))
        (λ (e : number_of identities (table p r).id ≡ Some r). inr
        ((λ i. number_of identities (k.entries i r).id) ∙ e)) (w.named.here r (subst (λ (n : ℕ). r < n) k.long l));
  };
  each_seen = λ r l. subst (λ (t : ℕ → Entry). IsSeen seen (t r)) (sym k.entries)
      (w.each_seen r (subst (λ (n : ℕ). r < n) k.long l));
}
