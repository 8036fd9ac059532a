-- Records that are played one after another.
use Rattle.std.proofs.Common.{◌≡◌, ℕ, List, [], ◌∷◌, ◌++◌, refl, sym, ◌∙◌, ap, subst, append_assoc}
use Rattle.std.specs.List.{AllByRecursion}
use Rattle.td_op.specs.declared.entry.Entry.{Entry}
use Rattle.td_op.specs.declared.input.Input.{Input}
use Rattle.td_machine.specs.Machine.{Machine}
use Rattle.td_machine.specs.History.{IsReached}
use Rattle.td_machine.specs.Step.{step}
use Rattle.td_machine.proofs.Induction.{reached_step}
use Rattle.td_replica.specs.Replica.{ReplicaValue, after_step}
use Rattle.td_input.specs.Spelling.{CanWrite}
use Rattle.td_journal.specs.declared.format.Format.{Format}
use Rattle.td_journal.specs.Journal.{next_check, record_bytes, records_bytes, last_check, inputs_of}
use Rattle.td_journal.proofs.Growing.{records_grow, check_both, inputs_grow}
use Rattle.td_journal.proofs.Keeping.{SamePlace, step_stays, can_is_input}

-- these inputs were read behind a check, and this stands behind them
pub record Played (f : Format) (before bytes : List ℕ) (inputs : List Input) (check rest : List ℕ) : Type 0 where
  pub records : bytes ≡ records_bytes f before inputs ++ rest
  pub check_is : check ≡ last_check f before inputs
  pub can : AllByRecursion CanWrite inputs

pub all_more : (ks : List Input) (i : Input) → AllByRecursion CanWrite ks → CanWrite i
    → AllByRecursion CanWrite (ks ++ i ∷ [])
all_more [] i h p = (p, tt)
all_more (k ∷ ks) i h p = (h.0, all_more ks i h.1 p)

one_more : (f : Format) (before bytes : List ℕ) (inputs : List Input) (check rest : List ℕ) (i : Input)
    (next behind : List ℕ)
    → Played f before bytes inputs check rest → CanWrite i → rest ≡ record_bytes f check i ++ behind → next
    ≡ next_check f check i
    → Played f before bytes (inputs ++ i ∷ []) next behind
one_more f before bytes inputs check rest i next behind p can is next_is = record {
  records = p.records ∙ ap (λ (l : List ℕ). records_bytes f before inputs ++ l) is
      ∙ sym (append_assoc (records_bytes f before inputs) (record_bytes f check i) behind)
      ∙ ap (λ (c : List ℕ). (records_bytes f before inputs ++ record_bytes f c i) ++ behind) p.check_is
      ∙ ap (λ (l : List ℕ). l ++ behind) (sym (records_grow f before inputs i));
  check_is = next_is ∙ ap (λ (c : List ℕ). next_check f c i) p.check_is ∙ sym (check_both f before inputs (i ∷ []));
  can = all_more inputs i p.can can;
}

-- the replica has been given them
pub record Replays (f : Format) (before bytes : List ℕ) (old : Machine) (r : ReplicaValue)
    (check rest : List ℕ) : Type 0 where
  pub played : Played f before bytes (inputs_of r.entries) check rest
  pub reached : IsReached r.machine
  pub place : SamePlace old r.machine

pub replays_none : (f : Format) (before bytes : List ℕ) (r : ReplicaValue) → r.entries ≡ [] → IsReached r.machine
    → Replays f before bytes r.machine r before bytes
replays_none f before bytes r none reached = record {
  played = subst (λ (es : List Entry). Played f before bytes (inputs_of es) before bytes) (sym none)
      (record { records = refl; check_is = refl; can = tt });
  reached = reached;
  place = record { site = refl; size = refl };
}

pub replays_more : (f g : Format) (before bytes : List ℕ) (old : Machine) (r new : ReplicaValue) (check rest : List ℕ)
    (i : Input) (next behind : List ℕ)
    → Replays f before bytes old r check rest → CanWrite i → g ≡ f → rest ≡ record_bytes g check i ++ behind → next
    ≡ next_check g check i
    → new ≡ after_step i r → Replays f before bytes old new next behind
replays_more f g before bytes old r new check rest i next behind p can same is next_is new_is =
    let stays = step_stays r.machine i p.reached (can_is_input i can) in
    let e : Entry = record { input = i; reply = (step r.machine i).reply } in
    subst (λ (x : ReplicaValue). Replays f before bytes old x next behind) (sym new_is) (record {
      played = subst (λ (l : List Input). Played f before bytes l next behind) (sym (inputs_grow r.entries e))
          (one_more f before bytes (inputs_of r.entries) check rest i next behind p.played can
          (is ∙ ap (λ (h : Format). record_bytes h check i ++ behind) same)
          (next_is ∙ ap (λ (h : Format). next_check h check i) same));
      reached = reached_step r.machine i p.reached (can_is_input i can);
      place = record { site = stays.site ∙ p.place.site; size = stays.size ∙ p.place.size };
    })
