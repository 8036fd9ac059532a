-- What an operation of another site leaves of a machine.
use Rattle.std.proofs.Common.{◌≡◌, ◌≢◌, ◌&&◌, List, ◌∷◌, Bool, true, false, nat_eq}
use Rattle.std.proofs.Common.{Option, Some, None, refl, sym, ap, ◌∙◌}
use Rattle.std.proofs.lemmas.Bool.{and_parts, eqb-true}
use Rattle.std.specs.Option.{is_some, is_none}
use Rattle.td_base.specs.Value.{DotValue}
use Rattle.td_base.specs.Lists.{In}
use Rattle.td_path.specs.declared.slot.Slot.{Slot}
use Rattle.td_op.specs.declared.body.Body.{Body}
use Rattle.td_op.specs.declared.body.Body.TheVariants.{Insert, Delete, Propose, Commit, Abort}
use Rattle.td_op.specs.Op.{OpValue}
use Rattle.td_doc.specs.Answers.{IsFresh}
use Rattle.td_machine.specs.Counts.{IsNext}
use Rattle.td_machine.specs.Decision.{Ballot, close}
use Rattle.td_machine.specs.Log.{proposed, proposed_slot, decision, is_undecided_of}
use Rattle.td_machine.specs.Machine.{Machine}
use Rattle.td_machine.specs.Making.{effect, ballots_after, done}
use Rattle.td_machine.specs.Taking.{body_misfit, answer, vote_on, take_as, take}
use Rattle.td_machine.proofs.Documents.{documents, fresh_next}
use Rattle.td_machine.specs.Parts.{Anything, IsBuilt, IsFit}
use Rattle.td_machine.proofs.Naming.{own_ballots}
use Rattle.td_machine.proofs.OwnProposals.{commit_fits, abort_fits}
use Rattle.td_machine.proofs.Parts.{Other}
use Rattle.td_machine.proofs.Turns.{comes_next}
use Rattle.td_coord.proofs.Placed.{none_revised}
use Rattle.td_replica.specs.declared.state.Origin.{Origin}
use Rattle.td_replica.specs.declared.state.Origin.TheVariants.{Here, There, Waiting as Waited}
use Rattle.td_replica.specs.Parts.{IsFromOutside, with_effect, with_note}

module _ (m : Machine) (b : IsBuilt Anything m.site m.size m) (x : OpValue) (fit : IsFit Anything m x) where
  pub next_taken : IsNext m.have x
  next_taken = comes_next m b x (Other x fit)

  pub fresh_taken : IsFresh m.doc x.dot
  fresh_taken = fresh_next x m next_taken (documents m b)

  -- the decision of another site is of a proposal that is not an own one
  other_proposal : (p : DotValue) → is_undecided_of x.dot.site p m.log ≡ true → (c : Ballot) → In c m.ballots
      → c.proposal ≢ p
  other_proposal p h c i e =
      let parts =
      and_parts (nat_eq p.site x.dot.site && is_some (proposed_slot p m.log)) (is_none (decision p m.log)) h in
      let site = and_parts (nat_eq p.site x.dot.site) (is_some (proposed_slot p m.log)) parts.0 in
      fit.offered.other
      (sym (eqb-true p.site x.dot.site site.0) ∙ ap (λ (d : DotValue). d.site) (sym e) ∙ own_ballots m b c i)

  same_ballots_at : (body : Body) → body_misfit x.dot.site body m ≡ None → ballots_after body m.ballots ≡ m.ballots
  same_ballots_at (Insert slot run) h = refl
  same_ballots_at (Delete z) h = refl
  same_ballots_at (Propose slot) h = refl
  same_ballots_at (Commit p) h =
      none_revised p (close true) m.ballots (other_proposal p (commit_fits x.dot.site p m h))
  same_ballots_at (Abort p) h =
      none_revised p (close false) m.ballots (other_proposal p (abort_fits x.dot.site p m h))

  same_ballots : ballots_after x.body m.ballots ≡ m.ballots
  same_ballots = same_ballots_at x.body fit.fit

  -- the parts of the machine after it
  abbrev after : List Ballot → Machine
  after ballots = record (done x m) { ballots = ballots }

  noted_as : (origin : Origin) → IsFromOutside origin → with_note origin x (with_effect x m) ≡ after m.ballots
  noted_as Here out = absurd out
  noted_as There out = refl
  noted_as (Waited number) out = refl

  pub noted_done : (origin : Origin) → IsFromOutside origin → with_note origin x (with_effect x m) ≡ done x m
  noted_done origin out = noted_as origin out ∙ ap after (sym same_ballots)

  pub changed_taken : (origin : Origin) → IsFromOutside origin → proposed x.body ≡ None
      → with_note origin x (with_effect x m) ≡ take x m
  changed_taken origin out none =
      noted_done origin out ∙ ap (λ (o : Option Slot). take_as o x m) (sym none)

  pub proposal_taken : (origin : Origin) (slot : Slot) → IsFromOutside origin → x.body ≡ Propose slot
      → answer x.dot slot (vote_on x slot m) (with_note origin x m) ≡ take x m
  proposal_taken origin slot out asks =
      ap (λ (k : Machine). answer x.dot slot (vote_on x slot m) (with_note origin x k))
      (ap (λ (body : Body). record m { doc = effect m.log x.dot body m.doc }) (sym asks))
      ∙ ap (answer x.dot slot (vote_on x slot m)) (noted_done origin out)
      ∙ ap (λ (o : Option Slot). take_as o x m) (ap proposed (sym asks))

  pub take_log : (take x m).log ≡ x ∷ m.log
  take_log = at (proposed x.body)
    where
      at : (o : Option Slot) → (take_as o x m).log ≡ x ∷ m.log
      at None = refl
      at (Some slot) = answered (vote_on x slot m)
        where
          answered : (says : Bool) → (answer x.dot slot says (done x m)).log ≡ x ∷ m.log
          answered true = refl
          answered false = refl
