-- A step in which a commit is made or taken leaves the text.
use Rattle.std.proofs.Common.{◌≡◌, ℕ, List, ◌∷◌, length, Bool, true, false, Option, Some}
use Rattle.std.proofs.Common.{None, refl, sym, ap, ◌∙◌, subst, ⊎_elim}
use Rattle.td_base.specs.Value.{DotValue}
use Rattle.td_base.specs.Lists.{In}
use Rattle.td_path.specs.declared.slot.Slot.{Slot}
use Rattle.td_op.specs.declared.body.Body.{Body}
use Rattle.td_op.specs.declared.body.Body.TheVariants.{Insert, Delete, Propose, Commit, Abort}
use Rattle.td_op.specs.declared.input.Input.{Input}
use Rattle.td_op.specs.Op.{OpValue}
use Rattle.td_doc.specs.Document.{text_of}
use Rattle.td_doc.proofs.Flattened.{flatten_keeps_text}
use Rattle.td_machine.specs.Decision.{counted, outcome, new_ballot, revise}
use Rattle.td_machine.specs.Log.{proposed, proposed_slot}
use Rattle.td_machine.specs.Machine.{Machine, next_dot, next_op}
use Rattle.td_machine.specs.Making.{effect, flatten_found, done, decide}
use Rattle.td_machine.specs.Request.{perform}
use Rattle.td_machine.specs.Taking.{Stepped, take_as, answer, vote_on, forget}
use Rattle.td_machine.specs.Step.{step}
use Rattle.td_machine.specs.History.{Family, IsConsistent}
use Rattle.td_machine.proofs.StepKinds.{by_kinds}
use Rattle.td_machine.specs.Parts.{proposed_here}
use Rattle.td_machine.specs.Replay.{doc_of}
use Rattle.td_law_logs.specs.Entries.{machine_before, machine_then}
use Rattle.td_law_logs.proofs.Moments.{moment_before, entry_log}
use Rattle.td_law_logs.proofs.Fitting.{moment_doc, entry_doc}
use Rattle.td_law_commitment.specs.Promises.{CommitsKeepText}
use Rattle.td_law_logs.specs.Logs.{IsLogOf}
use Rattle.td_law_logs.proofs.Bases.{tail}
use Rattle.td_law_logs.proofs.Steps.{doc}

-- it changes no text
abbrev pub IsQuiet : Body → Type 0
IsQuiet (Insert slot run) = ⊥
IsQuiet (Delete target) = ⊥
IsQuiet (Propose slot) = Unit {0}
IsQuiet (Commit p) = Unit {0}
IsQuiet (Abort p) = Unit {0}

-- a log afterwards: nothing more, one operation more, or two that change no text
pub data Grew (log : List OpValue) (later : List OpValue) : Type 0 where
  no_more : later ≡ log → Grew log later
  one_more : (x : OpValue) → later ≡ x ∷ log → Grew log later
  two_more : (x y : OpValue) → later ≡ y ∷ x ∷ log → IsQuiet x.body → IsQuiet y.body → Grew log later

module _ (m : Machine) where
  abbrev GrewTo : Stepped → Type 0
  GrewTo s = Grew m.log s.machine.log

  decided : (p : DotValue) (o : Option Bool) (k : Machine) → k.log ≡ m.log → Grew m.log (decide p o k).log
  decided p None k e = no_more e
  decided p (Some true) k e =
      one_more (next_op k (Commit p)) (ap (λ (log : List OpValue). next_op k (Commit p) ∷ log) e)
  decided p (Some false) k e =
      one_more (next_op k (Abort p)) (ap (λ (log : List OpValue). next_op k (Abort p) ∷ log) e)

  decided_after : (p : DotValue) (o : Option Bool) (x : OpValue) (k : Machine) → k.log ≡ x ∷ m.log → IsQuiet x.body
      → Grew m.log (decide p o k).log
  decided_after p None x k e q = one_more x e
  decided_after p (Some true) x k e q =
      two_more x (next_op k (Commit p)) (ap (λ (log : List OpValue). next_op k (Commit p) ∷ log) e) q tt
  decided_after p (Some false) x k e q =
      two_more x (next_op k (Abort p)) (ap (λ (log : List OpValue). next_op k (Abort p) ∷ log) e) q tt

  performed : (body : Body) → Grew m.log (perform body m).log
  performed (Propose slot) = decided_after (next_dot m) (outcome m.size true (new_ballot (next_dot m)))
      (next_op m (Propose slot)) (proposed_here slot m) refl tt
  performed (Insert slot run) = one_more (next_op m (Insert slot run)) refl
  performed (Delete target) = one_more (next_op m (Delete target)) refl
  performed (Commit p) = one_more (next_op m (Commit p)) refl
  performed (Abort p) = one_more (next_op m (Abort p)) refl

  took : (o : Option Slot) (x : OpValue) (k : Machine) → k.log ≡ m.log → Grew m.log (take_as o x k).log
  took None x k e = one_more x (ap (λ (log : List OpValue). x ∷ log) e)
  took (Some slot) x k e = said (vote_on x slot k)
    where
      said : (b : Bool) → Grew m.log (answer x.dot slot b (done x k)).log
      said true = one_more x (ap (λ (log : List OpValue). x ∷ log) e)
      said false = one_more x (ap (λ (log : List OpValue). x ∷ log) e)

  pub grew : (input : Input) → Grew m.log (step m input).machine.log
  grew input =
      by_kinds m GrewTo input
      (record {
        stays = λ reply. no_more refl;
        makes = λ request a e is free room. performed a.body;
        cancels = λ request p e is. decided p (Some false) m refl;
        delays = λ x e foreign late. no_more refl;
        takes = λ x e foreign ready fit. took (proposed x.body) x m refl;
        counts = λ v b e found new within own.
            decided v.proposal (outcome m.size v.yes (counted v.voter v.yes b))
            (record m { ballots = revise v.proposal (counted v.voter v.yes) m.ballots }) refl;
        drops = λ x why i ready. no_more refl;
        resumes = λ x i ready fit. took (proposed x.body) x (forget x m) refl;
      })

module _ (family : Family) (c : IsConsistent family) where
  abbrev n : ℕ
  n = length family

  quiet : (o : OpValue) (log : List OpValue) → IsLogOf family (o ∷ log) → IsQuiet o.body
      → text_of (doc_of (o ∷ log)) ≡ text_of (doc_of log)
  quiet o log l q = from o.body q
    where
      flat : (s : Option Slot) → text_of (flatten_found s (doc_of log)) ≡ text_of (doc_of log)
      flat None = refl
      flat (Some s) = flatten_keeps_text (doc_of log) s (doc family c log (tail family c o log l))

      from : (b : Body) → IsQuiet b → text_of (effect log o.dot b (doc_of log)) ≡ text_of (doc_of log)
      from (Propose slot) k = refl
      from (Abort p) k = refl
      from (Commit p) k = flat (proposed_slot p log)
      from (Insert slot run) k = absurd k
      from (Delete target) k = absurd k

  -- two logs of one site, the later with the entry's operations
  kept : (before later : List OpValue) → IsLogOf family later → Grew before later → (d : OpValue) (p : DotValue)
      → d.body ≡ Commit p → In d later → ¬ In d before
      → text_of (doc_of later) ≡ text_of (doc_of before)
  kept before later l (no_more g) d p is i out = ap (λ (log : List OpValue). text_of (doc_of log)) g
  kept before later l (one_more x g) d p is i out =
      let dx : d ≡ x = ⊎_elim (λ k. k) (λ k. absurd (out k)) (subst (λ (z : List OpValue). In d z) g i) in
      let q : IsQuiet x.body =
      subst (λ (b : Body). IsQuiet b) (sym (ap (λ (o : OpValue). o.body) (sym dx) ∙ is)) tt in
      ap (λ (log : List OpValue). text_of (doc_of log)) g
      ∙ quiet x before (subst (λ (log : List OpValue). IsLogOf family log) g l) q
  kept before later l (two_more x y g qx qy) d p is i out =
      let ly : IsLogOf family (y ∷ x ∷ before) = subst (λ (log : List OpValue). IsLogOf family log) g l in
      ap (λ (log : List OpValue). text_of (doc_of log)) g
      ∙ (quiet y (x ∷ before) ly qy ∙ quiet x before (tail family c y (x ∷ before) ly) qx)

  pub commits_keep_text : CommitsKeepText family
  commits_keep_text t d p is i out =
      ap text_of (entry_doc family c t)
      ∙ (kept (machine_before family t).log (machine_then family t).log (entry_log family c t)
      (grew (machine_before family t) t.entry.input) d p is i out
      ∙ sym (ap text_of (moment_doc family c (moment_before family t))))
