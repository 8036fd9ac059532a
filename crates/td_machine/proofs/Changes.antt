-- What a step does to the atoms shown: what the first operation does that it makes or takes.
use Rattle.std.proofs.Common.{◌≡◌, ◌≤◌, ◌+◌, ℕ, suc, List, [], ◌∷◌, Bool, true, false, length, if◌then◌else◌}
use Rattle.std.proofs.Common.{nat_eq, Option, Some, None, refl, sym, ap, ◌∙◌, subst, arith}
use Rattle.std.proofs.lemmas.Bool.{ltb-false, eqb-true, eq-eqb}
use Rattle.std.specs.Option.{option_and_then}
use Rattle.td_base.specs.Value.{DotValue}
use Rattle.td_base.specs.declared.dot.TheConstants.{MAX_SEQ}
use Rattle.td_path.specs.declared.slot.Slot.{Slot}
use Rattle.td_op.specs.declared.body.Body.{Body}
use Rattle.td_op.specs.declared.body.Body.TheVariants.{Insert, Delete, Propose, Commit, Abort}
use Rattle.td_op.specs.declared.input.Input.{Input}
use Rattle.td_op.specs.declared.input.Input.TheVariants.{Local, Take}
use Rattle.td_op.specs.declared.message.Message.{Message}
use Rattle.td_op.specs.declared.message.Message.TheVariants.{Op as AnOp}
use Rattle.td_op.specs.declared.reply.Why.{Why}
use Rattle.td_op.specs.declared.reply.Why.TheVariants.{Atom as NoAtom}
use Rattle.td_op.specs.declared.request.Request.{Request}
use Rattle.td_op.specs.Input.{IsInput}
use Rattle.td_op.specs.Op.{OpValue}
use Rattle.td_doc.specs.Document.{DocRow, live_atoms}
use Rattle.td_doc.specs.Answers.{is_rooted}
use Rattle.td_machine.specs.Log.{proposed, proposed_slot}
use Rattle.td_machine.specs.Decision.{new_ballot, outcome, counted, revise}
use Rattle.td_machine.specs.Machine.{Machine, made, undecided, next_dot, next_op}
use Rattle.td_machine.specs.Making.{effect, flatten_found, done as after_op, make, decide, hold, open_ballot}
use Rattle.td_machine.specs.Taking.{Stepped, answer, body_misfit, vote_on, take_as, keep_waiting, forget}
use Rattle.td_machine.specs.Request.{Aim, Do, aim, perform}
use Rattle.td_machine.specs.Shown.{change_by, changed_by, op_over, change_between}
use Rattle.td_machine.specs.Step.{step}
use Rattle.td_machine.specs.Parts.{MayMake, IsPlacing, IsBuilt}
use Rattle.td_machine.proofs.Parts.{IsDone, Own, Other}
use Rattle.td_machine.proofs.Aims.{FitsAim, aimed}
use Rattle.td_machine.proofs.StepKinds.{by_kinds}
use Rattle.td_machine.proofs.Documents.{documents, fresh_next}
use Rattle.td_machine.proofs.Showing.{shown_after, shown_after_flatten}
use Rattle.td_machine.proofs.Turns.{comes_next}
use Rattle.td_machine.proofs.Walk.{offered}
use Rattle.td_machine.proofs.Induction.{IsBuiltSomewhere, built_of}
use Rattle.td_machine.specs.History.{IsReached}

-- ---- the operation that has so many older ones

pub none_over : (k : ℕ) (log : List OpValue) → length log ≤ k → op_over k log ≡ None
none_over k [] h = refl
none_over k (x ∷ log) h = at (nat_eq (length log) k) refl (none_over k log (omega (arith, h)))
  where
    at : (b : Bool) → nat_eq (length log) k ≡ b → op_over k log ≡ None
        → (if b then Some x else op_over k log) ≡ None
    at true e none = let same : length log ≡ k = eqb-true (length log) k e in absurd (omega (arith, h, same))
    at false e none = none

pub one_over : (x : OpValue) (log : List OpValue) → op_over (length log) (x ∷ log) ≡ Some x
one_over x log =
    ap (λ (b : Bool). if b then Some x else op_over (length log) log) (eq-eqb (length log) (length log) refl)

pub two_over : (y x : OpValue) (log : List OpValue) → op_over (length log) (y ∷ x ∷ log) ≡ Some x
two_over y x log = at (nat_eq (length (x ∷ log)) (length log)) refl
  where
    at : (b : Bool) → nat_eq (length (x ∷ log)) (length log) ≡ b
        → (if b then Some y else op_over (length log) (x ∷ log)) ≡ Some x
    at true e =
        let same : suc (length log) ≡ length log = eqb-true (length (x ∷ log)) (length log) e in
        absurd (omega (arith, same))
    at false e = one_over x log

-- ---- a step

-- an insert that is made or taken has a slot that is there
done_rooted : {Came : Message → Type 0} (m : Machine) (x : OpValue) → IsDone Came m x → (slot : Slot)
    (run : List (List ℕ)) → x.body ≡ Insert slot run → is_rooted m.doc slot ≡ true
done_rooted m x (Own body may) slot run e =
    let placing : IsPlacing slot run m = subst (λ (b : Body). MayMake b m) e may in placing.rooted
done_rooted m x (Other y fit) slot run e =
    at (is_rooted m.doc slot) refl
    (subst (λ (b : Body). body_misfit x.dot.site b m ≡ None) e fit.fit)
  where
    at : (b : Bool) → is_rooted m.doc slot ≡ b → ◌≡◌ {A = Option Why} (if b then None else Some NoAtom) None
        → is_rooted m.doc slot ≡ true
    at true f k = f
    at false f k = absurd cc

module _ {Came : Message → Type 0} {site size : ℕ} (m : Machine) (b : IsBuilt Came site size m) where
  abbrev Shows : Machine → Type 0
  Shows n = live_atoms n.doc ≡ changed_by (change_between m n) (live_atoms m.doc)

  abbrev changed_at : Option OpValue → List (List ℕ)
  changed_at o =
      changed_by (option_and_then (λ (x : OpValue). change_by x.dot x.body m.doc) o) (live_atoms m.doc)

  shows_at : (o : Option OpValue) (n : Machine) → op_over (length m.log) n.log ≡ o → live_atoms n.doc ≡ changed_at o
      → Shows n
  shows_at o n e h = h ∙ ap changed_at (sym e)

  -- where nothing was made or taken
  still : (n : Machine) → n.log ≡ m.log → n.doc ≡ m.doc → Shows n
  still n e f =
      shows_at None n
      (ap (op_over (length m.log)) e ∙ none_over (length m.log) m.log (omega arith)) (ap live_atoms f)

  -- where one operation was
  once : (x : OpValue) → IsDone Came m x → (n : Machine) → n.log ≡ x ∷ m.log
      → n.doc ≡ effect m.log x.dot x.body m.doc → Shows n
  once x done n e f =
      shows_at (Some x) n (ap (op_over (length m.log)) e ∙ one_over x m.log)
      (ap live_atoms f
      ∙ shown_after m.log x.dot x.body m.doc (documents m b).0
      (λ slot run k. (fresh_next x m (comes_next m b x done) (documents m b), done_rooted m x done slot run k)))

  -- a decision that is due, if one is, does nothing to the atoms shown
  decided : (p : DotValue) (o : Option Bool) (n : Machine) → n.log ≡ m.log → n.doc ≡ m.doc → Shows (decide p o n)
  decided p None n e f = still n e f
  decided p (Some true) n e f =
      shows_at (Some (next_op n (Commit p))) (make (Commit p) n)
      (ap (λ (log : List OpValue). op_over (length m.log) (next_op n (Commit p) ∷ log)) e
      ∙ one_over (next_op n (Commit p)) m.log)
      (ap (λ (rows : List DocRow). live_atoms (flatten_found (proposed_slot p n.log) rows)) f
      ∙ shown_after_flatten (proposed_slot p n.log) m.doc (documents m b).0)
  decided p (Some false) n e f =
      shows_at (Some (next_op n (Abort p))) (make (Abort p) n)
      (ap (λ (log : List OpValue). op_over (length m.log) (next_op n (Abort p) ∷ log)) e
      ∙ one_over (next_op n (Abort p)) m.log)
      (ap live_atoms f)

  -- nor does one after a proposal
  proposed_decided : (x : OpValue) (slot : Slot) → x.body ≡ Propose slot
      → (p : DotValue) (o : Option Bool) (n : Machine)
      → n.log ≡ x ∷ m.log → n.doc ≡ m.doc → Shows (decide p o n)
  proposed_decided x slot i p o n e f = at o
    where
      quiet : live_atoms m.doc ≡ changed_at (Some x)
      quiet = ap (λ (body : Body). changed_by (change_by x.dot body m.doc) (live_atoms m.doc)) (sym i)

      twice : (y : OpValue) (k : Machine) → k.log ≡ y ∷ n.log → live_atoms k.doc ≡ live_atoms m.doc → Shows k
      twice y k g h =
          shows_at (Some x) k
          (ap (op_over (length m.log)) (g ∙ ap (λ (log : List OpValue). y ∷ log) e) ∙ two_over y x m.log) (h ∙ quiet)

      at : (o : Option Bool) → Shows (decide p o n)
      at None = shows_at (Some x) n (ap (op_over (length m.log)) e ∙ one_over x m.log) (ap live_atoms f ∙ quiet)
      at (Some true) =
          twice (next_op n (Commit p)) (make (Commit p) n) refl
          (ap (λ (rows : List DocRow). live_atoms (flatten_found (proposed_slot p n.log) rows)) f
          ∙ shown_after_flatten (proposed_slot p n.log) m.doc (documents m b).0)
      at (Some false) = twice (next_op n (Abort p)) (make (Abort p) n) refl (ap live_atoms f)

  performed : (body : Body) → MayMake body m → Shows (perform body m)
  performed (Insert slot run) may = once (next_op m (Insert slot run)) (Own (Insert slot run) may)
      (make (Insert slot run) m) refl refl
  performed (Delete x) may = once (next_op m (Delete x)) (Own (Delete x) may) (make (Delete x) m) refl refl
  performed (Propose slot) may =
      proposed_decided (next_op m (Propose slot)) slot refl (next_dot m)
      (outcome m.size true (new_ballot (next_dot m)))
      (open_ballot (next_dot m) (hold (next_dot m) slot (make (Propose slot) m))) refl refl
  performed (Commit p) may = once (next_op m (Commit p)) (Own (Commit p) may) (make (Commit p) m) refl refl
  performed (Abort p) may = once (next_op m (Abort p)) (Own (Abort p) may) (make (Abort p) m) refl refl

  took : (o : Option Slot) (x : OpValue) (k : Machine) → k.log ≡ m.log → k.doc ≡ m.doc → IsDone Came m x
      → Shows (take_as o x k)
  took None x k e f done =
      once x done (take_as None x k) (ap (λ (log : List OpValue). x ∷ log) e)
      (ap (λ (log : List OpValue). effect log x.dot x.body k.doc) e ∙ ap (effect m.log x.dot x.body) f)
  took (Some slot) x k e f done = at (vote_on x slot k)
    where
      at : (says : Bool) → Shows (answer x.dot slot says (after_op x k))
      at true =
          once x done (answer x.dot slot true (after_op x k)) (ap (λ (log : List OpValue). x ∷ log) e)
          (ap (λ (log : List OpValue). effect log x.dot x.body k.doc) e ∙ ap (effect m.log x.dot x.body) f)
      at false =
          once x done (answer x.dot slot false (after_op x k)) (ap (λ (log : List OpValue). x ∷ log) e)
          (ap (λ (log : List OpValue). effect log x.dot x.body k.doc) e ∙ ap (effect m.log x.dot x.body) f)

module _ {Came : Message → Type 0} {site size : ℕ} (m : Machine) (b : IsBuilt Came site size m) where
  pub changes_here : (input : Input) → IsInput input → ((message : Message) → input ≡ Take message → Came message)
      → Shows m b (step m input).machine
  changes_here input valid came =
      by_kinds m (λ (s : Stepped). Shows m b s.machine) input
      (record {
        stays = λ reply. still m b m refl refl;
        makes = λ request a e is free room.
            performed m b a.body
            (fits request (Do a) e is free (ltb-false MAX_SEQ (made m + undecided m + a.room) room));
        cancels = λ request p e is. decided m b p (Some false) m refl refl;
        delays = λ x e foreign late. still m b (keep_waiting x m) refl refl;
        takes = λ x e foreign ready fit.
            took m b (proposed x.body) x m refl refl
            (Other x
            (record {
              offered = record {
                valid = subst (λ (i : Input). IsInput i) e valid;
                came = came (AnOp x) e;
                other = foreign.other;
                sized = foreign.sized;
              };
              ready = ready;
              fit = fit;
            }));
        counts = λ v c e found new within own.
            decided m b v.proposal (outcome m.size v.yes (counted v.voter v.yes c))
            (record m { ballots = revise v.proposal (counted v.voter v.yes) m.ballots }) refl refl;
        drops = λ x why i ready. still m b (forget x m) refl refl;
        resumes = λ x i ready fit.
            took m b (proposed x.body) x (forget x m) refl refl
            (Other x (record { offered = offered m b x i; ready = ready; fit = fit }));
      })
    where
      fits : (request : Request) (a : Aim) → input ≡ Local request → aim request m ≡ a → FitsAim m a
      fits request a e is = subst (FitsAim m) is (aimed request m (subst (λ (i : Input). IsInput i) e valid))

pub changes : (m : Machine) (input : Input) → IsReached m → IsInput input
    → live_atoms (step m input).machine.doc
    ≡ changed_by (change_between m (step m input).machine) (live_atoms m.doc)
changes m input r valid =
    let s : IsBuiltSomewhere m = built_of m r in changes_here m s.built input valid (λ message e. tt)
