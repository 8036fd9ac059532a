-- The operations of a machine that a legal history reached are values of their type.
use Rattle.std.proofs.Common.{◌≡◌, ◌≢◌, ◌<◌, ◌≤◌, ◌+◌, ◌-◌, ◌++◌, List, [], ◌∷◌, ℕ, zero, suc, Bool, true}
use Rattle.std.proofs.Common.{false, nat_eq, nat_lt, length, get_or, set, Option, Some, None, All, refl, sym}
use Rattle.std.proofs.Common.{ap, ◌∙◌, subst, inl, inr, append_assoc, append-nil, arith}
use Rattle.std.proofs.lemmas.Option.{same_Some}
use Rattle.std.proofs.lemmas.Bool.{eqb-true, eqb-false}
use Rattle.std.proofs.lemmas.List.Elements.{All-cons, All-head, All-tail, All-nil, All-replicate}
use Rattle.std.specs.List.{find}
use Rattle.td_base.specs.Value.{DotValue, AtomIdValue, IsDot, IsAtomId}
use Rattle.td_base.specs.Atom.{IsAtom}
use Rattle.td_base.specs.Run.{IsRun}
use Rattle.td_base.specs.RunAtoms.{run_ids, run_ids_from}
use Rattle.td_base.specs.Lists.{In}
use Rattle.td_base.specs.declared.site.TheConstants.{MAX_SITE}
use Rattle.td_base.specs.declared.dot.TheConstants.{MAX_SEQ}
use Rattle.td_base.proofs.Lists.{In-back}
use Rattle.td_base.proofs.RunIds.{offset_fits}
use Rattle.td_clock.specs.Vector.{IsVector, vector_get}
use Rattle.td_path.specs.declared.slot.Slot.{Slot}
use Rattle.td_path.specs.declared.slot.Slot.TheVariants.{Root, At}
use Rattle.td_path.specs.Slot.{IsSlot, slot_atom}
use Rattle.td_op.specs.declared.body.Body.{Body}
use Rattle.td_op.specs.declared.body.Body.TheVariants.{Insert as InsertIn, Delete as DeleteOf}
use Rattle.td_op.specs.declared.body.Body.TheVariants.{Propose as ProposeOf, Commit, Abort}
use Rattle.td_op.specs.declared.input.Input.{Input}
use Rattle.td_op.specs.declared.request.Request.{Request}
use Rattle.td_op.specs.declared.request.Request.TheVariants.{Insert, InsertAfter, Paste, PasteAfter, Delete}
use Rattle.td_op.specs.declared.request.Request.TheVariants.{DeleteAtom, Propose, ProposeAt, Cancel}
use Rattle.td_op.specs.Op.{OpValue, named_atom}
use Rattle.td_op.specs.declared.insertion.Insertion.{Insertion}
use Rattle.td_op.specs.Insertion.{Inserts, insertion_by, ids_of}
use Rattle.td_op.proofs.InsertionLemmas.{inserted_dot}
use Rattle.td_op.specs.Input.{IsInput, IsRequest}
use Rattle.td_op.specs.Message.{IsOpValue, IsBody}
use Rattle.td_doc.specs.Document.{DocRow, live_id_at, row_id}
use Rattle.td_doc.specs.Answers.{is_live_id, is_rooted}
use Rattle.td_machine.specs.Counts.{counts, IsInTurn}
use Rattle.td_machine.specs.Decision.{Ballot, is_on, is_open, outcome, new_ballot, counted as counted_vote, revise}
use Rattle.td_machine.specs.Machine.{Machine, made, undecided, next_dot}
use Rattle.td_machine.specs.Making.{make, decide, hold, open_ballot}
use Rattle.td_machine.specs.Taking.{Stepped, take, forget}
use Rattle.td_machine.specs.Request.{Aim, Refuse, Do, GiveUp, aim, perform, live_aim}
use Rattle.td_machine.specs.Request.{delete_aim, propose_aim, cancel_aim, len}
use Rattle.td_machine.specs.History.{IsReached}
use Rattle.td_machine.specs.Parts.{IsBuilt, MayMake, IsOpenAt, Anything}
use Rattle.td_machine.proofs.Parts.{IsDone, Own, Other}
use Rattle.td_machine.proofs.Walk.{offered}
use Rattle.td_machine.proofs.Turns.{counted, by_each, length_counts}
use Rattle.td_machine.proofs.Counting.{older_in_turn}
use Rattle.td_machine.proofs.Induction.{IsBuiltSomewhere, built_of, by_steps}
use Rattle.td_machine.proofs.Naming.{atoms, sound, names}
use Rattle.td_machine.proofs.OwnProposals.{open_proposed, proposal_in}
use Rattle.td_machine.proofs.Ballots.{find_ballot}
use Rattle.td_machine.proofs.Reached.{of_sites, room_of}
use Rattle.td_law_replay.proofs.Ways.{by_ways}
use Rattle.td_law_replay.proofs.Matching.{take_parts}
use Rattle.td_law_replay.proofs.Telling.{same_site, own_had, own_deps}
use Rattle.td_base.proofs.Elements.{either}

-- ---- sizes

few_of : (m : Machine) → IsReached m → m.size ≤ MAX_SITE
few_of =
    by_steps (λ (m : Machine). m.size ≤ MAX_SITE) (λ site size some within few. few)
    (λ m input r valid h. subst (λ (k : ℕ). k ≤ MAX_SITE) (sym (same_site m input r valid).1) h)

-- ---- runs

abbrev RunOf : Body → Type 0
RunOf (InsertIn slot run) = IsRun run
RunOf (DeleteOf x) = Unit {0}
RunOf (ProposeOf slot) = Unit {0}
RunOf (Commit p) = Unit {0}
RunOf (Abort p) = Unit {0}

abbrev RunAim : Aim → Type 0
RunAim (Refuse reply) = Unit {0}
RunAim (Do a) = RunOf a.body
RunAim (GiveUp p) = Unit {0}

single : (atom : List ℕ) → IsAtom atom → IsRun (atom ∷ [])
single atom a =
    let short : length atom ≤ 64 = a.short in
    let same : length (atom ++ []) ≡ length atom = ap (λ (l : List ℕ). length l) (append-nil atom) in
    record {
      some = omega arith;
      short = omega (arith, short, same);
      each =
          All-cons IsAtom atom [] a (All-nil IsAtom);
    }

live : (f : AtomIdValue → Machine → Aim) (m : Machine) → ((x : AtomIdValue) → RunAim (f x m))
    → (x : Option AtomIdValue)
    → RunAim (live_aim f x m)
live f m h None = tt
live f m h (Some x) = h x

run_aim : (request : Request) (m : Machine) → IsRequest request → RunAim (aim request m)
run_aim (Insert index atom) m v =
    either (λ (z : Aim). RunAim z) (nat_lt (len m) index) _ _ (λ e. tt) (λ e. single atom v)
run_aim (InsertAfter None atom) m v = single atom v.1
run_aim (InsertAfter (Some x) atom) m v =
    either (λ (z : Aim). RunAim z) (is_live_id m.doc x) _ _ (λ e. single atom v.1) (λ e. tt)
run_aim (Paste index run) m v = either (λ (z : Aim). RunAim z) (nat_lt (len m) index) _ _ (λ e. tt) (λ e. v)
run_aim (PasteAfter None run) m v = v.1
run_aim (PasteAfter (Some x) run) m v = either (λ (z : Aim). RunAim z) (is_live_id m.doc x) _ _ (λ e. v.1) (λ e. tt)
run_aim (Delete index) m v = live delete_aim m (λ x. tt) (live_id_at m.doc index)
run_aim (DeleteAtom x) m v = either (λ (z : Aim). RunAim z) (is_live_id m.doc x) _ _ (λ e. tt) (λ e. tt)
run_aim (Propose Root) m v = tt
run_aim (Propose (At x bit)) m v = either (λ (z : Aim). RunAim z) (is_rooted m.doc (At x bit)) _ _ (λ e. tt) (λ e. tt)
run_aim (ProposeAt index bit) m v =
    live (λ (y : AtomIdValue). propose_aim (At y bit)) m (λ x. tt) (live_id_at m.doc index)
run_aim (Cancel p) m v = cancelled (find (is_on p) m.ballots)
  where
    cancelled : (o : Option Ballot) → RunAim (cancel_aim p o)
    cancelled None = tt
    cancelled (Some b) = either (λ (z : Aim). RunAim z) (is_open b) _ _ (λ e. tt) (λ e. tt)

abbrev Runs : Machine → Type 0
Runs m = (x : OpValue) → In x m.log → RunOf x.body

runs_make : (body : Body) (n : Machine) → RunOf body → Runs n → Runs (make body n)
runs_make body n r h x (inl e) = subst (λ (b : Body). RunOf b) (sym (ap (λ (y : OpValue). y.body) e)) r
runs_make body n r h x (inr i) = h x i

runs_decide : (p : DotValue) (o : Option Bool) (n : Machine) → Runs n → Runs (decide p o n)
runs_decide p None n h = h
runs_decide p (Some true) n h = λ x i. runs_make (Commit p) n tt h x i
runs_decide p (Some false) n h = λ x i. runs_make (Abort p) n tt h x i

runs_perform : (body : Body) (n : Machine) → RunOf body → Runs n → Runs (perform body n)
runs_perform (InsertIn slot run) n r h = λ x i. runs_make (InsertIn slot run) n r h x i
runs_perform (DeleteOf y) n r h = λ x i. runs_make (DeleteOf y) n r h x i
runs_perform (Commit p) n r h = λ x i. runs_make (Commit p) n r h x i
runs_perform (Abort p) n r h = λ x i. runs_make (Abort p) n r h x i
runs_perform (ProposeOf slot) n r h =
    runs_decide (next_dot n) (outcome n.size true (new_ballot (next_dot n)))
    (open_ballot (next_dot n) (hold (next_dot n) slot (make (ProposeOf slot) n)))
    (λ x i. runs_make (ProposeOf slot) n r h x i)

run_value : (x : OpValue) → IsOpValue x → RunOf x.body
run_value x v = at x.body v.body
  where
    at : (b : Body) → IsBody b → RunOf b
    at (InsertIn slot run) k = k.1
    at (DeleteOf y) k = tt
    at (ProposeOf slot) k = tt
    at (Commit p) k = tt
    at (Abort p) k = tt

runs_take : (x : OpValue) (n : Machine) → IsOpValue x → Runs n → Runs (take x n)
runs_take x n v h y i = at (subst (λ (l : List OpValue). In y l) (take_parts x n).4 i)
  where
    at : In y (x ∷ n.log) → RunOf y.body
    at (inl e) = subst (λ (z : OpValue). RunOf z.body) (sym e) (run_value x v)
    at (inr j) = h y j

runs : (m : Machine) → IsReached m → Runs m
runs =
    by_steps (λ (m : Machine). Runs m) (λ site size some within few x i. absurd i)
    (λ m input r valid h.
    by_ways m (λ (s : Stepped). Runs s.machine) input
    (record {
      stays = λ reply q. h;
      makes =
          λ request a e f held room.
          runs_perform a.body m
          (subst (λ (z : Aim). RunAim z) f
          (run_aim request m (subst (λ (i : Input). IsInput i) e valid))) h;
      cancels = λ request p e f. runs_decide p (Some false) m h;
      delays = λ x e foreign late y i. h y i;
      takes = λ x e foreign ready fits. runs_take x m (subst (λ (i : Input). IsInput i) e valid) h;
      counts =
          λ v b e f g far here.
          runs_decide v.proposal (outcome m.size v.yes (counted_vote v.voter v.yes b))
          (record m { ballots = revise v.proposal (counted_vote v.voter v.yes) m.ballots }) h;
      drops = λ x why e i ready y j. h y j;
      resumes =
          λ x e i ready fits.
          runs_take x (forget x m) (offered m (built_of m r).built x i).valid h;
    }))

-- ---- operations of other sites, and decisions

abbrev DecidesIn : Body → List OpValue → Type 0
DecidesIn (InsertIn slot run) older = Unit {0}
DecidesIn (DeleteOf x) older = Unit {0}
DecidesIn (ProposeOf slot) older = Unit {0}
DecidesIn (Commit p) older = (q : OpValue) × In q older × (q.dot ≡ p)
DecidesIn (Abort p) older = (q : OpValue) × In q older × (q.dot ≡ p)

module _ {site size : ℕ} where
  foreign_valid : (m : Machine) → IsBuilt Anything site size m
      → (newer : List OpValue) (x : OpValue) (older : List OpValue)
      → m.log ≡ newer ++ x ∷ older → x.dot.site ≢ m.site → IsOpValue x
  foreign_valid = by_each (λ s n x older. x.dot.site ≢ s → IsOpValue x) comes
    where
      comes : (m : Machine) → IsBuilt Anything site size m → (x : OpValue) → IsDone Anything m x → x.dot.site ≢ m.site
          → IsOpValue x
      comes m b x (Own body may) e = absurd (e refl)
      comes m b x (Other y fit) e = fit.offered.valid

  decided_in : (m : Machine) → IsBuilt Anything site size m → (p : DotValue) → IsOpenAt p m
      → (q : OpValue) × In q m.log × (q.dot ≡ p)
  decided_in m b p o =
      let f = find_ballot p m.ballots o.ballot o.found in
      let q = proposal_in o.ballot.proposal m.log (open_proposed m b o.ballot f.0 o.open_) in
      (q.0, q.1, q.2 ∙ f.1)

  decisions : (m : Machine) → IsBuilt Anything site size m
      → (newer : List OpValue) (x : OpValue) (older : List OpValue)
      → m.log ≡ newer ++ x ∷ older → x.dot.site ≡ m.site → DecidesIn x.body older
  decisions = by_each (λ s n x older. x.dot.site ≡ s → DecidesIn x.body older) comes
    where
      own : (m : Machine) → IsBuilt Anything site size m → (body : Body) → MayMake body m → DecidesIn body m.log
      own m b (InsertIn slot run) may = tt
      own m b (DeleteOf x) may = tt
      own m b (ProposeOf slot) may = tt
      own m b (Commit p) may = decided_in m b p may.opened
      own m b (Abort p) may = decided_in m b p may

      comes : (m : Machine) → IsBuilt Anything site size m → (x : OpValue) → IsDone Anything m x → x.dot.site ≡ m.site
          → DecidesIn x.body m.log
      comes m b x (Own body may) e = own m b body may
      comes m b x (Other y fit) e = absurd (fit.offered.other e)

-- ---- vectors

bump_small : (v : List ℕ) (i : ℕ) → All (λ (k : ℕ). k ≤ MAX_SEQ) v → get_or v i 0 + 1 ≤ MAX_SEQ
    → All (λ (k : ℕ). k ≤ MAX_SEQ) (set v i (get_or v i 0 + 1))
bump_small [] i h less = h
bump_small (x ∷ v) zero h less =
    All-cons (λ (k : ℕ). k ≤ MAX_SEQ) (x + 1) v less (All-tail (λ (k : ℕ). k ≤ MAX_SEQ) x v h)
bump_small (x ∷ v) (suc i) h less =
    All-cons (λ (k : ℕ). k ≤ MAX_SEQ) x (set v i (get_or v i 0 + 1)) (All-head (λ (k : ℕ). k ≤ MAX_SEQ) x v h)
    (bump_small v i (All-tail (λ (k : ℕ). k ≤ MAX_SEQ) x v h) less)

counts_small : (n : ℕ) (log : List OpValue) → IsInTurn n log → ((x : OpValue) → In x log → x.dot.seq ≤ MAX_SEQ)
    → All (λ (k : ℕ). k ≤ MAX_SEQ) (counts n log)
counts_small n [] c h = All-replicate (λ (k : ℕ). k ≤ MAX_SEQ) n 0 (omega arith)
counts_small n (x ∷ log) c h =
    let next : x.dot.seq ≡ vector_get (counts n log) x.dot.site + 1 = c.0.next in
    let low : x.dot.seq ≤ MAX_SEQ = h x (inl refl) in
    bump_small (counts n log) (x.dot.site - 1) (counts_small n log c.1 (λ y i. h y (inr i)))
    (subst (λ (k : ℕ). k ≤ MAX_SEQ) next low)

-- ---- atoms

offset_below : (d : DotValue) (k : ℕ) (run : List (List ℕ)) (z : AtomIdValue) → In z (run_ids_from d k run)
    → z.offset < k + length run
offset_below d k [] z i = absurd i
offset_below d k (atom ∷ run) z (inl e) =
    let here : z.offset ≡ k = ap (λ (y : AtomIdValue). y.offset) e in omega (arith, here)
offset_below d k (atom ∷ run) z (inr i) =
    let rest : z.offset < suc k + length run = offset_below d (suc k) run z i in omega (arith, rest)

inserted_valid : (y : OpValue) (z : AtomIdValue) → Inserts y z → IsOpValue y → IsAtomId z
inserted_valid y z s v = at y.body s.is v.body
  where
    dot : z.dot ≡ y.dot
    dot = inserted_dot y z s

    at : (b : Body) → insertion_by y.dot y.deps b ≡ Some s.insertion → IsBody b → IsAtomId z
    at (InsertIn slot run) e k =
        let below : z.offset < 0 + length run =
        offset_below y.dot 0 run z
        (subst (λ (l : List AtomIdValue). In z l)
        (sym (ids run s.insertion (same_Some
        (record { dot = y.dot; deps = y.deps; slot = slot; run = run }) s.insertion e)))
        s.among) in
        record {
          dot = subst (λ (d : DotValue). IsDot d) (sym dot) v.dot;
          greatest = offset_fits run z.offset k.1 (omega (arith, below));
        }
      where
        ids : (run : List (List ℕ)) (a : Insertion)
            → record { dot = y.dot; deps = y.deps; slot = slot; run = run } ≡ a
            → run_ids y.dot run ≡ ids_of a
        ids run a f = ap (λ (b : Insertion). ids_of b) f
    at (DeleteOf x) e k = absurd cc
    at (ProposeOf slot) e k = absurd cc
    at (Commit p) e k = absurd cc
    at (Abort p) e k = absurd cc

-- ---- one operation, where all older ones are values

module _ (m : Machine) (r : IsReached m) where
  abbrev b : IsBuiltSomewhere m
  b = built_of m r

  body_valid : (newer : List OpValue) (x : OpValue) (older : List OpValue) → m.log ≡ newer ++ x ∷ older
      → x.dot.site ≡ m.site → ((y : OpValue) → In y older → IsOpValue y) → (body : Body) → x.body ≡ body → IsBody body
  body_valid newer x older split own ih body e = at body e
    where
      run_is : RunOf x.body
      run_is = runs m r x (subst (λ (l : List OpValue). In x l) (sym split) (In-back x newer (x ∷ older) (inl refl)))

      atom_is : (z : AtomIdValue) → named_atom x.body ≡ Some z → IsAtomId z
      atom_is z k =
          let y = names m b.built newer x older split own z k in inserted_valid y.0 z y.2 (ih y.0 y.1)

      slot_is : (slot : Slot) → named_atom x.body ≡ slot_atom slot → IsSlot slot
      slot_is Root k = tt
      slot_is (At z bit) k = atom_is z k

      decision_is : DecidesIn x.body older
      decision_is = decisions m b.built newer x older split own

      at : (body : Body) → x.body ≡ body → IsBody body
      at (InsertIn slot run) k =
          (slot_is slot (ap named_atom k), subst (λ (c : Body). RunOf c) k run_is)
      at (DeleteOf z) k = atom_is z (ap named_atom k)
      at (ProposeOf slot) k = slot_is slot (ap named_atom k)
      at (Commit p) k =
          let q = subst (λ (c : Body). DecidesIn c older) k decision_is in
          subst (λ (d : DotValue). IsDot d) q.2 (ih q.0 q.1).dot
      at (Abort p) k =
          let q = subst (λ (c : Body). DecidesIn c older) k decision_is in
          subst (λ (d : DotValue). IsDot d) q.2 (ih q.0 q.1).dot

  one_valid : (newer : List OpValue) (x : OpValue) (older : List OpValue) → m.log ≡ newer ++ x ∷ older
      → ((y : OpValue) → In y older → IsOpValue y) → IsOpValue x
  one_valid newer x older split ih = at (nat_eq x.dot.site m.site) refl
    where
      at : (t : Bool) → nat_eq x.dot.site m.site ≡ t → IsOpValue x
      at false e = foreign_valid m b.built newer x older split (eqb-false x.dot.site m.site e)
      at true e =
          let own : x.dot.site ≡ m.site = eqb-true x.dot.site m.site e in
          let inside : In x m.log =
          subst (λ (l : List OpValue). In x l) (sym split) (In-back x newer (x ∷ older) (inl refl)) in
          let s = of_sites m r x inside in
          let some : 0 < x.dot.site = s.0 in
          let within : x.dot.site ≤ m.size = s.1 in
          let few : m.size ≤ MAX_SITE = few_of m r in
          let positive : 0 < x.dot.seq = s.2 in
          let had : x.dot.seq ≤ made m = own_had m r x inside own in
          let room : made m + undecided m ≤ MAX_SEQ = room_of m r in
          let turn = older_in_turn m.size newer x older
          (subst (λ (l : List OpValue). IsInTurn m.size l) split (counted m b.built).1) in
          let long : length (counts m.size older) ≡ m.size = length_counts m.size older in
          let deps : x.deps ≡ counts m.size older = own_deps m b.built newer x older split own in
          record {
            dot = record {
              site = record { least = some; greatest = omega (arith, within, few) };
              least = positive;
              greatest = omega (arith, had, room);
            };
            deps = subst (λ (v : List ℕ). IsVector v) (sym deps)
                (record {
                  some = omega (arith, some, within, long);
                  short = omega (arith, few, long);
                  small = counts_small m.size older turn.1 (λ y i. (ih y i).dot.greatest);
                });
            body = body_valid newer x older split own ih x.body refl;
            op = (sound m b.built newer x older split).op;
          }

  all_valid : (log : List OpValue) (newer : List OpValue) → m.log ≡ newer ++ log → (x : OpValue) → In x log
      → IsOpValue x
  all_valid [] newer split x i = absurd i
  all_valid (y ∷ log) newer split x i =
      at (all_valid log (newer ++ y ∷ []) (split ∙ sym (append_assoc newer (y ∷ []) log))) i
    where
      at : ((z : OpValue) → In z log → IsOpValue z) → In x (y ∷ log) → IsOpValue x
      at ih (inl e) = subst (λ (z : OpValue). IsOpValue z) (sym e) (one_valid newer y log split ih)
      at ih (inr j) = ih x j

  pub values_of : (x : OpValue) → In x m.log → IsOpValue x
  values_of x i = all_valid m.log [] refl x i

  -- the identity of each row is a value
  pub row_ids_of : (r : DocRow) → In r m.doc → IsAtomId (row_id r)
  row_ids_of r i =
      let y = atoms m b.built r i in inserted_valid y.0 (row_id r) y.2 (values_of y.0 y.1)
