-- The entries of a legal history tell which operations were made, and on what they depend.
use Rattle.std.proofs.Common.{◌≡◌, ◌≢◌, ◌⊎◌, ◌<◌, ◌≤◌, ◌+◌, ◌-◌, ◌++◌, List, [], ◌∷◌, ℕ, zero, suc, Bool, true}
use Rattle.std.proofs.Common.{false, if◌then◌else◌, nat_le, length, get_or, Option, Some, None, refl, sym, ap}
use Rattle.std.proofs.Common.{◌∙◌, subst, inl, inr, ⊎_elim, append_assoc, arith}
use Rattle.std.proofs.lemmas.Bool.{leb-true, leb-false}
use Rattle.std.proofs.lemmas.List.{set-set, set-get_or, get_or-set_same}
use Rattle.std.specs.Prelude.{IsTrue}
use Rattle.td_base.specs.Value.{DotValue}
use Rattle.td_base.specs.Lists.{In}
use Rattle.td_base.proofs.Lists.{In-append, In-back}
use Rattle.td_base.proofs.Elements.{CutAt, cut_at}
use Rattle.td_clock.specs.Vector.{vector_get, vector_set, vector_has, vector_bump}
use Rattle.td_op.specs.declared.body.Body.{Body}
use Rattle.td_op.specs.declared.body.Body.TheVariants.{Insert as InsertIn, Delete as DeleteOf}
use Rattle.td_op.specs.declared.body.Body.TheVariants.{Propose as ProposeOf, Commit, Abort}
use Rattle.td_op.specs.declared.input.Input.{Input}
use Rattle.td_op.specs.declared.reply.Reply.{Reply}
use Rattle.td_op.specs.Op.{OpValue}
use Rattle.td_op.specs.Input.{IsInput}
use Rattle.td_machine.specs.Counts.{counts, ops_of, IsInTurn}
use Rattle.td_machine.specs.Decision.{counted as counted_vote, outcome, new_ballot, revise}
use Rattle.td_machine.specs.Machine.{Machine, made, next_op, next_dot}
use Rattle.td_machine.specs.Making.{make, decide, hold, open_ballot}
use Rattle.td_machine.specs.Taking.{Stepped, take, forget, count}
use Rattle.td_machine.specs.Request.{perform}
use Rattle.td_machine.specs.Step.{step}
use Rattle.td_machine.specs.History.{History, Family, IsReached, IsLegalFrom, after, history_at}
use Rattle.td_machine.proofs.StepKinds.{by_kinds}
use Rattle.td_machine.specs.Parts.{IsBuilt, Anything}
use Rattle.td_machine.proofs.Parts.{IsDone, Own, Other}
use Rattle.td_machine.proofs.Walk.{built_step}
use Rattle.td_machine.proofs.Turns.{placed, counted, by_each, length_counts}
use Rattle.td_machine.proofs.Counting.{older_in_turn, found, Found}
use Rattle.td_machine.proofs.Induction.{IsBuiltSomewhere, built_of, reached_step}
use Rattle.td_machine.proofs.Reached.{waits_of_sites, counted_of, of_sites}
use Rattle.td_machine.proofs.Family.{counted_had, unique}
use Rattle.td_trace.specs.Entries.{traced, traced_history, traced_family, told_of}
use Rattle.td_law_replay.specs.Counting.{Count, count_entry, deps_from}
use Rattle.td_law_replay.proofs.Matching.{Matches, matches_step, take_parts}

-- ---- what a step adds to the log

abbrev pub AllOwn : ℕ → List OpValue → Type 0
AllOwn site ops = (y : OpValue) → In y ops → y.dot.site ≡ site

abbrev pub NoneOwn : ℕ → List OpValue → Type 0
NoneOwn site ops = (y : OpValue) → In y ops → y.dot.site ≢ site

pub record More (m n : Machine) : Type 0 where
  pub ops : List OpValue
  pub is : n.log ≡ ops ++ m.log
  pub own : AllOwn m.site ops ⊎ NoneOwn m.site ops

more_none : (m n : Machine) → n.log ≡ m.log → More m n
more_none m n e = record { ops = []; is = e; own = inl (λ y i. absurd i) }

more_one : (m : Machine) (body : Body) (n : Machine) → n.log ≡ next_op m body ∷ m.log → More m n
more_one m body n e = record { ops = next_op m body ∷ []; is = e; own = inl only }
  where
    only : AllOwn m.site (next_op m body ∷ [])
    only y (inl k) = ap (λ (z : OpValue). z.dot.site) k
    only y (inr i) = absurd i

more_decided : (m : Machine) (p : DotValue) (o : Option Bool) → More m (decide p o m)
more_decided m p None = more_none m m refl
more_decided m p (Some true) = more_one m (Commit p) (make (Commit p) m) refl
more_decided m p (Some false) = more_one m (Abort p) (make (Abort p) m) refl

more_performed : (m : Machine) (body : Body) → More m (perform body m)
more_performed m (InsertIn slot run) = more_one m (InsertIn slot run) (make (InsertIn slot run) m) refl
more_performed m (DeleteOf x) = more_one m (DeleteOf x) (make (DeleteOf x) m) refl
more_performed m (Commit p) = more_one m (Commit p) (make (Commit p) m) refl
more_performed m (Abort p) = more_one m (Abort p) (make (Abort p) m) refl
more_performed m (ProposeOf slot) =
    next_of (outcome m.size true (new_ballot (next_dot m)))
  where
    opened : Machine
    opened = open_ballot (next_dot m) (hold (next_dot m) slot (make (ProposeOf slot) m))

    two : (body : Body) → AllOwn m.site (next_op (make (ProposeOf slot) m) body ∷ next_op m (ProposeOf slot) ∷ [])
    two body y (inl k) = ap (λ (z : OpValue). z.dot.site) k
    two body y (inr (inl k)) = ap (λ (z : OpValue). z.dot.site) k
    two body y (inr (inr i)) = absurd i

    next_of : (o : Option Bool) → More m (decide (next_dot m) o opened)
    next_of None = more_one m (ProposeOf slot) opened refl
    next_of (Some true) =
        record {
          ops = next_op (make (ProposeOf slot) m) (Commit (next_dot m)) ∷ next_op m (ProposeOf slot) ∷ [];
          is = refl;
          own = inl (two (Commit (next_dot m)));
        }
    next_of (Some false) =
        record {
          ops = next_op (make (ProposeOf slot) m) (Abort (next_dot m)) ∷ next_op m (ProposeOf slot) ∷ [];
          is = refl;
          own = inl (two (Abort (next_dot m)));
        }

more_taken : (m : Machine) (x : OpValue) (n : Machine) → x.dot.site ≢ m.site → n.log ≡ x ∷ m.log → More m n
more_taken m x n apart e = record { ops = x ∷ []; is = e; own = inr only }
  where
    only : NoneOwn m.site (x ∷ [])
    only y (inl k) s = apart (sym (ap (λ (z : OpValue). z.dot.site) k) ∙ s)
    only y (inr i) s = absurd i

pub more : (m : Machine) (input : Input) → IsReached m → More m (step m input).machine
more m input r =
    by_kinds m (λ (s : Stepped). More m s.machine) input
    (record {
      stays = λ reply. more_none m m refl;
      makes = λ request a e f held room. more_performed m a.body;
      cancels = λ request p e f. more_decided m p (Some false);
      delays = λ x e foreign late. more_none m _ refl;
      takes = λ x e foreign ready fits. more_taken m x (take x m) foreign.other (take_parts x m).4;
      counts =
          λ v b e f g far here.
          more_decided_on m (record m {
            ballots =
                revise v.proposal (counted_vote v.voter v.yes) m.ballots;
          }) v.proposal
          (outcome m.size v.yes (counted_vote v.voter v.yes b)) refl refl refl;
      drops = λ x why i ready. more_none m _ refl;
      resumes =
          λ x i ready fits.
          more_taken m x (take x (forget x m)) (waits_of_sites m r x i).3 (take_parts x (forget x m)).4;
    })
  where
    more_decided_on : (m n : Machine) (p : DotValue) (o : Option Bool) → n.log ≡ m.log → n.site ≡ m.site
        → n.have ≡ m.have
        → More m (decide p o n)
    more_decided_on m n p o log site have =
        let d : More n (decide p o n) = more_decided n p o in
        record {
          ops = d.ops;
          is = d.is ∙ ap (λ (l : List OpValue). d.ops ++ l) log;
          own =
              subst (λ (s : ℕ). AllOwn s d.ops ⊎ NoneOwn s d.ops) site d.own;
        }

-- so a log only grows
pub record Grown (m n : Machine) : Type 0 where
  pub newer : List OpValue
  pub is : n.log ≡ newer ++ m.log

pub grown : (m : Machine) → IsReached m → (entries : History) → IsLegalFrom m entries → Grown m (after m entries)
grown m r [] l = record { newer = []; is = refl }
grown m r (e ∷ entries) l =
    let one : More m (step m e.input).machine = more m e.input r in
    let rest : Grown (step m e.input).machine (after (step m e.input).machine entries) =
    grown (step m e.input).machine (reached_step m e.input r l.0) entries l.2 in
    record {
      newer = rest.newer ++ one.ops;
      is =
          rest.is
          ∙ ap (λ (log : List OpValue). rest.newer ++ log) one.is
          ∙ sym (append_assoc rest.newer one.ops m.log);
    }

pub reached_after : (m : Machine) → IsReached m → (entries : History) → IsLegalFrom m entries
    → IsReached (after m entries)
reached_after m r [] l = r
reached_after m r (e ∷ entries) l = reached_after (step m e.input).machine (reached_step m e.input r l.0) entries l.2

-- ---- what own operations depend on

own_counts : (n s : ℕ) (front log : List OpValue) → 0 < s → s ≤ n → AllOwn s front
    → counts n (front ++ log) ≡ vector_set (counts n log) s (vector_get (counts n log) s + length front)
own_counts n s [] log some within own =
    sym (set-get_or (counts n log) (s - 1) 0)
    ∙ ap (λ (k : ℕ). vector_set (counts n log) s k) (none (vector_get (counts n log) s))
  where
    none : (k : ℕ) → k ≡ k + 0
    none k = omega arith
own_counts n s (y ∷ front) log some within own =
    let v : List ℕ = counts n log in
    let a : ℕ = vector_get v s + length front in
    let ih : counts n (front ++ log) ≡ vector_set v s a =
    own_counts n s front log some within (λ z i. own z (inr i)) in
    let here : y.dot.site ≡ s = own y (inl refl) in
    let wide : length v ≡ n = length_counts n log in
    let now : vector_get (vector_set v s a) s ≡ a =
    get_or-set_same v (s - 1) a 0 (omega (arith, some, within, wide)) in
    ap (λ (t : ℕ). vector_bump (counts n (front ++ log)) t) here
    ∙ ap (λ (w : List ℕ). vector_bump w s) ih
    ∙ ap (λ (k : ℕ). vector_set (vector_set v s a) s (k + 1)) now
    ∙ set-set v (s - 1) a (a + 1)
    ∙ ap (λ (k : ℕ). vector_set v s k) (next (vector_get v s) (length front))
  where
    next : (k l : ℕ) → k + l + 1 ≡ k + suc l
    next k l = omega arith

module _ {site size : ℕ} where
  pub own_deps : (m : Machine) → IsBuilt Anything site size m
      → (newer : List OpValue) (x : OpValue) (older : List OpValue)
      → m.log ≡ newer ++ x ∷ older → x.dot.site ≡ m.site → x.deps ≡ counts m.size older
  own_deps = by_each (λ s n x older. x.dot.site ≡ s → x.deps ≡ counts n older) comes
    where
      comes : (m : Machine) → IsBuilt Anything site size m → (x : OpValue) → IsDone Anything m x → x.dot.site ≡ m.site
          → x.deps ≡ counts m.size m.log
      comes m b x (Own body may) e = (counted m b).0
      comes m b x (Other y fit) e = absurd (fit.offered.other e)

-- an own operation of the log has a number that is had
pub own_had : (m : Machine) → IsReached m → (x : OpValue) → In x m.log → x.dot.site ≡ m.site → x.dot.seq ≤ made m
own_had m r x i e =
    let b = (built_of m r).built in
    let c = counted m b in
    let had : IsTrue (vector_has m.have x.dot) =
    subst (λ (v : List ℕ). IsTrue (vector_has v x.dot)) (sym c.0) (counted_had m.size x m.log c.1 i) in
    subst (λ (s : ℕ). x.dot.seq ≤ vector_get m.have s) e (leb-true x.dot.seq (vector_get m.have x.dot.site) had)

-- a step keeps the site
pub same_site : (m : Machine) (input : Input) → IsReached m → IsInput input
    → ((step m input).machine.site ≡ m.site) × ((step m input).machine.size ≡ m.size)
same_site m input r valid =
    let s : IsBuiltSomewhere m = built_of m r in
    let p = placed m s.built in
    let q = placed (step m input).machine (built_step m input valid (λ message e. tt) s.built) in
    (q.2 ∙ sym p.2, q.3 ∙ sym p.3)

pub made_in_step : (m : Machine) (input : Input) → IsReached m → IsInput input → (x : OpValue)
    → In x (step m input).machine.log → x.dot.site ≡ m.site → made m < x.dot.seq
    → x.deps ≡ vector_set m.have m.site (x.dot.seq - 1)
made_in_step m input r valid x i here new =
    let n : Machine = (step m input).machine in
    let a : More m n = more m input r in
    ⊎_elim (λ (j : In x a.ops). among a j)
    (λ (j : In x m.log). let low : x.dot.seq ≤ made m = own_had m r x j here in absurd (omega (arith, low, new)))
    (In-append x a.ops m.log (subst (λ (l : List OpValue). In x l) a.is i))
  where
    among : (a : More m (step m input).machine) → In x a.ops → x.deps ≡ vector_set m.have m.site (x.dot.seq - 1)
    among a j =
        let n : Machine = (step m input).machine in
        let s : CutAt x a.ops = cut_at x a.ops j in
        let split : n.log ≡ s.front ++ x ∷ (s.back ++ m.log) =
        a.is ∙ ap (λ (l : List OpValue). l ++ m.log) s.is ∙ append_assoc s.front (x ∷ s.back) m.log in
        let own : AllOwn m.site a.ops =
        ⊎_elim (λ (k : AllOwn m.site a.ops). k) (λ (k : NoneOwn m.site a.ops). absurd (k x j here)) a.own in
        let back : AllOwn m.site s.back =
        λ y k. own y (subst (λ (l : List OpValue). In y l) (sym s.is) (In-back y s.front (x ∷ s.back) (inr k))) in
        let w : IsBuiltSomewhere m = built_of m r in
        let b = built_step m input valid (λ message e. tt) w.built in
        let p = placed m w.built in
        let same = same_site m input r valid in
        let turn = older_in_turn n.size s.front x (s.back ++ m.log)
        (subst (λ (l : List OpValue). IsInTurn n.size l) split (counted n b).1) in
        let next : x.dot.seq ≡ vector_get (counts n.size (s.back ++ m.log)) x.dot.site + 1 = turn.0.next in
        let deps : x.deps ≡ counts n.size (s.back ++ m.log) =
        own_deps n b s.front x (s.back ++ m.log) split (here ∙ sym same.0) in
        let full : counts m.size (s.back ++ m.log)
        ≡ vector_set (counts m.size m.log) m.site (vector_get (counts m.size m.log) m.site + length s.back) =
        own_counts m.size m.site s.back m.log p.0 p.1 back in
        let wide : length (counts m.size m.log) ≡ m.size = length_counts m.size m.log in
        let some : 0 < m.site = p.0 in
        let within : m.site ≤ m.size = p.1 in
        let v : List ℕ = counts m.size m.log in
        let k : ℕ = vector_get v m.site + length s.back in
        let here_count : vector_get (vector_set v m.site k) m.site ≡ k =
        get_or-set_same v (m.site - 1) k 0 (omega (arith, some, within, wide)) in
        let there : vector_get (counts n.size (s.back ++ m.log)) x.dot.site ≡ k =
        ap (λ (z : ℕ). vector_get (counts z (s.back ++ m.log)) x.dot.site) same.1
        ∙ ap (λ (z : ℕ). vector_get (counts m.size (s.back ++ m.log)) z) here
        ∙ ap (λ (z : List ℕ). vector_get z m.site) full
        ∙ here_count in
        let number : x.dot.seq - 1 ≡ k = omega (arith, next, there) in
        deps
        ∙ ap (λ (z : ℕ). counts z (s.back ++ m.log)) same.1
        ∙ full
        ∙ ap (λ (z : ℕ). vector_set v m.site z) (sym number)
        ∙ ap (λ (z : List ℕ). vector_set z m.site (x.dot.seq - 1)) (sym (counted m w.built).0)

-- ---- what entries tell

pub tells : (entries : History) (m : Machine) → IsReached m → (c : Count) → Matches c m → IsLegalFrom m entries
    → (x : OpValue) → In x (after m entries).log → x.dot.site ≡ m.site → made m < x.dot.seq
    → deps_from m.site m.size x.dot.seq c (traced_history entries) ≡ Some x.deps
tells [] m r c h l x i here new = let low : x.dot.seq ≤ made m = own_had m r x i here in
    absurd (omega (arith, low, new))
tells (e ∷ entries) m r c h l x i here new =
    let n : Machine = (step m e.input).machine in
    let d : Count = count_entry m.site m.size c (traced e) in
    let q : IsReached n = reached_step m e.input r l.0 in
    let same = same_site m e.input r l.0 in
    let now : Matches d n =
    subst (λ (reply : Reply). Matches
    (count_entry m.site m.size c (record { told = told_of e.input; reply = reply })) n)
    l.1 (matches_step c m r h e.input l.0) in
    let count : vector_get d.have m.site ≡ made n =
    ap (λ (v : List ℕ). vector_get v m.site) now.have ∙ ap (λ (s : ℕ). vector_get n.have s) (sym same.0) in
    let further : made n < x.dot.seq → deps_from m.site m.size x.dot.seq d (traced_history entries) ≡ Some x.deps =
    λ less.
    subst
    (λ (s : ℕ). deps_from s m.size x.dot.seq d (traced_history entries) ≡ Some x.deps) same.0
    (subst
    (λ (z : ℕ). deps_from n.site z x.dot.seq d (traced_history entries) ≡ Some x.deps) same.1
    (tells entries n q d now l.2 x i (here ∙ sym same.0) less)) in
    at now count q (nat_le x.dot.seq (vector_get d.have m.site)) refl further
  where
    here_now : IsReached (step m e.input).machine → x.dot.seq ≤ made (step m e.input).machine
        → In x (step m e.input).machine.log
    here_now q low =
        let n : Machine = (step m e.input).machine in
        let same = same_site m e.input r l.0 in
        let last : IsReached (after n entries) = reached_after n q entries l.2 in
        let b = (built_of n q).built in
        let z = (built_of (after n entries) last).built in
        let p = placed n b in
        let some : 0 < n.site = p.0 in
        let ops : vector_get n.have n.site ≡ length (ops_of n.site n.log) = counted_of n q n.site p.0 p.1 in
        let positive : 0 < x.dot.seq = (of_sites (after n entries) last x i).2 in
        let turn : IsInTurn n.size n.log = (counted n b).1 in
        let f : Found (record { site = n.site; seq = x.dot.seq }) n.log =
        found n.size n.site x.dot.seq n.log positive turn (omega (arith, low, ops)) in
        let g : Grown n (after n entries) = grown n q entries l.2 in
        let inside : In f.op (after n entries).log =
        subst (λ (log : List OpValue). In f.op log) (sym g.is) (In-back f.op g.newer n.log f.inside) in
        let dots : f.op.dot ≡ x.dot =
        f.is ∙ (λ j. record { site = (same.0 ∙ sym here) j; seq = x.dot.seq }) in
        subst (λ (y : OpValue). In y n.log)
        (unique (after n entries).size f.op x (after n entries).log
        (counted (after n entries) z).1 inside i dots) f.inside

    at : Matches (count_entry m.site m.size c (traced e)) (step m e.input).machine
        → vector_get (count_entry m.site m.size c (traced e)).have m.site ≡ made (step m e.input).machine
        → IsReached (step m e.input).machine
        → (b : Bool) → nat_le x.dot.seq (vector_get (count_entry m.site m.size c (traced e)).have m.site) ≡ b
        → (made (step m e.input).machine < x.dot.seq
        → deps_from m.site m.size x.dot.seq (count_entry m.site m.size c (traced e)) (traced_history entries)
        ≡ Some x.deps)
        → (if b then Some (vector_set c.have m.site (x.dot.seq - 1))
        else deps_from m.site m.size x.dot.seq (count_entry m.site m.size c (traced e)) (traced_history entries))
        ≡ Some x.deps
    at now count q true f further =
        let low : x.dot.seq ≤ vector_get (count_entry m.site m.size c (traced e)).have m.site =
        leb-true x.dot.seq (vector_get (count_entry m.site m.size c (traced e)).have m.site) f in
        let i_now : In x (step m e.input).machine.log = here_now q (omega (arith, low, count)) in
        ap (λ (v : List ℕ). Some (vector_set v m.site (x.dot.seq - 1))) h.have
        ∙ ap (λ (v : List ℕ). Some v) (sym (made_in_step m e.input r l.0 x i_now here new))
    at now count q false f further =
        let high : vector_get (count_entry m.site m.size c (traced e)).have m.site < x.dot.seq =
        leb-false x.dot.seq (vector_get (count_entry m.site m.size c (traced e)).have m.site) f in
        further (omega (arith, high, count))

-- ---- of a family

pub entries_there : (family : Family) (k : ℕ)
    → get_or (traced_family family) k [] ≡ traced_history (history_at family k)
entries_there [] k = refl
entries_there (h ∷ family) zero = refl
entries_there (h ∷ family) (suc k) = entries_there family k
