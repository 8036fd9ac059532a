-- What a site's ballots, holds and votes tell, through all that a step does.
use Rattle.std.proofs.Common.{◌≡◌, ◌⊎◌, ◌<◌, ◌≤◌, ◌++◌, ℕ, suc, List, [], ◌∷◌, length, Bool, true, false, cond}
use Rattle.std.proofs.Common.{nat_eq, Some, None, refl, sym, ap, ◌∙◌, subst, inl, inr, ⊎_elim, true≢false, arith}
use Rattle.std.proofs.lemmas.Bool.{eq-eqb, eqb-true, or_parts, or_left, or_right, cases_Bool, false_from_ne_true}
use Rattle.std.specs.List.{list_any, IsDistinct}
use Rattle.std.specs.Option.{is_some}
use Rattle.td_base.specs.Value.{DotValue}
use Rattle.td_base.specs.Lists.{In, Successive}
use Rattle.td_base.proofs.Lists.{In-append, map_In, any_none, all_of, all_in, any_found}
use Rattle.td_path.specs.declared.slot.Slot.{Slot}
use Rattle.td_op.specs.declared.body.Body.{Body}
use Rattle.td_op.specs.declared.body.Body.TheVariants.{Insert, Delete, Propose, Commit, Abort}
use Rattle.td_op.specs.declared.message.Message.{Message}
use Rattle.td_op.specs.declared.message.Message.TheVariants.{Op as AnOp, Vote as AVote}
use Rattle.td_op.specs.declared.vote.Vote.{Vote}
use Rattle.td_op.specs.Op.{OpValue}
use Rattle.td_base.specs.Equality.{same_dot}
use Rattle.td_machine.specs.Decision.{Ballot, is_on, is_open, is_counted, counted, revise, close, new_ballot}
use Rattle.td_machine.specs.Hold.{Hold, is_of, is_held, release}
use Rattle.td_machine.specs.Log.{decides}
use Rattle.td_machine.specs.Making.{holds_after, ballots_after}
use Rattle.td_base.proofs.Equals.{same_dot_refl, same_dot_true}
use Rattle.td_machine.proofs.Holding.{release_keeps}
use Rattle.td_machine.proofs.Ballots.{closed_in}
use Rattle.std.specs.List.{AllByRecursion}
use Rattle.std.proofs.lemmas.Map.Steps.{length-le_from_distinct_below}

-- ---- numbers that differ

abbrev pub Differ : ℕ → ℕ → Type 0
Differ j k = j ≡ k → ⊥

distinct : (xs : List ℕ) → Successive Differ xs → IsDistinct nat_eq xs
unfolding IsDistinct
distinct [] s = tt
distinct (x ∷ xs) s = (others xs (λ k i. all_in (Differ x) xs s.0 k i), distinct xs s.1)
  where
    others : (ys : List ℕ) → ((k : ℕ) → In k ys → x ≡ k → ⊥) → AllByRecursion (λ (y : ℕ). nat_eq x y ≡ false) ys
    others [] out = tt
    others (y ∷ ys) out =
        (false_from_ne_true (nat_eq x y) (λ e. out y (inl refl) (eqb-true x y e)), others ys (λ k i. out k (inr i)))

-- n different numbers from 1 to n are all of them: with one more, and 0, they would be too many below n + 1
pub all_numbers : (n : ℕ) (xs : List ℕ) → Successive Differ xs → ((k : ℕ) → In k xs → (0 < k) × (k ≤ n))
    → length xs ≡ n → (k : ℕ) → 0 < k → k ≤ n → In k xs
all_numbers n xs s h e k up low = ⊎_elim here absent (cases_Bool (list_any (nat_eq k) xs))
  where
    here : list_any (nat_eq k) xs ≡ true → In k xs
    here t = let f = any_found (nat_eq k) xs t in subst (λ (j : ℕ). In j xs) (sym (eqb-true k f.0 f.2)) f.1

    below : (j : ℕ) → In j (0 ∷ k ∷ xs) → j < suc n
    below j i =
        ⊎_elim (λ (q : j ≡ 0). omega (arith, q))
        (λ i. ⊎_elim (λ (q : j ≡ k). omega (arith, q, low)) (λ (l : In j xs). let b = (h j l).1 in omega (arith, b)) i)
        i

    absent : list_any (nat_eq k) xs ≡ false → In k xs
    absent f =
        let other : Successive Differ (k ∷ xs) =
        (all_of (Differ k) xs (λ j i q. true≢false (sym (eq-eqb k j q) ∙ any_none (nat_eq k) xs j f i)), s) in
        let apart : Successive Differ (0 ∷ k ∷ xs) =
        (all_of (Differ 0) (k ∷ xs) (λ j i q. positive j i q), other) in
        let few : length (0 ∷ k ∷ xs) ≤ suc n =
        length-le_from_distinct_below (0 ∷ k ∷ xs) (suc n) (distinct (0 ∷ k ∷ xs) apart)
        (λ j t. let g = any_found (nat_eq j) (0 ∷ k ∷ xs) t in
        subst (λ (z : ℕ). z < suc n) (sym (eqb-true j g.0 g.2)) (below g.0 g.1)) in
        absurd (omega (arith, few, e))
      where
        positive : (j : ℕ) → In j (k ∷ xs) → 0 ≡ j → ⊥
        positive j i q =
            ⊎_elim (λ (g : j ≡ k). omega (arith, q, g, up)) (λ (l : In j xs). let b = (h j l).0 in omega (arith, q, b))
            i

-- ---- one site

module _ (n site : ℕ) (Yes : ℕ → DotValue → Type 0) where
  -- who said Yes on a ballot
  pub record Voters (b : Ballot) : Type 0 where
    pub apart : Successive Differ b.yes
    pub from : (k : ℕ) → In k b.yes → (0 < k) × (k ≤ n) × ((k ≡ site) ⊎ Yes k b.proposal)

  abbrev pub AllYes : DotValue → Type 0
  AllYes p = (k : ℕ) → 0 < k → k ≤ n → (k ≡ site) ⊎ Yes k p

  abbrev pub Decided : List OpValue → DotValue → Type 0
  Decided log p = (y : OpValue) × (d : Bool) × In y log × (decides p y.body ≡ Some d)

  -- the proposal is held, or decided
  abbrev pub Open : List OpValue → List Hold → DotValue → Type 0
  Open log holds p = (is_held p holds ≡ true) ⊎ Decided log p

  pub record Core (log : List OpValue) (holds : List Hold) (ballots : List Ballot)
      (sent : List Message) : Type 0 where
    pub voters : (b : Ballot) → In b ballots → Voters b
    pub one_ballot : (b c : Ballot) → In b ballots → In c ballots → b.proposal ≡ c.proposal → b ≡ c
    pub known : (b : Ballot) → In b ballots → (q : OpValue) × In q log × (q.dot ≡ b.proposal)
    pub commits : (x : OpValue) (p : DotValue) → In x log → x.dot.site ≡ site → x.body ≡ Commit p → AllYes p
    pub closed : (x : OpValue) (p : DotValue) (d : Bool) → In x log → x.dot.site ≡ site → decides p x.body ≡ Some d
        → (b : Ballot) → In b ballots → b.proposal ≡ p → is_open b ≡ false
    pub once : (x y : OpValue) (p : DotValue) (d e : Bool) → In x log → In y log → x.dot.site ≡ site
        → y.dot.site ≡ site → decides p x.body ≡ Some d → decides p y.body ≡ Some e → x ≡ y
    pub open_yes : (v : Vote) → In (AVote v) sent → v.yes ≡ true → Open log holds v.proposal
    pub open_own : (q : OpValue) (slot : Slot) → In q log → q.dot.site ≡ site → q.body ≡ Propose slot
        → Open log holds q.dot
    pub one_vote : (u v : Vote) → In (AVote u) sent → In (AVote v) sent → u.proposal ≡ v.proposal → u ≡ v

  -- ---- an operation is done

  open_after : (x : OpValue) (log : List OpValue) (holds : List Hold) (p : DotValue) → Open log holds p
      → Open (x ∷ log) (holds_after x.body holds) p
  open_after x log holds p (inr (y, d, i, e)) = inr (y, d, inr i, e)
  open_after x log holds p (inl h) = at x.body refl
    where
      decided : (b : Bool) (q : DotValue) → same_dot q p ≡ b → x.body ≡ Commit q → Open (x ∷ log) (release q holds) p
      decided true q e f = inr (x, true, inl refl, ap (decides p) f ∙ ap (λ (t : Bool). cond t (Some true) None) e)
      decided false q e f = inl (release_keeps q p holds h (at_not (same_dot p q) refl))
        where
          at_not : (t : Bool) → same_dot p q ≡ t → same_dot p q ≡ false
          at_not true g =
              absurd (true≢false
              (sym (subst (λ (z : DotValue). same_dot z p ≡ true) (same_dot_true p q g) (same_dot_refl p)) ∙ e))
          at_not false g = g

      aborted : (b : Bool) (q : DotValue) → same_dot q p ≡ b → x.body ≡ Abort q → Open (x ∷ log) (release q holds) p
      aborted true q e f = inr (x, false, inl refl, ap (decides p) f ∙ ap (λ (t : Bool). cond t (Some false) None) e)
      aborted false q e f = inl (release_keeps q p holds h (at_not (same_dot p q) refl))
        where
          at_not : (t : Bool) → same_dot p q ≡ t → same_dot p q ≡ false
          at_not true g =
              absurd (true≢false
              (sym (subst (λ (z : DotValue). same_dot z p ≡ true) (same_dot_true p q g) (same_dot_refl p)) ∙ e))
          at_not false g = g

      with_body : (b : Body) → x.body ≡ b → Open (x ∷ log) (holds_after b holds) p
          → Open (x ∷ log) (holds_after x.body holds) p
      with_body b e o = subst (λ (z : Body). Open (x ∷ log) (holds_after z holds) p) (sym e) o

      at : (b : Body) → x.body ≡ b → Open (x ∷ log) (holds_after x.body holds) p
      at (Insert slot run) e = with_body (Insert slot run) e (inl h)
      at (Delete target) e = with_body (Delete target) e (inl h)
      at (Propose slot) e = with_body (Propose slot) e (inl h)
      at (Commit q) e = with_body (Commit q) e (decided (same_dot q p) q refl e)
      at (Abort q) e = with_body (Abort q) e (aborted (same_dot q p) q refl e)

  -- a ballot afterwards, as it was
  pub record WasBallot (ballots : List Ballot) (b : Ballot) : Type 0 where
    pub old : Ballot
    pub inside : In old ballots
    pub proposal : b.proposal ≡ old.proposal
    pub yes : b.yes ≡ old.yes
    pub still : is_open old ≡ false → is_open b ≡ false

  closed_was : (p : DotValue) (commit : Bool) (ballots : List Ballot) (b : Ballot)
      → In b (revise p (close commit) ballots) → WasBallot ballots b
  closed_was p commit ballots b i =
      let m = map_In (λ (z : Ballot). cond (is_on p z) (close commit z) z) b ballots i in
      at m.0 m.1 (is_on p m.0) m.2
    where
      at : (z : Ballot) → In z ballots → (t : Bool) → b ≡ cond t (close commit z) z → WasBallot ballots b
      at z j true e =
          record {
            old = z;
            inside = j;
            proposal = ap (λ (y : Ballot). y.proposal) e;
            yes =
                ap (λ (y : Ballot). y.yes) e;
            still = λ k. ap is_open e;
          }
      at z j false e =
          record {
            old = z;
            inside = j;
            proposal = ap (λ (y : Ballot). y.proposal) e;
            yes =
                ap (λ (y : Ballot). y.yes) e;
            still = λ k. ap is_open e ∙ k;
          }

  body_was : (body : Body) (ballots : List Ballot) (b : Ballot) → In b (ballots_after body ballots)
      → WasBallot ballots b
  body_was (Insert slot run) ballots b i = record { old = b; inside = i; proposal = refl; yes = refl; still = λ k. k }
  body_was (Delete target) ballots b i = record { old = b; inside = i; proposal = refl; yes = refl; still = λ k. k }
  body_was (Propose slot) ballots b i = record { old = b; inside = i; proposal = refl; yes = refl; still = λ k. k }
  body_was (Commit p) ballots b i = closed_was p true ballots b i
  body_was (Abort p) ballots b i = closed_was p false ballots b i

  same_after : (p : DotValue) (change : Ballot → Ballot) (ballots : List Ballot)
      → ((b : Ballot) → (change b).proposal ≡ b.proposal)
      → ((b c : Ballot) → In b ballots → In c ballots → b.proposal ≡ c.proposal → b ≡ c)
      → (b c : Ballot) → In b (revise p change ballots) → In c (revise p change ballots) → b.proposal ≡ c.proposal
      → b ≡ c
  same_after p change ballots keeps one b c i j e =
      let f : Ballot → Ballot = λ (z : Ballot). cond (is_on p z) (change z) z in
      let m = map_In f b ballots i in
      let k = map_In f c ballots j in
      let same : m.0 ≡ k.0 =
      one m.0 k.0 m.1 k.1
      (sym (name (is_on p m.0) m.0)
      ∙ (ap (λ (z : Ballot). z.proposal) (sym m.2)
      ∙ (e ∙ (ap (λ (z : Ballot). z.proposal) k.2 ∙ name (is_on p k.0) k.0)))) in
      m.2 ∙ (ap f same ∙ sym k.2)
    where
      name : (t : Bool) (z : Ballot) → (cond t (change z) z).proposal ≡ z.proposal
      name true z = keeps z
      name false z = refl

  body_same : (body : Body) (ballots : List Ballot)
      → ((b c : Ballot) → In b ballots → In c ballots → b.proposal ≡ c.proposal → b ≡ c) → (b c : Ballot)
      → In b (ballots_after body ballots) → In c (ballots_after body ballots) → b.proposal ≡ c.proposal → b ≡ c
  body_same (Insert slot run) ballots one b c i j e = one b c i j e
  body_same (Delete target) ballots one b c i j e = one b c i j e
  body_same (Propose slot) ballots one b c i j e = one b c i j e
  body_same (Commit p) ballots one b c i j e = same_after p (close true) ballots (λ z. refl) one b c i j e
  body_same (Abort p) ballots one b c i j e = same_after p (close false) ballots (λ z. refl) one b c i j e

  voters_same : (b c : Ballot) → b.proposal ≡ c.proposal → b.yes ≡ c.yes → Voters c → Voters b
  voters_same b c e f v =
      record {
        apart = subst (λ (t : List ℕ). Successive Differ t) (sym f) v.apart;
        from = λ k i. let h = v.from k (subst (λ (t : List ℕ). In k t) f i) in (
          h.0,
          h.1,
          ⊎_elim (λ z. inl z) (λ (z : Yes k c.proposal). inr (subst (λ (p : DotValue). Yes k p) (sym e) z)) h.2,
        );
      }

  -- a decision made here closes the ballots of its proposal
  decided_closed : (p : DotValue) (d : Bool) (body : Body) (ballots : List Ballot) → decides p body ≡ Some d
      → (b : Ballot) → In b (ballots_after body ballots) → b.proposal ≡ p → is_open b ≡ false
  decided_closed p d (Insert slot run) ballots e b i f = absurd cc
  decided_closed p d (Delete target) ballots e b i f = absurd cc
  decided_closed p d (Propose slot) ballots e b i f = absurd cc
  decided_closed p d (Commit q) ballots e b i f = at (same_dot q p) refl e (is_open b) refl
    where
      at : (t : Bool) → same_dot q p ≡ t → cond t (Some true) None ≡ Some d → (o : Bool) → is_open b ≡ o
          → is_open b ≡ false
      at false g h o k = absurd cc
      at true g h false k = k
      at true g h true k =
          absurd (true≢false
          (sym (ap (λ (z : DotValue). same_dot z q) (f ∙ sym (same_dot_true q p g)) ∙ same_dot_refl q)
          ∙ (closed_in q true ballots b i k).1))
  decided_closed p d (Abort q) ballots e b i f = at (same_dot q p) refl e (is_open b) refl
    where
      at : (t : Bool) → same_dot q p ≡ t → cond t (Some false) None ≡ Some d → (o : Bool) → is_open b ≡ o
          → is_open b ≡ false
      at false g h o k = absurd cc
      at true g h false k = k
      at true g h true k =
          absurd (true≢false
          (sym (ap (λ (z : DotValue). same_dot z q) (f ∙ sym (same_dot_true q p g)) ∙ same_dot_refl q)
          ∙ (closed_in q false ballots b i k).1))

  -- what is known of an operation that is done
  pub record NewOp (x : OpValue) (log : List OpValue) : Type 0 where
    pub commit : (p : DotValue) → x.dot.site ≡ site → x.body ≡ Commit p → AllYes p
    pub first : (p : DotValue) (d : Bool) → x.dot.site ≡ site → decides p x.body ≡ Some d → (y : OpValue) (e : Bool)
        → In y log → y.dot.site ≡ site → decides p y.body ≡ Some e → ⊥

  pub core_done : (x : OpValue) (log : List OpValue) (holds : List Hold) (ballots : List Ballot) (sent : List Message)
      → NewOp x log → ((slot : Slot) → x.dot.site ≡ site → x.body ≡ Propose slot → ⊥) → Core log holds ballots sent
      → Core (x ∷ log) (holds_after x.body holds) (ballots_after x.body ballots) sent
  core_done x log holds ballots sent w no_own s =
      record {
        voters = λ b i. let o = body_was x.body ballots b i in
            voters_same b o.old o.proposal o.yes (s.voters o.old o.inside);
        one_ballot = body_same x.body ballots s.one_ballot;
        known = λ b i. let o = body_was x.body ballots b i in let k = s.known o.old o.inside in
            (k.0, inr k.1, k.2 ∙ sym o.proposal);
        commits =
            λ y p i own e. ⊎_elim
            (λ (q : y ≡ x). w.commit p (ap (λ (z : OpValue). z.dot.site) (sym q) ∙ own)
            (ap (λ (z : OpValue). z.body) (sym q) ∙ e)) (λ (j : In y log). s.commits y p j own e) i;
        closed = λ y p d i own e b j f. ⊎_elim
            (λ (q : y ≡ x). decided_closed p d x.body ballots (ap (λ (z : OpValue). decides p z.body) (sym q) ∙ e) b j
            f)
            (λ (k : In y log). let o = body_was x.body ballots b j in
            o.still (s.closed y p d k own e o.old o.inside (sym o.proposal ∙ f))) i;
        once = λ y z p d e i j a b f g. both y z p d e i j a b f g;
        open_yes = λ v i y. open_after x log holds v.proposal (s.open_yes v i y);
        open_own =
            λ q slot i own e. ⊎_elim
            (λ (k : q ≡ x). absurd
            (no_own slot (ap (λ (z : OpValue). z.dot.site) (sym k) ∙ own) (ap (λ (z : OpValue). z.body) (sym k) ∙ e)))
            (λ (j : In q log). open_after x log holds q.dot (s.open_own q slot j own e)) i;
        one_vote = s.one_vote;
      }
    where
      both : (y z : OpValue) (p : DotValue) (d e : Bool) → In y (x ∷ log) → In z (x ∷ log) → y.dot.site ≡ site
          → z.dot.site ≡ site → decides p y.body ≡ Some d → decides p z.body ≡ Some e → y ≡ z
      both y z p d e (inl i) (inl j) a b f g = i ∙ sym j
      both y z p d e (inl i) (inr j) a b f g =
          absurd (w.first p d (ap (λ (t : OpValue). t.dot.site) (sym i) ∙ a)
          (ap (λ (t : OpValue). decides p t.body) (sym i) ∙ f) z e j b g)
      both y z p d e (inr i) (inl j) a b f g =
          absurd (w.first p e (ap (λ (t : OpValue). t.dot.site) (sym j) ∙ b)
          (ap (λ (t : OpValue). decides p t.body) (sym j) ∙ g) y d i a f)
      both y z p d e (inr i) (inr j) a b f g = s.once y z p d e i j a b f g

  -- ---- other things that a step does

  old_vote : (sent : List Message) (x : OpValue) (v : Vote) → In (AVote v) (sent ++ AnOp x ∷ []) → In (AVote v) sent
  old_vote sent x v i =
      ⊎_elim (λ j. j)
      (λ (j : In (AVote v) (AnOp x ∷ [])). ⊎_elim (λ (e : AVote v ≡ AnOp x). absurd (no_vote e)) (λ k. absurd k) j)
      (In-append (AVote v) sent (AnOp x ∷ []) i)
    where
      no_vote : AVote v ≡ AnOp x → ⊥
      no_vote e = cc

  pub core_send : (x : OpValue) (log : List OpValue) (holds : List Hold) (ballots : List Ballot) (sent : List Message)
      → Core log holds ballots sent → Core log holds ballots (sent ++ AnOp x ∷ [])
  core_send x log holds ballots sent s =
      record {
        voters = s.voters;
        one_ballot = s.one_ballot;
        known = s.known;
        commits = s.commits;
        closed = s.closed;
        once = s.once;
        open_yes = λ v i y. s.open_yes v (old_vote sent x v i) y;
        open_own = s.open_own;
        one_vote = λ u v i j e. s.one_vote u v (old_vote sent x u i) (old_vote sent x v j) e;
      }

  open_more : (log : List OpValue) (h : Hold) (holds : List Hold) (p : DotValue) → Open log holds p
      → Open log (h ∷ holds) p
  open_more log h holds p (inl e) = inl (or_right (is_of p h) _ e)
  open_more log h holds p (inr d) = inr d

  pub core_hold : (h : Hold) (log : List OpValue) (holds : List Hold) (ballots : List Ballot) (sent : List Message)
      → Core log holds ballots sent → Core log (h ∷ holds) ballots sent
  core_hold h log holds ballots sent s =
      record {
        voters = s.voters;
        one_ballot = s.one_ballot;
        known = s.known;
        commits = s.commits;
        closed = s.closed;
        once = s.once;
        open_yes = λ v i y. open_more log h holds v.proposal (s.open_yes v i y);
        open_own = λ q slot i own e. open_more log h holds q.dot (s.open_own q slot i own e);
        one_vote = s.one_vote;
      }

  pub core_vote : (u : Vote) (log : List OpValue) (holds : List Hold) (ballots : List Ballot) (sent : List Message)
      → (u.yes ≡ true → Open log holds u.proposal) → ((v : Vote) → In (AVote v) sent → v.proposal ≡ u.proposal → ⊥)
      → Core log holds ballots sent → Core log holds ballots (sent ++ AVote u ∷ [])
  core_vote u log holds ballots sent opens new s =
      record {
        voters = s.voters;
        one_ballot = s.one_ballot;
        known = s.known;
        commits = s.commits;
        closed = s.closed;
        once = s.once;
        open_yes = λ v i y. ⊎_elim (λ (j : In (AVote v) sent). s.open_yes v j y)
            (λ (e : v ≡ u). subst (λ (z : Vote). Open log holds z.proposal) (sym e)
            (opens (ap (λ (z : Vote). z.yes) (sym e) ∙ y))) (which v i);
        open_own = s.open_own;
        one_vote = λ a b i j e. both a b (which a i) (which b j) e;
      }
    where
      same : (a b : Vote) → AVote a ≡ AVote b → a ≡ b
      same a b e = cc

      which : (v : Vote) → In (AVote v) (sent ++ AVote u ∷ []) → In (AVote v) sent ⊎ (v ≡ u)
      which v i =
          ⊎_elim (λ j. inl j)
          (λ (j : In (AVote v) (AVote u ∷ [])). ⊎_elim (λ (e : AVote v ≡ AVote u). inr (same v u e))
          (λ k. absurd k) j) (In-append (AVote v) sent (AVote u ∷ []) i)

      both : (a b : Vote) → In (AVote a) sent ⊎ (a ≡ u) → In (AVote b) sent ⊎ (b ≡ u) → a.proposal ≡ b.proposal
          → a ≡ b
      both a b (inl i) (inl j) e = s.one_vote a b i j e
      both a b (inl i) (inr q) e = absurd (new a i (e ∙ ap (λ (z : Vote). z.proposal) q))
      both a b (inr p) (inl j) e = absurd (new b j (sym e ∙ ap (λ (z : Vote). z.proposal) p))
      both a b (inr p) (inr q) e = p ∙ sym q

  -- a vote is counted that was not counted before
  pub core_count : (v : Vote) (b : Ballot) (log : List OpValue) (holds : List Hold) (ballots : List Ballot)
      (sent : List Message) → In b ballots → b.proposal ≡ v.proposal → is_counted v.voter b ≡ false
      → (v.yes ≡ true → (0 < v.voter) × (v.voter ≤ n) × ((v.voter ≡ site) ⊎ Yes v.voter v.proposal))
      → Core log holds ballots sent → Core log holds (revise v.proposal (counted v.voter v.yes) ballots) sent
  core_count v b log holds ballots sent ib pb fresh from s =
      record {
        voters = λ z i. let m =
            map_In (λ (y : Ballot). cond (is_on v.proposal y) (counted v.voter v.yes y) y) z ballots i in
            voters_of z m.0 m.1 (is_on v.proposal m.0) refl m.2;
        one_ballot = same_after v.proposal (counted v.voter v.yes) ballots (name v.yes) s.one_ballot;
        known = λ z i. let m =
            map_In (λ (y : Ballot). cond (is_on v.proposal y) (counted v.voter v.yes y) y) z ballots i in
            let k = s.known m.0 m.1 in
            (k.0, k.1, k.2 ∙ sym (ap (λ (y : Ballot). y.proposal) m.2 ∙ names (is_on v.proposal m.0) m.0));
        commits = s.commits;
        closed = λ x p d i own e z j f. let m =
            map_In (λ (y : Ballot). cond (is_on v.proposal y) (counted v.voter v.yes y) y) z ballots j in
            ap is_open m.2
            ∙ (opened (is_on v.proposal m.0) m.0
            ∙ s.closed x p d i own e m.0 m.1
            (sym (ap (λ (y : Ballot). y.proposal) m.2 ∙ names (is_on v.proposal m.0) m.0) ∙ f));
        once = s.once;
        open_yes = s.open_yes;
        open_own = s.open_own;
        one_vote = s.one_vote;
      }
    where
      name : (says : Bool) (z : Ballot) → (counted v.voter says z).proposal ≡ z.proposal
      name true z = refl
      name false z = refl

      names : (t : Bool) (z : Ballot) → (cond t (counted v.voter v.yes z) z).proposal ≡ z.proposal
      names true z = name v.yes z
      names false z = refl

      open_one : (says : Bool) (z : Ballot) → is_open (counted v.voter says z) ≡ is_open z
      open_one true z = refl
      open_one false z = refl

      opened : (t : Bool) (z : Ballot) → is_open (cond t (counted v.voter v.yes z) z) ≡ is_open z
      opened true z = open_one v.yes z
      opened false z = refl

      voters_of : (z old : Ballot) → In old ballots → (t : Bool) → is_on v.proposal old ≡ t
          → z ≡ cond t (counted v.voter v.yes old) old → Voters z
      voters_of z old j false f e = subst (λ (y : Ballot). Voters y) (sym e) (s.voters old j)
      voters_of z old j true f e = says v.yes refl e
        where
          same : old ≡ b
          same = s.one_ballot old b j ib (same_dot_true old.proposal v.proposal f ∙ sym pb)

          says : (y : Bool) → v.yes ≡ y → z ≡ counted v.voter y old → Voters z
          says false g h = subst (λ (y : Ballot). Voters y) (sym h) (s.voters old j)
          says true g h =
              let old_voters = s.voters old j in
              let none : list_any (nat_eq v.voter) old.yes ≡ false =
              (or_parts (is_some old.decision) (list_any (nat_eq v.voter) old.yes)
              (ap (is_counted v.voter) same ∙ fresh)).1 in
              let w = from g in
              subst (λ (y : Ballot). Voters y) (sym h)
              (record {
                apart = (
                  all_of (Differ v.voter) old.yes
                      (λ k i q. true≢false (sym (eq-eqb v.voter k q) ∙ any_none (nat_eq v.voter) old.yes k none i)),
                  old_voters.apart,
                );
                from = λ k i. ⊎_elim
                    (λ (q : k ≡ v.voter). subst (λ (t : ℕ). (0 < t) × (t ≤ n) × ((t ≡ site) ⊎ Yes t old.proposal))
                    (sym q) (
                      w.0,
                      w.1,
                      ⊎_elim (λ z. inl z)
                          (λ (z : Yes v.voter v.proposal). inr
                          (subst (λ (p : DotValue). Yes v.voter p) (sym (same_dot_true old.proposal v.proposal f)) z))
                          w.2,
                    )) (λ (q : In k old.yes). old_voters.from k q) i;
              })

  -- an own proposal is made, held and opened
  pub core_propose : (x : OpValue) (slot : Slot) (log : List OpValue) (holds : List Hold) (ballots : List Ballot)
      (sent : List Message) → 0 < site → site ≤ n → x.dot.site ≡ site → x.body ≡ Propose slot
      → ((y : OpValue) → In y log → y.dot ≡ x.dot → ⊥)
      → ((y : OpValue) (d : Bool) → In y log → decides x.dot y.body ≡ Some d → ⊥) → Core log holds ballots sent
      → Core (x ∷ log) ((record { proposal = x.dot; slot = slot }) ∷ holds) (new_ballot x.dot ∷ ballots) sent
  core_propose x slot log holds ballots sent some within here body new undecided s =
      record {
        voters = λ b i. ⊎_elim (λ (e : b ≡ new_ballot x.dot). subst (λ (z : Ballot). Voters z) (sym e) own_voters)
            (λ (j : In b ballots). s.voters b j) i;
        one_ballot = both;
        known = λ b i. ⊎_elim (λ (e : b ≡ new_ballot x.dot). (x, inl refl, ap (λ (z : Ballot). z.proposal) (sym e)))
            (λ (j : In b ballots). let k = s.known b j in (k.0, inr k.1, k.2)) i;
        commits =
            λ y p i own e. ⊎_elim
            (λ (q : y ≡ x). absurd (no_commit p (sym body ∙ (ap (λ (z : OpValue). z.body) (sym q) ∙ e))))
            (λ (j : In y log). s.commits y p j own e) i;
        closed = λ y p d i own e b j f. ⊎_elim
            (λ (q : y ≡ x). absurd
            (no_decision p d (sym (ap (decides p) body) ∙ (ap (λ (z : OpValue). decides p z.body) (sym q) ∙ e))))
            (λ (k : In y log). ⊎_elim
            (λ (g : b ≡ new_ballot x.dot). absurd
            (undecided y d k
            (ap (λ (z : DotValue). decides z y.body) (ap (λ (z : Ballot). z.proposal) (sym g) ∙ f) ∙ e)))
            (λ (g : In b ballots). s.closed y p d k own e b g f) j) i;
        once = λ y z p d e i j a b f g. ⊎_elim
            (λ (q : y ≡ x). absurd
            (no_decision p d (sym (ap (decides p) body) ∙ (ap (λ (t : OpValue). decides p t.body) (sym q) ∙ f))))
            (λ (k : In y log). ⊎_elim
            (λ (q : z ≡ x). absurd
            (no_decision p e (sym (ap (decides p) body) ∙ (ap (λ (t : OpValue). decides p t.body) (sym q) ∙ g))))
            (λ (m : In z log). s.once y z p d e k m a b f g) j) i;
        open_yes = λ v i y. later v.proposal (s.open_yes v i y);
        open_own =
            λ q t i own e. ⊎_elim
            (λ (k : q ≡ x). inl
            (or_left (is_of q.dot (record { proposal = x.dot; slot = slot })) _
            (subst (λ (z : OpValue). same_dot x.dot z.dot ≡ true) (sym k) (same_dot_refl x.dot))))
            (λ (j : In q log). later q.dot (s.open_own q t j own e)) i;
        one_vote = s.one_vote;
      }
    where
      no_commit : (p : DotValue) → Propose slot ≡ Commit p → ⊥
      no_commit p e = cc

      no_decision : (p : DotValue) (d : Bool) → None ≡ Some d → ⊥
      no_decision p d e = cc

      later : (p : DotValue) → Open log holds p
          → Open (x ∷ log) ((record { proposal = x.dot; slot = slot }) ∷ holds) p
      later p (inl e) = inl (or_right (is_of p (record { proposal = x.dot; slot = slot })) _ e)
      later p (inr (y, d, i, e)) = inr (y, d, inr i, e)

      own_voters : Voters (new_ballot x.dot)
      own_voters =
          record {
            apart = (tt, tt);
            from =
                λ k i. ⊎_elim (λ (e : k ≡ x.dot.site). let q : k ≡ site = e ∙ here in
                (subst (λ (t : ℕ). 0 < t) (sym q) some, subst (λ (t : ℕ). t ≤ n) (sym q) within, inl q))
                (λ j. absurd j) i;
          }

      both : (b c : Ballot) → In b (new_ballot x.dot ∷ ballots) → In c (new_ballot x.dot ∷ ballots)
          → b.proposal ≡ c.proposal → b ≡ c
      both b c (inl i) (inl j) e = i ∙ sym j
      both b c (inl i) (inr j) e = let k = s.known c j in
          absurd (new k.0 k.1 (k.2 ∙ (sym e ∙ ap (λ (z : Ballot). z.proposal) i)))
      both b c (inr i) (inl j) e = let k = s.known b i in
          absurd (new k.0 k.1 (k.2 ∙ (e ∙ ap (λ (z : Ballot). z.proposal) j)))
      both b c (inr i) (inr j) e = s.one_ballot b c i j e
