-- The one induction over machines. What a machine has at the start, and keeps in each step, it has after each legal
-- history; and what a site of a consistent family keeps, where each message may come to it, it has at every moment.
use Rattle.std.proofs.Common.{◌≡◌, ◌≢◌, ◌<◌, ◌≤◌, ◌++◌, ℕ, List, [], ◌∷◌, length, refl, sym}
use Rattle.std.proofs.Common.{ap, ◌∙◌, subst, append-nil, append_assoc}
use Rattle.td_base.specs.declared.site.TheConstants.{MAX_SITE}
use Rattle.td_base.specs.Lists.{In}
use Rattle.td_op.specs.declared.entry.Entry.{Entry}
use Rattle.td_op.specs.declared.input.Input.{Input}
use Rattle.td_op.specs.declared.input.Input.TheVariants.{Take}
use Rattle.td_op.specs.declared.message.Message.{Message}
use Rattle.td_op.specs.Input.{IsInput}
use Rattle.td_op.specs.Op.{OpValue}
use Rattle.td_machine.specs.Machine.{Machine, start}
use Rattle.td_machine.specs.Step.{step}
use Rattle.td_machine.specs.History.{History, Family, Moment, after, history, machine, machine_after, machine_at}
use Rattle.td_machine.specs.History.{log_of, IsLegalFrom, IsReached, IsConsistent, IsAddressed, MayCome}
use Rattle.td_op.specs.Message.{sender}
use Rattle.td_machine.specs.Parts.{Anything, IsBuilt, Begins}
use Rattle.td_machine.proofs.Walk.{built_step, step_grows}

-- ---- histories

pub after_both : (m : Machine) (front back : History) → after m (front ++ back) ≡ after (after m front) back
after_both m [] back = refl
after_both m (e ∷ front) back = after_both (step m e.input).machine front back

pub legal_both : (m : Machine) (front back : History) → IsLegalFrom m front → IsLegalFrom (after m front) back
    → IsLegalFrom m (front ++ back)
legal_both m [] back l k = k
legal_both m (e ∷ front) back l k = (l.0, l.1, legal_both (step m e.input).machine front back l.2 k)

legal_front : (m : Machine) (front back : History) → IsLegalFrom m (front ++ back) → IsLegalFrom m front
legal_front m [] back l = tt
legal_front m (e ∷ front) back l = (l.0, l.1, legal_front (step m e.input).machine front back l.2)

legal_back : (m : Machine) (front back : History) → IsLegalFrom m (front ++ back) → IsLegalFrom (after m front) back
legal_back m [] back l = l
legal_back m (e ∷ front) back l = legal_back (step m e.input).machine front back l.2

pub reached_start : (site size : ℕ) → 0 < site → site ≤ size → size ≤ MAX_SITE → IsReached (start site size)
reached_start site size some within few =
    record { site = site; size = size; some = some; within = within; few = few; entries = []; legal = tt; is = refl }

pub reached_step : (m : Machine) (input : Input) → IsReached m → IsInput input → IsReached (step m input).machine
reached_step m input r valid =
    let e : Entry = record { input = input; reply = (step m input).reply } in
    let begin : Machine = start r.site r.size in
    record {
      site = r.site;
      size = r.size;
      some = r.some;
      within = r.within;
      few = r.few;
      entries = r.entries ++ e ∷ [];
      legal = legal_both begin r.entries (e ∷ []) r.legal
          (subst (λ (n : Machine). IsLegalFrom n (e ∷ [])) r.is (valid, refl, tt));
      is = ap (λ (n : Machine). (step n input).machine) r.is ∙ sym (after_both begin r.entries (e ∷ []));
    }

-- the start has it, each step keeps it, so each legal history has it
pub by_steps : (P : Machine → Type 0)
    → ((site size : ℕ) → 0 < site → site ≤ size → size ≤ MAX_SITE → P (start site size))
    → ((m : Machine) (input : Input) → IsReached m → IsInput input → P m → P (step m input).machine)
    → (m : Machine) → IsReached m → P m
by_steps P begins keeps m r =
    subst (λ (n : Machine). P n) (sym r.is)
    (onward (start r.site r.size) (reached_start r.site r.size r.some r.within r.few)
    (begins r.site r.size r.some r.within r.few) r.entries r.legal)
  where
    onward : (n : Machine) → IsReached n → P n → (entries : History) → IsLegalFrom n entries → P (after n entries)
    onward n q h [] legal = h
    onward n q h (e ∷ entries) legal =
        onward (step n e.input).machine (reached_step n e.input q legal.0) (keeps n e.input q legal.0 h) entries legal.2

-- so each machine that is reached is built of parts
pub record IsBuiltSomewhere (m : Machine) : Type 0 where
  pub site : ℕ
  pub size : ℕ
  pub built : IsBuilt Anything site size m

pub built_of : (m : Machine) → IsReached m → IsBuiltSomewhere m
built_of =
    by_steps (λ (m : Machine). IsBuiltSomewhere m)
    (λ site size some within few. record { site = site; size = size; built = Begins some within })
    (λ m input r valid b.
    record { site = b.site; size = b.size; built = built_step m input valid (λ message e. tt) b.built })

-- ---- moments

-- an input that a site of the family is given at its machine m
pub record IsGiven (family : Family) (site : ℕ) (m : Machine) (input : Input) : Type 0 where
  pub valid : IsInput input
  pub came : (message : Message) → input ≡ Take message → MayCome family site m message

-- what is known of a message that comes, whatever the moment
pub record IsSent (family : Family) (site : ℕ) (message : Message) : Type 0 where
  pub another : sender message ≢ site
  pub sent : In message (machine family (sender message)).sent
  pub addressed : IsAddressed site message

pub sent_of : (family : Family) (site : ℕ) (m : Machine) (message : Message) → MayCome family site m message
    → IsSent family site message
sent_of family site m message may = record { another = may.another; sent = may.sent; addressed = may.addressed }

-- the last moment of a site
abbrev pub the_end : (family : Family) (site : ℕ) → 0 < site → site ≤ length family → Moment family
the_end family site some within =
    record {
      site = site;
      some = some;
      within = within;
      front = history family site;
      back = [];
      splits = sym (append-nil (history family site));
    }

abbrev Grown : List OpValue → Machine → Type 0
Grown log m = (newer : List OpValue) × (m.log ≡ newer ++ log)

grown : (log : List OpValue) (m n : Machine) → Grown log m → Grown m.log n → Grown log n
grown log m n h k = (k.0 ++ h.0, k.1 ∙ ap (λ (l : List OpValue). k.0 ++ l) h.1 ∙ sym (append_assoc k.0 h.0 log))

module _ (family : Family) (c : IsConsistent family) where
  legal_at : (t : Moment family) → IsLegalFrom (start t.site (length family)) (t.front ++ t.back)
  legal_at t =
      subst (λ (h : History). IsLegalFrom (start t.site (length family)) h) t.splits
      (c.legal.legal t.site t.some t.within)

  given : (site : ℕ) → 0 < site → site ≤ length family → (front : History) (e : Entry) (back : History)
      → history family site ≡ front ++ e ∷ back → IsGiven family site (machine_after family site front) e.input
  given site some within front e back is =
      record {
        valid = (legal_back (start site (length family)) front (e ∷ back)
            (subst (λ (h : History). IsLegalFrom (start site (length family)) h) is
            (c.legal.legal site some within))).0;
        came = λ message k. c.takes site front e back message some within is k;
      }

  -- what a site has at a moment, and keeps in each step on what it may be given, it has at each later one
  pub from_then : (site : ℕ) → 0 < site → site ≤ length family → (P : Machine → Type 0)
      → ((front : History) (input : Input) → IsGiven family site (machine_after family site front) input
      → P (machine_after family site front) → P (step (machine_after family site front) input).machine)
      → (front back rest : History) → history family site ≡ front ++ (back ++ rest)
      → P (machine_after family site front) → P (machine_after family site (front ++ back))
  from_then site some within P keeps front [] rest is h =
      subst (λ (f : History). P (machine_after family site f)) (sym (append-nil front)) h
  from_then site some within P keeps front (e ∷ back) rest is h =
      let next : history family site ≡ (front ++ e ∷ []) ++ (back ++ rest) =
      is ∙ sym (append_assoc front (e ∷ []) (back ++ rest)) in
      subst (λ (f : History). P (machine_after family site f)) (append_assoc front (e ∷ []) back)
      (from_then site some within P keeps (front ++ e ∷ []) back rest next
      (subst (λ (n : Machine). P n) (sym (after_both (start site (length family)) front (e ∷ [])))
      (keeps front e.input (given site some within front e (back ++ rest) is) h)))

  -- at every moment, so
  pub by_moments : (P : ℕ → Machine → Type 0)
      → ((site : ℕ) → 0 < site → site ≤ length family → P site (start site (length family)))
      → ((site : ℕ) (front : History) (input : Input) → IsGiven family site (machine_after family site front) input
      → P site (machine_after family site front) → P site (step (machine_after family site front) input).machine)
      → (t : Moment family) → P t.site (machine_at family t)
  by_moments P begins keeps t =
      from_then t.site t.some t.within (P t.site) (keeps t.site) [] t.front t.back t.splits
      (begins t.site t.some t.within)

  -- at each moment the machine of a site is reached, and built of parts
  pub reached_at : (t : Moment family) → IsReached (machine_at family t)
  reached_at t =
      record {
        site = t.site;
        size = length family;
        some = t.some;
        within = t.within;
        few = c.legal.few;
        entries = t.front;
        legal = legal_front (start t.site (length family)) t.front t.back (legal_at t);
        is = refl;
      }

  pub built_at : (t : Moment family) → IsBuilt (IsSent family t.site) t.site (length family) (machine_at family t)
  built_at =
      by_moments (λ (site : ℕ) (m : Machine). IsBuilt (IsSent family site) site (length family) m)
      (λ site some within. Begins some within)
      (λ site front input g b.
      built_step (machine_after family site front) input g.valid
      (λ message e. sent_of family site (machine_after family site front) message (g.came message e)) b)

  -- the log of a moment is the older part of that of the end
  pub log_grows : (t : Moment family)
      → (newer : List OpValue) × (log_of family t.site ≡ newer ++ (machine_at family t).log)
  log_grows t =
      let log : List OpValue = (machine_at family t).log in
      let q = from_then t.site t.some t.within
      (λ (m : Machine). IsBuilt (IsSent family t.site) t.site (length family) m × Grown log m)
      (λ front input g h.
      let m : Machine = machine_after family t.site front in
      let came : (message : Message) → input ≡ Take message → IsSent family t.site message =
      λ message e. sent_of family t.site m message (g.came message e) in
      let more = step_grows m input g.valid came h.0 in
      (built_step m input g.valid came h.0, grown log m (step m input).machine h.1 more))
      t.front t.back [] (t.splits ∙ ap (λ (h : History). t.front ++ h) (sym (append-nil t.back)))
      (built_at t, ([], refl)) in
      subst (λ (h : History). Grown log (machine_after family t.site h)) (sym t.splits) q.1
