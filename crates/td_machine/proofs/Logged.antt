-- What is in a log was made or taken by an entry.
use Rattle.std.specs.Prelude.{◌↔◌, drop}
use Rattle.std.proofs.Common.{◌≡◌, ◌⊎◌, ◌++◌, ℕ, List, [], ◌∷◌, Bool, true, false, not, if◌then◌else◌}
use Rattle.std.proofs.Common.{◌||◌, nat_eq, nat_lt, length, Option, Some, None, refl, sym, ap, ◌∙◌}
use Rattle.std.proofs.Common.{subst, inl, inr, ⊎_elim, append-nil, append_assoc}
use Rattle.std.specs.List.{find}
use Rattle.std.proofs.Math.Seq.{drop-append_seam}
use Rattle.td_base.specs.Value.{DotValue}
use Rattle.td_base.specs.Lists.{In}
use Rattle.td_base.proofs.Lists.{In-append, In-front, In-back}
use Rattle.td_base.proofs.Elements.{either}
use Rattle.td_clock.specs.Vector.{vector_get}
use Rattle.td_path.specs.declared.slot.Slot.{Slot}
use Rattle.td_op.specs.declared.body.Body.{Body}
use Rattle.td_op.specs.declared.body.Body.TheVariants.{Insert, Delete, Propose, Commit, Abort}
use Rattle.td_op.specs.declared.entry.Entry.{Entry}
use Rattle.td_op.specs.declared.input.Input.{Input}
use Rattle.td_op.specs.declared.input.Input.TheVariants.{Local, Take, Next}
use Rattle.td_op.specs.declared.message.Message.{Message}
use Rattle.td_op.specs.declared.message.Message.TheVariants.{Op as AnOp, Vote as AVote}
use Rattle.td_op.specs.declared.request.Request.{Request}
use Rattle.td_op.specs.declared.reply.Reply.{Reply}
use Rattle.td_op.specs.declared.reply.Reply.TheVariants.{Made, Limit, New, Later, Repeat, Unfit, Taken, Dropped, Idle}
use Rattle.td_op.specs.declared.reply.Why.{Why}
use Rattle.td_op.specs.declared.reply.Why.TheVariants.{Size, Own, Address}
use Rattle.td_op.specs.declared.vote.Vote.{Vote}
use Rattle.td_op.specs.Op.{OpValue}
use Rattle.td_machine.specs.Ready.{is_had, is_ready, next_ready, waits}
use Rattle.td_machine.specs.Log.{proposed}
use Rattle.td_machine.specs.Decision.{Ballot, is_on, is_counted, counted, outcome, revise, new_ballot}
use Rattle.td_machine.specs.Machine.{Machine, start, made, undecided, next_dot, next_op}
use Rattle.td_machine.specs.Making.{done, make, decide}
use Rattle.td_machine.specs.Taking.{Stepped, stepped, misfit, answer, vote_on, take_as, take, keep_waiting, fit_step}
use Rattle.td_machine.specs.Taking.{op_step, count, ballot_step, vote_step, forget, waited, next_of}
use Rattle.td_machine.specs.Request.{Aim, Refuse, Do, GiveUp, aim, is_past_limit, attempt_step, aim_step, perform}
use Rattle.td_machine.specs.Step.{step}
use Rattle.td_machine.specs.History.{History, IsLegal, IsLegalFrom, after}
use Rattle.td_machine.specs.Logged.{IsLogged, MakesOp, TakesOp, ResumesOp}
use Rattle.td_machine.specs.Parts.{proposed_here}

-- ---- what is made is sent

-- the operations that one machine has more than another, and the messages, are the same operations
record Adds (m n : Machine) : Type 0 where
  ops : List OpValue
  log : n.log ≡ ops ++ m.log
  more : List Message
  sent : n.sent ≡ m.sent ++ more
  to : (x : OpValue) → In x ops → In (AnOp x) more
  from : (x : OpValue) → In (AnOp x) more → In x ops

adds_none : (m n : Machine) → n.log ≡ m.log → n.sent ≡ m.sent → Adds m n
adds_none m n log sent =
    record {
      ops = [];
      log = log;
      more = [];
      sent = sent ∙ sym (append-nil m.sent);
      to = λ x i. absurd i;
      from = λ x i. absurd i;
    }

op_same : (x y : OpValue) → AnOp x ≡ AnOp y → x ≡ y
op_same x y e = cc

adds_made : (body : Body) (m n : Machine) → Adds m n → Adds m (make body n)
adds_made body m n a =
    record {
      ops = next_op n body ∷ a.ops;
      log = ap (λ (l : List OpValue). next_op n body ∷ l) a.log;
      more = a.more ++ AnOp (next_op n body) ∷ [];
      sent = ap (λ (l : List Message). l ++ AnOp (next_op n body) ∷ []) a.sent
          ∙ append_assoc m.sent a.more (AnOp (next_op n body) ∷ []);
      to = λ x i.
          ⊎_elim
          (λ (e : x ≡ next_op n body).
          In-back (AnOp x) a.more (AnOp (next_op n body) ∷ []) (inl (ap (λ (y : OpValue). AnOp y) e)))
          (λ (j : In x a.ops). In-front (AnOp x) a.more (AnOp (next_op n body) ∷ []) (a.to x j)) i;
      from = λ x i.
          ⊎_elim
          (λ (j : In (AnOp x) a.more). inr (a.from x j))
          (λ (j : In (AnOp x) (AnOp (next_op n body) ∷ [])).
          ⊎_elim (λ (e : AnOp x ≡ AnOp (next_op n body)). inl (op_same x (next_op n body) e))
          (λ (k : In (AnOp x) []). absurd k) j)
          (In-append (AnOp x) a.more (AnOp (next_op n body) ∷ []) i);
    }

adds_decided : (p : DotValue) (o : Option Bool) (m n : Machine) → Adds m n → Adds m (decide p o n)
adds_decided p None m n a = a
adds_decided p (Some true) m n a = adds_made (Commit p) m n a
adds_decided p (Some false) m n a = adds_made (Abort p) m n a

adds_performed : (body : Body) (m : Machine) → Adds m (perform body m)
adds_performed (Insert slot run) m = adds_made (Insert slot run) m m (adds_none m m refl refl)
adds_performed (Delete x) m = adds_made (Delete x) m m (adds_none m m refl refl)
adds_performed (Commit p) m = adds_made (Commit p) m m (adds_none m m refl refl)
adds_performed (Abort p) m = adds_made (Abort p) m m (adds_none m m refl refl)
adds_performed (Propose slot) m =
    let a = adds_made (Propose slot) m m (adds_none m m refl refl) in
    adds_decided (next_dot m) (outcome m.size true (new_ballot (next_dot m))) m (proposed_here slot m)
    (record { ops = a.ops; log = a.log; more = a.more; sent = a.sent; to = a.to; from = a.from })

-- one operation is taken, and no operation is sent
record AddsOne (x : OpValue) (m n : Machine) : Type 0 where
  log : n.log ≡ x ∷ m.log
  more : List Message
  sent : n.sent ≡ m.sent ++ more
  none : (y : OpValue) → In (AnOp y) more → ⊥

adds_taken : (o : Option Slot) (x : OpValue) (m n : Machine) → n.log ≡ m.log → n.sent ≡ m.sent
    → AddsOne x m (take_as o x n)
adds_taken None x m n log sent =
    record {
      log = ap (λ (l : List OpValue). x ∷ l) log;
      more = [];
      sent = sent ∙ sym (append-nil m.sent);
      none = λ y i. absurd i;
    }
adds_taken (Some slot) x m n log sent = at (vote_on x slot n)
  where
    no_vote : (v : Vote) (y : OpValue) → In (AnOp y) (AVote v ∷ []) → ⊥
    no_vote v y i = ⊎_elim (λ (e : AnOp y ≡ AVote v). absurd cc) (λ (j : In (AnOp y) []). absurd j) i

    at : (says : Bool) → AddsOne x m (answer x.dot slot says (done x n))
    at true =
        record {
          log = ap (λ (l : List OpValue). x ∷ l) log;
          more = AVote (record { proposal = x.dot; voter = n.site; yes = true }) ∷ [];
          sent = ap (λ (l : List Message). l ++ AVote (record { proposal = x.dot; voter = n.site; yes = true }) ∷ [])
              sent;
          none = no_vote (record { proposal = x.dot; voter = n.site; yes = true });
        }
    at false =
        record {
          log = ap (λ (l : List OpValue). x ∷ l) log;
          more = AVote (record { proposal = x.dot; voter = n.site; yes = false }) ∷ [];
          sent = ap (λ (l : List Message). l ++ AVote (record { proposal = x.dot; voter = n.site; yes = false }) ∷ [])
              sent;
          none = no_vote (record { proposal = x.dot; voter = n.site; yes = false });
        }

-- ---- one step

module _ (m : Machine) where
  abbrev IsPut : Input → Stepped → OpValue → Type 0
  IsPut input s x =
      In (AnOp x) (drop (length m.sent) s.machine.sent)
      ⊎ (((input ≡ Take (AnOp x)) × (s.reply ≡ New))
      ⊎ ((input ≡ Next) × (s.reply ≡ Taken x.dot) × (next_ready m.have m.waiting ≡ Some x)))

  abbrev PutsExactly : Input → Stepped → Type 0
  PutsExactly input s = (x : OpValue) → In x s.machine.log ↔ (In x m.log ⊎ IsPut input s x)

  sent_more : (n : Machine) (more : List Message) → n.sent ≡ m.sent ++ more → drop (length m.sent) n.sent ≡ more
  sent_more n more e = ap (λ (l : List Message). drop (length m.sent) l) e ∙ drop-append_seam m.sent more

  -- a step that takes none
  makes : (input : Input) (s : Stepped) → Adds m s.machine
      → ((x : OpValue) → input ≡ Take (AnOp x) → s.reply ≡ New → ⊥)
      → ((d : DotValue) → input ≡ Next → s.reply ≡ Taken d → ⊥) → PutsExactly input s
  makes input s a came went x = (to, from)
    where
      sent : drop (length m.sent) s.machine.sent ≡ a.more
      sent = sent_more s.machine a.more a.sent

      to : In x s.machine.log → In x m.log ⊎ IsPut input s x
      to i =
          ⊎_elim
          (λ (j : In x a.ops). inr (inl (subst (λ (l : List Message). In (AnOp x) l) (sym sent) (a.to x j))))
          (λ (j : In x m.log). inl j)
          (In-append x a.ops m.log (subst (λ (l : List OpValue). In x l) a.log i))

      from : In x m.log ⊎ IsPut input s x → In x s.machine.log
      from i =
          subst (λ (l : List OpValue). In x l) (sym a.log)
          (⊎_elim
          (λ (j : In x m.log). In-back x a.ops m.log j)
          (λ (k : IsPut input s x).
          ⊎_elim
          (λ (j : In (AnOp x) (drop (length m.sent) s.machine.sent)).
          In-front x a.ops m.log (a.from x (subst (λ (l : List Message). In (AnOp x) l) sent j)))
          (λ (j : ((input ≡ Take (AnOp x)) × (s.reply ≡ New))
          ⊎ ((input ≡ Next) × (s.reply ≡ Taken x.dot) × (next_ready m.have m.waiting ≡ Some x))).
          absurd
          (⊎_elim
          (λ (q : (input ≡ Take (AnOp x)) × (s.reply ≡ New)). came x q.0 q.1)
          (λ (q : (input ≡ Next) × (s.reply ≡ Taken x.dot) × (next_ready m.have m.waiting ≡ Some x)). went x.dot q.0
          q.1)
          j)) k)
          i)

  -- and one that takes this one
  takes : (input : Input) (s : Stepped) (x : OpValue) → AddsOne x m s.machine → IsPut input s x
      → ((y : OpValue) → input ≡ Take (AnOp y) → s.reply ≡ New → y ≡ x)
      → ((y : OpValue) → input ≡ Next → next_ready m.have m.waiting ≡ Some y → y ≡ x) → PutsExactly input s
  takes input s x a put came went y = (to, from)
    where
      to : In y s.machine.log → In y m.log ⊎ IsPut input s y
      to i =
          ⊎_elim
          (λ (e : y ≡ x). inr (subst (λ (z : OpValue). IsPut input s z) (sym e) put))
          (λ (j : In y m.log). inl j)
          (subst (λ (l : List OpValue). In y l) a.log i)

      from : In y m.log ⊎ IsPut input s y → In y s.machine.log
      from i =
          subst (λ (l : List OpValue). In y l) (sym a.log)
          (⊎_elim
          (λ (j : In y m.log). inr j)
          (λ (k : IsPut input s y).
          ⊎_elim
          (λ (j : In (AnOp y) (drop (length m.sent) s.machine.sent)).
          absurd (a.none y (subst (λ (l : List Message). In (AnOp y) l) (sent_more s.machine a.more a.sent) j)))
          (λ (j : ((input ≡ Take (AnOp y)) × (s.reply ≡ New))
          ⊎ ((input ≡ Next) × (s.reply ≡ Taken y.dot) × (next_ready m.have m.waiting ≡ Some y))).
          ⊎_elim
          (λ (q : (input ≡ Take (AnOp y)) × (s.reply ≡ New)). inl (came y q.0 q.1))
          (λ (q : (input ≡ Next) × (s.reply ≡ Taken y.dot) × (next_ready m.have m.waiting ≡ Some y)). inl
          (went y q.0 q.2))
          j) k)
          i)

  asked : (request : Request) (a : Aim) → PutsExactly (Local request) (aim_step a m)
  asked request a = makes (Local request) (aim_step a m) (adds a) (λ x e f. absurd cc) (λ d e f. absurd cc)
    where
      adds : (b : Aim) → Adds m (aim_step b m).machine
      adds (Refuse reply) = adds_none m m refl refl
      adds (GiveUp p) = adds_decided p (Some false) m m (adds_none m m refl refl)
      adds (Do b) = at b.held
        where
          at : (held : Option DotValue) → Adds m (attempt_step held b m).machine
          at (Some by_) = adds_none m m refl refl
          at None =
              either (λ (s : Stepped). Adds m s.machine) (is_past_limit b.room m)
              (stepped (Limit (made m) (undecided m)) m) (stepped (Made (next_dot m)) (perform b.body m))
              (λ g. adds_none m m refl refl) (λ g. adds_performed b.body m)

  came_op : (x : OpValue) → PutsExactly (Take (AnOp x)) (op_step x m)
  came_op x =
      let again : Bool = is_had m.have x || waits x.dot m.waiting in
      let own : Bool = nat_eq x.dot.site m.site || nat_lt (made m) (vector_get x.deps m.site) in
      let fit : Stepped = fit_step (misfit x m) x m in
      let late : Stepped = stepped Later (keep_waiting x m) in
      let ready : Stepped = if not (is_ready m.have x) then late else fit in
      let mine : Stepped = if own then stepped (Unfit Own) m else ready in
      let rest : Stepped = if again then stepped Repeat m else mine in
      either (λ (s : Stepped). PutsExactly (Take (AnOp x)) s) (not (nat_eq (length x.deps) m.size))
      (stepped (Unfit Size) m) rest (λ e. quiet (Unfit Size) (λ f. absurd cc))
      (λ e. either (λ (s : Stepped). PutsExactly (Take (AnOp x)) s) again (stepped Repeat m) mine
      (λ f. quiet Repeat (λ f. absurd cc))
      (λ f. either (λ (s : Stepped). PutsExactly (Take (AnOp x)) s) own (stepped (Unfit Own) m) ready
      (λ g. quiet (Unfit Own) (λ f. absurd cc))
      (λ g. either (λ (s : Stepped). PutsExactly (Take (AnOp x)) s) (not (is_ready m.have x)) late fit
      (λ h. makes (Take (AnOp x)) late (adds_none m (keep_waiting x m) refl refl) (λ y k l. absurd cc)
      (λ d k l. absurd cc))
      (λ h. fitted (misfit x m)))))
    where
      quiet : (reply : Reply) → (reply ≡ New → ⊥) → PutsExactly (Take (AnOp x)) (stepped reply m)
      quiet reply other =
          makes (Take (AnOp x)) (stepped reply m) (adds_none m m refl refl) (λ y k l. other l) (λ d k l. absurd cc)

      fitted : (why : Option Why) → PutsExactly (Take (AnOp x)) (fit_step why x m)
      fitted (Some why) = quiet (Unfit why) (λ f. absurd cc)
      fitted None =
          takes (Take (AnOp x)) (stepped New (take x m)) x (adds_taken (proposed x.body) x m m refl refl)
          (inr (inl (refl, refl))) (λ y k l. cc) (λ y k l. absurd cc)

  came_vote : (v : Vote) → PutsExactly (Take (AVote v)) (vote_step v m)
  came_vote v = makes (Take (AVote v)) (vote_step v m) adds (λ x e f. absurd cc) (λ d e f. absurd cc)
    where
      counted_so : (o : Option Ballot) → Adds m (ballot_step o v m).machine
      counted_so None = adds_none m m refl refl
      counted_so (Some b) =
          either (λ (s : Stepped). Adds m s.machine) (is_counted v.voter b) (stepped Repeat m)
          (stepped New (count v b m))
          (λ e. adds_none m m refl refl)
          (λ e.
          adds_decided v.proposal (outcome m.size v.yes (counted v.voter v.yes b)) m
          (record m { ballots = revise v.proposal (counted v.voter v.yes) m.ballots })
          (adds_none m (record m { ballots = revise v.proposal (counted v.voter v.yes) m.ballots }) refl refl))

      adds : Adds m (vote_step v m).machine
      adds =
          let found : Stepped = ballot_step (find (is_on v.proposal) m.ballots) v m in
          let here : Stepped = if not (nat_eq v.proposal.site m.site) then stepped (Unfit Address) m else found in
          either (λ (s : Stepped). Adds m s.machine) (nat_lt m.size v.voter || nat_lt m.size v.proposal.site)
          (stepped (Unfit Size) m) here (λ e. adds_none m m refl refl)
          (λ e.
          either (λ (s : Stepped). Adds m s.machine) (not (nat_eq v.proposal.site m.site)) (stepped (Unfit Address) m)
          found
          (λ f. adds_none m m refl refl) (λ f. counted_so (find (is_on v.proposal) m.ballots)))

  went : (o : Option OpValue) → next_ready m.have m.waiting ≡ o → PutsExactly Next (next_of o m)
  went None e = makes Next (stepped Idle m) (adds_none m m refl refl) (λ x k l. absurd cc) (λ d k l. absurd cc)
  went (Some x) e = at (misfit x m)
    where
      at : (why : Option Why) → PutsExactly Next (waited why x (forget x m))
      at (Some why) =
          makes Next (stepped (Dropped x.dot why) (forget x m)) (adds_none m (forget x m) refl refl)
          (λ y k l. absurd cc) (λ d k l. absurd cc)
      at None =
          takes Next (stepped (Taken x.dot) (take x (forget x m))) x
          (adds_taken (proposed x.body) x m (forget x m) refl refl)
          (inr (inr (refl, refl, e))) (λ y k l. absurd cc) (λ y k l. same y (sym l ∙ e))
        where
          same : (y : OpValue) → Some y ≡ Some x → y ≡ x
          same y k = cc

  step_puts : (input : Input) → PutsExactly input (step m input)
  step_puts (Local request) = asked request (aim request m)
  step_puts (Take (AnOp x)) = came_op x
  step_puts (Take (AVote v)) = came_vote v
  step_puts Next = went (next_ready m.have m.waiting) refl

-- ---- a history

abbrev PutBy : Machine → Entry → OpValue → Type 0
PutBy m e x = MakesOp m e x ⊎ (TakesOp e x ⊎ ResumesOp m e x)

put_of : (m : Machine) (e : Entry) (x : OpValue) → (step m e.input).reply ≡ e.reply → IsPut m e.input (step m e.input) x
    → PutBy m e x
put_of m e x told put =
    subst (λ (reply : Reply). In (AnOp x) (drop (length m.sent) (step m e.input).machine.sent)
    ⊎ (((e.input ≡ Take (AnOp x)) × (reply ≡ New))
    ⊎ ((e.input ≡ Next) × (reply ≡ Taken x.dot) × (next_ready m.have m.waiting ≡ Some x)))) told put

of_put : (m : Machine) (e : Entry) (x : OpValue) → (step m e.input).reply ≡ e.reply → PutBy m e x
    → IsPut m e.input (step m e.input) x
of_put m e x told put =
    subst (λ (reply : Reply). In (AnOp x) (drop (length m.sent) (step m e.input).machine.sent)
    ⊎ (((e.input ≡ Take (AnOp x)) × (reply ≡ New))
    ⊎ ((e.input ≡ Next) × (reply ≡ Taken x.dot) × (next_ready m.have m.waiting ≡ Some x)))) (sym told) put

later : (m : Machine) (e : Entry) (entries : History) (x : OpValue) → IsLogged (step m e.input).machine entries x
    → IsLogged m (e ∷ entries) x
later m e entries x l =
    record {
      front = e ∷ l.front;
      entry = l.entry;
      back = l.back;
      splits = ap (λ (h : History). e ∷ h) l.splits;
      by = l.by;
    }

to_entry : (m : Machine) (entries : History) → IsLegalFrom m entries → (x : OpValue) → In x (after m entries).log
    → In x m.log ⊎ IsLogged m entries x
to_entry m [] legal x i = inl i
to_entry m (e ∷ entries) legal x i =
    ⊎_elim
    (λ (j : In x (step m e.input).machine.log).
    ⊎_elim (λ (k : In x m.log). inl k)
    (λ (k : IsPut m e.input (step m e.input) x).
    inr (record { front = []; entry = e; back = entries; splits = refl; by = put_of m e x legal.1 k }))
    ((step_puts m e.input x).0 j))
    (λ (l : IsLogged (step m e.input).machine entries x). inr (later m e entries x l))
    (to_entry (step m e.input).machine entries legal.2 x i)

stays_in : (m : Machine) (entries : History) (x : OpValue) → In x m.log → In x (after m entries).log
stays_in m [] x i = i
stays_in m (e ∷ entries) x i = stays_in (step m e.input).machine entries x ((step_puts m e.input x).1 (inl i))

from_entry : (m : Machine) (front : History) (e : Entry) (back : History) → IsLegalFrom m (front ++ e ∷ back)
    → (x : OpValue) → PutBy (after m front) e x → In x (after m (front ++ e ∷ back)).log
from_entry m [] e back legal x put =
    stays_in (step m e.input).machine back x ((step_puts m e.input x).1 (inr (of_put m e x legal.1 put)))
from_entry m (f ∷ front) e back legal x put = from_entry (step m f.input).machine front e back legal.2 x put

pub logged : (site size : ℕ) (entries : History) → IsLegal site size entries → (x : OpValue)
    → In x (after (start site size) entries).log ↔ IsLogged (start site size) entries x
logged site size entries legal x = (to, from)
  where
    to : In x (after (start site size) entries).log → IsLogged (start site size) entries x
    to i =
        ⊎_elim (λ (j : In x []). absurd j) (λ (l : IsLogged (start site size) entries x). l)
        (to_entry (start site size) entries legal x i)

    from : IsLogged (start site size) entries x → In x (after (start site size) entries).log
    from l =
        subst (λ (h : History). In x (after (start site size) h).log) (sym l.splits)
        (from_entry (start site size) l.front l.entry l.back
        (subst (λ (h : History). IsLegal site size h) l.splits legal) x l.by)
