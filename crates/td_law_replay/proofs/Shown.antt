-- What a replay that reached the end shows, and that the end does not depend on the order of sites.
use Rattle.std.proofs.Common.{◌≡◌, ◌⊎◌, ◌<◌, ◌≤◌, ◌+◌, ◌-◌, ◌++◌, List, [], ◌∷◌, ℕ, zero, suc, length}
use Rattle.std.proofs.Common.{get_or, take, refl, sym, ap, ◌∙◌, subst, append-nil, arith}
use Rattle.std.proofs.lemmas.List.{length-map, length-append, map-append, take_at}
use Rattle.td_base.specs.Lists.{In}
use Rattle.td_base.specs.declared.site.TheConstants.{MAX_SITE}
use Rattle.td_op.specs.declared.entry.Entry.{Entry}
use Rattle.td_op.specs.declared.input.Input.{Input}
use Rattle.td_op.specs.declared.input.Input.TheVariants.{Local, Take, Next}
use Rattle.td_op.specs.declared.message.Message.{Message}
use Rattle.td_op.specs.declared.message.Message.TheVariants.{Op as AnOp, Vote as AVote}
use Rattle.td_op.specs.declared.vote.Vote.{Vote}
use Rattle.td_op.specs.Input.{IsInput}
use Rattle.td_doc.specs.Document.{text_of}
use Rattle.td_machine.specs.Machine.{Machine, start, made}
use Rattle.td_machine.specs.History.{History, Family, IsLegal, IsLegalFrom, IsConsistent, MayCome, known_of}
use Rattle.td_machine.specs.History.{after, history, history_at, machine, machine_after}
use Rattle.td_op.specs.Message.{sender}
use Rattle.td_base.proofs.Elements.{CutAt, cut_at, same_tail}
use Rattle.td_base.proofs.Lists.{map_In}
use Rattle.td_law_logs.proofs.Moments.{legal_entry}
use Rattle.td_law_commitment.proofs.Traces.{sender_legal}
use Rattle.td_trace.specs.Family.{text_past}
use Rattle.td_trace.specs.Entries.{told_of, traced, traced_history, traced_family}
use Rattle.td_trace.specs.declared.entry.TraceEntry.{TraceEntry}
use Rattle.td_trace.specs.declared.told_input.ToldInput.TheVariants.{TookVote}
use Rattle.td_law_replay.proofs.Histories.{entry_for, entries_for, family_for}
use Rattle.td_law_replay.specs.Ended.{IsBehind, IsReplayOf, VotesWereSent, outlined}
use Rattle.td_law_replay.specs.Judging.{SiteState, States}
use Rattle.td_law_replay.specs.Replay.{Goes, Reaches, AllDone, GoesOnTo, Stays, Further}
use Rattle.td_law_replay.specs.Traced.{site_entries, AreInRange}
use Rattle.td_law_replay.proofs.Telling.{entries_there}
use Rattle.td_law_replay.proofs.Going.{many}
use Rattle.td_law_replay.proofs.Progress.{reached_follows, never_stops}
use Rattle.td_law_replay.proofs.Seen.{AllSeen}
use Rattle.td_law_replay.proofs.Sound.{Within, grows, Comes, Resolved, seen_all, resolved_all}

histories_there : (states : States) (all : List (List TraceEntry)) (k : ℕ)
    → history_at (family_for states all) k ≡ entries_for states (get_or all k [])
histories_there states [] k = refl
histories_there states (l ∷ all) zero = refl
histories_there states (l ∷ all) (suc k) = histories_there states all k

-- what is told is told again
again : (states : States) (all : List (List TraceEntry))
    → ((k : ℕ) → k < length all → traced_history (entries_for states (get_or all k [])) ≡ get_or all k [])
    → traced_family (family_for states all) ≡ all
again states [] h = refl
again states (l ∷ all) h =
    λ i. h zero (omega arith) i ∷ again states all (λ k less. h (suc k) (omega (arith, less))) i

module _ (all : List (List TraceEntry)) (t : AreInRange all) (last : States) (reaches : Reaches all last)
    (over : AllDone all last)
    (votes : VotesWereSent all last) where
  abbrev n : ℕ
  n = length all

  abbrev family : Family
  family = family_for last all

  still : Within last last
  still site x i = i

  seen : AllSeen all last
  seen = seen_all all t last reaches

  at_end : (site : ℕ) → 0 < site → site ≤ n → Resolved all t last seen over votes site (last site)
  at_end = resolved_all all t last seen over votes last reaches still

  sites : length family ≡ n
  sites = length-map all (entries_for last)

  -- all entries of a site are done
  whole : (site : ℕ) (some : 0 < site) (within : site ≤ n)
      → (at_end site some within).done ≡ site_entries all site
  whole site some within =
      let r = at_end site some within in
      sym (r.splits ∙ ap (λ (l : List TraceEntry). r.done ++ l) (over site some within) ∙ append-nil r.done)

  history_is : (site : ℕ) (some : 0 < site) (within : site ≤ n)
      → history family site ≡ entries_for last (at_end site some within).done
  history_is site some within =
      histories_there last all (site - 1) ∙ ap (entries_for last) (sym (whole site some within))

  machine_is : (site : ℕ) → 0 < site → site ≤ n → (last site).machine ≡ outlined (machine family site)
  machine_is site some within =
      let r = at_end site some within in
      r.machine_is
      ∙ ap (λ (h : History). outlined (after (start site n) h)) (sym (history_is site some within))
      ∙ ap (λ (k : ℕ). outlined (after (start site k) (history family site))) (sym sites)

  legal_there : (site : ℕ) → 0 < site → site ≤ length family → IsLegal site (length family) (history family site)
  legal_there site some within =
      let k : length family ≡ n = sites in
      let w : site ≤ n = omega (arith, within, k) in
      subst (λ (z : ℕ). IsLegalFrom (start site z) (history family site)) (sym sites)
      (subst (λ (h : History). IsLegalFrom (start site n) h) (sym (history_is site some w)) (at_end site some w).legal)

  takes_there : (site : ℕ) (front : History) (e : Entry) (back : History) (message : Message) → 0 < site
      → site ≤ length family → history family site ≡ front ++ e ∷ back → e.input ≡ Take message
      → MayCome family site (machine_after family site front) message
  takes_there site front e back message some within splits k =
      let many_ : length family ≡ n = sites in
      let w : site ≤ n = omega (arith, within, many_) in
      let r = at_end site some w in
      let c : Comes all t last seen over votes site (after (start site n) front) message =
      r.comes front e back (sym (history_is site some w) ∙ splits) message k in
      record {
        another = c.another;
        sent =
            subst (λ (m : Machine). In message m.sent) (machine_is (sender message) c.some c.within) c.sent;
        addressed = c.addressed;
        own_made =
            subst (λ (z : ℕ). known_of site message ≤ made (after (start site z) front)) (sym sites) c.own_made;
      }

  -- what is told of the histories is what was told
  traced_again : (site : ℕ) → 0 < site → site ≤ n
      → traced_history (entries_for last (site_entries all site)) ≡ site_entries all site
  traced_again site some within =
      subst (λ (l : List TraceEntry). traced_history (entries_for last l) ≡ l) (whole site some within)
      (at_end site some within).traces

  pub shows : IsReplayOf family all last
  shows =
      let some : 0 < n = t.some in
      let few = t.few in
      let k : length family ≡ n = sites in
      record {
        consistent =
            record {
              legal =
                  record {
                    some = omega (arith, some, k);
                    few = subst (λ (z : ℕ). z ≤ MAX_SITE) (sym sites) t.few;
                    legal = legal_there;
                  };
              takes = takes_there;
            };
        is = again last all traced_at;
        machines = machine_is;
      }
    where
      traced_at : (k : ℕ) → k < n → traced_history (entries_for last (get_or all k [])) ≡ get_or all k []
      traced_at k less =
          let some : 0 < suc k = omega arith in
          let within : suc k ≤ n = omega (arith, less) in
          let back : suc k - 1 ≡ k = omega arith in
          subst (λ (j : ℕ). traced_history (entries_for last (get_or all j [])) ≡ get_or all j []) back
          (traced_again (suc k) some within)

  -- and on the way each site was at a front of its history
  pub was_at : (states : States) → Reaches all states → Within states last → (site : ℕ) → 0 < site → site ≤ n
      → IsBehind family site (states site)
  was_at states r w site some within =
      let q : Resolved all t last seen over votes site (states site) =
      resolved_all all t last seen over votes states r w site some within in
      record {
        front = entries_for last q.done;
        back = entries_for last (states site).left;
        splits =
            histories_there last all (site - 1) ∙ ap (entries_for last) q.splits
            ∙ map-append (entry_for last) q.done (states site).left;
        left = sym (behind q.done (states site).left (whole_again q.done (states site).left q.splits));
        machine_is =
            q.machine_is
            ∙ ap (λ (k : ℕ). outlined (after (start site k) (entries_for last q.done))) (sym sites);
      }
    where
      whole_again : (front back : List TraceEntry) → site_entries all site ≡ front ++ back
          → traced_history (entries_for last (front ++ back)) ≡ front ++ back
      whole_again front back splits =
          subst (λ (l : List TraceEntry). traced_history (entries_for last l) ≡ l) splits
          (traced_again site some within)

      -- what is told again of the whole is told again of the rest
      behind : (front back : List TraceEntry) → traced_history (entries_for last (front ++ back)) ≡ front ++ back
          → traced_history (entries_for last back) ≡ back
      behind [] back e = e
      behind (f ∷ front) back e =
          behind front back
          (same_tail (traced (entry_for last f)) (traced_history (entries_for last (front ++ back))) f
          (front ++ back) e)

-- ---- and back: the end of the replay of a family

module _ (family : Family) (c : IsConsistent family) (last : States) (reaches : Reaches (traced_family family) last)
    (over : AllDone (traced_family family) last) where
  abbrev all : List (List TraceEntry)
  all = traced_family family

  pub ends_as : IsReplayOf family (traced_family family) last
  ends_as =
      record {
        consistent = c;
        is = refl;
        machines =
            λ site some within.
            let long : length (traced_family family) ≡ length family = many family in
            ended site some (omega (arith, within, long));
      }
    where
      ended : (site : ℕ) → 0 < site → site ≤ length family → (last site).machine ≡ outlined (machine family site)
      ended site some within =
          let long : length (traced_family family) ≡ length family = many family in
          let s : IsBehind family site (last site) = reached_follows family c last reaches site some within in
          from s.front s.back s.splits s.machine_is (sym s.left ∙ over site some (omega (arith, within, long)))
        where
          from : (front back : History) → history family site ≡ front ++ back
              → (last site).machine ≡ outlined (machine_after family site front) → traced_history back ≡ []
              → (last site).machine ≡ outlined (machine family site)
          from front [] splits is none =
              is ∙ ap (λ (h : History). outlined (machine_after family site h)) (sym (splits ∙ append-nil front))
          from front (e ∷ back) splits is none = absurd cc

  pub votes_sent : VotesWereSent (traced_family family) last
  votes_sent site some within l i v told =
      let long : length (traced_family family) ≡ length family = many family in
      let w : site ≤ length family = omega (arith, within, long) in
      let j : In l (traced_history (history family site)) =
      subst (λ (k : List TraceEntry). In l k) (entries_there family (site - 1)) i in
      let q = map_In traced l (history family site) j in
      let voted : told_of q.0.input ≡ TookVote v = ap (λ (x : TraceEntry). x.told) (sym q.2) ∙ told in
      let cut : CutAt q.0 (history family site) = cut_at q.0 (history family site) q.1 in
      let k : q.0.input ≡ Take (AVote v) = vote_input q.0.input v voted in
      let may : MayCome family site (machine_after family site cut.front) (AVote v) =
      c.takes site cut.front q.0 cut.back (AVote v) some w cut.is k in
      let valid = subst (λ (x : Input). IsInput x) k
      (legal_entry (start site (length family)) cut.front q.0 cut.back
      (subst (λ (h : History). IsLegalFrom (start site (length family)) h) cut.is (c.legal.legal site some w))) in
      let low : v.voter ≤ length family = sender_legal family c v.voter (AVote v) valid.voter.least may.sent in (
        omega (arith, low, long),
        subst (λ (m : Machine). In (AVote v) m.sent)
            (sym (ends_as.machines v.voter valid.voter.least (omega (arith, low, long)))) may.sent,
      )
    where
      vote_input : (input : Input) (v : Vote) → told_of input ≡ TookVote v → input ≡ Take (AVote v)
      vote_input (Local request) v e = absurd cc
      vote_input (Take (AnOp x)) v e = absurd cc
      vote_input (Take (AVote u)) v e = ap (λ (z : Vote). Take (AVote z)) (same u v e)
        where
          same : (a b : Vote) → TookVote a ≡ TookVote b → a ≡ b
          same a b k = cc
      vote_input Next v e = absurd cc

-- where a site is behind a front of its history, its text is that behind so many entries
pub text_at : (family : Family) (site : ℕ) (state : SiteState) → IsBehind family site state
    → text_of state.machine.doc
    ≡ text_past family site (length (history family site) - length state.left)
text_at family site state a =
    let whole : length (history family site) ≡ length a.front + length a.back =
    ap (λ (h : History). length h) a.splits ∙ length-append a.front a.back in
    let left : length state.left ≡ length a.back =
    ap (λ (l : List TraceEntry). length l) a.left ∙ length-map a.back traced in
    let count : length (history family site) - length state.left ≡ length a.front = omega (arith, whole, left) in
    let front : take (length (history family site) - length state.left) (history family site) ≡ a.front =
    ap (λ (k : ℕ). take k (history family site)) count
    ∙ ap (λ (h : History). take (length a.front) h) a.splits
    ∙ take_at a.front a.back (length a.front) refl in
    ap (λ (m : Machine). text_of m.doc) a.machine_is
    ∙ ap (λ (h : History). text_of (machine_after family site h).doc) (sym front)

-- whatever the order of sites, the replay of a trace that once reached the end never stops
pub any_order : (all : List (List TraceEntry)) → AreInRange all → (one other : States) → Reaches all one
    → AllDone all one
    → VotesWereSent all one → Reaches all other
    → AllDone all other ⊎ ((new : States) × Goes all other new)
any_order all t one other r over votes s =
    let k : IsReplayOf (family_for one all) all one = shows all t one r over votes in
    subst (λ (a : List (List TraceEntry)). AllDone a other ⊎ ((new : States) × Goes a other new)) k.is
    (never_stops (family_for one all) k.consistent other
    (subst (λ (a : List (List TraceEntry)). Reaches a other) (sym k.is) s))

pub within_of : (all : List (List TraceEntry)) (states last : States) → GoesOnTo all states last → Within states last
within_of _ _ _ Stays site x i = i
within_of all _ _ (Further {old} {new} {last} g rest) site x i =
    within_of all new last rest site x (grows all old new g site x i)

-- one family: the machines on the way, and those of the end
pub shows_all : (all : List (List TraceEntry)) → AreInRange all → (last : States) → Reaches all last → AllDone all last
    → VotesWereSent all last
    → (family : Family) × IsReplayOf family all last
    × ((states : States) → Reaches all states → GoesOnTo all states last → (site : ℕ) → 0 < site → site ≤ length all
    → IsBehind family site (states site))
shows_all all t last r over votes = (
  family_for last all,
  shows all t last r over votes,
  λ states s k site some within. was_at all t last r over votes states s
      (within_of all states last k) site some within,
)
