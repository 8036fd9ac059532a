-- A trace is accepted at the end of its replay exactly where it is that of a live family.
use Rattle.std.proofs.Common.{◌≡◌, ◌↔◌, ◌<◌, ◌≤◌, ◌+◌, ◌-◌, List, [], ◌∷◌, ℕ, suc, Bool, true, false}
use Rattle.std.proofs.Common.{if◌then◌else◌, nat_eq, length, get_or, Some, refl, sym, ap, ◌∙◌, subst, arith}
use Rattle.std.proofs.lemmas.Bool.{eqb-true, eqb-false}
use Rattle.std.proofs.lemmas.List.{length-map}
use Rattle.td_base.proofs.Lists.{all_in, all_of}
use Rattle.td_doc.specs.Document.{text_of}
use Rattle.td_machine.specs.Machine.{Machine, undecided}
use Rattle.td_machine.specs.History.{Family, IsConsistent, history}
use Rattle.td_trace.specs.declared.entry.TraceEntry.{TraceEntry}
use Rattle.td_trace.specs.declared.log.Did.{Did}
use Rattle.td_trace.specs.declared.log.Did.TheVariants.{Call, Look}
use Rattle.td_trace.specs.declared.log.EditorLog.{EditorLog}
use Rattle.td_trace.specs.Entries.{traced, traced_history, traced_family, is_request_at}
use Rattle.td_trace.specs.Editors.{Sofar, further, nothing_yet, IsDid, AreDid}
use Rattle.td_trace.specs.Family.{text_past, IsLogOf, IsLiveFamily, AreTexts}
use Rattle.td_law_replay.specs.Traced.{site_entries, AreInRange}
use Rattle.td_law_replay.specs.Judging.{States, begin}
use Rattle.td_law_replay.specs.Replay.{Goes, Reaches, Begun, Then, GoesOnTo, Stays, Further, AllDone}
use Rattle.td_law_replay.specs.Ended.{VotesWereSent, IsReplayOf, IsBehind}
use Rattle.td_law_replay.specs.Accepted.{IsLiveTrace, AreTextsOnTheWay, IsLogIn, IsAcceptedAt, IsAccepted}
use Rattle.td_law_replay.proofs.Telling.{entries_there}
use Rattle.td_law_replay.proofs.Going.{many}
use Rattle.td_law_replay.proofs.Progress.{reached_follows}
use Rattle.td_law_replay.proofs.Shown.{text_at, shows_all, ends_as, votes_sent}
use Rattle.td_law_replay.proofs.Exactly.{Ends, run_to_end, entries_valid}

-- ---- each front of a site is passed on the way

pub record Passed (all : List (List TraceEntry)) (last : States) (site k : ℕ) : Type 0 where
  pub states : States
  pub reaches : Reaches all states
  pub leads : GoesOnTo all states last
  pub is : k + length (states site).left ≡ length (site_entries all site)

-- an entry at most was done there
one_less : (all : List (List TraceEntry)) (old new : States) → Goes all old new → (site : ℕ)
    → length (old site).left ≤ length (new site).left + 1
one_less all old new g site =
    subst (λ (z : States). length (old site).left ≤ length (z site).left + 1) (sym g.is) (at (nat_eq site g.site) refl)
  where
    at : (b : Bool) → nat_eq site g.site ≡ b
        → length (old site).left ≤ length
        (if b then record { machine = g.to.machine; left = g.rest } else old site).left + 1
    at false f = omega arith
    at true f =
        let here : length (old site).left ≡ suc (length g.rest) =
        ap (λ (s : ℕ). length (old s).left) (eqb-true site g.site f)
        ∙ ap (λ (l : List TraceEntry). length l) g.next in
        omega (arith, here)

passed : (all : List (List TraceEntry)) (last states : States) → Reaches all states → GoesOnTo all states last
    → (site k : ℕ) → k + length (states site).left ≤ length (site_entries all site) → Passed all last site k
passed all last _ Begun leads site k less =
    record { states = begin all; reaches = Begun; leads = leads; is = omega (arith, less) }
passed all last _ (Then {old} {new} r g) leads site k less =
    at (nat_eq (k + length (new site).left) (length (site_entries all site))) refl
    (λ low. passed all last old r (Further g leads) site k low)
  where
    at : (b : Bool) → nat_eq (k + length (new site).left) (length (site_entries all site)) ≡ b
        → (k + length (old site).left ≤ length (site_entries all site) → Passed all last site k)
        → Passed all last site k
    at true f ih =
        record {
          states = new;
          reaches = Then r g;
          leads = leads;
          is = eqb-true (k + length (new site).left) (length (site_entries all site)) f;
        }
    at false f ih =
        let apart = eqb-false (k + length (new site).left) (length (site_entries all site)) f in
        let one : length (old site).left ≤ length (new site).left + 1 = one_less all old new g site in
        ih (omega (arith, less, apart, one))

-- ---- what an editor did, by texts that are the same as far as there are entries

did_same : (entries : List TraceEntry) (f g : ℕ → List ℕ) → ((k : ℕ) → k ≤ length entries → f k ≡ g k)
    → (s : Sofar) (did : List Did) → AreDid entries f s did → AreDid entries g s did
did_same entries f g same s [] d = tt
did_same entries f g same s (did ∷ rest) d =
    (one did d.0, did_same entries f g same (further s did) rest d.1)
  where
    one : (did : Did) → IsDid entries f s did → IsDid entries g s did
    one (Call call entry) k = k
    one (Look calls upto text) k = (k.0, k.1, k.2, k.3, k.4 ∙ same upto k.1)

-- ---- the texts on the way are those of the family

way_of : (family : Family) (all : List (List TraceEntry)) (last : States) → IsReplayOf family all last
    → ((states : States) → Reaches all states → GoesOnTo all states last → (site : ℕ) → 0 < site → site ≤ length all
    → IsBehind family site (states site))
    → AreTextsOnTheWay all last (text_past family)
way_of family all last of_it follows states r leads site some within =
    text_at family site (states site) (follows states r leads site some within)
    ∙ ap (λ (n : ℕ). text_past family site (n - length (states site).left))
    (sym (length-map (history family site) traced)
    ∙ ap (λ (l : List TraceEntry). length l)
    (sym (entries_there family (site - 1))
    ∙ ap (λ (l : List (List TraceEntry)). get_or l (site - 1) []) of_it.is))

pub texts_there : (all : List (List TraceEntry)) → AreInRange all → (last : States) → Reaches all last
    → AllDone all last → VotesWereSent all last → (told : ℕ → ℕ → List ℕ) × AreTextsOnTheWay all last told
texts_there all are last r over votes =
    let s = shows_all all are last r over votes in (text_past s.0, way_of s.0 all last s.1 s.2)

-- ---- a family of which this is the replay

module _ (family : Family) (all : List (List TraceEntry)) (last : States) (of_it : IsReplayOf family all last)
    (reaches : Reaches all last) (over : AllDone all last)
    (follows : (states : States) → Reaches all states → GoesOnTo all states last → (site : ℕ) → 0 < site
    → site ≤ length all → IsBehind family site (states site))
    (told : ℕ → ℕ → List ℕ) (way : AreTextsOnTheWay all last told) where
  sites : length family ≡ length all
  sites = sym (many family) ∙ ap (λ (l : List (List TraceEntry)). length l) of_it.is

  entries_are : (site : ℕ) → traced_history (history family site) ≡ site_entries all site
  entries_are site =
      sym (entries_there family (site - 1))
      ∙ ap (λ (l : List (List TraceEntry)). get_or l (site - 1) []) of_it.is

  same_text : (site : ℕ) → 0 < site → site ≤ length all → (k : ℕ) → k ≤ length (site_entries all site)
      → told site k ≡ text_past family site k
  same_text site some within k less =
      let none : length (last site).left ≡ 0 = ap (λ (l : List TraceEntry). length l) (over site some within) in
      let p : Passed all last site k = passed all last last reaches Stays site k (omega (arith, less, none)) in
      let is : k + length (p.states site).left ≡ length (site_entries all site) = p.is in
      let long : length (history family site) ≡ length (site_entries all site) =
      sym (length-map (history family site) traced)
      ∙ ap (λ (l : List TraceEntry). length l) (entries_are site) in
      let there : length (site_entries all site) - length (p.states site).left ≡ k = omega (arith, is) in
      let here : length (history family site) - length (p.states site).left ≡ k = omega (arith, is, long) in
      ap (told site) (sym there)
      ∙ sym (way p.states p.reaches p.leads site some within)
      ∙ text_at family site (p.states site) (follows p.states p.reaches p.leads site some within)
      ∙ ap (text_past family site) here

  within_all : (site : ℕ) → site ≤ length family → site ≤ length all
  within_all site low = subst (λ (n : ℕ). site ≤ n) sites low

  within_family : (site : ℕ) → site ≤ length all → site ≤ length family
  within_family site low = subst (λ (n : ℕ). site ≤ n) (sym sites) low

  -- ---- what is found shows a live family

  log_of : (log : EditorLog) → IsLogIn all told log → IsLogOf family log
  log_of log d =
      record {
        some = d.some;
        within = within_family log.home d.within;
        did =
            subst (λ (l : List TraceEntry). AreDid l (text_past family log.home) nothing_yet log.did)
            (sym (entries_are log.home))
            (did_same (site_entries all log.home) (told log.home) (text_past family log.home)
            (same_text log.home d.some d.within) nothing_yet log.did d.did);
      }

  pub live : (logs : List EditorLog) (texts : List (List ℕ)) → IsAcceptedAt all last told logs texts
      → IsLiveTrace all logs texts
  live logs texts a =
      record {
        family = family;
        live =
            record {
              settled =
                  record {
                    consistent = of_it.consistent;
                    vectors =
                        λ r s r_some r_within s_some s_within.
                        ap (λ (m : Machine). m.have) (sym (of_it.machines r r_some (within_all r r_within)))
                        ∙ a.vectors r s r_some (within_all r r_within) s_some (within_all s s_within)
                        ∙ ap (λ (m : Machine). m.have) (of_it.machines s s_some (within_all s s_within));
                    decided =
                        λ site some within.
                        ap (λ (m : Machine). undecided m) (sym (of_it.machines site some (within_all site within)))
                        ∙ a.decided site some (within_all site within);
                  };
              logs_are =
                  all_of (IsLogOf family) logs (λ log i. log_of log (all_in (IsLogIn all told) logs a.logs_are log i));
              calls =
                  λ site k some within asked.
                  a.calls site k some (within_all site within)
                  (subst (λ (l : List TraceEntry). is_request_at l k ≡ true) (entries_are site) asked);
            };
        is = of_it.is;
        texts_are =
            record {
              each = a.each_text ∙ sym sites;
              text =
                  λ site some within.
                  a.text site some (within_all site within)
                  ∙ ap (λ (m : Machine). Some (text_of m.doc)) (of_it.machines site some (within_all site within));
            };
      }

  -- ---- and back

  log_in : (log : EditorLog) → IsLogOf family log → IsLogIn all told log
  log_in log d =
      record {
        some = d.some;
        within = within_all log.home d.within;
        did =
            did_same (site_entries all log.home) (text_past family log.home) (told log.home)
            (λ k less. sym (same_text log.home d.some (within_all log.home d.within) k less)) nothing_yet log.did
            (subst (λ (l : List TraceEntry). AreDid l (text_past family log.home) nothing_yet log.did)
            (entries_are log.home) d.did);
      }

  pub found : (logs : List EditorLog) (texts : List (List ℕ)) → VotesWereSent all last → IsLiveFamily family logs
      → AreTexts family texts → IsAcceptedAt all last told logs texts
  found logs texts votes l t =
      record {
        votes = votes;
        logs_are = all_of (IsLogIn all told) logs
            (λ log i. log_in log (all_in (IsLogOf family) logs l.logs_are log i));
        calls =
            λ site k some within asked.
            l.calls site k some (within_family site within)
            (subst (λ (e : List TraceEntry). is_request_at e k ≡ true) (sym (entries_are site)) asked);
        each_text = t.each ∙ sites;
        text =
            λ site some within.
            t.text site some (within_family site within)
            ∙ ap (λ (m : Machine). Some (text_of m.doc)) (sym (of_it.machines site some within));
        vectors =
            λ r s r_some r_within s_some s_within.
            ap (λ (m : Machine). m.have) (of_it.machines r r_some r_within)
            ∙ l.settled.vectors r s r_some (within_family r r_within) s_some (within_family s s_within)
            ∙ ap (λ (m : Machine). m.have) (sym (of_it.machines s s_some s_within));
        decided =
            λ site some within.
            ap (λ (m : Machine). undecided m) (of_it.machines site some within)
            ∙ l.settled.decided site some (within_family site within);
      }

-- ---- so

pub accepted_is_live : (all : List (List TraceEntry)) (logs : List EditorLog) (texts : List (List ℕ)) → AreInRange all
    → (last : States) → Reaches all last → AllDone all last → (told : ℕ → ℕ → List ℕ) → AreTextsOnTheWay all last told
    → IsAcceptedAt all last told logs texts → IsLiveTrace all logs texts
accepted_is_live all logs texts are last r over told way a =
    let s = shows_all all are last r over a.votes in live s.0 all last s.1 r over s.2 told way logs texts a

found_at_end : (family : Family) → IsConsistent family → (logs : List EditorLog) (texts : List (List ℕ))
    → IsLiveFamily family logs → AreTexts family texts → (last : States) → Reaches (traced_family family) last
    → AllDone (traced_family family) last → (told : ℕ → ℕ → List ℕ)
    → AreTextsOnTheWay (traced_family family) last told
    → IsAcceptedAt (traced_family family) last told logs texts
found_at_end family c logs texts l t last r over told way =
    found family (traced_family family) last (ends_as family c last r over) r over
    (λ states s leads site some within.
    reached_follows family c states s site some (subst (λ (n : ℕ). site ≤ n) (many family) within)) told way logs texts
    (votes_sent family c last r over) l t

pub live_is_accepted : (all : List (List TraceEntry)) (logs : List EditorLog) (texts : List (List ℕ))
    → IsLiveTrace all logs texts → (last : States) → Reaches all last → AllDone all last → (told : ℕ → ℕ → List ℕ)
    → AreTextsOnTheWay all last told → IsAcceptedAt all last told logs texts
live_is_accepted all logs texts l =
    subst
    (λ (a : List (List TraceEntry)).
    (last : States) → Reaches a last → AllDone a last → (told : ℕ → ℕ → List ℕ) → AreTextsOnTheWay a last told
    → IsAcceptedAt a last told logs texts) l.is
    (found_at_end l.family l.live.settled.consistent logs texts l.live l.texts_are)

pub accepted_exactly : (all : List (List TraceEntry)) (logs : List EditorLog) (texts : List (List ℕ))
    → IsAccepted all logs texts ↔ IsLiveTrace all logs texts
accepted_exactly all logs texts = (there, back)
  where
    there : IsAccepted all logs texts → IsLiveTrace all logs texts
    there a =
        accepted_is_live all logs texts a.are a.last a.reaches a.over a.text_at a.on_the_way a.accepted

    of_family : (family : Family) → IsLiveFamily family logs → AreTexts family texts
        → IsAccepted (traced_family family) logs texts
    of_family family l t =
        let c : IsConsistent family = l.settled.consistent in
        let e : Ends (traced_family family) = run_to_end family c in
        record {
          are = entries_valid family c;
          last = e.states;
          reaches = e.reaches;
          over = e.over;
          text_at = text_past family;
          on_the_way = way family c e.states e.reaches e.over;
          accepted = found_at_end family c logs texts l t e.states e.reaches e.over (text_past family)
              (way family c e.states e.reaches e.over);
        }
      where
        way : (family : Family) → IsConsistent family → (last : States) → Reaches (traced_family family) last
            → AllDone (traced_family family) last
            → AreTextsOnTheWay (traced_family family) last (text_past family)
        way family c last r over =
            way_of family (traced_family family) last (ends_as family c last r over)
            (λ states s leads site some within.
            reached_follows family c states s site some (subst (λ (n : ℕ). site ≤ n) (many family) within))

    back : IsLiveTrace all logs texts → IsAccepted all logs texts
    back l =
        subst (λ (a : List (List TraceEntry)). IsAccepted a logs texts) l.is (of_family l.family l.live l.texts_are)
