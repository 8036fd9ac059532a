-- A book and its family go further: by a call, by a look, and one after the other.
use Rattle.std.proofs.Common.{◌≡◌, ◌≢◌, ◌<◌, ◌≤◌, ◌+◌, ◌++◌, ◌==◌, ℕ, suc, Bool, true, false, List, [], ◌∷◌, length}
use Rattle.std.proofs.Common.{drop, Some, if◌then◌else◌, nat_eq, refl, sym, ap, ◌∙◌, subst, arith}
use Rattle.std.proofs.lemmas.Bool.{eqb-true, eqb-false}
use Rattle.std.proofs.lemmas.List.{length-map, length-append}
use Rattle.td_op.specs.declared.input.Input.TheVariants.{Local}
use Rattle.td_op.specs.declared.reply.Reply.{Reply}
use Rattle.td_op.specs.declared.request.Request.{Request}
use Rattle.td_machine.specs.History.{Family, History, history}
use Rattle.td_site.proofs.Lists.{prefix_self, prefix_then}
use Rattle.td_line.specs.Calls.{entry_at, local_at, IsAskDone}
use Rattle.td_line.proofs.Calling.{entry_last, counts_done}
use Rattle.td_script.specs.declared.live.editor_line.EditorLine.{EditorLine}
use Rattle.td_trace.specs.declared.log.Did.TheVariants.{Call, Look}
use Rattle.td_trace.specs.Entries.{traced, traced_history, is_request_at}
use Rattle.td_trace.specs.Editors.{nothing_yet, calls_at, site_calls_at}
use Rattle.td_trace.specs.Family.{text_past}
use Rattle.td_live.specs.declared.ask.Ask.{Ask}
use Rattle.td_live.specs.declared.next.Next.TheVariants.{Ask as AskNext, Look as LookNext}
use Rattle.td_live.specs.Agenda.{IsNextToDo}
use Rattle.td_live.specs.Following.{Rest, Act, Called, Looked, Leads, all_of, replied}
use Rattle.td_live.specs.Desks.{sofar_of}
use Rattle.td_live.specs.Books.{BookValue, IsBook, AreHistoriesGrown, GoesFurther}
use Rattle.td_live.specs.Books.{log_of, calls_done, with_call, with_look}
use Rattle.td_live.proofs.Leading.{leads_call, leads_look}
use Rattle.td_live.proofs.Recording.{grown_self, grown_then, book_grown, did_push, sofar_within}
use Rattle.td_live.proofs.Recording.{acts_push_call, acts_push_look, request_last, calls_both}

pub further_self : (family : Family) (b : BookValue) → GoesFurther family b family b
further_self family b =
    record {
      home = refl;
      grown = grown_self family;
      kept = prefix_self b.did;
      follows = λ lines i. i;
      counts = λ site k some within. refl;
    }

pub further_then : (f : Family) (b : BookValue) (g : Family) (c : BookValue) (h : Family) (d : BookValue)
    → GoesFurther f b g c → GoesFurther g c h d → GoesFurther f b h d
further_then f b g c h d x y =
    record {
      home = y.home ∙ x.home;
      grown = grown_then f g h x.grown y.grown;
      kept = prefix_then b.did c.did d.did x.kept y.kept;
      follows = λ lines i. y.follows lines (x.follows lines i);
      counts = λ site k some within.
          let p = x.counts site k some within in
          let q = y.counts site k some (subst (λ (n : ℕ). site ≤ n) (sym x.grown.size) within) in
          omega arith;
    }

-- another line is begun
pub further_begun : (family : Family) (b : BookValue) (r : Rest)
    → ((first : Rest) (acts : List Act) → Leads first acts b.rest → Leads first acts r)
    → GoesFurther family b family (record b { rest = r })
further_begun family b r leads =
    record {
      home = refl;
      grown = grown_self family;
      kept = prefix_self b.did;
      follows = λ lines i.
          record { logged = i.logged; acts = i.acts; are = i.are; leads = leads (all_of lines) i.acts i.leads };
      counts = λ site k some within. refl;
    }

-- ---- a call

module _ (old new : Family) (b : BookValue) (request : Request) (reply : Reply) (entry : ℕ) (some : 0 < b.home)
    (within : b.home ≤ length old) (grown : AreHistoriesGrown old new)
    (here : history new b.home ≡ history old b.home ++ record { input = Local request; reply = reply } ∷ [])
    (there : (site : ℕ) → 0 < site → site ≤ length old → site ≢ b.home → history new site ≡ history old site)
    (at : entry ≡ length (history new b.home)) (next : IsNextToDo (AskNext request) b.rest) where
  last : entry ≡ suc (length (history old b.home))
  last =
      let long : length (history new b.home) ≡ length (history old b.home) + 1 =
      ap (λ (h : History). length h) here
      ∙ length-append (history old b.home) (record { input = Local request; reply = reply } ∷ []) in
      omega (arith, at, long)

  is_request : is_request_at (traced_history (history new b.home)) entry ≡ true
  is_request =
      subst (λ (x : History × ℕ). is_request_at (traced_history x.0) x.1 ≡ true) (λ i. (sym here i, sym last i))
      (request_last (history old b.home) request reply)

  is_entry : entry_at (history new b.home) entry ≡ Some (record { input = Local request; reply = reply })
  is_entry =
      subst (λ (x : History × ℕ). entry_at x.0 x.1 ≡ Some (record { input = Local request; reply = reply }))
      (λ i. (sym here i, sym last i))
      (entry_last (history old b.home) (record { input = Local request; reply = reply }))

  follows_call : (lines : List EditorLine) → IsBook old lines b → IsBook new lines (with_call entry reply b)
  follows_call lines i =
      let j = book_grown old new grown lines b i in
      let long : length (traced_history (history old b.home)) ≡ length (history old b.home) =
      length-map (history old b.home) traced in
      let before : (sofar_of nothing_yet b.did).entry ≤ length (traced_history (history old b.home)) =
      (sofar_within (traced_history (history old b.home)) (text_past old b.home) nothing_yet b.did i.logged.did
      (omega arith) (omega arith)).0 in
      let after : (sofar_of nothing_yet b.did).entry < entry = omega (arith, last, long, before) in
      record {
        logged = record {
          some = some;
          within = j.logged.within;
          did = did_push (traced_history (history new b.home)) (text_past new b.home) nothing_yet b.did
              (Call (calls_done b.did + 1) entry) j.logged.did (refl, after, is_request);
        };
        acts = j.acts ++ Called request reply ∷ [];
        are = acts_push_call (history new b.home) b.did j.acts (calls_done b.did + 1) entry request reply j.are
            is_entry;
        leads = subst (λ (x : Request × List Ask). Leads (all_of lines) (j.acts ++ Called x.0 reply ∷ [])
            (replied reply b.rest x.1))
            (λ k. (sym next.2 k, sym (ap (λ (asks : List Ask). drop 1 asks) next.1.1) k))
            (leads_call reply j.leads next.1.1);
      }

  counts_call : (site k : ℕ) → 0 < site → site ≤ length old
      → site_calls_at site k (log_of (with_call entry reply b) ∷ []) + local_at (history old site) k
      ≡ site_calls_at site k (log_of b ∷ []) + local_at (history new site) k
  counts_call site k up low = by (nat_eq b.home site) refl
    where
      more : calls_at k (with_call entry reply b).did
          ≡ calls_at k b.did + calls_at k (Call (calls_done b.did + 1) entry ∷ [])
      more = calls_both k b.did (Call (calls_done b.did + 1) entry ∷ [])

      done : IsAskDone (history old b.home) [] (record { call = 0; request = request }) (history new b.home)
          (record { call = 0; entry = entry; reply = reply } ∷ [])
      done =
          record {
            answer = record { call = 0; entry = entry; reply = reply };
            call = refl;
            entry = at;
            entries = here;
            given = refl;
          }

      one : calls_at k (Call (calls_done b.did + 1) entry ∷ []) + local_at (history old b.home) k
          ≡ 0 + local_at (history new b.home) k
      one =
          counts_done (history old b.home) [] (record { call = 0; request = request }) (history new b.home)
          (record { call = 0; entry = entry; reply = reply } ∷ []) done k

      by : (t : Bool) → nat_eq b.home site ≡ t
          → site_calls_at site k (log_of (with_call entry reply b) ∷ []) + local_at (history old site) k
          ≡ site_calls_at site k (log_of b ∷ []) + local_at (history new site) k
      by true e =
          let same : b.home ≡ site = eqb-true b.home site e in
          let p : site_calls_at site k (log_of (with_call entry reply b) ∷ [])
          ≡ calls_at k (with_call entry reply b).did + 0 =
          ap (λ (t : Bool). if t then calls_at k (with_call entry reply b).did + 0 else 0) e in
          let q : site_calls_at site k (log_of b ∷ []) ≡ calls_at k b.did + 0 =
          ap (λ (t : Bool). if t then calls_at k b.did + 0 else 0) e in
          let o : local_at (history old site) k ≡ local_at (history old b.home) k =
          ap (λ (s : ℕ). local_at (history old s) k) (sym same) in
          let n : local_at (history new site) k ≡ local_at (history new b.home) k =
          ap (λ (s : ℕ). local_at (history new s) k) (sym same) in
          omega (arith, more, one, p, q, o, n)
      by false e =
          let other : b.home ≢ site = eqb-false b.home site e in
          let p : site_calls_at site k (log_of (with_call entry reply b) ∷ []) ≡ 0 =
          ap (λ (t : Bool). if t then calls_at k (with_call entry reply b).did + 0 else 0) e in
          let q : site_calls_at site k (log_of b ∷ []) ≡ 0 =
          ap (λ (t : Bool). if t then calls_at k b.did + 0 else 0) e in
          let n : local_at (history new site) k ≡ local_at (history old site) k =
          ap (λ (h : History). local_at h k) (there site up low (λ (f : site ≡ b.home). other (sym f))) in
          omega (arith, p, q, n)

  pub further_call : GoesFurther old b new (with_call entry reply b)
  further_call =
      record {
        home = refl;
        grown = grown;
        kept = (Call (calls_done b.did + 1) entry ∷ [], refl);
        follows = follows_call;
        counts = counts_call;
      }

-- ---- a look

module _ (family : Family) (b : BookValue) (upto : ℕ) (text : List ℕ) (some : 0 < b.home)
    (at : upto ≡ length (history family b.home)) (shows : text ≡ text_past family b.home upto)
    (next : IsNextToDo LookNext b.rest) where
  follows_look : (lines : List EditorLine) → IsBook family lines b → IsBook family lines (with_look upto text b)
  follows_look lines i =
      let long : length (traced_history (history family b.home)) ≡ length (history family b.home) =
      length-map (history family b.home) traced in
      let w = sofar_within (traced_history (history family b.home)) (text_past family b.home) nothing_yet b.did
      i.logged.did
      (omega arith) (omega arith) in
      let entry : (sofar_of nothing_yet b.did).entry ≤ length (traced_history (history family b.home)) = w.0 in
      let look : (sofar_of nothing_yet b.did).upto ≤ length (traced_history (history family b.home)) = w.1 in
      record {
        logged = record {
          some = some;
          within = i.logged.within;
          did = did_push (traced_history (history family b.home)) (text_past family b.home) nothing_yet b.did
              (Look (calls_done b.did) upto text) i.logged.did
              (refl, omega (arith, at, long), omega (arith, at, long, entry), omega (arith, at, long, look), shows);
        };
        acts = i.acts ++ Looked ∷ [];
        are = acts_push_look (history family b.home) b.did i.acts (calls_done b.did) upto text i.are;
        leads = subst (λ (ls : List EditorLine). Leads (all_of lines) (i.acts ++ Looked ∷ [])
            (record b.rest { lines = ls }))
            (sym (ap (λ (ls : List EditorLine). drop 1 ls) next.1.1)) (leads_look i.leads next.0 next.1.1);
      }

  counts_look : (site k : ℕ)
      → site_calls_at site k (log_of (with_look upto text b) ∷ []) ≡ site_calls_at site k (log_of b ∷ [])
  counts_look site k =
      let more : calls_at k (with_look upto text b).did ≡ calls_at k b.did + 0 =
      calls_both k b.did (Look (calls_done b.did) upto text ∷ []) in
      let same : calls_at k (with_look upto text b).did ≡ calls_at k b.did = omega (arith, more) in
      ap (λ (n : ℕ). if b.home == site then n + 0 else 0) same

  pub further_look : GoesFurther family b family (with_look upto text b)
  further_look =
      record {
        home = refl;
        grown = grown_self family;
        kept = (Look (calls_done b.did) upto text ∷ [], refl);
        follows = follows_look;
        counts = λ site k up low. ap (λ (n : ℕ). n + local_at (history family site) k) (counts_look site k);
      }
