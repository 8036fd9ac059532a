-- What the next entry of a site comes to, from its judgement.
use Rattle.std.proofs.Common.{◌≡◌, ◌<◌, ◌≤◌, ◌+◌, ◌-◌, List, ◌∷◌, ℕ, length, drop}
use Rattle.std.proofs.Common.{Some, None, slice_get, slice_set, refl, sym, ap, ◌∙◌, subst, arith}
use Rattle.std.proofs.lemmas.List.{set-get_or}
use Rattle.std.proofs.lemmas.Option.{slice_get_within}
use Rattle.td_base.proofs.Places.{drop_there}
use Rattle.td_machine.specs.Machine.{Machine, start}
use Rattle.td_trace.specs.declared.entry.TraceEntry.{TraceEntry}
use Rattle.td_law_replay.specs.Judging.{SiteState, Judgement, Steps, judge}
use Rattle.td_law_replay.specs.Replay.{put}
use Rattle.td_law_replay.specs.Rounds.{Rests, Done, Waiting}
use Rattle.td_law_replay.specs.Traced.{site_entries}
use Rattle.td_check.specs.Sites.{ReplayValue, histories_of, machine_of, done_of, states_of, IsJudgedAt, HasDone}
use Rattle.td_check.specs.Sites.{HasStopped, NextComesTo}
use Rattle.td_check.specs.States.{state_in}
use Rattle.td_check.specs.declared.judged.Judged.{Judged}
use Rattle.td_check.specs.declared.judged.Judged.TheVariants as judged
use Rattle.td_check.proofs.States.{state_is, no_entry, states_put, done_there}
use Rattle.td_check.proofs.States.{done_elsewhere, one_less}

module _ (old : ReplayValue) (site : ℕ) (some : 0 < site) (within : site ≤ length (histories_of old)) where
  abbrev all : List (List TraceEntry)
  all = histories_of old

  there : states_of old site ≡ state_in all old.machines old.done site
  there = state_is all old.machines old.done site some within

  pub none_next : slice_get (site_entries all site) (done_of old site) ≡ None → Rests all site (states_of old)
  none_next e =
      Done (ap (λ (s : SiteState). s.left) there ∙ no_entry (site_entries all site) (done_of old site) e)

  module _ (entry : TraceEntry) (is : slice_get (site_entries all site) (done_of old site) ≡ Some entry) where
    abbrev rest : List TraceEntry
    rest = drop (done_of old site + 1) (site_entries all site)

    left : (states_of old site).left ≡ entry ∷ rest
    left =
        ap (λ (s : SiteState). s.left) there ∙ drop_there (site_entries all site) (done_of old site) entry is

    abbrev judgement : Judgement
    judgement = judge all (states_of old) site (machine_of old site) entry.told entry.reply

    judged_there : (j : Judgement) → judgement ≡ j
        → judge all (states_of old) site (states_of old site).machine entry.told entry.reply ≡ j
    judged_there j e =
        ap (λ (s : SiteState). judge all (states_of old) site s.machine entry.told entry.reply) there ∙ e

    stopped : (mid new : ReplayValue) → new ≡ mid
        → mid ≡ record old { machines = slice_set old.machines (site - 1) (machine_of mid site) } → HasStopped old new
    stopped mid new e f =
        record { trace = ap (λ (r : ReplayValue). r.trace) (e ∙ f); done = ap (λ (r : ReplayValue). r.done) (e ∙ f) }

    pub next_is : (each_machine : length old.machines ≡ length all) (each_done : length old.done ≡ length all)
        (mid new : ReplayValue) (d : Judged) → IsJudgedAt site judgement entry.reply d old mid
        → (d ≡ judged.Done → new ≡ record mid { done = slice_set mid.done (site - 1) (done_of mid site + 1) })
        → ((d ≡ judged.Done → ⊥) → new ≡ mid)
        → NextComesTo site old (Some d) new
    next_is each_machine each_done mid new judged.Lost at done other = (
      (entry, record { rest = rest; next = left; lost = judged_there _ at.0 }),
      stopped mid new (other (λ e. cc)) at.1,
    )
    next_is each_machine each_done mid new judged.Waits at done other = (
      Waiting entry rest left (judged_there _ at.0.0),
      other (λ e. waits_done e)
          ∙ at.1
          ∙ ap (λ (m : Machine). record old { machines = slice_set old.machines (site - 1) m }) at.0.1
          ∙ ap (λ (ms : List Machine). record old { machines = ms }) (set-get_or old.machines (site - 1)
          (start site (length all))),
    )
      where
        waits_done : judged.Waits ≡ judged.Done → ⊥
        waits_done e = cc
    next_is each_machine each_done mid new judged.Wrong at done other = (
      (entry, record { rest = rest; next = left; to = at.0.0; judged = judged_there _ at.0.1; wrong = at.0.2 }),
      stopped mid new (other (λ e. cc)) at.1,
    )
    next_is each_machine each_done mid new judged.Done at done other =
        let m : Machine = machine_of mid site in
        let k : ℕ = done_of old site in
        let is_new : new ≡ record old {
          machines = slice_set old.machines (site - 1) m;
          done = slice_set old.done (site - 1) (k + 1);
        } =
        done refl ∙ ap (λ (r : ReplayValue). record r {
          done = slice_set r.done (site - 1)
              (done_of r site + 1);
        }) at.1 in
        subst (λ (r : ReplayValue). HasDone site old r) (sym is_new)
        (record {
          trace = refl;
          goes = record {
            goes = record {
              site = site;
              some = some;
              within = within;
              entry = entry;
              rest = rest;
              next = left;
              to = at.0.0;
              judged = judged_there (Steps at.0.0) at.0.1;
              reply = at.0.2;
              fit = at.0.3;
              is = states_put all old.machines old.done site some within each_machine each_done m rest refl
                  ∙ ap (λ (n : Machine). put (states_of old) site (record { machine = n; left = rest })) at.0.4;
            };
            here = refl;
          };
          fewer = one_less all old.done (site - 1) (omega (arith, some, within)) (omega
              (arith, some, within, each_done))
              (slice_get_within (site_entries all site) k entry is);
          here = done_there all old.machines old.done site some within each_machine each_done m;
          others = done_elsewhere all old.machines old.done site some within each_machine each_done m;
        })

-- an entry that stood next is one of those that are left
pub is_left : (old mid : ReplayValue) (site : ℕ) (entry : TraceEntry)
    → slice_get (site_entries (histories_of old) site) (done_of old site) ≡ Some entry
    → mid ≡ record old { machines = slice_set old.machines (site - 1) (machine_of mid site) }
    → done_of mid site < length (site_entries (histories_of mid) site)
is_left old mid site entry is same =
    subst (λ (r : ReplayValue). done_of r site < length (site_entries (histories_of r) site)) (sym same)
    (slice_get_within (site_entries (histories_of old) site) (done_of old site) entry is)
