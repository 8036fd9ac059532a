-- What the set of the votes that were sent says of the entries that take votes.
use Rattle.std.proofs.Common.{◌≡◌, ◌-◌, ◌<◌, ◌≤◌, ℕ, zero, suc, List, [], ◌∷◌, length, get_or, true, false, not}
use Rattle.std.proofs.Common.{Option, Some, None, slice_get, refl, sym, ap, subst, ◌∙◌, ⊎_elim, true≢false, arith}
use Rattle.std.proofs.lemmas.Bool.{not-false, cases_lt}
use Rattle.std.proofs.lemmas.Option.{slice_get_within, slice_get_past}
use Rattle.std.specs.List.{AllByRecursion}
use Rattle.std.specs.BTreeSet.{BTreeSet, contains}
use Rattle.std.specs.Option.{MatchOption}
use Rattle.td_base.specs.Lists.{In}
use Rattle.td_base.proofs.Lists.{all_in}
use Rattle.td_base.proofs.Elements.{In-slice_get}
use Rattle.td_base.proofs.Places.{place_of}
use Rattle.td_op.specs.Message.{IsVote}
use Rattle.td_op.specs.declared.message.Message.TheVariants.{Vote as AVote}
use Rattle.td_op.specs.declared.vote.Vote.{Vote}
use Rattle.td_machine.specs.Machine.{Machine}
use Rattle.td_trace.specs.declared.entry.TraceEntry.{TraceEntry}
use Rattle.td_trace.specs.declared.told_input.ToldInput.{ToldInput}
use Rattle.td_trace.specs.declared.told_input.ToldInput.TheVariants.{Asked, TookOp, TookVote, Went}
use Rattle.td_law_replay.specs.Ended.{VotesWereSent}
use Rattle.td_law_replay.specs.Judging.{States}
use Rattle.td_law_replay.specs.Traced.{site_entries}
use Rattle.td_check.specs.declared.sent.SentVote.{SentVote}
use Rattle.td_check.specs.Seated.{AreSeated}
use Rattle.td_check.specs.SentVotes.{sent_cmp, sent_vote, sends, was_sent}
use Rattle.td_check.specs.FirstUnsent.{IsFirstUnsent}
use Rattle.td_check.specs.Stops.{IsUnsentAt, IsBefore}
use Rattle.td_check.specs.Unsent.{is_unknown, tells_unknown, AreKnown, IsFirstUnknown}
use Rattle.td_reader.specs.Values.{TraceValue, IsTraceValue, FitsEntry, FitsHistory, FitsTold}
use Rattle.td_check.proofs.SentVotes.{sent_in, in_sent}

-- the set has exactly the votes that the sites with these machines sent
abbrev IsSent : BTreeSet SentVote → List Machine → Type 0
IsSent sent machines = (v : Vote) → contains sent_cmp sent (sent_vote v) ≡ was_sent machines v

-- ---- one entry

takes_unknown : (sent : BTreeSet SentVote) (entry : TraceEntry) (v : Vote) → entry.told ≡ TookVote v
    → is_unknown sent entry ≡ not (contains sent_cmp sent (sent_vote v))
takes_unknown sent entry v e = ap (tells_unknown sent) e

-- an entry that takes an unknown vote takes one
unknown_takes : (sent : BTreeSet SentVote) (entry : TraceEntry) → is_unknown sent entry ≡ true
    → (v : Vote) × (entry.told ≡ TookVote v)
unknown_takes sent entry h = at entry.told h
  where
    at : (told : ToldInput) → tells_unknown sent told ≡ true → (v : Vote) × (told ≡ TookVote v)
    at (Asked request) h = absurd (true≢false (sym h))
    at (TookOp dot) h = absurd (true≢false (sym h))
    at (TookVote v) h = (v, refl)
    at Went h = absurd (true≢false (sym h))

-- each vote that is taken has a voter
entry_fits : (histories : List (List TraceEntry)) → AllByRecursion FitsHistory histories → (i k : ℕ)
    (entry : TraceEntry) → slice_get (get_or histories i []) k ≡ Some entry → FitsEntry entry
entry_fits [] all i k entry e = absurd cc
entry_fits (h ∷ hs) all zero k entry e = all_in FitsEntry h all.0.each entry (In-slice_get h k entry e)
entry_fits (h ∷ hs) all (suc i) k entry e = entry_fits hs all.1 i k entry e

some_voter : (told : ToldInput) (v : Vote) → FitsTold told → told ≡ TookVote v → 0 < v.voter
some_voter told v fits e =
    let vote : IsVote v = subst FitsTold e fits in
    omega (arith, vote.voter.least)

-- the vote was sent by one of the sites
abbrev WasSentBy : TraceValue → States → Vote → Type 0
WasSentBy t last v = (v.voter ≤ length t.histories) × In (AVote v) (last v.voter).machine.sent

module _ (t : TraceValue) (last : States) (machines : List Machine) (sent : BTreeSet SentVote)
    (value : IsTraceValue t) (seated : AreSeated t.sites last machines) (is : IsSent sent machines) where
  sender_within : (v : Vote) → 0 < v.voter → was_sent machines v ≡ true → v.voter ≤ t.sites
  sender_within v some was =
      ⊎_elim (λ (l : v.voter - 1 < length machines). omega (arith, seated.each))
      (λ (l : length machines ≤ v.voter - 1).
      absurd (true≢false (sym was ∙ ap (sends v) (slice_get_past machines (v.voter - 1) l))))
      (cases_lt (v.voter - 1) (length machines))

  -- a vote in the set was sent
  known_sent : (v : Vote) → 0 < v.voter → contains sent_cmp sent (sent_vote v) ≡ true → WasSentBy t last v
  known_sent v some h =
      let was : was_sent machines v ≡ true = sym (is v) ∙ h in
      let within : v.voter ≤ t.sites = sender_within v some was in
      let is_here = seated.machine v.voter some within in
      (omega (arith, value.each_history), sent_in machines v (last v.voter).machine is_here was)

  -- and one that was sent is in the set
  sent_known : (v : Vote) → 0 < v.voter → WasSentBy t last v → contains sent_cmp sent (sent_vote v) ≡ true
  sent_known v some h =
      is v
      ∙ in_sent machines v (last v.voter).machine
      (seated.machine v.voter some (omega (arith, h.0, value.each_history))) h.1

  voter_at : (site k : ℕ) (entry : TraceEntry) → slice_get (site_entries t.histories site) k ≡ Some entry → (v : Vote)
      → entry.told ≡ TookVote v → 0 < v.voter
  voter_at site k entry e v takes =
      some_voter entry.told v (entry_fits t.histories value.histories (site - 1) k entry e).0 takes

  -- an entry that takes no unknown vote takes one that was sent
  known_at : (site k : ℕ) (entry : TraceEntry) → slice_get (site_entries t.histories site) k ≡ Some entry → (v : Vote)
      → entry.told ≡ TookVote v → is_unknown sent entry ≡ false → WasSentBy t last v
  known_at site k entry e v takes h =
      known_sent v (voter_at site k entry e v takes)
      (not-false (contains sent_cmp sent (sent_vote v)) (sym (takes_unknown sent entry v takes) ∙ h))

  all_known : AreKnown sent t → VotesWereSent t.histories last
  all_known known site some within entry i v takes =
      let p = place_of (site_entries t.histories site) entry i in
      let here : site ≤ t.sites = omega (arith, value.each_history) in
      known_at site p.0 entry p.1 v takes
      (known site some here p.0 entry (slice_get_within (site_entries t.histories site) p.0 entry p.1) p.1)

  first_known : (line : ℕ) → IsFirstUnknown sent t line → IsFirstUnsent t last line
  first_known line f =
      let takes = unknown_takes sent f.here.entry f.here.unknown in
      let some = voter_at f.site (f.k - 1) f.here.entry f.here.is takes.0 takes.1 in
      record {
        site = f.site;
        k = f.k;
        unsent = record {
          some = f.some;
          within = omega (arith, f.within, value.each_history);
          entry = f.here.entry;
          is = f.here.is;
          first = f.here.some;
          vote = takes.0;
          takes = takes.1;
          unsent =
              λ (was : WasSentBy t last takes.0).
              true≢false
              (sym f.here.unknown ∙ takes_unknown sent f.here.entry takes.0 takes.1
              ∙ ap not (sent_known takes.0 some was));
        };
        before =
            λ r j (b : IsBefore r j f.site f.k) (u : IsUnsentAt t last r j).
            u.unsent (known_at r (j - 1) u.entry u.is u.vote u.takes (known_before line f r j b u));
        line_is = f.line_is;
      }
    where
      known_before : (line : ℕ) (f : IsFirstUnknown sent t line) (r j : ℕ) → IsBefore r j f.site f.k
          → (u : IsUnsentAt t last r j) → is_unknown sent u.entry ≡ false
      known_before line f r j b u =
          ⊎_elim
          (λ (l : r < f.site).
          f.before r u.some (omega arith) (j - 1) u.entry
          (slice_get_within (site_entries t.histories r) (j - 1) u.entry u.is) u.is)
          (λ (same : (r ≡ f.site) × (j < f.k)).
          f.here.before (j - 1) u.entry (omega (arith, same.1, u.first))
          (subst (λ (s : ℕ). slice_get (site_entries t.histories s) (j - 1) ≡ Some u.entry) same.0 u.is))
          b

  pub first_told : (found : Option ℕ) → MatchOption found (AreKnown sent t) (λ line. IsFirstUnknown sent t line)
      → MatchOption found (VotesWereSent t.histories last) (λ line. IsFirstUnsent t last line)
  first_told None h = all_known h
  first_told (Some line) h = first_known line h
