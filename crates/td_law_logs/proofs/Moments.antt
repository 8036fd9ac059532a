-- What td_machine tells of moments, of the end of each site; and histories, entry by entry.
use Rattle.std.proofs.Common.{◌≡◌, ◌<◌, ◌≤◌, ◌++◌, ℕ, List, [], ◌∷◌, length, sym, ◌∙◌, subst, append_assoc}
use Rattle.std.specs.Prelude.{IsTrue}
use Rattle.td_base.specs.Lists.{In}
use Rattle.td_op.specs.declared.entry.Entry.{Entry}
use Rattle.td_op.specs.Op.{OpValue}
use Rattle.td_op.specs.Past.{in_past}
use Rattle.td_op.specs.Input.{IsInput}
use Rattle.td_machine.specs.Counts.{IsInTurn}
use Rattle.td_machine.specs.Machine.{Machine, start}
use Rattle.td_machine.specs.Step.{step}
use Rattle.td_machine.specs.History.{History, Family, Moment, IsConsistent, machine_at, IsLegalFrom}
use Rattle.td_machine.specs.History.{IsOpOf, after, history, log_of, machine_after}
use Rattle.td_machine.proofs.Induction.{after_both, the_end, log_grows}
use Rattle.td_machine.proofs.Family.{log_in_turn, past_in_older as past_in_older_then, past_in_log as past_in_log_then}
use Rattle.td_law_logs.specs.Logs.{IsLogOf}
use Rattle.td_law_logs.specs.Entries.{EntryOf, machine_then}

pub after_one_more : (m : Machine) (front : History) (e : Entry)
    → after m (front ++ e ∷ []) ≡ (step (after m front) e.input).machine
after_one_more m front e = after_both m front (e ∷ [])

pub legal_entry : (m : Machine) (front : History) (e : Entry) (back : History) → IsLegalFrom m (front ++ e ∷ back)
    → IsInput e.input
legal_entry m [] e back l = l.0
legal_entry m (f ∷ front) e back l = legal_entry (step m f.input).machine front e back l.2

-- the moment of a site after a front of its history
abbrev pub moment_of : (family : Family) (site : ℕ) → 0 < site → site ≤ length family → (front back : History)
    → history family site ≡ front ++ back → Moment family
moment_of family site some within front back e =
    record { site = site; some = some; within = within; front = front; back = back; splits = e }

-- the moments before an entry and after it
abbrev pub moment_before : (family : Family) → EntryOf family → Moment family
moment_before family t = moment_of family t.site t.some t.within t.front (t.entry ∷ t.back) t.splits

abbrev pub moment_then : (family : Family) → EntryOf family → Moment family
moment_then family t =
    moment_of family t.site t.some t.within (t.front ++ t.entry ∷ []) t.back
    (t.splits ∙ sym (append_assoc t.front (t.entry ∷ []) t.back))

module _ (family : Family) (c : IsConsistent family) where
  pub log_causal : (site : ℕ) → 0 < site → site ≤ length family → IsInTurn (length family) (log_of family site)
  log_causal site some within = log_in_turn family c (the_end family site some within)

  pub past_in_older : (site : ℕ) → 0 < site → site ≤ length family
      → (newer : List OpValue) (x : OpValue) (older : List OpValue) → log_of family site ≡ newer ++ x ∷ older
      → (y : OpValue) → IsOpOf family y → IsTrue (in_past y x) → In y older
  past_in_older site some within newer x older is y o past =
      past_in_older_then family c (the_end family site some within) newer x older is y o past

  pub past_in_log : (site : ℕ) → 0 < site → site ≤ length family → (x y : OpValue) → In x (log_of family site)
      → IsOpOf family y → IsTrue (in_past y x) → In y (log_of family site)
  past_in_log site some within x y i o past = past_in_log_then family c (the_end family site some within) x y i o past

  -- the log of a moment is a log of the site
  pub log_after : (site : ℕ) → 0 < site → site ≤ length family → (front back : History)
      → history family site ≡ front ++ back → IsLogOf family (machine_after family site front).log
  log_after site some within front back e =
      let g = log_grows family c (moment_of family site some within front back e) in
      record { site = site; some = some; within = within; newer = g.0; is = g.1 }

  pub moment_log : (t : Moment family) → IsLogOf family (machine_at family t).log
  moment_log t = let g = log_grows family c t in
      record { site = t.site; some = t.some; within = t.within; newer = g.0; is = g.1 }

  -- and that of a site after an entry
  pub entry_log : (t : EntryOf family) → IsLogOf family (machine_then family t).log
  entry_log t =
      subst (λ (m : Machine). IsLogOf family m.log) (after_one_more (start t.site (length family)) t.front t.entry)
      (moment_log (moment_then family t))
