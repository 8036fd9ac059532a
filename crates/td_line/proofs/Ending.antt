-- Requests done at the end of a line.
use Rattle.std.proofs.Common.{◌≡◌, ◌+◌, ◌-◌, ◌++◌, ℕ, zero, suc, Bool, true, false, List, [], ◌∷◌, length, map}
use Rattle.std.proofs.Common.{take, refl, sym, ap, ◌∙◌, subst, append_assoc, append-nil, arith}
use Rattle.std.proofs.lemmas.List.{map-append}
use mathlib.Core.List.{IsPrefix}
use Rattle.td_machine.specs.History.{History}
use Rattle.td_line.specs.declared.ask.Ask.{Ask}
use Rattle.td_line.specs.declared.answer.Answer.{Answer}
use Rattle.td_line.specs.declared.report.Report.{Report}
use Rattle.td_line.specs.Calls.{AreRecorded, answers_at, local_at, IsAskDone}
use Rattle.td_line.specs.Lines.{sent_part}
use Rattle.td_site.proofs.Lists.{prefix_self, prefix_then}
use Rattle.td_line.proofs.Calling.{recorded_done, counts_done}

-- of all these requests those before the ones left are done
pub record AreDone (old : History) (before : List Answer) (all : List Ask) (now : History) (given : List Answer)
    (left : List Ask) : Type 0 where
  pub done : List Ask
  pub are : all ≡ done ++ left
  pub recorded : (asks : List Ask) → AreRecorded old 0 asks before → AreRecorded now 0 (asks ++ done) given
  pub counts : (k : ℕ) → answers_at k given + local_at old k ≡ answers_at k before + local_at now k
  pub begins : IsPrefix before given

pub done_none : (old : History) (before : List Answer) (all : List Ask) → AreDone old before all old before all
done_none old before all =
    record {
      done = [];
      are = refl;
      recorded = λ asks r. subst (λ (w : List Ask). AreRecorded old 0 w before) (sym (append-nil asks)) r;
      counts = λ k. refl;
      begins = prefix_self before;
    }

pub done_next : (old : History) (before : List Answer) (all : List Ask) (now : History) (given : List Answer)
    (left : List Ask) (ask : Ask) (next : History) (more : List Answer) (rest : List Ask)
    → AreDone old before all now given left → left ≡ ask ∷ rest → IsAskDone now given ask next more
    → AreDone old before all next more rest
done_next old before all now given left ask next more rest d first is =
    record {
      done = d.done ++ ask ∷ [];
      are = d.are ∙ ap (λ (w : List Ask). d.done ++ w) first ∙ sym (append_assoc d.done (ask ∷ []) rest);
      recorded = λ asks r. subst (λ (w : List Ask). AreRecorded next 0 w more) (append_assoc asks d.done (ask ∷ []))
          (recorded_done now given ask next more is (asks ++ d.done) (d.recorded asks r));
      counts = λ k. let one = counts_done now given ask next more is k in let two = d.counts k in omega arith;
      begins = prefix_then before given more d.begins (is.answer ∷ [], sym is.given);
    }

pub done_all : (old : History) (before : List Answer) (all : List Ask) (now : History) (given : List Answer)
    (left : List Ask) → AreDone old before all now given left → left ≡ []
    → (asks : List Ask) → AreRecorded old 0 asks before → AreRecorded now 0 (asks ++ all) given
done_all old before all now given left d none asks r =
    let is : all ≡ d.done = d.are ∙ ap (λ (w : List Ask). d.done ++ w) none ∙ append-nil d.done in
    subst (λ (w : List Ask). AreRecorded now 0 (asks ++ w) given) (sym is) (d.recorded asks r)

-- ---- what was polled

take_begins : (n : ℕ) (given : List Answer) → IsPrefix (take n given) given
take_begins zero given = (given, refl)
take_begins (suc n) [] = ([], refl)
take_begins (suc n) (a ∷ given) =
    let r = take_begins n given in (r.0, ap (λ (w : List Answer). a ∷ w) r.1)

sent_begins : (owed : Bool) (given : List Answer) → IsPrefix (sent_part owed given) given
sent_begins false given = prefix_self given
sent_begins true given = take_begins (length given - 1) given

-- the answers polled begin those that were given
pub polled_begins : (sent taken left : List Report) (owed : Bool) (given more : List Answer) → sent ≡ taken ++ left
    → map (λ (r : Report). r.answer) sent ≡ sent_part owed given → IsPrefix given more
    → IsPrefix (map (λ (r : Report). r.answer) taken) more
polled_begins sent taken left owed given more is sends begins =
    let polled = map (λ (r : Report). r.answer) taken in
    let whole : polled ++ map (λ (r : Report). r.answer) left ≡ sent_part owed given =
    sym (map-append (λ (r : Report). r.answer) taken left) ∙ ap (map (λ (r : Report). r.answer)) (sym is) ∙ sends in
    prefix_then polled given more
    (prefix_then polled (sent_part owed given) given (map (λ (r : Report). r.answer) left, whole)
    (sent_begins owed given))
    begins
