-- What comes to one of the seats, among all of them.
use Rattle.std.proofs.Common.{◌≡◌, ◌<◌, ◌≤◌, ◌-◌, List, ℕ, length, get_or, set, Result, Ok, Err, sym, ap, ◌∙◌}
use Rattle.std.proofs.Common.{subst, arith}
use Rattle.std.specs.Prelude.{IfOk}
use Rattle.std.proofs.lemmas.List.{get_or_default, get_or-set_same}
use Rattle.td_op.specs.declared.reply.Reply.{Reply}
use Rattle.td_machine.specs.Machine.{Machine, start}
use Rattle.td_law_replay.specs.Judging.{Judgement}
use Rattle.td_check.specs.Sites.{ReplayValue, histories_of, IsJudged, IsJudgedIn, IsJudgedAt}
use Rattle.td_check.specs.declared.judged.Judged.{Judged}

pub if_ok_so : {T E : Type 0} (P Q : T → Type 0) (result : Result T E) → ((x : T) → P x → Q x) → IfOk result P
    → IfOk result Q
if_ok_so P Q (Ok x) so p = so x p
if_ok_so P Q (Err e) so p = tt

-- the machine at a place that there is
pub there_is : (items : List Machine) (site place : ℕ) → 0 < site → site ≤ length items → place ≡ site - 1
    → (m e : Machine) → m ≡ get_or items place e → (d : Machine) → get_or items (site - 1) d ≡ m
there_is items site place some within is m e same d =
    get_or_default items (site - 1) d e (omega (arith, some, within))
    ∙ ap (λ (k : ℕ). get_or items k e) (sym is)
    ∙ sym same

pub in_seats : (d : Machine) (items : List Machine) (site place : ℕ) → 0 < site → site ≤ length items
    → place ≡ site - 1 → (m e n : Machine) → m ≡ get_or items place e → (f : Machine → Judgement) (reply : Reply)
    (judged : Judged) → IsJudged (f m) reply judged m n
    → IsJudgedIn d site (f (get_or items (site - 1) d)) reply judged items (set items place n)
in_seats d items site place some within is m e n same f reply judged it =
    let old : get_or items (site - 1) d ≡ m = there_is items site place some within is m e same d in
    let new : get_or (set items place n) (site - 1) d ≡ n =
    ap (λ (k : ℕ). get_or (set items k n) (site - 1) d) is
    ∙ get_or-set_same items (site - 1) n d (omega (arith, some, within)) in (
      subst (λ (x : Machine). IsJudged (f x) reply judged x (get_or (set items place n) (site - 1) d)) (sym old)
          (subst (λ (x : Machine). IsJudged (f m) reply judged m x) (sym new) it),
      (λ i. set items (is i) (sym new i)),
    )

-- ---- in the replay

-- the judgement at a seat is that in the whole replay
pub at_replay : (inside r : ReplayValue) → inside ≡ r → (site : ℕ) (f : ReplayValue → Judgement) (reply : Reply)
    (judged : Judged) (machines : List Machine)
    → IsJudgedIn (start site (length (histories_of inside))) site (f inside) reply judged inside.machines machines
    → IsJudgedAt site (f r) reply judged r (record inside { machines = machines })
at_replay inside r same site f reply judged machines it =
    subst (λ (q : ReplayValue). IsJudgedAt site (f q) reply judged q (record inside { machines = machines })) same
    (it.0, ap (λ (ms : List Machine). record inside { machines = ms }) it.1)
