-- The looks at the texts that sites begin with.
use Rattle.std.proofs.Common.{◌≡◌, ◌≢◌, ◌<◌, ◌≤◌, ◌+◌, List, ℕ, suc, Bool, true, false, nat_eq}
use Rattle.std.proofs.Common.{nat_le, if◌then◌else◌, length, refl, sym, ap, ◌∙◌, subst, arith}
use Rattle.std.proofs.lemmas.Bool.{eqb-true, eqb-false, le-leb, leb-true, leb-false, lt-leb}
use Rattle.td_reader.specs.Values.{IsTraceValue}
use Rattle.td_law_replay.specs.Judging.{States, begin}
use Rattle.td_law_replay.specs.Replay.{Reaches, Begun}
use Rattle.td_law_replay.specs.Traced.{site_entries}
use Rattle.td_check.specs.Course.{AreSeen, AreFirstSeen, HasLooked, seen_first}
use Rattle.td_check.specs.Looks.{AreLooks, one_more}
use Rattle.td_check.specs.Sites.{ReplayValue, histories_of, done_of, states_of, IsReplaying}
use Rattle.td_check.specs.declared.looks.Looks.{Looks}
use Rattle.td_check.proofs.Going.{looks_alike, text_by_done}

pub none_seen : (r : ReplayValue) (looks : Looks) → IsTraceValue r.trace → ((site : ℕ) → done_of r site ≡ 0)
    → ((text_at : ℕ → ℕ → List ℕ) → AreLooks r.trace (λ site. 0) text_at looks) → AreFirstSeen r 0 looks
none_seen r looks is none of_none = λ last text_at on way.
    looks_alike r.trace is text_at looks (λ site. 0) (seen_first r 0)
    (λ site some within.
    sym (ap (λ (b : Bool). if b then suc (done_of r site) else done_of r site)
    (lt-leb site 0 some) ∙ none site))
    (of_none text_at)

pub first_on : (r : ReplayValue) (k site : ℕ) (before_ after_ : Looks) → IsTraceValue r.trace
    → states_of r ≡ begin (histories_of r) → 0 < site → site ≡ k + 1 → site ≤ r.trace.sites
    → done_of r site ≤ length (site_entries (histories_of r) site) → AreFirstSeen r k before_
    → HasLooked r site before_ after_ → AreFirstSeen r (k + 1) after_
first_on r k site before_ after_ is begun some number within most seen looked = λ last text_at on way.
    let reaches : IsReplaying r = subst (λ (s : States). Reaches (histories_of r) s) (sym begun) Begun in
    let there : site ≤ length (histories_of r) = subst (λ (n : ℕ). site ≤ n) (sym is.each_history) within in
    looks_alike r.trace is text_at after_ (one_more site (seen_first r k)) (seen_first r (k + 1))
    (λ other some_ within_. at other (nat_eq other site) refl (nat_le other k) refl)
    (looked (seen_first r k) text_at (seen last text_at on way)
    (ap (λ (b : Bool). if b then suc (done_of r site) else done_of r site) (lt-leb site k (omega (arith, number))))
    (text_by_done r last text_at reaches on way site some there most))
  where
    at : (other : ℕ) (b : Bool) → nat_eq other site ≡ b → (c : Bool) → nat_le other k ≡ c
        → one_more site (seen_first r k) other ≡ seen_first r (k + 1) other
    at other true f c h =
        let e : other ≡ site = eqb-true other site f in
        ap (λ (b : Bool). if b then suc (seen_first r k other) else seen_first r k other) f
        ∙ ap (λ (b : Bool). suc (if b then suc (done_of r other) else done_of r other))
        (lt-leb other k (omega (arith, e, number)))
        ∙ sym (ap (λ (b : Bool). if b then suc (done_of r other) else done_of r other)
        (le-leb other (k + 1) (omega (arith, e, number))))
    at other false f true h =
        let low : other ≤ k = leb-true other k h in
        ap (λ (b : Bool). if b then suc (seen_first r k other) else seen_first r k other) f
        ∙ ap (λ (b : Bool). if b then suc (done_of r other) else done_of r other) h
        ∙ sym (ap (λ (b : Bool). if b then suc (done_of r other) else done_of r other)
        (le-leb other (k + 1) (omega (arith, low))))
    at other false f false h =
        let apart : other ≢ site = eqb-false other site f in
        let high : k < other = leb-false other k h in
        let past : k + 1 < other = omega (arith, apart, high, number) in
        ap (λ (b : Bool). if b then suc (seen_first r k other) else seen_first r k other) f
        ∙ ap (λ (b : Bool). if b then suc (done_of r other) else done_of r other) h
        ∙ sym (ap (λ (b : Bool). if b then suc (done_of r other) else done_of r other)
        (lt-leb other (k + 1) past))

pub first_seen : (r : ReplayValue) (k : ℕ) (looks : Looks) → IsTraceValue r.trace → k ≡ r.trace.sites
    → AreFirstSeen r k looks → AreSeen r looks
first_seen r k looks is all seen = λ last text_at on way.
    looks_alike r.trace is text_at looks (seen_first r k) (λ site. suc (done_of r site))
    (λ site some within. ap (λ (b : Bool). if b then suc (done_of r site) else done_of r site)
    (le-leb site k (omega (arith, within, all)))) (seen last text_at on way)
