use Rattle.std.proofs.Common.{◌≡◌, ◌+◌, ◌-◌, ◌∙◌, ap, sym, subst, arith, length}
use Rattle.std.proofs.Common.{length-append, List, ◌++◌, ◌∷◌, [], append-nil, ℕ}
use Rattle.logbook.specs.Pages.{Book}
use Rattle.td_view.specs.declared.publish.Publish.{Publish}
use Rattle.td_view.specs.Publishes.{publish, again, MayFollow}
use Rattle.td_view.specs.Deeds.{Publishes, publish_of}
use Rattle.td_view.specs.History.{head_of}
use Rattle.td_view.specs.Values.{ToldValue, tolds}
use Rattle.td_view.proofs.Results.{of_some}
use Rattle.td_view.proofs.Standing.{may_add}
use Rattle.td_view.proofs.Counting.{follows_down, told_more}
use Rattle.td_view.proofs.writer.Writer.end.Goals as goal

pub count_down-after-requires-clause-legal : goal.count_down-after-requires-clause-legal
count_down-after-requires-clause-legal g c =
    let i = c.loop-last.invariant in
    let x = c.loop-last.press.desk.shown.value in
    let m = c.loop-last.last in
    let f = subst (λ (q : Publish). MayFollow (publish_of x) q) (λ j. publish (sym i.4.1 j) (sym i.4.2 j) m)
    (i.6 c.loop-last-test.true) in
    may_add x c.loop-last.past (publish c.upto-upto.result x.atoms m) i.2 i.3 f

pub loop-last-preserved : goal.loop-last-preserved
loop-last-preserved g c =
    let i = c.loop-last.invariant in
    let p = c.args.self.shown in
    let m = c.loop-last.last in
    let old = c.loop-last.past in
    let next = c.in-Some.next in
    let made = c.count_down-after.result.1 in
    let y = c.count_down-after.result.0.desk.shown.value in
    let stands = of_some made next _ c.in-Some.is c.count_down-after.ensures.stands in
    let same = of_some made next _ c.in-Some.is c.count_down-after.ensures.same in
    let past = of_some made next _ c.in-Some.is c.count_down-after.ensures.past in
    let whole = tolds c.args.self.views c.args.self.publishes p c.args.count in
    let log : next.log ≡ old.log ++ again p m ∷ [] = past.1 ∙ (λ j. old.log ++ publish (i.4.1 j) (i.4.2 j) m ∷ []) in
    let told : c.new.result ≡ record { views = next.book; list = next.log } =
    c.new.ensures ∙ ap (λ (q : Publishes). record { views = q.book; list = q.log }) c.again.ensures in
    let items : c.push_reserved.new.self.items ≡ c.loop-last.all.items
    ++ record { views = next.book; list = next.log } ∷ [] =
    c.push_reserved.ensures.items ∙ (λ j. c.reserve.ensures.items j ++ told j ∷ []) in
    let before : c.loop-last.all.items ++ tolds next.book old.log p m ≡ whole =
    ap (λ (b : Book). c.loop-last.all.items ++ tolds b old.log p m) past.0 ∙ i.7 in (
      i.0 ∙ ap head_of (sym past.0),
      (
        ap (λ (n : ℕ). n + 1) i.1.0 ∙ (sym (length-append old.log (again p m ∷ [])) ∙ ap length (sym log)),
        omega
            (arith, c.if-number-ge-MOST.false),
      ),
      stands.1,
      stands.0,
      (ap (λ (q : Publish). q.upto) same, i.4.1, ap (λ (q : Publish). q.atoms) same ∙ i.4.2),
      stands.2,
      (λ more. follows_down (publish_of y) p m (same ∙ (λ j. publish (i.4.1 j) (i.4.2 j) m)) more),
      ap (λ (l : List ToldValue). l ++ tolds next.book next.log p (m - 1)) items
          ∙ told_more c.loop-last.all.items next.book old.log next.log p m whole c.loop-last-test.true before log,
    )

pub returns : goal.returns
returns g c =
    let i = c.loop-last.invariant in
    let none : c.loop-last.last ≡ 0 = omega (arith, c.loop-last-test.false) in
    let all = c.loop-last.all.items in
    sym (append-nil all)
    ∙ (ap (λ (k : ℕ). all ++ tolds c.loop-last.past.book c.loop-last.past.log c.args.self.shown k) (sym none) ∙ i.7)
