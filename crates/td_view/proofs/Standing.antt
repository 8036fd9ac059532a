-- A text at the end of its history, and what may be published after it.
use Rattle.std.proofs.Common.{◌≡◌, ℕ, ◌≤◌, List, [], ◌∷◌, ◌++◌, length, ap, sym, ◌∙◌, subst, arith}
use Rattle.td_view.specs.declared.shown.Shown.{Shown}
use Rattle.td_view.specs.declared.publish.Publish.{Publish}
use Rattle.td_view.specs.Publishes.{publish, MayFollow, AreLegal, EndsWith}
use Rattle.td_view.specs.Deeds.{Publishes, State, state_of, publish_of}
use Rattle.td_view.specs.Tied.{StandsAtEnd}
use Rattle.td_view.proofs.Legal.{legal_snoc}

-- what stands at the end of the history that was entered
pub stands_next : (x : Shown) (upto last count : ℕ) (atoms : List (List ℕ)) (past : Publishes) → state_of x
    ≡ (upto, last, count, atoms, past)
    → count ≡ length past.log → AreLegal past.log → EndsWith past.log (publish upto atoms last) → StandsAtEnd x
stands_next x upto last count atoms past e n l ends =
    let p : x.past ≡ past = ap (λ (s : State). s.4) e in
    let mine : publish_of x ≡ publish upto atoms last = λ i. publish (e i).0 (e i).3 (e i).1 in
    record {
      counted = ap (λ (s : State). s.2) e ∙ n ∙ ap (λ (q : Publishes). length q.log) (sym p);
      legal = subst (λ (q : Publishes). AreLegal q.log) (sym p) l;
      ends = subst (λ (y : Publishes × Publish). EndsWith y.0.log y.1) (λ i. (sym p i, sym mine i)) ends;
    }

-- what may follow the text may be added to its history
pub may_add : (x : Shown) (past : Publishes) (q : Publish) → x.past ≡ past → StandsAtEnd x → MayFollow (publish_of x) q
    → AreLegal (past.log ++ q ∷ [])
may_add x past q same s f = subst (λ (p : Publishes). AreLegal (p.log ++ q ∷ [])) same
    (legal_snoc x.past.log (publish_of x) q s.legal s.ends f)

-- after an ordinary publish another may come
pub follows_plain : (p q : Publish) → p.last ≡ 0 → p.upto ≤ q.upto → MayFollow p q
follows_plain p q rested h =
    record {
      rises = h;
      goes_on = λ one. absurd (omega (arith, rested, one));
      counts = λ more. absurd (omega (arith, rested, more));
    }

pub may_follow : (x : Shown) (past : Publishes) (q : Publish) → x.past ≡ past → x.last ≡ 0 → StandsAtEnd x
    → x.upto ≤ q.upto → AreLegal (past.log ++ q ∷ [])
may_follow x past q same rested s h = may_add x past q same s (follows_plain (publish_of x) q rested h)
