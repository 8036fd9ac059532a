-- What holds of the lines beside a site stays so while the site goes on.
use Rattle.std.proofs.Common.{◌≡◌, ◌<◌, ◌+◌, ℕ, zero, suc, List, [], ◌∷◌, length, set}
use Rattle.std.proofs.Common.{get_or, Some, refl, sym, ap, ◌∙◌, arith}
use Rattle.logbook.specs.Pages.{Book}
use Rattle.td_site.specs.Sites.{SiteValue}
use Rattle.td_site.specs.Later.{LaterSite}
use Rattle.td_line.specs.Calls.{answers_at}
use Rattle.td_line.specs.Lines.{LineValue, LaterLine, HasServed, Served}
use Rattle.td_room.specs.Later.{NoMoreLocals}
use Rattle.td_room.specs.Workers.{IsServing, given_at}
use Rattle.td_site.proofs.Lists.{prefix_self, prefix_then}
use Rattle.td_room.proofs.Locals.{served_on}
use Rattle.td_room.proofs.Rowing.{all_get}
use Rattle.td_room.proofs.Walks.{all_map, all_put}

-- ---- lines

pub line_self : (l : LineValue) → LaterLine l l
line_self l =
    record {
      editor = refl;
      asks = refl;
      answers = refl;
      mark = refl;
      cap = refl;
      taken = prefix_self l.asks.taken;
      sent = prefix_self l.answers.sent;
      given = prefix_self l.given;
    }

pub line_then : (l m n : LineValue) → LaterLine l m → LaterLine m n → LaterLine l n
line_then l m n a b =
    record {
      editor = b.editor ∙ a.editor;
      asks = b.asks ∙ a.asks;
      answers = b.answers ∙ a.answers;
      mark = b.mark ∙ a.mark;
      cap = b.cap ∙ a.cap;
      taken = prefix_then l.asks.taken m.asks.taken n.asks.taken a.taken b.taken;
      sent = prefix_then l.answers.sent m.answers.sent n.answers.sent a.sent b.sent;
      given = prefix_then l.given m.given n.given a.given b.given;
    }

-- the site goes on, without requests
pub serving_on : (s t : SiteValue) (lines : List LineValue) → LaterSite s t → NoMoreLocals s t → IsServing s lines
    → IsServing t lines
serving_on s t lines later none h =
    record {
      served = all_map (λ (l : LineValue). HasServed s.replica.entries l)
          (λ (l : LineValue). HasServed t.replica.entries l)
          lines (λ l. served_on s.replica.entries t.replica.entries l later.entries) h.served;
      views = all_map (λ (l : LineValue). l.answers.mark ≡ Some s.writer.views)
          (λ (l : LineValue). l.answers.mark ≡ Some t.writer.views)
          lines (λ l e. e ∙ ap (λ (v : Book). Some v) (sym later.views)) h.views;
      counted = λ k. h.counted k ∙ sym (none k);
    }

given_set : (k : ℕ) (ls : List LineValue) (i : ℕ) (l m : LineValue) → i < length ls → l ≡ get_or ls i l
    → given_at k (set ls i m) + answers_at k l.given ≡ given_at k ls + answers_at k m.given
given_set k [] i l m h e = absurd (omega (arith, h))
given_set k (x ∷ ls) zero l m h e =
    let q : answers_at k l.given ≡ answers_at k x.given = ap (λ (y : LineValue). answers_at k y.given) e in omega arith
given_set k (x ∷ ls) (suc i) l m h e = let q = given_set k ls i l m (omega (arith, h)) e in omega arith

-- one of the lines is served
pub serving_set : (s t : SiteValue) (lines : List LineValue) (i : ℕ) (l m : LineValue) → Served s l t m
    → i < length lines
    → l ≡ get_or lines i l → IsServing s lines → IsServing t (set lines i m)
serving_set s t lines i l m v h e is =
    let was : HasServed s.replica.entries l =
    all_get (λ (x : LineValue). HasServed s.replica.entries x) lines i l is.served h e in
    let mark : l.answers.mark ≡ Some s.writer.views =
    all_get (λ (x : LineValue). x.answers.mark ≡ Some s.writer.views) lines i l is.views h e in
    let same : Some s.writer.views ≡ Some t.writer.views = ap (λ (b : Book). Some b) (sym v.site.views) in
    record {
      served = all_put (λ (x : LineValue). HasServed s.replica.entries x)
          (λ (x : LineValue). HasServed t.replica.entries x)
          lines i m (λ x. served_on s.replica.entries t.replica.entries x v.site.entries) (v.served was) is.served;
      views = all_put (λ (x : LineValue). x.answers.mark ≡ Some s.writer.views)
          (λ (x : LineValue). x.answers.mark ≡ Some t.writer.views)
          lines i m (λ x f. f ∙ same) (v.line.mark ∙ mark ∙ same) is.views;
      counted = λ k.
          let a = given_set k lines i l m h e in
          let b = is.counted k in
          let c = v.counts k in
          omega arith;
    }
