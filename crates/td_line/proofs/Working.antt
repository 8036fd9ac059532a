-- Work for one line, composed.
use Rattle.std.proofs.Common.{◌≡◌, ◌+◌, ◌++◌, ℕ, true, List, [], ◌∷◌, length, Option, Some, None, MatchOption}
use Rattle.std.proofs.Common.{refl, sym, ap, ◌∙◌, subst, length-append, append-nil, arith}
use Rattle.std.specs.Option.{option_to_list}
use Rattle.std.specs.List.{AllByRecursion}
use mathlib.Core.List.{IsPrefix}
use Rattle.logbook.specs.Pages.{Book}
use Rattle.td_link.specs.Ends.{RxValue}
use Rattle.td_link.specs.Moments.{WasEmpty, WasFull}
use Rattle.td_op.specs.declared.entry.Entry.{Entry}
use Rattle.td_machine.specs.History.{History}
use Rattle.td_replica.specs.Replica.{ReplicaValue}
use Rattle.td_site.specs.Sites.{SiteValue}
use Rattle.td_site.specs.Later.{LaterSite, TookNext, OnlyNexts}
use Rattle.td_site.proofs.Lists.{prefix_self, prefix_then}
use Rattle.td_site.proofs.Later.{later_self, later_then}
use Rattle.td_line.specs.declared.ask.Ask.{Ask}
use Rattle.td_line.specs.declared.answer.Answer.{Answer}
use Rattle.td_line.specs.Calls.{AreRecorded, answers_at, local_in, local_at, IsAskDone}
use Rattle.td_line.specs.Lines.{LineValue, line_places, HasServed, LaterLine, Served, Turned}
use Rattle.td_line.specs.Editors.{EditorValue, LaterEditor, Belongs, IsNewLine}
use Rattle.td_line.proofs.Calling.{recorded_later, recorded_done, counts_done}
use Rattle.td_line.proofs.Calling.{local_same, only_none, only_then, only_done}

prefix_equal : {A : Type 0} (xs ys : List A) → ys ≡ xs → IsPrefix xs ys
prefix_equal {A} xs ys e = subst (λ (w : List A). IsPrefix xs w) (sym e) (prefix_self xs)

-- ---- a line that goes on

pub line_self : (l : LineValue) → LaterLine l l
line_self l =
    record {
      editor = refl;
      asks = refl;
      answers = refl;
      mark = refl;
      cap = refl;
      taken = prefix_self l.asks.taken;
      sent = prefix_self l.answers.sent;
      given = prefix_self l.given;
    }

pub line_then : (l m n : LineValue) → LaterLine l m → LaterLine m n → LaterLine l n
line_then l m n a b =
    record {
      editor = b.editor ∙ a.editor;
      asks = b.asks ∙ a.asks;
      answers = b.answers ∙ a.answers;
      mark = b.mark ∙ a.mark;
      cap = b.cap ∙ a.cap;
      taken = prefix_then l.asks.taken m.asks.taken n.asks.taken a.taken b.taken;
      sent = prefix_then l.answers.sent m.answers.sent n.answers.sent a.sent b.sent;
      given = prefix_then l.given m.given n.given a.given b.given;
    }

-- ---- what is served

-- a history that goes on leaves what is served
pub has_served_later : (old new : History) (l : LineValue) → IsPrefix old new → HasServed old l → HasServed new l
has_served_later old new l p h =
    record { done = h.done; taken = h.taken; recorded = recorded_later old new 0 h.done l.given p h.recorded }

pub served_self : (s : SiteValue) (l : LineValue) → Served s l s l
served_self s l =
    record {
      site = later_self s;
      line = line_self l;
      only = only_none s.replica.entries s.replica.entries refl;
      served = λ h. h;
      counts = λ k. refl;
    }

pub served_then : (s t u : SiteValue) (l m n : LineValue) → Served s l t m → Served t m u n → Served s l u n
served_then s t u l m n a b =
    record {
      site = later_then s t u a.site b.site;
      line = line_then l m n a.line b.line;
      only = only_then s.replica.entries t.replica.entries u.replica.entries a.only b.only;
      served = λ h. b.served (a.served h);
      counts = λ k. let x = a.counts k in let y = b.counts k in omega arith;
    }

-- where the replica stays, as by a publish
pub served_shown : (s t : SiteValue) (l : LineValue) → LaterSite s t → t.replica ≡ s.replica → Served s l t l
served_shown s t l later same =
    let entries : t.replica.entries ≡ s.replica.entries = ap (λ (r : ReplicaValue). r.entries) same in
    record {
      site = later;
      line = line_self l;
      only = only_none s.replica.entries t.replica.entries entries;
      served = λ h. has_served_later s.replica.entries t.replica.entries l later.entries h;
      counts = λ k. ap (λ (w : History). answers_at k l.given + local_at w k) (sym entries);
    }

-- a site that goes on by other entries leaves the count of each entry
pub counts_others : (old new : History) (p : IsPrefix old new)
    → AllByRecursion (λ (e : Entry). local_in e.input ≡ 0) p.0 → (k : ℕ) → local_at new k ≡ local_at old k
counts_others old new p none k =
    ap (λ (h : History). local_at h k) (sym p.1) ∙ local_same old p.0 none k

no_requests : (more : History) → AllByRecursion TookNext more
    → AllByRecursion (λ (e : Entry). local_in e.input ≡ 0) more
no_requests [] nexts = tt
no_requests (e ∷ more) nexts = (ap local_in nexts.0.0, no_requests more nexts.1)

pub counts_nexts : (old new : History) → OnlyNexts old new → (k : ℕ) → local_at new k ≡ local_at old k
counts_nexts old new n = counts_others old new (n.more, n.goes_on) (no_requests n.more n.nexts)

-- ---- a request done

pub served_done : (s t : SiteValue) (l m : LineValue) (ask : Ask) → LaterSite s t → l.ask ≡ Some ask
    → IsAskDone s.replica.entries l.given ask t.replica.entries m.given
    → m ≡ record l { ask = None; given = m.given; owed = true } → Served s l t m
served_done s t l m ask later waits d is =
    record {
      site = later;
      line = record {
        editor = ap (λ (x : LineValue). x.editor) is;
        asks = ap (λ (x : LineValue). x.asks.link) is;
        answers = ap (λ (x : LineValue). x.answers.link) is;
        mark = ap (λ (x : LineValue). x.answers.mark) is;
        cap = ap (λ (x : LineValue). x.answers.cap) is;
        taken = prefix_equal l.asks.taken m.asks.taken (ap (λ (x : LineValue). x.asks.taken) is);
        sent = prefix_equal l.answers.sent m.answers.sent (ap (λ (x : LineValue). x.answers.sent) is);
        given = (d.answer ∷ [], sym d.given);
      };
      only = only_done s.replica.entries l.given ask t.replica.entries m.given d;
      served = λ h. record {
        done = h.done ++ ask ∷ [];
        taken = ap (λ (x : LineValue). x.asks.taken) is ∙ h.taken
            ∙ ap (λ (o : Option Ask). h.done ++ option_to_list o) waits
            ∙ sym (append-nil (h.done ++ ask ∷ []))
            ∙ ap (λ (o : Option Ask). (h.done ++ ask ∷ []) ++ option_to_list o)
            (sym (ap (λ (x : LineValue). x.ask) is));
        recorded = recorded_done s.replica.entries l.given ask t.replica.entries m.given d h.done h.recorded;
      };
      counts = counts_done s.replica.entries l.given ask t.replica.entries m.given d;
    }

-- ---- a request taken, if there is one

taken_next : (old next : Option Ask) (done taken more : List Ask) → old ≡ None → taken ≡ done ++ option_to_list old
    → MatchOption next (more ≡ taken) (λ ask. more ≡ taken ++ ask ∷ []) → more ≡ done ++ option_to_list next
taken_next old None done taken more none is m = m ∙ is ∙ ap (λ (o : Option Ask). done ++ option_to_list o) none
taken_next old (Some ask) done taken more none is m =
    m ∙ ap (λ (w : List Ask). w ++ ask ∷ [])
    (is ∙ ap (λ (o : Option Ask). done ++ option_to_list o) none ∙ append-nil done)

taken_more : (next : Option Ask) (taken more : List Ask)
    → MatchOption next (more ≡ taken) (λ ask. more ≡ taken ++ ask ∷ []) → IsPrefix taken more
taken_more None taken more m = prefix_equal taken more m
taken_more (Some ask) taken more m = (ask ∷ [], sym m)

pub served_taken : (s : SiteValue) (l m : LineValue) → l.ask ≡ None → m ≡ record l { asks = m.asks; ask = m.ask }
    → m.asks.link ≡ l.asks.link
    → MatchOption m.ask (m.asks.taken ≡ l.asks.taken) (λ ask. m.asks.taken ≡ l.asks.taken ++ ask ∷ []) → Served s l s m
served_taken s l m none is link taken =
    record {
      site = later_self s;
      line = record {
        editor = ap (λ (x : LineValue). x.editor) is;
        asks = link;
        answers = ap (λ (x : LineValue). x.answers.link) is;
        mark = ap (λ (x : LineValue). x.answers.mark) is;
        cap = ap (λ (x : LineValue). x.answers.cap) is;
        taken = taken_more m.ask l.asks.taken m.asks.taken taken;
        sent = prefix_equal l.answers.sent m.answers.sent (ap (λ (x : LineValue). x.answers.sent) is);
        given = prefix_equal l.given m.given (ap (λ (x : LineValue). x.given) is);
      };
      only = only_none s.replica.entries s.replica.entries refl;
      served = λ h. record {
        done = h.done;
        taken = taken_next l.ask m.ask h.done l.asks.taken m.asks.taken none h.taken taken;
        recorded = subst (λ (w : List Answer). AreRecorded s.replica.entries 0 h.done w)
            (sym (ap (λ (x : LineValue). x.given) is)) h.recorded;
      };
      counts = λ k. ap (λ (w : List Answer). answers_at k w + local_at s.replica.entries k)
          (ap (λ (x : LineValue). x.given) is);
    }

-- ---- a turn that ends well

longer : {A : Type 0} (xs : List A) (x : A) → xs ++ x ∷ [] ≡ xs → ⊥
longer xs x e = absurd (omega (arith, ap length e, length-append xs (x ∷ [])))

took_some : (next : Option Ask) (taken more : List Ask) (P : Type 0)
    → MatchOption next (more ≡ taken) (λ ask. more ≡ taken ++ ask ∷ []) → (next ≡ None → P) → more ≡ taken → P
took_some None taken more P m f e = f refl
took_some (Some ask) taken more P m f e = absurd (longer taken ask (sym m ∙ e))

-- from the line l, x before the take, y after it, to m
pub turned_end : (l x y m : LineValue) → x.asks.taken ≡ l.asks.taken
    → MatchOption y.ask (y.asks.taken ≡ x.asks.taken) (λ ask. y.asks.taken ≡ x.asks.taken ++ ask ∷ [])
    → (y.ask ≡ None → WasEmpty y.asks.taken) → m.asks ≡ y.asks → m.ask ≡ None
    → (m.owed ≡ true → WasFull line_places m.answers.sent) → Turned l m
turned_end l x y m before taken empty same done full =
    let is : m.asks.taken ≡ y.asks.taken = ap (λ (a : RxValue Ask (Unit {0})). a.taken) same in
    record {
      done = done;
      full = full;
      took = λ e owed. subst (λ (w : List Ask). WasEmpty w) (sym is)
          (took_some y.ask x.asks.taken y.asks.taken (WasEmpty y.asks.taken) taken empty (sym is ∙ e ∙ sym before));
    }

-- ---- a line and its editor

-- nothing was taken of a new line
pub new_has_served : (entries : History) (editor : ℕ) (views : Book) (l : LineValue) → IsNewLine editor views l
    → HasServed entries l
new_has_served entries editor views l n =
    record {
      done = [];
      taken = n.asks ∙ ap (λ (o : Option Ask). [] ++ option_to_list o) (sym n.ask);
      recorded = subst (λ (w : List Answer). AreRecorded entries 0 [] w) (sym n.given) tt;
    }

pub belongs_later : (l m : LineValue) (e f : EditorValue) → LaterLine l m → LaterEditor e f → Belongs l e → Belongs m f
belongs_later l m e f line editor b =
    record {
      asks = editor.asks ∙ b.asks ∙ sym line.asks;
      answers = line.answers ∙ b.answers ∙ sym editor.answers;
    }

pub mark_later : (s t : SiteValue) (l m : LineValue) → Served s l t m → l.answers.mark ≡ Some s.writer.views
    → m.answers.mark ≡ Some t.writer.views
mark_later s t l m v mark = v.line.mark ∙ mark ∙ ap (λ (b : Book). Some b) (sym v.site.views)
