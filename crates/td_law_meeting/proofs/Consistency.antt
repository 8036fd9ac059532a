-- Workers whose links are settled are a consistent family.
use Rattle.std.proofs.Common.{◌≡◌, ◌≢◌, ◌<◌, ◌≤◌, ◌+◌, ◌-◌, ◌++◌, ℕ, zero, suc, List, [], ◌∷◌, true, length}
use Rattle.std.proofs.Common.{slice_get, Some, refl, sym, ap, ◌∙◌, subst, inl, inr, ◌⊎◌, ⊎_elim, arith}
use Rattle.std.specs.Option.{option_to_list}
use Rattle.td_base.specs.declared.site.TheConstants.{MAX_SITE}
use Rattle.td_base.specs.Lists.{In}
use Rattle.td_base.proofs.Lists.{In-front, all_in}
use Rattle.td_base.proofs.Places.{some_at}
use Rattle.td_base.proofs.Passing.{zip_left}
use Rattle.td_op.specs.declared.entry.Entry.{Entry}
use Rattle.td_op.specs.declared.input.Input.TheVariants.{Take}
use Rattle.td_op.specs.declared.message.Message.{Message}
use Rattle.td_wire.specs.Spelling.{SpellsIn}
use Rattle.td_wire.proofs.Decoding.{one_message}
use Rattle.td_machine.specs.Machine.{Machine, start}
use Rattle.td_machine.specs.History.{History, history, after, machine, machine_after}
use Rattle.td_machine.specs.History.{IsAddressed, IsLegal, MayCome, IsConsistent}
use Rattle.td_op.specs.Message.{sender}
use Rattle.td_law_meeting.specs.Thin.{is_addressed}
use Rattle.td_law_meeting.specs.Takes.{takes_from, IsWelcome, TakesWelcome}
use Rattle.td_law_meeting.specs.Peers.{PeerValue, HasTakenOf, Hears, Tells, sent_to}
use Rattle.td_law_meeting.specs.Accounts.{Account, IsAccount, WorkersMet, AreSettled, family_of}
use Rattle.td_law_meeting.proofs.Rows.{history_is, apart, prefix_in, zip_right, peer_of}
use Rattle.td_law_meeting.proofs.Messages.{takes_in, welcome_at, told_in, addressed}

-- the worker of a site
record At (accounts : List Account) (site : ℕ) : Type 0 where
  account : Account
  found : slice_get accounts (site - 1) ≡ Some account
  is : account.site ≡ site
  account_is : IsAccount (length accounts) account
  entries : history (family_of accounts) site ≡ account.entries

size_is : (accounts : List Account) → length (family_of accounts) ≡ length accounts
size_is [] = refl
size_is (a ∷ accounts) = ap suc (size_is accounts)

at : (accounts : List Account) (site : ℕ) → AreSettled accounts → 0 < site → site ≤ length accounts → At accounts site
at accounts site s some within =
    let f = some_at accounts (site - 1) (omega (arith, some, within)) in
    let k = s.sites (site - 1) f.0 f.1 in
    let e : site - 1 + 1 ≡ site = omega (arith, some) in
    record {
      account = f.0;
      found = f.1;
      is = k.0 ∙ e;
      account_is = k.1;
      entries = history_is accounts (site - 1) f.0 f.1;
    }

less_or : (a b : ℕ) → a ≢ b → (a < b) ⊎ (b < a)
less_or zero zero h = absurd (h refl)
less_or zero (suc b) h = inl (omega arith)
less_or (suc a) zero h = inr (omega arith)
less_or (suc a) (suc b) h =
    ⊎_elim (λ (l : a < b). inl (omega (arith, l)))
    (λ (l : b < a). inr (omega (arith, l))) (less_or a b (λ e. h (ap suc e)))

one : (packet : List ℕ) (m n : Message) → SpellsIn m packet → SpellsIn n packet → m ≡ n
one packet m n h k = one_message packet h.0 k.0 m n h.1 k.1

-- what the peer of the one took, the peer of the other sent
taken_of : (accounts : List Account) (r t : ℕ) → AreSettled accounts → 0 < r → 0 < t → r ≢ t → (x : At accounts r)
    → (y : At accounts t) → (p q : PeerValue) → In p x.account.peers → p.site ≡ t → In q y.account.peers → q.site ≡ r
    → HasTakenOf p q
taken_of accounts r t s some some' other x y p q i e j f =
    let pe : p.site ≡ y.account.site = e ∙ sym y.is in
    let qe : q.site ≡ x.account.site = f ∙ sym x.is in
    ⊎_elim
    (λ (l : r - 1 < t - 1).
    (apart WorkersMet accounts (r - 1) (t - 1) x.account y.account s.met l x.found y.found p q i pe j qe).0)
    (λ (l : t - 1 < r - 1).
    (apart WorkersMet accounts (t - 1) (r - 1) y.account x.account s.met l y.found x.found q p j qe i pe).1)
    (less_or (r - 1) (t - 1) (λ (k : r - 1 ≡ t - 1). other (pred r t some some' k)))
  where
    pred : (a b : ℕ) → 0 < a → 0 < b → a - 1 ≡ b - 1 → a ≡ b
    pred zero b h k e = absurd (omega (arith, h))
    pred (suc a) zero h k e = absurd (omega (arith, k))
    pred (suc a) (suc b) h k e = let g : a ≡ b = omega (arith, e) in ap suc g

-- the message was sent by its site, for the one that took it
record Came (accounts : List Account) (site : ℕ) (message : Message) : Type 0 where
  sent : In message (machine (family_of accounts) (sender message)).sent
  to : IsAddressed site message

came : (accounts : List Account) (site : ℕ) → AreSettled accounts → 0 < site → site ≤ length accounts
    → (front : History) (e : Entry) (back : History) (message : Message)
    → history (family_of accounts) site ≡ front ++ e ∷ back → e.input ≡ Take message
    → 0 < sender message → sender message ≤ length accounts → sender message ≢ site → Came accounts site message
came accounts site s some within front e back message split is from upto other =
    let n = length accounts in
    let t = sender message in
    let x = at accounts site s some within in
    let y = at accounts t s from upto in
    let a = x.account in
    let b = y.account in
    let other' : t ≢ a.site = λ k. other (k ∙ x.is) in
    let back' : site ≢ b.site = λ (k : site ≡ b.site). other (sym (k ∙ y.is)) in
    let pp = peer_of n a.site t a.peers x.account_is.peers from upto other' in
    let qq = peer_of n b.site site b.peers y.account_is.peers some within back' in
    let p = pp.0 in
    let q = qq.0 in
    let ts = takes_from p.site a.entries in
    let inside : In message (takes_from p.site a.entries) =
    subst (λ (h : History). In message (takes_from p.site h)) (sym split ∙ x.entries)
    (takes_in p.site front e back message is (sym pp.2)) in
    let heard = zip_right SpellsIn (ts ++ option_to_list p.waiting) p.taken message
    (all_in (Hears a.entries) a.peers x.account_is.hears p pp.1)
    (In-front message ts (option_to_list p.waiting) inside) in
    let packet = heard.0 in
    let crossed : In packet q.sent =
    prefix_in packet p.taken q.sent
    (taken_of accounts site t s some from (λ (k : site ≡ t). other (sym k)) x y p q pp.1 pp.2 qq.1 qq.2) heard.1 in
    let sent = (after (start b.site n) b.entries).sent in
    let tells : Tells sent q = all_in (Tells sent) b.peers y.account_is.tells q qq.1 in
    let said = sent_to q.loss q.site q.dealt q.again sent in
    let told = zip_left SpellsIn said q.sent packet tells.packets crossed in
    let same : told.0 ≡ message = one packet told.0 message told.2 heard.2 in
    let both = told_in q.loss q.site q.dealt q.again sent message
    (subst (λ (m : Message). In m said) same told.1) in
    let there : after (start b.site n) b.entries ≡ machine (family_of accounts) t =
    λ i. after (start (y.is i) (sym (size_is accounts) i)) (sym y.entries i) in
    record {
      sent = subst (λ (m : Machine). In message m.sent) there both.0;
      to = addressed site message (subst (λ (k : ℕ). is_addressed k message ≡ true) qq.2 both.1);
    }

welcome : (accounts : List Account) (site : ℕ) → AreSettled accounts → 0 < site → site ≤ length accounts
    → (front : History) (e : Entry) (back : History) (message : Message)
    → history (family_of accounts) site ≡ front ++ e ∷ back → e.input ≡ Take message
    → IsWelcome site (length accounts) (machine_after (family_of accounts) site front) message
welcome accounts site s some within front e back message split is =
    let n = length accounts in
    let x = at accounts site s some within in
    let a = x.account in
    let w : IsWelcome a.site n (after (start a.site n) front) message =
    welcome_at a.site n (start a.site n) front e back message
    (subst (λ (h : History). TakesWelcome a.site n (start a.site n) h) (sym x.entries ∙ split)
    x.account_is.welcome) is in
    subst (λ (k : ℕ × ℕ). IsWelcome k.0 n (after (start k.0 k.1) front) message)
    (λ i. (x.is i, sym (size_is accounts) i)) w

pub consistent : (accounts : List Account) → AreSettled accounts → IsConsistent (family_of accounts)
consistent accounts s =
    record {
      legal = record {
        some = subst (λ (n : ℕ). 0 < n) (sym size) s.some;
        few = subst (λ (n : ℕ). n ≤ MAX_SITE) (sym size) s.few;
        legal = legal;
      };
      takes = takes;
    }
  where
    size : length (family_of accounts) ≡ length accounts
    size = size_is accounts

    legal : (site : ℕ) → 0 < site → site ≤ length (family_of accounts)
        → IsLegal site (length (family_of accounts)) (history (family_of accounts) site)
    legal site some within =
        let x = at accounts site s some (subst (λ (n : ℕ). site ≤ n) size within) in
        subst (λ (k : ℕ × ℕ × History). IsLegal k.0 k.1 k.2)
        (λ i. (x.is i, sym size i, sym x.entries i)) x.account_is.legal

    takes : (site : ℕ) (front : History) (e : Entry) (back : History) (message : Message)
        → 0 < site → site ≤ length (family_of accounts) → history (family_of accounts) site ≡ front ++ e ∷ back
        → e.input ≡ Take message
        → MayCome (family_of accounts) site (machine_after (family_of accounts) site front) message
    takes site front e back message some within split is =
        let few : site ≤ length accounts = subst (λ (n : ℕ). site ≤ n) size within in
        let w = welcome accounts site s some few front e back message split is in
        let c = came accounts site s some few front e back message split is w.some w.within w.another in
        record {
          another = w.another;
          sent = c.sent;
          addressed = c.to;
          own_made = w.own_made;
        }
