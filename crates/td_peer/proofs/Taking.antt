-- A packet taken from a link, and two links settled.
use Rattle.std.proofs.Common.{◌≡◌, ◌++◌, ℕ, List, [], ◌∷◌, false, Option, Some, None}
use Rattle.std.proofs.Common.{MatchOption, refl, sym, ap, ◌∙◌, subst, append-nil}
use Rattle.std.specs.Option.{option_to_list, is_some}
use mathlib.Core.List.{IsPrefix}
use Rattle.td_op.specs.declared.message.Message.{Message}
use Rattle.td_wire.specs.Spelling.{SpellsIn}
use Rattle.td_link.specs.Ends.{RxValue}
use Rattle.td_link.specs.Moments.{WasEmpty}
use Rattle.td_machine.specs.History.{History}
use Rattle.td_law_meeting.specs.Takes.{takes_from}
use Rattle.td_law_meeting.specs.Peers.{ArePackets}
use Rattle.td_law_meeting.proofs.Hearing.{zip_append}
use Rattle.td_peer.specs.declared.parcel.Parcel.{Parcel}
use Rattle.td_peer.specs.Peers.{PeerState, packets}
use Rattle.td_peer.specs.Serving.{LaterPeer, TakesNext}

pub packets_append : (xs ys : List Parcel) → packets (xs ++ ys) ≡ packets xs ++ packets ys
packets_append [] ys = refl
packets_append (x ∷ xs) ys = ap (λ (w : List (List ℕ)). x.packet ∷ w) (packets_append xs ys)

-- what was taken is a beginning of what was sent
pub begins : (sent taken left : List Parcel) → sent ≡ taken ++ left → IsPrefix (packets taken) (packets sent)
begins sent taken left e = (packets left, sym (packets_append taken left) ∙ ap packets (sym e))

-- a packet more was taken, and says the message; or none was
abbrev pub Took : RxValue Parcel ℕ → RxValue Parcel ℕ → Option Message → Type 0
Took old new found =
    MatchOption found ((new ≡ old) × WasEmpty old.taken)
    (λ m. (parcel : Parcel) × SpellsIn m parcel.packet × (new ≡ record old { taken = old.taken ++ parcel ∷ [] }))

pub later_taken : (p : PeerState) (inbox : RxValue Parcel ℕ) (found : Option Message) → Took p.inbox inbox found
    → LaterPeer p (record p { inbox = inbox; waiting = found })
later_taken p inbox None h =
    record {
      own = refl;
      site = refl;
      loss = refl;
      outbox = refl;
      cap = refl;
      inbox = ap (λ (x : RxValue Parcel ℕ). x.link) h.0;
      taken = subst (λ (x : RxValue Parcel ℕ). IsPrefix p.inbox.taken x.taken) (sym h.0) ([], append-nil p.inbox.taken);
      sent = ([], append-nil p.outbox.sent);
    }
later_taken p inbox (Some m) h =
    let e = h.2 in
    record {
      own = refl;
      site = refl;
      loss = refl;
      outbox = refl;
      cap = refl;
      inbox = ap (λ (x : RxValue Parcel ℕ). x.link) e;
      taken = subst (λ (x : RxValue Parcel ℕ). IsPrefix p.inbox.taken x.taken) (sym e) (h.0 ∷ [], refl);
      sent = ([], append-nil p.outbox.sent);
    }

pub hears_taken : (entries : History) (number : ℕ) (old new : RxValue Parcel ℕ) (waiting found : Option Message)
    → waiting ≡ None → Took old new found → ArePackets (takes_from number entries ++ option_to_list waiting)
    (packets old.taken)
    → ArePackets (takes_from number entries ++ option_to_list found) (packets new.taken)
hears_taken entries number old new waiting None none h k =
    let w : ArePackets (takes_from number entries ++ []) (packets old.taken) =
    subst (λ (o : Option Message). ArePackets (takes_from number entries ++ option_to_list o) (packets old.taken))
    none k in
    subst (λ (x : RxValue Parcel ℕ). ArePackets (takes_from number entries ++ []) (packets x.taken)) (sym h.0) w
hears_taken entries number old new waiting (Some m) none h k =
    let ts = takes_from number entries in
    let w : ArePackets (ts ++ []) (packets old.taken) =
    subst (λ (o : Option Message). ArePackets (ts ++ option_to_list o) (packets old.taken)) none k in
    let v : ArePackets ts (packets old.taken) =
    subst (λ (l : List Message). ArePackets l (packets old.taken)) (append-nil ts) w in
    let u : ArePackets (ts ++ m ∷ []) (packets old.taken ++ h.0.packet ∷ []) =
    zip_append SpellsIn ts (m ∷ []) (packets old.taken) (h.0.packet ∷ []) v (h.1, tt) in
    subst (λ (l : List (List ℕ)). ArePackets (ts ++ m ∷ []) l)
    (sym (packets_append old.taken (h.0 ∷ [])) ∙ ap (λ (x : RxValue Parcel ℕ). packets x.taken) (sym h.2)) u

pub none_of : {X : Type 0} (o : Option X) → false ≡ is_some o → o ≡ None
none_of None e = refl
none_of (Some x) e = absurd (cc e)

longer : (xs : List Parcel) (x : Parcel) → xs ++ x ∷ [] ≡ xs → ⊥
longer [] x e = absurd cc
longer (y ∷ xs) x e = longer xs x (tail y (xs ++ x ∷ []) xs e)
  where
    tail : (z : Parcel) (us vs : List Parcel) → z ∷ us ≡ z ∷ vs → us ≡ vs
    tail z us vs f = cc

-- where the next packet was to be taken, and none was, the link was empty at a moment, whatever became of the message
pub took_next : (p q r : PeerState) → TakesNext p q → r.inbox.taken ≡ q.inbox.taken → r.inbox.taken ≡ p.inbox.taken
    → WasEmpty p.inbox.taken
took_next p q r h same none = by_waiting q.waiting h
  where
    by_waiting : (found : Option Message) → Took p.inbox q.inbox found → WasEmpty p.inbox.taken
    by_waiting None k = k.1
    by_waiting (Some m) k =
        absurd (longer p.inbox.taken k.0 (sym (ap (λ (x : RxValue Parcel ℕ). x.taken) k.2) ∙ sym same ∙ none))

pub took_or_empty : (old new : RxValue Parcel ℕ) (found : Option Message) → Took old new found
    → new.taken ≡ old.taken → found ≡ None → WasEmpty old.taken
took_or_empty old new None h same none = h.1
took_or_empty old new (Some m) h same none = absurd (cc none)
