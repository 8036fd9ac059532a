-- A family that is written out is consistent where each entry is, at the machine before it; and that is shown by tests
-- that compute.
use Rattle.std.proofs.Common.{◌≡◌, ◌<◌, ◌≤◌, ◌++◌, ℕ, zero, suc, List, [], ◌∷◌, Bool, true, ◌&&◌, not}
use Rattle.std.proofs.Common.{length, nat_eq, nat_le, Some, sym, subst, inl, inr, arith}
use Rattle.std.proofs.lemmas.Bool.{leb-true, eqb-true, eqb-false, not-true, and_parts}
use Rattle.td_base.specs.declared.site.TheConstants.{MAX_SITE}
use Rattle.td_base.specs.Lists.{In}
use Rattle.td_op.specs.declared.message.Message.{Message}
use Rattle.td_op.specs.declared.message.Message.TheVariants.{Op as AnOp, Vote as AVote}
use Rattle.td_op.specs.declared.entry.Entry.{Entry}
use Rattle.td_op.specs.declared.input.Input.TheVariants.{Local, Take, Next}
use Rattle.td_op.specs.declared.request.Request.{Request}
use Rattle.td_op.specs.declared.reply.Reply.{Reply}
use Rattle.td_op.specs.Input.{IsInput, IsRequest}
use Rattle.td_machine.specs.Machine.{Machine, start, made}
use Rattle.td_machine.specs.Step.{step}
use Rattle.td_machine.specs.Stage.{at_place}
use Rattle.td_machine.specs.History.{History, Family, after, history, machine, known_of}
use Rattle.td_machine.specs.History.{IsAddressed, IsLegalFrom, IsConsistent, MayCome}
use Rattle.td_op.specs.Message.{sender}
use Rattle.std.proofs.lemmas.Option.{same_Some}
use Rattle.td_machine.proofs.Ranges.{message_fits, message_from}

-- an entry that a site of the family can have at its machine m
pub record IsFair (family : Family) (site : ℕ) (m : Machine) (e : Entry) : Type 0 where
  pub valid : IsInput e.input
  pub replies : (step m e.input).reply ≡ e.reply
  pub comes : (message : Message) → e.input ≡ Take message → MayCome family site m message

abbrev pub EachFair : Family → ℕ → Machine → History → Type 0
EachFair family site m [] = Unit {0}
EachFair family site m (e ∷ entries) = IsFair family site m e × EachFair family site (step m e.input).machine entries

fair_legal : (family : Family) (site : ℕ) (m : Machine) (entries : History) → EachFair family site m entries
    → IsLegalFrom m entries
fair_legal family site m [] f = tt
fair_legal family site m (e ∷ entries) f =
    (f.0.valid, f.0.replies, fair_legal family site (step m e.input).machine entries f.1)

fair_at : (family : Family) (site : ℕ) (m : Machine) (front : History) (e : Entry) (back : History)
    → EachFair family site m (front ++ e ∷ back) → IsFair family site (after m front) e
fair_at family site m [] e back f = f.0
fair_at family site m (g ∷ front) e back f = fair_at family site (step m g.input).machine front e back f.1

pub consistent_from : (family : Family) → 0 < length family → length family ≤ MAX_SITE
    → ((site : ℕ) → 0 < site → site ≤ length family
    → EachFair family site (start site (length family)) (history family site))
    → IsConsistent family
consistent_from family some few fair =
    record {
      legal = record {
        some = some;
        few = few;
        legal = λ site up low.
            fair_legal family site (start site (length family)) (history family site) (fair site up low);
      };
      takes = λ site front e back message up low is takes.
          let each =
          subst (λ (h : History). EachFair family site (start site (length family)) h) is (fair site up low) in
          (fair_at family site (start site (length family)) front e back each).comes message takes;
    }

-- ---- the three kinds of entries

pub asked : (family : Family) (site : ℕ) (m : Machine) (request : Request) (reply : Reply) → IsRequest request
    → (step m (Local request)).reply ≡ reply → IsFair family site m (record { input = Local request; reply = reply })
asked family site m request reply valid replies =
    record { valid = valid; replies = replies; comes = λ message e. absurd cc }

pub went_on : (family : Family) (site : ℕ) (m : Machine) (reply : Reply) → (step m Next).reply ≡ reply
    → IsFair family site m (record { input = Next; reply = reply })
went_on family site m reply replies = record { valid = tt; replies = replies; comes = λ message e. absurd cc }

abbrev pub is_addressed : ℕ → Message → Bool
is_addressed site (AnOp x) = true
is_addressed site (AVote v) = nat_eq v.proposal.site site

addressed_from : (site : ℕ) (message : Message) → is_addressed site message ≡ true → IsAddressed site message
addressed_from site (AnOp x) h = tt
addressed_from site (AVote v) h = eqb-true v.proposal.site site h

abbrev pub may_come : ℕ → Machine → Message → Bool
may_come site m message =
    not (nat_eq (sender message) site) && (is_addressed site message && nat_le (known_of site message) (made m))

in_place : {X : Type 0} (k : ℕ) (xs : List X) (x : X) → at_place k xs ≡ Some x → In x xs
in_place k [] x h = absurd cc
in_place zero (y ∷ xs) x h = inl (same_Some x y (sym h))
in_place (suc k) (y ∷ xs) x h = inr (in_place k xs x h)

-- the message is the k-th, from 0, that its sender sent
pub took : (family : Family) (site : ℕ) (m : Machine) (message : Message) (reply : Reply) (k : ℕ)
    → message_fits message ≡ true
    → (step m (Take message)).reply ≡ reply → may_come site m message ≡ true
    → at_place k (machine family (sender message)).sent ≡ Some message
    → IsFair family site m (record { input = Take message; reply = reply })
took family site m message reply k fits replies may sent =
    record {
      valid = message_from message fits;
      replies = replies;
      comes = λ other e. subst (MayCome family site m) (same message other e) come;
    }
  where
    same : (a b : Message) → Take a ≡ Take b → a ≡ b
    same a b e = cc

    come : MayCome family site m message
    come =
        let p =
        and_parts (not (nat_eq (sender message) site))
        (is_addressed site message && nat_le (known_of site message) (made m)) may in
        let q = and_parts (is_addressed site message) (nat_le (known_of site message) (made m)) p.1 in
        record {
          another = eqb-false (sender message) site (not-true (nat_eq (sender message) site) p.0);
          sent = in_place k (machine family (sender message)).sent message sent;
          addressed = addressed_from site message q.0;
          own_made = leb-true (known_of site message) (made m) q.1;
        }

pub at_two : (P : ℕ → Type 0) → P 1 → P 2 → (site : ℕ) → 0 < site → site ≤ 2 → P site
at_two P a b zero up low = absurd (omega arith)
at_two P a b (suc zero) up low = a
at_two P a b (suc (suc zero)) up low = b
at_two P a b (suc (suc (suc k))) up low = absurd (omega arith)
