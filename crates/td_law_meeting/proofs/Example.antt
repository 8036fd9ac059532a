-- The two workers of the example are settled.
use Rattle.std.proofs.Common.{◌≡◌, ◌+◌, ℕ, zero, suc, [], ◌∷◌, Some, slice_get}
use Rattle.std.proofs.Common.{codes, refl, sym, subst, inl, inr, arith}
use Rattle.td_op.specs.declared.input.Input.TheVariants.{Take}
use Rattle.td_op.specs.declared.message.Message.{Message}
use Rattle.td_op.specs.Message.{IsMessage}
use Rattle.td_wire.specs.Spelling.{SpellsIn}
use Rattle.td_wire.specs.Reading.{format_of}
use Rattle.td_machine.specs.Machine.{start}
use Rattle.td_machine.proofs.Ranges.{atom_from, message_from}
use Rattle.td_law_meeting.specs.Takes.{IsWelcome}
use Rattle.td_law_meeting.specs.Peers.{PeerValue, Met}
use Rattle.td_law_meeting.specs.Accounts.{Account, IsAccount, WorkersMet, AreSettled}
use Rattle.td_law_meeting.specs.Examples.{first_insert, its_packet, its_maker, its_taker}

fits : IsMessage first_insert
fits = message_from first_insert refl

pub spells : SpellsIn first_insert its_packet
spells = (format_of 50, record { can = fits; bytes_are = refl })

maker : IsAccount 2 its_maker
maker =
    record {
      legal = (atom_from (codes "a") refl, refl, tt);
      peers = refl;
      welcome = (λ message e. absurd cc, tt);
      hears = (tt, tt);
      tells = (record { within = omega arith; next = λ e. absurd cc; packets = (spells, tt) }, tt);
    }

taker : IsAccount 2 its_taker
taker =
    record {
      legal = (fits, refl, tt);
      peers = refl;
      welcome = (λ message e. subst (IsWelcome 2 2 (start 2 2)) (same first_insert message e) welcome, tt);
      hears = ((spells, tt), tt);
      tells = (record { within = omega arith; next = λ e. absurd cc; packets = tt }, tt);
    }
  where
    same : (a b : Message) → Take a ≡ Take b → a ≡ b
    same a b e = cc

    welcome : IsWelcome 2 2 (start 2 2) first_insert
    welcome =
        record {
          some = omega arith;
          within = omega arith;
          another = λ e. absurd (omega (arith, e));
          own_made = omega arith;
        }

have_met : WorkersMet its_maker its_taker
have_met p q (inl e) ep (inl f) eq =
    subst (λ (v : PeerValue × PeerValue). Met v.0 v.1) (λ i. (sym e i, sym f i)) (([], refl), ([], refl))
have_met p q (inl e) ep (inr j) eq = absurd j
have_met p q (inr j) ep b eq = absurd j

pub settled : AreSettled (its_maker ∷ its_taker ∷ [])
settled =
    record {
      some = omega arith;
      few = omega arith;
      sites = sites;
      met = ((have_met, tt), (tt, tt));
    }
  where
    same : (a b : Account) → Some a ≡ Some b → a ≡ b
    same a b e = cc

    sites : (place : ℕ) (a : Account) → slice_get (its_maker ∷ its_taker ∷ []) place ≡ Some a
        → (a.site ≡ place + 1) × IsAccount 2 a
    sites zero a e = subst (λ (b : Account). (b.site ≡ 1) × IsAccount 2 b) (same its_maker a e) (refl, maker)
    sites (suc zero) a e = subst (λ (b : Account). (b.site ≡ 2) × IsAccount 2 b) (same its_taker a e) (refl, taker)
    sites (suc (suc k)) a e = absurd cc
