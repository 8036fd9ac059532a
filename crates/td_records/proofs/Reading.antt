-- How records are read one after another.
use Rattle.std.proofs.Common.{◌≡◌, ◌≢◌, ℕ, ◌+◌, ◌<◌, ◌^◌, List, [], ◌∷◌, ◌++◌, length, take, drop}
use Rattle.std.proofs.Common.{refl, sym, ◌∙◌, ap, arith, length-append, length-take}
use Rattle.std.specs.Prelude.{Option, None, Some, IfNone}
use Rattle.std.specs.Int.{w16, to_be_bytes}
use Rattle.std.proofs.lemmas.List.{append-nil}
use Rattle.td_records.specs.Records.{record_of, records_of, IsShort, AreShort, StandFor}
use Rattle.td_records.proofs.Unique.{first_same, record_same, split_first}

-- the bytes are the records of these bodies, and the rest
pub record Reached (bytes rest : List ℕ) : Type 0 where
  pub bodies : List (List ℕ)
  pub short : AreShort bodies
  pub is : bytes ≡ records_of bodies ++ rest

pub nothing_read : (bytes : List ℕ) → Reached bytes bytes
nothing_read bytes = record { bodies = []; short = tt; is = refl }

push_records : (bodies : List (List ℕ)) (body rest : List ℕ) → records_of (bodies ++ body ∷ []) ++ rest
    ≡ records_of bodies ++ (record_of body ++ rest)
push_records [] body rest = ap (λ (l : List ℕ). l ++ rest) (append-nil (record_of body))
push_records (b ∷ bodies) body rest =
    split_first b (bodies ++ body ∷ []) rest ∙ ap (λ (l : List ℕ). record_of b ++ l) (push_records bodies body rest)
    ∙ sym (split_first b bodies (record_of body ++ rest))

push_short : (bodies : List (List ℕ)) (body : List ℕ) → AreShort bodies → IsShort body → AreShort (bodies ++ body ∷ [])
push_short [] body p q = (q, tt)
push_short (b ∷ bodies) body p q = (p.0, push_short bodies body p.1 q)

pub one_more : (bytes rest : List ℕ) (n : ℕ) → Reached bytes rest → n < 2 ^ 16 → rest
    ≡ record_of (take n (drop 3 rest)) ++ drop (3 + n) rest → Reached bytes (drop (3 + n) rest)
one_more bytes rest n r low is =
    let body : List ℕ = take n (drop 3 rest) in
    record {
      bodies = r.bodies ++ body ∷ [];
      short = push_short r.bodies body r.short (omega (arith, low, length-take n (drop 3 rest)));
      is = r.is ∙ ap (λ (l : List ℕ). records_of r.bodies ++ l) is
          ∙ sym (push_records r.bodies body (drop (3 + n) rest));
    }

-- what is left of a list of records when these were read
pub record Left (rest : List ℕ) (gate : ℕ) (tail : List ℕ) : Type 0 where
  pub more : List (List ℕ)
  pub short : AreShort more
  pub is : rest ≡ records_of more ++ gate ∷ tail

strip : (read bodies : List (List ℕ)) (rest : List ℕ) (gate : ℕ) (tail : List ℕ) → AreShort read → AreShort bodies
    → gate ≢ 1 → records_of read ++ rest ≡ records_of bodies ++ gate ∷ tail → Left rest gate tail
strip [] bodies rest gate tail p q shut e = record { more = bodies; short = q; is = e }
strip (a ∷ read) [] rest gate tail p q shut e =
    absurd (shut (first_same gate 1 tail (to_be_bytes w16 (length a) ++ (a ++ (records_of read ++ rest)))
    (sym e ∙ split_first a read rest)))
strip (a ∷ read) (b ∷ bodies) rest gate tail p q shut e =
    let same = record_same a b (records_of read ++ rest) (records_of bodies ++ gate ∷ tail) p.0 q.0
    (sym (split_first a read rest) ∙ e ∙ split_first b bodies (gate ∷ tail)) in
    strip read bodies rest gate tail p.1 q.1 shut same.1

pub no_records : (bytes rest : List ℕ) → Reached bytes rest
    → ((body more : List ℕ) → IsShort body → rest ≢ record_of body ++ more)
    → ((gate : ℕ) (more : List ℕ) → gate ≢ 1 → rest ≢ gate ∷ more) → (bodies : List (List ℕ)) → AreShort bodies
    → ¬ StandFor bodies bytes
no_records bytes rest r none not_shut bodies short s =
    ends (strip r.bodies bodies rest s.gate s.rest r.short short s.shut (sym r.is ∙ s.is))
  where
    by_more : (more : List (List ℕ)) → AreShort more → rest ≡ records_of more ++ s.gate ∷ s.rest → ⊥
    by_more [] q e = not_shut s.gate s.rest s.shut e
    by_more (b ∷ more) q e = none b (records_of more ++ s.gate ∷ s.rest) q.0 (e ∙ split_first b more (s.gate ∷ s.rest))

    ends : Left rest s.gate s.rest → ⊥
    ends l = by_more l.more l.short l.is

pub record Ends (bytes rest : List ℕ) : Type 0 where
  pub bodies : List (List ℕ)
  pub short : AreShort bodies
  pub stand : StandFor bodies bytes
  pub long : length bytes ≡ length (records_of bodies) + length rest

pub ends_here : (bytes rest : List ℕ) (gate : ℕ) (more : List ℕ) → Reached bytes rest → gate ≢ 1 → rest ≡ gate ∷ more
    → Ends bytes rest
ends_here bytes rest gate more r shut e =
    record {
      bodies = r.bodies;
      short = r.short;
      stand = record {
        gate = gate;
        rest = more;
        shut = shut;
        is = r.is ∙ ap (λ (l : List ℕ). records_of r.bodies ++ l) e;
      };
      long = ap length r.is ∙ length-append (records_of r.bodies) rest;
    }

pub none_part : (o : Option ℕ) (P : Type 0) → ((x : ℕ) → o ≢ Some x) → IfNone o P → P
none_part None P not_some none = none
none_part (Some x) P not_some none = absurd (not_some x refl)
