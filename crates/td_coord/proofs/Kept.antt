-- What a tally keeps of its parts, through each change of a ballot.
use Rattle.std.proofs.Common.{◌≡◌, ◌<◌, ◌≤◌, ◌+◌, ◌^◌, ◌==◌, ℕ, suc, List, Bool, true, false, cond}
use Rattle.std.proofs.Common.{if◌then◌else◌, length, get_or, set, Option, Some, None, Ok, Err, min}
use Rattle.std.proofs.Common.{◌-◌, refl, sym, ap, ◌∙◌, subst, true≢false, arith}
use Rattle.std.specs.Prelude.{insert, reverse}
use Rattle.std.specs.Option.{is_some, is_none}
use Rattle.std.specs.Int.{from_bool}
use Rattle.std.proofs.lemmas.Bool.{or_parts}
use Rattle.std.proofs.lemmas.Bool.Decides.{nat_tests}
use Rattle.std.proofs.lemmas.List.{length-set, set-set, set-get_or, get_or-set_same}
use Rattle.std.proofs.lemmas.List.Edits.{length-insert}
use Rattle.std.proofs.lemmas.List.Elements.{All-set, All-append, All-cons, All-take, All-drop}
use Rattle.std.proofs.lemmas.List.Sorted.{IsPermutation-reverse, sum_by-IsPermutation}
use Rattle.std.proofs.lemmas.List.Sums.{length-filter, sum_by-set, sum_by-insert, count_by-le-length}
use Rattle.td_base.specs.Value.{DotValue}
use Rattle.td_op.specs.declared.vote.Vote.{Vote}
use Rattle.td_machine.specs.Decision.{Ballot, is_open, is_counted, counted, outcome, count_open, revise, close}
use Rattle.td_coord.specs.declared.counted.Counted.TheVariants.{Repeat}
use Rattle.td_coord.specs.Tally.{told, own_ballot, started, brought, close_due, voted}
use Rattle.td_coord.specs.TallyParts.{IsRising, HasRoom, IsTallyParts, tally_of, after_vote, is_decision}
use Rattle.td_coord.specs.Places.{IsPlace}
use Rattle.td_coord.proofs.Placed.{still_rising, put_rising, revised_at}

-- ---- how many are open

abbrev pub open_one : Ballot → ℕ
open_one b = from_bool (is_open b)

as_number : (b : Bool) → from_bool b ≡ cond b 1 0
as_number true = refl
as_number false = refl

pub count_reversed : (xs : List Ballot) → count_open (reverse xs) ≡ count_open xs
count_reversed xs =
    length-filter is_open (reverse xs)
    ∙ sum_by-IsPermutation (λ (b : Ballot). cond (is_open b) 1 0) xs (reverse xs) (IsPermutation-reverse xs)
    ∙ sym (length-filter is_open xs)

pub count_set : (xs : List Ballot) (k : ℕ) (b new : Ballot) → k < length xs → b ≡ get_or xs k b
    → count_open (set xs k new) + open_one b ≡ count_open xs + open_one new
count_set xs k b new within read =
    let counts = sum_by-set (λ (c : Ballot). cond (is_open c) 1 0) xs k new b within in
    omega (
      arith,
      counts,
      ap open_one read,
      length-filter is_open xs,
      length-filter is_open (set xs k new),
      as_number (is_open new),
      as_number (is_open (get_or xs k b)),
    )

pub count_put : (xs : List Ballot) (k : ℕ) (b : Ballot) → count_open (insert xs k b) ≡ count_open xs + open_one b
count_put xs k b =
    length-filter is_open (insert xs k b) ∙ sum_by-insert (λ (c : Ballot). cond (is_open c) 1 0) xs k b
    ∙ (λ i. sym (length-filter is_open xs) i + sym (as_number (is_open b)) i)

pub count_small : (xs : List Ballot) → count_open xs ≤ length xs
count_small xs = omega (arith, length-filter is_open xs, count_by-le-length is_open xs)

-- ---- the parts of a tally

-- a ballot changed, which closes n
pub set_parts : (size own undecided n : ℕ) (xs : List Ballot) (k : ℕ) (b new : Ballot)
    → IsTallyParts size own undecided xs → k < length xs → b ≡ get_or xs k b → new.proposal ≡ b.proposal
    → (HasRoom size b → HasRoom size new) → open_one new + n ≡ open_one b
    → (n ≤ undecided) × IsTallyParts size own (undecided - n) (set xs k new)
set_parts size own undecided n xs k b new parts within read same room closes =
    let counts = count_set xs k b new within read in
    let few : n ≤ undecided = omega (arith, parts.open_count, counts, closes) in
    let here : HasRoom size b = subst (HasRoom size) (sym read) (parts.room k b within) in (
      few,
      record {
        some = parts.some;
        small = parts.small;
        within = parts.within;
        rising = still_rising xs k b new parts.rising read same;
        room = All-set (HasRoom size) xs k new (room here) parts.room;
        open_count = omega (arith, parts.open_count, counts, closes, few);
        few = omega (arith, parts.few, length-set xs k new);
      },
    )

started_room : (size own : ℕ) (p : DotValue) → 1 ≤ size → HasRoom size (started size own p)
started_room size own p some = at (1 == size) refl
  where
    at : (c : Bool) → (1 == size) ≡ c
        → HasRoom size (record (own_ballot own p) { decision = if c then Some true else None })
    at true e = λ q. absurd (true≢false (sym q))
    at false e = λ q. grind (arith, nat_tests)

-- a ballot started
pub start_parts : (size own undecided n : ℕ) (p : DotValue) (xs : List Ballot) (k : ℕ) (b : Ballot)
    → IsTallyParts size own undecided xs → IsPlace p xs (Err k) → length xs + 1 < 2 ^ 32 → b ≡ started size own p
    → n ≡ open_one b → (undecided + n < 2 ^ 32) × IsTallyParts size own (undecided + n) (insert xs k b)
start_parts size own undecided n p xs k b parts place few is opened =
    let on : b.proposal ≡ p = ap (λ (c : Ballot). c.proposal) is in
    let room : HasRoom size b = subst (HasRoom size) (sym is) (started_room size own p parts.some) in
    let length_is = length-insert xs k b place.0 in
    let count : undecided + n ≡ count_open (insert xs k b) =
    omega (arith, parts.open_count, opened, count_put xs k b) in (
      omega (arith, count, count_small (insert xs k b), length_is, few),
      record {
        some = parts.some;
        small = parts.small;
        within = parts.within;
        rising = put_rising p xs k b parts.rising place on;
        room = All-append (HasRoom size) _ _ (All-take (HasRoom size) k xs parts.room)
            (All-cons (HasRoom size) b _ room (All-drop (HasRoom size) k xs parts.room));
        open_count = count;
        few = omega (arith, few, length_is);
      },
    )

-- ---- what a vote does to a ballot

uncounted : (voter : ℕ) (b : Ballot) → is_counted voter b ≡ false → b.decision ≡ None
uncounted voter b h = at b.decision (or_parts (is_some b.decision) _ h).0
  where
    at : (decision : Option Bool) → is_some decision ≡ false → decision ≡ None
    at None e = refl
    at (Some d) e = absurd (true≢false e)

uncounted_open : (voter : ℕ) (b : Ballot) → is_counted voter b ≡ false → is_open b ≡ true
uncounted_open voter b h = ap is_none (uncounted voter b h)

counted_decision : (voter : ℕ) (yes : Bool) (b : Ballot) → (counted voter yes b).decision ≡ b.decision
counted_decision voter true b = refl
counted_decision voter false b = refl

counted_proposal : (voter : ℕ) (yes : Bool) (b : Ballot) → (counted voter yes b).proposal ≡ b.proposal
counted_proposal voter true b = refl
counted_proposal voter false b = refl

-- a decision closes an open ballot, and nothing else opens or closes one
vote_opens : (n : ℕ) (v : Vote) (b : Ballot)
    → open_one (after_vote n v b) + from_bool (is_decision (brought n v b)) ≡ open_one b
vote_opens n v b = at (is_counted v.voter b) (outcome n v.yes (counted v.voter v.yes b)) refl
  where
    at : (c : Bool) (o : Option Bool) → is_counted v.voter b ≡ c
        → open_one (if c then b else record (counted v.voter v.yes b) { decision = o })
        + from_bool (is_decision (if c then Repeat else told o))
        ≡ open_one b
    at true o e = omega arith
    at false None e = sym (ap from_bool (uncounted_open v.voter b e))
    at false (Some true) e = sym (ap from_bool (uncounted_open v.voter b e))
    at false (Some false) e = sym (ap from_bool (uncounted_open v.voter b e))

vote_proposal : (n : ℕ) (v : Vote) (b : Ballot) → (after_vote n v b).proposal ≡ b.proposal
vote_proposal n v b = at (is_counted v.voter b)
  where
    at : (c : Bool)
        → (if c then b
        else record (counted v.voter v.yes b) { decision = outcome n v.yes (counted v.voter v.yes b) }).proposal
        ≡ b.proposal
    at true = refl
    at false = counted_proposal v.voter v.yes b

-- a vote that does not decide leaves room for the next
vote_room : (n : ℕ) (v : Vote) (b : Ballot) → HasRoom n b → HasRoom n (after_vote n v b)
vote_room n v b room = at (is_counted v.voter b) refl
  where
    yes_room : (c : Bool) → (suc (length b.yes) == n) ≡ c → is_open b ≡ true
        → HasRoom n (record (counted v.voter true b) { decision = if c then Some true else None })
    yes_room true e o = λ q. absurd (true≢false (sym q))
    yes_room false e o = λ q. let less = room o in grind (arith, nat_tests)

    open_room : (yes : Bool) → is_open b ≡ true
        → HasRoom n (record (counted v.voter yes b) { decision = outcome n yes (counted v.voter yes b) })
    open_room true o = yes_room (suc (length b.yes) == n) refl o
    open_room false o = λ q. absurd (true≢false (sym q))

    at : (c : Bool) → is_counted v.voter b ≡ c
        → HasRoom n
        (if c then b
        else record (counted v.voter v.yes b) { decision = outcome n v.yes (counted v.voter v.yes b) })
    at true e = room
    at false e = open_room v.yes (uncounted_open v.voter b e)

-- a vote counted
pub vote_parts : (size own undecided n : ℕ) (v : Vote) (xs : List Ballot) (k : ℕ) (b new : Ballot)
    → IsTallyParts size own undecided xs → k < length xs → b ≡ get_or xs k b → new ≡ after_vote size v b
    → n ≡ from_bool (is_decision (brought size v b))
    → (n ≤ undecided) × IsTallyParts size own (undecided - n) (set xs k new)
vote_parts size own undecided n v xs k b new parts within read is decided =
    rw (is, decided)
    (set_parts size own undecided (from_bool (is_decision (brought size v b))) xs k b (after_vote size v b) parts
    within read (vote_proposal size v b) (vote_room size v b) (vote_opens size v b))

-- an open ballot closed
pub close_parts : (size own undecided : ℕ) (xs : List Ballot) (k : ℕ) (b new : Ballot)
    → IsTallyParts size own undecided xs → k < length xs → b ≡ get_or xs k b → is_open b ≡ true → new ≡ close false b
    → (1 ≤ undecided) × IsTallyParts size own (undecided - 1) (set xs k new)
close_parts size own undecided xs k b new parts within read opened is =
    rw is
    (set_parts size own undecided 1 xs k b (close false b) parts within read refl
    (λ room e. absurd (true≢false (sym e)))
    (sym (ap from_bool opened)))

-- ---- what contracts see

-- a ballot changed, and the ballots seen then
pub seen_changed : (size own capacity : ℕ) (xs : List Ballot) (k : ℕ) (new : Ballot) (ballots : List Ballot)
    → reverse (set xs k new) ≡ ballots
    → tally_of size own capacity (set xs k new) ≡ record (tally_of size own capacity xs) { ballots = ballots }
seen_changed size own capacity xs k new ballots seen =
    λ i. record {
      size = size;
      own = own;
      ballots = seen i;
      places = ap (λ (n : ℕ). min capacity (2 ^ 32 - 1) - n) (length-set xs k new) i;
    }

-- a vote counted, and then a decision made, at one place
pub seen_voted : (n : ℕ) (v : Vote) (xs : List Ballot) (k : ℕ) (b new : Ballot) → IsRising xs
    → IsPlace v.proposal xs (Ok k) → b ≡ get_or xs k b → new ≡ after_vote n v b
    → reverse (set xs k new) ≡ voted n v b (reverse xs)
seen_voted n v xs k b new rising place read is =
    ap (λ (c : Ballot). reverse (set xs k c)) is ∙ at (is_counted v.voter b) refl
  where
    p : DotValue
    p = v.proposal

    one : Ballot
    one = counted v.voter v.yes b

    so_far : List Ballot
    so_far = set xs k one

    on : one.proposal ≡ p
    on = counted_proposal v.voter v.yes b ∙ ap (λ (c : Ballot). c.proposal) read ∙ place.1 b

    seen_counted : reverse so_far ≡ revise p (counted v.voter v.yes) (reverse xs)
    seen_counted = revised_at p (counted v.voter v.yes) xs k b one rising place read refl

    place_of_one : IsPlace p so_far (Ok k)
    place_of_one = (
      omega (arith, place.0, length-set xs k one),
      λ d. ap (λ (c : Ballot). c.proposal) (get_or-set_same xs k one d place.0) ∙ on,
    )

    due : (o : Option Bool) → one.decision ≡ None
        → reverse (set xs k (record one { decision = o }))
        ≡ close_due p o (revise p (counted v.voter v.yes) (reverse xs))
    due None e = (λ i. reverse (set xs k (record one { decision = sym e i }))) ∙ seen_counted
    due (Some commit) e =
        ap reverse (sym (set-set xs k one (close commit one)))
        ∙ revised_at p (close commit) so_far k one (close commit one)
        (still_rising xs k b one rising read (counted_proposal v.voter v.yes b)) place_of_one
        (sym (get_or-set_same xs k one one place.0)) refl
        ∙ ap (revise p (close commit)) seen_counted

    at : (c : Bool) → is_counted v.voter b ≡ c
        → reverse (set xs k (if c then b else record one { decision = outcome n v.yes one }))
        ≡ (if c then reverse xs else close_due p (outcome n v.yes one) (revise p (counted v.voter v.yes) (reverse xs)))
    at true e = ap reverse (ap (set xs k) read ∙ set-get_or xs k b)
    at false e = due (outcome n v.yes one) (counted_decision v.voter v.yes b ∙ uncounted v.voter b e)
