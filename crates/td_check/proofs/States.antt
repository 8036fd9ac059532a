-- How far the sites of a replay are, when one does its next entry.
use Rattle.std.proofs.Common.{true≢false, ◌==◌, ◌≡◌, ◌≢◌, ◌<◌, ◌≤◌, ◌+◌, ◌-◌, ◌&&◌, List, [], ◌∷◌, ℕ, zero, suc, Bool}
use Rattle.std.proofs.Common.{true, false, nat_eq, nat_lt, nat_le, length, drop, get_or, replicate, set}
use Rattle.std.proofs.Common.{None, slice_get, if◌then◌else◌, refl, sym, ap, ◌∙◌, subst, arith}
use Rattle.std.proofs.lemmas.Bool.{and_from, eqb-true, eqb-false, leb-true, le-leb, and_parts}
use Rattle.std.proofs.lemmas.List.{get_or-set_same, get_or-set_other}
use Rattle.td_machine.specs.Machine.{Machine, start}
use Rattle.td_trace.specs.declared.entry.TraceEntry.{TraceEntry}
use Rattle.td_law_replay.specs.Judging.{SiteState, begin}
use Rattle.td_law_replay.specs.Replay.{put}
use Rattle.td_law_replay.specs.Traced.{site_entries}
use Rattle.td_check.specs.States.{machine_in, done_in, state_in, states_in, left_in}

is_site : (n site : ℕ) → 0 < site → site ≤ n → (nat_lt 0 site && nat_le site n) ≡ true
is_site n site some within = and_from (nat_lt 0 site) (nat_le site n) (le-leb 1 site some) (le-leb site n within)

pub none_done : (n k : ℕ) → ◌≡◌ {A = ℕ} (get_or (replicate n 0) k 0) 0
none_done zero k = refl
none_done (suc n) zero = refl
none_done (suc n) (suc k) = none_done n k

-- the state of a site
pub state_is : (all : List (List TraceEntry)) (machines : List Machine) (done : List ℕ) (site : ℕ) → 0 < site
    → site ≤ length all → states_in all machines done site ≡ state_in all machines done site
state_is all machines done site some within =
    ap (λ (b : Bool). if b then state_in all machines done site else begin all site)
    (is_site (length all) site some within)

-- all sites have done nothing
pub states_begin : (all : List (List TraceEntry)) (machines : List Machine)
    → ((site : ℕ) → 0 < site → site ≤ length all → get_or machines (site - 1) (start site (length all))
    ≡ start site (length all))
    → (n : ℕ) → states_in all machines (replicate n 0) ≡ begin all
states_begin all machines started n = λ i site. at site (nat_lt 0 site && nat_le site (length all)) refl i
  where
    at : (site : ℕ) (b : Bool) → (nat_lt 0 site && nat_le site (length all)) ≡ b
        → (if b then state_in all machines (replicate n 0) site else begin all site) ≡ begin all site
    at site false f = refl
    at site true f =
        let there = and_parts (nat_lt 0 site) (nat_le site (length all)) f in
        λ i. record {
          machine = started site (leb-true 1 site there.0) (leb-true site (length all) there.1) i;
          left = drop (none_done n (site - 1) i) (site_entries all site);
        }

pub no_entry : {X : Type 0} (xs : List X) (k : ℕ) → slice_get xs k ≡ None → drop k xs ≡ []
no_entry [] zero e = refl
no_entry [] (suc k) e = refl
no_entry (y ∷ ys) zero e = absurd cc
no_entry (y ∷ ys) (suc k) e = no_entry ys k e

-- ---- a site goes on

module _ (all : List (List TraceEntry)) (machines : List Machine) (done : List ℕ) (site : ℕ) (some : 0 < site)
    (within : site ≤ length all) (each_machine : length machines ≡ length all) (each_done : length done ≡ length all)
    (m : Machine) where
  abbrev k : ℕ
  k = done_in done site

  place_within : site - 1 < length all
  place_within = omega (arith, some, within)

  pub machine_there : machine_in all (set machines (site - 1) m) site ≡ m
  machine_there =
      get_or-set_same machines (site - 1) m (start site (length all))
      (subst (λ (n : ℕ). site - 1 < n) (sym each_machine) place_within)

  pub done_there : done_in (set done (site - 1) (k + 1)) site ≡ k + 1
  done_there =
      get_or-set_same done (site - 1) (k + 1) 0 (subst (λ (n : ℕ). site - 1 < n) (sym each_done) place_within)

  pub done_elsewhere : (other : ℕ) → 0 < other → other ≢ site
      → done_in (set done (site - 1) (k + 1)) other ≡ done_in done other
  done_elsewhere other there apart =
      get_or-set_other done (site - 1) (other - 1) (k + 1) 0
      (λ e. let sum = e in apart (omega (arith, some, there, sum)))

  -- the states are those before, with this site's put
  pub states_put : (rest : List TraceEntry) → drop (k + 1) (site_entries all site) ≡ rest
      → states_in all (set machines (site - 1) m) (set done (site - 1) (k + 1))
      ≡ put (states_in all machines done) site (record { machine = m; left = rest })
  states_put rest is = λ i other. at other (nat_lt 0 other && nat_le other (length all)) refl (nat_eq other site) refl i
    where
      new : ℕ → SiteState
      new = state_in all (set machines (site - 1) m) (set done (site - 1) (k + 1))

      here : SiteState
      here = record { machine = m; left = rest }

      same_here : new site ≡ here
      same_here i =
          record {
            machine = machine_there i;
            left = (ap (λ (j : ℕ). drop j (site_entries all site)) done_there ∙ is) i;
          }

      same_there : (other : ℕ) → 0 < other → other ≢ site → new other ≡ state_in all machines done other
      same_there other there apart i =
          record {
            machine = get_or-set_other machines (site - 1) (other - 1) m (start other (length all))
                (λ e. let sum = e in apart (omega (arith, some, there, sum))) i;
            left = drop (done_elsewhere other there apart i) (site_entries all other);
          }

      at : (other : ℕ) (b : Bool) → (nat_lt 0 other && nat_le other (length all)) ≡ b → (c : Bool)
          → nat_eq other site ≡ c
          → (if nat_lt 0 other && nat_le other (length all) then new other else begin all other)
          ≡ (if other == site then here else states_in all machines done other)
      at other true f true g =
          ap (λ (b : Bool). if b then new other else begin all other) f
          ∙ ap new (eqb-true other site g)
          ∙ same_here
          ∙ sym (ap (λ (c : Bool). if c then here else states_in all machines done other) g)
      at other true f false g =
          let there = and_parts (nat_lt 0 other) (nat_le other (length all)) f in
          ap (λ (b : Bool). if b then new other else begin all other) f
          ∙ same_there other (leb-true 1 other there.0) (eqb-false other site g)
          ∙ sym (ap (λ (b : Bool). if b then state_in all machines done other else begin all other) f)
          ∙ sym (ap (λ (c : Bool). if c then here else states_in all machines done other) g)
      at other false f true g =
          absurd (true≢false (sym (is_site (length all) site some within)
          ∙ sym (ap (λ (s : ℕ). nat_lt 0 s && nat_le s (length all)) (eqb-true other site g)) ∙ f))
      at other false f false g =
          ap (λ (b : Bool). if b then new other else begin all other) f
          ∙ sym (ap (λ (b : Bool). if b then state_in all machines done other else begin all other) f)
          ∙ sym (ap (λ (c : Bool). if c then here else states_in all machines done other) g)

-- ---- how many are left

pub one_less : (all : List (List TraceEntry)) (done : List ℕ) (place : ℕ) → place < length all → place < length done
    → get_or done place 0 < length (get_or all place [])
    → left_in all (set done place (get_or done place 0 + 1)) + 1 ≡ left_in all done
one_less [] done place there also less = absurd (omega (arith, there))
one_less (entries ∷ all) [] place there also less = absurd (omega (arith, also))
one_less (entries ∷ all) (k ∷ done) zero there also less = omega (arith, less)
one_less (entries ∷ all) (k ∷ done) (suc place) there also less =
    let rest = one_less all done place (omega (arith, there)) (omega (arith, also)) less in omega (arith, rest)
