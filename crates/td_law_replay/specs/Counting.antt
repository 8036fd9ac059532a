-- Which operations a site made, with what they depend on, read from its entries alone. Its k-th operation is the one
-- after which k are counted, whatever dot its entry prints.
use Rattle.std.specs.Prelude.{List, [], ◌∷◌, ℕ, zero, suc, ◌+◌, ◌-◌, Bool, true, false, ◌&&◌, not, length, filter}
use Rattle.std.specs.Prelude.{replicate, Option, Some, None, option_and_then, if◌then◌else◌, ◌==◌, nat_le}
use Rattle.std.specs.List.{list_any, list_all}
use Rattle.td_base.specs.Value.{DotValue}
use Rattle.td_base.specs.Equality.{same_dot}
use Rattle.td_base.specs.declared.dot.TheConstants.{MAX_SEQ}
use Rattle.td_clock.specs.Vector.{vector_get, vector_set, vector_bump}
use Rattle.td_op.specs.declared.request.Request.{Request}
use Rattle.td_op.specs.declared.request.Request.TheVariants.{Propose, ProposeAt}
use Rattle.td_op.specs.declared.reply.Reply.{Reply}
use Rattle.td_op.specs.declared.reply.Reply.TheVariants.{Made, Cancelled, New}
use Rattle.td_trace.specs.declared.entry.TraceEntry.{TraceEntry}
use Rattle.td_trace.specs.declared.told_input.ToldInput.{ToldInput}
use Rattle.td_trace.specs.declared.told_input.ToldInput.TheVariants.{Asked, TookOp, TookVote, Went}
use Rattle.td_law_replay.specs.Traced.{site_entries}
use Rattle.td_law_replay.specs.Replies.{is_new, taken_of}

-- what is counted so far
pub record Count : Type 0 where
  -- how many operations of each site were made or used
  pub have : List ℕ
  -- the own proposals on which a Yes, or a No, of another site was counted, once for each
  pub yes : List DotValue
  pub no : List DotValue

abbrev pub no_count : ℕ → Count
no_count n = record { have = replicate n 0; yes = []; no = [] }

-- ---- operations that are used

-- the operation that the entry uses: it is taken by it
abbrev pub used_by : ToldInput → Reply → Option DotValue
used_by (Asked request) reply = None
used_by (TookOp d) reply = if is_new reply then Some d else None
used_by (TookVote v) reply = None
used_by Went reply = taken_of reply

abbrev pub used : TraceEntry → Option DotValue
used e = used_by e.told e.reply

-- one more of its site; an operation of the own site is made, and never counted as used
abbrev pub with_use : ℕ → Option DotValue → List ℕ → List ℕ
with_use site None have = have
with_use site (Some d) have = if d.site == site then have else vector_bump have d.site

-- ---- operations that are made

abbrev pub is_proposal : Request → Bool
is_proposal (Propose slot) = true
is_proposal (ProposeAt index bit) = true
is_proposal request = false

abbrev pub asks_proposal : ToldInput → Bool
asks_proposal (Asked request) = is_proposal request
asks_proposal told = false

abbrev pub how_often : DotValue → List DotValue → ℕ
how_often p dots = length (filter (λ (d : DotValue). same_dot d p) dots)

-- a vote brings the decision where it is the first No, or with the own Yes and those counted the n-th Yes
abbrev pub is_decisive : ℕ → Count → ToldInput → Bool
is_decisive n c (TookVote v) =
    if v.yes then how_often v.proposal c.yes + 2 == n
    else not (list_any (λ (d : DotValue). same_dot d v.proposal) c.no)
is_decisive n c told = false

-- how many operations the entry makes. A proposal is decided at once where there is one site
abbrev pub made_by : ℕ → Count → ToldInput → Reply → ℕ
made_by n c told (Made dot) = if asks_proposal told && 1 == n then 2 else 1
made_by n c told Cancelled = 1
made_by n c told New = if is_decisive n c told then 1 else 0
made_by n c told reply = 0

abbrev pub makes : ℕ → Count → TraceEntry → ℕ
makes n c e = made_by n c e.told e.reply

abbrev pub raised : ℕ → ℕ → List ℕ → List ℕ
raised site zero have = have
raised site (suc k) have = raised site k (vector_bump have site)

-- ---- entry by entry

abbrev pub more_yes : ToldInput → Reply → List DotValue → List DotValue
more_yes (TookVote v) reply dots = if is_new reply && v.yes then v.proposal ∷ dots else dots
more_yes told reply dots = dots

abbrev pub more_no : ToldInput → Reply → List DotValue → List DotValue
more_no (TookVote v) reply dots = if is_new reply && not v.yes then v.proposal ∷ dots else dots
more_no told reply dots = dots

-- one more entry of this site, of n, is counted
abbrev pub count_entry : ℕ → ℕ → Count → TraceEntry → Count
count_entry site n c e =
    record {
      have = with_use site (used e) (raised site (makes n c e) c.have);
      yes = more_yes e.told e.reply c.yes;
      no = more_no e.told e.reply c.no;
    }

-- what the q-th operation of the site depends on: all that was counted before its entry, and the own ones before it
abbrev pub deps_from : ℕ → ℕ → ℕ → Count → List TraceEntry → Option (List ℕ)
deps_from site n q c [] = None
deps_from site n q c (e ∷ rest) =
    if nat_le q (vector_get (count_entry site n c e).have site) then Some (vector_set c.have site (q - 1))
    else deps_from site n q (count_entry site n c e) rest

-- the numbers of a vector are at most MAX_SEQ: what counts more depends on no operations that can be
abbrev pub in_vector : List ℕ → Option (List ℕ)
in_vector deps = if list_all (λ (k : ℕ). nat_le k MAX_SEQ) deps then Some deps else None

-- the dependencies of the operation with this dot, where an entry of its site made it
abbrev pub made_deps : List (List TraceEntry) → DotValue → Option (List ℕ)
made_deps all d =
    option_and_then in_vector
    (deps_from d.site (length all) d.seq (no_count (length all)) (site_entries all d.site))
