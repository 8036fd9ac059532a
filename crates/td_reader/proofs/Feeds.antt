-- Each line that is written ends with its one LF, so that what is written is cut into its lines.
use Rattle.std.proofs.Common.{◌≡◌, ◌≢◌, ◌<◌, ◌^◌, ◌⊎◌, inl, inr, ℕ, Bool, true, false, cond, eqb, List, [], ◌∷◌, ◌++◌}
use Rattle.std.proofs.Common.{codes, get_or, length, map, Some, None, refl, sym, ap, ◌∙◌, append_assoc}
use Rattle.std.proofs.Common.{arith}
use Rattle.std.specs.Fmt.{decimal}
use Rattle.std.specs.Int.{IsInRange}
use Rattle.std.specs.List.{AllByRecursion, concat, flat_map}
use Rattle.std.proofs.lemmas.Bool.{cond-true, cond-false, eq-eqb, ne_eqb, eqb-false}
use Rattle.std.proofs.lemmas.List.{get_or_default}
use Rattle.std.proofs.lemmas.List.Elements.{All-nil, All-cons, All-append, All-head, All-tail}
use Rattle.td_base.specs.Value.{DotValue, AtomIdValue, IsDot, IsAtomId}
use Rattle.td_base.specs.declared.bit.Bit.{Bit}
use Rattle.td_base.specs.declared.bit.Bit.TheVariants.{Left, Right}
use Rattle.td_op.specs.declared.reply.Reply.{Reply}
use Rattle.td_op.specs.declared.reply.Reply.TheVariants.{Made, Cancelled, Held, Position, Gone, Limit, NotOpen}
use Rattle.td_op.specs.declared.reply.Reply.TheVariants.{New, Later, Repeat, Unfit, Taken, Dropped, Idle}
use Rattle.td_op.specs.declared.reply.Why.{Why}
use Rattle.td_op.specs.declared.reply.Why.TheVariants.{Size, Own, Atom, Proposal, Vote as OfVote, Address}
use Rattle.td_op.specs.declared.request.Request.{Request}
use Rattle.td_op.specs.declared.request.Request.TheVariants.{Insert, InsertAfter, Paste, PasteAfter, Delete}
use Rattle.td_op.specs.declared.request.Request.TheVariants.{DeleteAtom}
use Rattle.td_op.specs.declared.request.Request.TheVariants.{Propose, ProposeAt, Cancel}
use Rattle.td_path.specs.declared.slot.Slot.TheVariants.{Root, At}
use Rattle.td_trace.specs.declared.told_input.ToldInput.{ToldInput}
use Rattle.td_trace.specs.declared.told_input.ToldInput.TheVariants.{Asked, TookOp, TookVote, Went}
use Rattle.td_report.specs.Parts.{identity, line, offset_part, spaced_quoted}
use Rattle.td_report.specs.Replies.{yes_or_no}
use Rattle.td_report.specs.Trace.{all_written}
use Rattle.td_report.specs.TraceLines.{TraceLine, SitesAre, HistoryOf, EntryIs, EditorAt, CallIs, LookIs, TextIs}
use Rattle.td_report.specs.TraceLines.{Ended}
use Rattle.td_report.specs.TraceLines.{request_part, told_part, why_part, reply_part, written}
use Rattle.td_script.specs.Lines.{onto_first}
use Rattle.td_script.specs.Spelling.{dotted, spaced, spaced_bit}
use Rattle.td_script.specs.Texts.{escaped}
use Rattle.td_script.proofs.Splitting.{Lacks, lacks_by_test}
use Rattle.td_reader.specs.Form.{cut_lines}
use Rattle.td_reader.specs.Values.{FitsRequest, FitsTold, FitsReply}
use Rattle.td_reader.proofs.LineLaws.{FitsLine}
use Rattle.td_reader.proofs.Numbers.{decimal_digits}

both : (xs ys : List ℕ) → Lacks 10 xs → Lacks 10 ys → Lacks 10 (xs ++ ys)
both xs ys h k = All-append (λ (byte : ℕ). byte ≢ 10) xs ys h k

number_lacks : (n : ℕ) → n < 2 ^ 64 → Lacks 10 (decimal n)
number_lacks n h = λ k d inside e.
    let same : get_or (decimal n) k d ≡ get_or (decimal n) k 0 = get_or_default (decimal n) k d 0 inside in
    let digit : IsInRange 48 57 (get_or (decimal n) k 0) = decimal_digits n h k inside in
    omega arith

spaced_lacks : (n : ℕ) → n < 2 ^ 64 → Lacks 10 (spaced n)
spaced_lacks n h = both (32 ∷ []) (decimal n) (lacks_by_test 10 (32 ∷ []) refl) (number_lacks n h)

escaped_at : (b : ℕ) (x y z : Bool) → eqb b 10 ≡ z
    → Lacks 10 (cond x (92 ∷ 34 ∷ []) (cond y (92 ∷ 92 ∷ []) (cond z (92 ∷ 110 ∷ []) (b ∷ []))))
escaped_at b true y z e = lacks_by_test 10 (92 ∷ 34 ∷ []) refl
escaped_at b false true z e = lacks_by_test 10 (92 ∷ 92 ∷ []) refl
escaped_at b false false true e = lacks_by_test 10 (92 ∷ 110 ∷ []) refl
escaped_at b false false false e = All-cons (λ (byte : ℕ). byte ≢ 10) b [] (eqb-false b 10 e)
    (All-nil (λ (byte : ℕ). byte ≢ 10))

text_lacks : (text : List ℕ) → Lacks 10 (flat_map escaped text)
text_lacks [] = All-nil (λ (byte : ℕ). byte ≢ 10)
text_lacks (b ∷ text) = both (escaped b) (flat_map escaped text) (escaped_at b (eqb b 34) (eqb b 92) (eqb b 10) refl)
    (text_lacks text)

quoted_lacks : (text : List ℕ) → Lacks 10 (spaced_quoted text)
quoted_lacks text =
    both (32 ∷ 34 ∷ []) (flat_map escaped text ++ 34 ∷ []) (lacks_by_test 10 (32 ∷ 34 ∷ []) refl)
    (both (flat_map escaped text) (34 ∷ []) (text_lacks text) (lacks_by_test 10 (34 ∷ []) refl))

dot_lacks : (d : DotValue) → IsDot d → Lacks 10 (dotted d)
dot_lacks d h =
    both (decimal d.site) (46 ∷ decimal d.seq) (number_lacks d.site (omega (arith, h.site.greatest)))
    (both (46 ∷ []) (decimal d.seq) (lacks_by_test 10 (46 ∷ []) refl)
    (number_lacks d.seq (omega (arith, h.greatest))))

offset_at : (z : Bool) (n : ℕ) → n < 2 ^ 64 → Lacks 10 (cond z [] (43 ∷ decimal n))
offset_at true n h = All-nil (λ (byte : ℕ). byte ≢ 10)
offset_at false n h = both (43 ∷ []) (decimal n) (lacks_by_test 10 (43 ∷ []) refl) (number_lacks n h)

identity_lacks : (x : AtomIdValue) → IsAtomId x → Lacks 10 (identity x)
identity_lacks x h =
    both (dotted x.dot) (offset_part x.offset) (dot_lacks x.dot h.dot)
    (offset_at (eqb x.offset 0) x.offset (omega (arith, h.greatest)))

atoms_lack : (atoms : List (List ℕ)) → Lacks 10 (flat_map spaced_quoted atoms)
atoms_lack [] = All-nil (λ (byte : ℕ). byte ≢ 10)
atoms_lack (atom ∷ atoms) = both (spaced_quoted atom) (flat_map spaced_quoted atoms) (quoted_lacks atom)
    (atoms_lack atoms)

bit_lacks : (bit : Bit) → Lacks 10 (spaced_bit bit)
bit_lacks Left = lacks_by_test 10 (codes " left") refl
bit_lacks Right = lacks_by_test 10 (codes " right") refl

short_lacks : (n : ℕ) → n < 2 ^ 32 → Lacks 10 (decimal n)
short_lacks n h = number_lacks n (omega arith)

request_lacks : (request : Request) → FitsRequest request → Lacks 10 (request_part request)
request_lacks (Insert index atom) h =
    both (codes " insert ") (decimal index ++ spaced_quoted atom) (lacks_by_test 10 (codes " insert ") refl)
    (both (decimal index) (spaced_quoted atom) (short_lacks index h.1) (quoted_lacks atom))
request_lacks (InsertAfter None atom) h =
    both (codes " insertafter start") (spaced_quoted atom) (lacks_by_test 10 (codes " insertafter start") refl)
    (quoted_lacks atom)
request_lacks (InsertAfter (Some id) atom) h =
    both (codes " insertafter ") (identity id ++ spaced_quoted atom) (lacks_by_test 10 (codes " insertafter ") refl)
    (both (identity id) (spaced_quoted atom) (identity_lacks id h.0.0) (quoted_lacks atom))
request_lacks (Paste index run) h =
    both (codes " paste ") (decimal index ++ flat_map spaced_quoted run) (lacks_by_test 10 (codes " paste ") refl)
    (both (decimal index) (flat_map spaced_quoted run) (short_lacks index h.1) (atoms_lack run))
request_lacks (PasteAfter None run) h =
    both (codes " pasteafter start") (flat_map spaced_quoted run) (lacks_by_test 10 (codes " pasteafter start") refl)
    (atoms_lack run)
request_lacks (PasteAfter (Some id) run) h =
    both (codes " pasteafter ") (identity id ++ flat_map spaced_quoted run)
    (lacks_by_test 10 (codes " pasteafter ") refl)
    (both (identity id) (flat_map spaced_quoted run) (identity_lacks id h.0.0) (atoms_lack run))
request_lacks (Delete index) h = both (codes " delete ") (decimal index) (lacks_by_test 10 (codes " delete ") refl)
    (short_lacks index h.1)
request_lacks (DeleteAtom id) h = both (codes " deleteatom ") (identity id)
    (lacks_by_test 10 (codes " deleteatom ") refl) (identity_lacks id h.0)
request_lacks (Propose Root) h = lacks_by_test 10 (codes " propose root") refl
request_lacks (Propose (At id bit)) h =
    both (codes " propose ") (identity id ++ spaced_bit bit) (lacks_by_test 10 (codes " propose ") refl)
    (both (identity id) (spaced_bit bit) (identity_lacks id h.0) (bit_lacks bit))
request_lacks (ProposeAt index bit) h =
    both (codes " proposeat ") (decimal index ++ spaced_bit bit) (lacks_by_test 10 (codes " proposeat ") refl)
    (both (decimal index) (spaced_bit bit) (short_lacks index h.1) (bit_lacks bit))
request_lacks (Cancel proposal) h = both (codes " cancel ") (dotted proposal)
    (lacks_by_test 10 (codes " cancel ") refl) (dot_lacks proposal h.0)

ballot_lacks : (yes : Bool) → Lacks 10 (yes_or_no yes)
ballot_lacks true = lacks_by_test 10 (codes " yes") refl
ballot_lacks false = lacks_by_test 10 (codes " no") refl

told_lacks : (told : ToldInput) → FitsTold told → Lacks 10 (told_part told)
told_lacks (Asked request) h = request_lacks request h
told_lacks (TookOp dot) h = both (codes " take op ") (dotted dot) (lacks_by_test 10 (codes " take op ") refl)
    (dot_lacks dot h)
told_lacks (TookVote vote) h =
    both (codes " take vote ") (decimal vote.voter ++ (32 ∷ (dotted vote.proposal ++ yes_or_no vote.yes)))
    (lacks_by_test 10 (codes " take vote ") refl)
    (both (decimal vote.voter) (32 ∷ (dotted vote.proposal ++ yes_or_no vote.yes))
    (number_lacks vote.voter (omega (arith, h.voter.greatest)))
    (both (32 ∷ []) (dotted vote.proposal ++ yes_or_no vote.yes) (lacks_by_test 10 (32 ∷ []) refl)
    (both (dotted vote.proposal) (yes_or_no vote.yes) (dot_lacks vote.proposal h.proposal) (ballot_lacks vote.yes))))
told_lacks Went h = lacks_by_test 10 (codes " next") refl

why_lacks : (why : Why) → Lacks 10 (why_part why)
why_lacks Size = lacks_by_test 10 (codes " size") refl
why_lacks Own = lacks_by_test 10 (codes " own") refl
why_lacks Atom = lacks_by_test 10 (codes " atom") refl
why_lacks Proposal = lacks_by_test 10 (codes " proposal") refl
why_lacks OfVote = lacks_by_test 10 (codes " vote") refl
why_lacks Address = lacks_by_test 10 (codes " address") refl

reply_lacks : (reply : Reply) → FitsReply reply → Lacks 10 (reply_part reply)
reply_lacks (Made dot) h = both (codes " made ") (dotted dot) (lacks_by_test 10 (codes " made ") refl)
    (dot_lacks dot h)
reply_lacks Cancelled h = lacks_by_test 10 (codes " cancelled") refl
reply_lacks (Held by) h = both (codes " held ") (dotted by) (lacks_by_test 10 (codes " held ") refl) (dot_lacks by h)
reply_lacks (Position len) h = both (codes " position ") (decimal len) (lacks_by_test 10 (codes " position ") refl)
    (short_lacks len h)
reply_lacks (Gone id) h = both (codes " gone ") (identity id) (lacks_by_test 10 (codes " gone ") refl)
    (identity_lacks id h)
reply_lacks (Limit made undecided) h =
    both (codes " limit ") (decimal made ++ (32 ∷ decimal undecided)) (lacks_by_test 10 (codes " limit ") refl)
    (both (decimal made) (32 ∷ decimal undecided) (short_lacks made h.0)
    (both (32 ∷ []) (decimal undecided) (lacks_by_test 10 (32 ∷ []) refl) (short_lacks undecided h.1)))
reply_lacks (NotOpen proposal) h = both (codes " notopen ") (dotted proposal)
    (lacks_by_test 10 (codes " notopen ") refl) (dot_lacks proposal h)
reply_lacks New h = lacks_by_test 10 (codes " new") refl
reply_lacks Later h = lacks_by_test 10 (codes " later") refl
reply_lacks Repeat h = lacks_by_test 10 (codes " repeat") refl
reply_lacks (Unfit why) h = both (codes " unfit") (why_part why) (lacks_by_test 10 (codes " unfit") refl)
    (why_lacks why)
reply_lacks (Taken dot) h = both (codes " taken ") (dotted dot) (lacks_by_test 10 (codes " taken ") refl)
    (dot_lacks dot h)
reply_lacks (Dropped dot why) h =
    both (codes " dropped ") (dotted dot ++ why_part why) (lacks_by_test 10 (codes " dropped ") refl)
    (both (dotted dot) (why_part why) (dot_lacks dot h) (why_lacks why))
reply_lacks Idle h = lacks_by_test 10 (codes " idle") refl

-- ---- lines

-- it ends with an LF, and has no other
IsOneLine : List ℕ → Type 0
IsOneLine [] = ⊥
IsOneLine (b ∷ bs) = ((b ≡ 10) × (bs ≡ [])) ⊎ ((b ≢ 10) × IsOneLine bs)

one_end : IsOneLine (10 ∷ [])
unfolding IsOneLine
one_end = inl (refl, refl)

one_behind : (xs ys : List ℕ) → Lacks 10 xs → IsOneLine ys → IsOneLine (xs ++ ys)
unfolding IsOneLine
one_behind [] ys lacks h = h
one_behind (x ∷ xs) ys lacks h =
    inr (
      All-head (λ (byte : ℕ). byte ≢ 10) x xs lacks,
      one_behind xs ys
          (All-tail (λ (byte : ℕ). byte ≢ 10) x xs lacks) h,
    )

cut_one : (xs rest : List ℕ) → IsOneLine xs → cut_lines (xs ++ rest) ≡ xs ∷ cut_lines rest
unfolding IsOneLine
cut_one [] rest h = absurd h
cut_one (b ∷ bs) rest (inl h) =
    cond-true (eqb b 10) ((b ∷ []) ∷ cut_lines (bs ++ rest)) (onto_first b (cut_lines (bs ++ rest))) (eq-eqb b 10 h.0)
    ∙ (λ i. (b ∷ []) ∷ cut_lines (h.1 i ++ rest)) ∙ ap (λ (t : List ℕ). (b ∷ t) ∷ cut_lines rest) (sym h.1)
cut_one (b ∷ bs) rest (inr h) =
    cond-false (eqb b 10) ((b ∷ []) ∷ cut_lines (bs ++ rest)) (onto_first b (cut_lines (bs ++ rest)))
    (ne_eqb b 10 h.0)
    ∙ ap (onto_first b) (cut_one bs rest h.1)

one_some : (xs : List ℕ) → IsOneLine xs → 0 < length xs
unfolding IsOneLine
one_some [] h = absurd h
one_some (b ∷ bs) h = omega arith

line_one : (word : List ℕ) (n : ℕ) (rest : List ℕ) → Lacks 10 word → n < 2 ^ 64 → Lacks 10 rest → IsOneLine
    (line word n rest)
line_one word n rest h small k =
    one_behind word (spaced n ++ (rest ++ 10 ∷ [])) h (one_behind (spaced n) (rest ++ 10 ∷ []) (spaced_lacks n small)
    (one_behind rest (10 ∷ []) k one_end))

written_one : (l : TraceLine) → FitsLine l → IsOneLine (written l)
written_one (SitesAre n) h = line_one (codes "sites") n [] (lacks_by_test 10 (codes "sites") refl) (omega (arith, h))
    (All-nil (λ (byte : ℕ). byte ≢ 10))
written_one (HistoryOf site) h =
    line_one (codes "site") site [] (lacks_by_test 10 (codes "site") refl) (omega (arith, h.greatest))
    (All-nil (λ (byte : ℕ). byte ≢ 10))
written_one (EntryIs number entry) h =
    one_behind (decimal number) (told_part entry.told ++ (codes " ->" ++ (reply_part entry.reply ++ 10 ∷ [])))
    (number_lacks number h.0)
    (one_behind (told_part entry.told) (codes " ->" ++ (reply_part entry.reply ++ 10 ∷ []))
    (told_lacks entry.told h.1.0)
    (one_behind (codes " ->") (reply_part entry.reply ++ 10 ∷ []) (lacks_by_test 10 (codes " ->") refl)
    (one_behind (reply_part entry.reply) (10 ∷ []) (reply_lacks entry.reply h.1.1) one_end)))
written_one (EditorAt number home) h =
    line_one (codes "editor") number (spaced home) (lacks_by_test 10 (codes "editor") refl) (omega (arith, h.0))
    (spaced_lacks home (omega (arith, h.1.greatest)))
written_one (CallIs call entry) h =
    line_one (codes "call") call (spaced entry) (lacks_by_test 10 (codes "call") refl) h.0 (spaced_lacks entry h.1)
written_one (LookIs calls upto text) h =
    line_one (codes "look") calls (spaced upto ++ spaced_quoted text) (lacks_by_test 10 (codes "look") refl) h.0
    (both (spaced upto) (spaced_quoted text) (spaced_lacks upto h.1) (quoted_lacks text))
written_one (TextIs site text) h =
    line_one (codes "text") site (spaced_quoted text) (lacks_by_test 10 (codes "text") refl)
    (omega (arith, h.0.greatest)) (quoted_lacks text)
written_one Ended h = one_behind (codes "end") (10 ∷ []) (lacks_by_test 10 (codes "end") refl) one_end

-- a line has a byte
pub written_some : (l : TraceLine) → FitsLine l → 0 < length (written l)
written_some l h = one_some (written l) (written_one l h)

-- what is written is cut into its lines
pub cut_written : (lines : List TraceLine) (rest : List ℕ) → AllByRecursion FitsLine lines
    → cut_lines (all_written lines ++ rest) ≡ map written lines ++ cut_lines rest
cut_written [] rest h = refl
cut_written (l ∷ lines) rest h =
    ap cut_lines (append_assoc (written l) (all_written lines) rest)
    ∙ cut_one (written l) (all_written lines ++ rest) (written_one l h.0)
    ∙ ap (λ (t : List (List ℕ)). written l ∷ t) (cut_written lines rest h.1)

-- ---- the pieces again

onto_all : (b : ℕ) (pieces : List (List ℕ)) → concat (onto_first b pieces) ≡ b ∷ concat pieces
onto_all b [] = refl
onto_all b (piece ∷ pieces) = refl

pub pieces_whole : (bs : List ℕ) → concat (cut_lines bs) ≡ bs
pieces_whole [] = refl
pieces_whole (b ∷ bs) = at_feed (eqb b 10) (pieces_whole bs)
  where
    at_feed : (z : Bool) → concat (cut_lines bs) ≡ bs
        → concat (cond z ((b ∷ []) ∷ cut_lines bs) (onto_first b (cut_lines bs))) ≡ b ∷ bs
    at_feed true ih = ap (λ (t : List ℕ). b ∷ t) ih
    at_feed false ih = onto_all b (cut_lines bs) ∙ ap (λ (t : List ℕ). b ∷ t) ih

-- the first piece, and the others
pub record HasFirst (pieces : List (List ℕ)) : Type 0 where
  pub piece : List ℕ
  pub others : List (List ℕ)
  pub are : pieces ≡ piece ∷ others

pub first_piece : (b : ℕ) (bs : List ℕ) → HasFirst (cut_lines (b ∷ bs))
first_piece b bs = at_feed (eqb b 10) (cut_lines bs)
  where
    at_feed : (z : Bool) (pieces : List (List ℕ)) → HasFirst (cond z ((b ∷ []) ∷ pieces) (onto_first b pieces))
    at_feed true pieces = record { piece = b ∷ []; others = pieces; are = refl }
    at_feed false [] = record { piece = b ∷ []; others = []; are = refl }
    at_feed false (piece ∷ pieces) = record { piece = b ∷ piece; others = pieces; are = refl }
