-- Replies: what is written is read, and what is read is what is written of its value.
use Rattle.std.proofs.Common.{◌≡◌, ◌<◌, ◌^◌, ℕ, List, ◌∷◌, ◌++◌, codes, Option, Some, refl, ap, ◌∙◌}
use Rattle.std.proofs.Common.{append_assoc}
use Rattle.std.specs.Fmt.{decimal}
use Rattle.std.proofs.lemmas.Option.{none-some, some_pair_parts}
use Rattle.td_base.specs.Value.{DotValue, AtomIdValue, IsDot, IsAtomId}
use Rattle.td_op.specs.declared.reply.Reply.{Reply}
use Rattle.td_op.specs.declared.reply.Reply.TheVariants.{Made, Cancelled, Held, Position, Gone, Limit, NotOpen}
use Rattle.td_op.specs.declared.reply.Reply.TheVariants.{New, Later, Repeat, Unfit, Taken, Dropped, Idle}
use Rattle.td_op.specs.declared.reply.Why.{Why}
use Rattle.td_op.specs.declared.reply.Why.TheVariants.{Size, Own, Atom, Proposal, Vote as OfVote, Address}
use Rattle.td_report.specs.Parts.{identity}
use Rattle.td_report.specs.TraceLines.{reply_part, why_part}
use Rattle.td_script.specs.Spelling.{dotted}
use Rattle.td_reader.specs.Arguments.{short_at, dot_at, identity_at}
use Rattle.td_reader.specs.Replies.{why_at, made_at, held_at, position_at, gone_at, limit_at, not_open_at, unfit_at}
use Rattle.td_reader.specs.Replies.{taken_at, dropped_at, receipt_at, reply_at}
use Rattle.td_reader.specs.Values.{FitsReply}
use Rattle.td_reader.proofs.Cursors.{NoDigit, after_back}
use Rattle.td_reader.proofs.NameLaws.{dot_there, dot_back, identity_there, identity_back}
use Rattle.td_reader.proofs.Numbers.{short_there, short_back}
use Rattle.td_reader.proofs.Readings.{IsRead, bind_back, choose_back, read_as, two}

-- what stands behind a reply
abbrev pub feed : List ℕ → List ℕ
feed more = 10 ∷ more

why_there : (why : Why) (rest : List ℕ) → why_at (why_part why ++ rest) ≡ Some (why, rest)
unfolding why_at
why_there Size rest = refl
why_there Own rest = refl
why_there Atom rest = refl
why_there Proposal rest = refl
why_there OfVote rest = refl
why_there Address rest = refl

why_back : (bytes : List ℕ) (why : Why) (rest : List ℕ) → why_at bytes ≡ Some (why, rest)
    → bytes ≡ why_part why ++ rest
unfolding why_at
why_back bytes why rest e =
    choose_back (codes " size") e (λ behind whole e. written Size behind whole e)
    (λ e. choose_back (codes " own") e (λ behind whole e. written Own behind whole e)
    (λ e. choose_back (codes " atom") e (λ behind whole e. written Atom behind whole e)
    (λ e. choose_back (codes " proposal") e (λ behind whole e. written Proposal behind whole e)
    (λ e. choose_back (codes " vote") e (λ behind whole e. written OfVote behind whole e)
    (λ e. choose_back (codes " address") e (λ behind whole e. written Address behind whole e)
    (λ e. absurd (none-some (why, rest) e)))))))
  where
    written : (found : Why) (behind : List ℕ) → bytes ≡ why_part found ++ behind
        → ◌≡◌ {A = Option (Why × List ℕ)} (Some (found, behind)) (Some (why, rest)) → bytes ≡ why_part why ++ rest
    written found behind whole e =
        let same = some_pair_parts found why behind rest e in whole ∙ (λ i. why_part (same.0 i) ++ same.1 i)

made_there : (dot : DotValue) (more : List ℕ) → IsDot dot → made_at (dotted dot ++ feed more) ≡ Some
    (Made dot, feed more)
unfolding made_at
made_there dot more h =
    let first : dot_at (dotted dot ++ feed more) ≡ Some (dot, feed more) = dot_there dot (feed more) h refl in
    rw first refl

held_there : (dot : DotValue) (more : List ℕ) → IsDot dot → held_at (dotted dot ++ feed more) ≡ Some
    (Held dot, feed more)
unfolding held_at
held_there dot more h =
    let first : dot_at (dotted dot ++ feed more) ≡ Some (dot, feed more) = dot_there dot (feed more) h refl in
    rw first refl

not_open_there : (dot : DotValue) (more : List ℕ) → IsDot dot → not_open_at (dotted dot ++ feed more) ≡ Some
    (NotOpen dot, feed more)
unfolding not_open_at
not_open_there dot more h =
    let first : dot_at (dotted dot ++ feed more) ≡ Some (dot, feed more) = dot_there dot (feed more) h refl in
    rw first refl

taken_there : (dot : DotValue) (more : List ℕ) → IsDot dot → taken_at (dotted dot ++ feed more) ≡ Some
    (Taken dot, feed more)
unfolding taken_at
taken_there dot more h =
    let first : dot_at (dotted dot ++ feed more) ≡ Some (dot, feed more) = dot_there dot (feed more) h refl in
    rw first refl

gone_there : (id : AtomIdValue) (more : List ℕ) → IsAtomId id → gone_at (identity id ++ feed more) ≡ Some
    (Gone id, feed more)
unfolding gone_at
gone_there id more h =
    let first : identity_at (identity id ++ feed more) ≡ Some (id, feed more) = identity_there id (feed more) h
    (refl, refl) in
    rw first refl

position_there : (len : ℕ) (more : List ℕ) → len < 2 ^ 32 → position_at (decimal len ++ feed more) ≡ Some
    (Position len, feed more)
unfolding position_at
position_there len more h =
    let first : short_at (decimal len ++ feed more) ≡ Some (len, feed more) = short_there len (feed more) h refl in
    rw first refl

limit_there : (made undecided : ℕ) (more : List ℕ) → made < 2 ^ 32 → undecided < 2 ^ 32
    → limit_at ((decimal made ++ (32 ∷ decimal undecided)) ++ feed more) ≡ Some (Limit made undecided, feed more)
unfolding limit_at
limit_there made undecided more h k =
    let first : short_at (decimal made ++ (32 ∷ (decimal undecided ++ feed more))) ≡ Some
    (made, 32 ∷ (decimal undecided ++ feed more)) =
    short_there made (32 ∷ (decimal undecided ++ feed more)) h refl in
    let second : short_at (decimal undecided ++ feed more) ≡ Some (undecided, feed more) = short_there undecided
    (feed more) k refl in
    ap limit_at (append_assoc (decimal made) (32 ∷ decimal undecided) (feed more)) ∙ rw (first, second) refl

unfit_there : (why : Why) (more : List ℕ) → unfit_at (why_part why ++ feed more) ≡ Some (Unfit why, feed more)
unfolding unfit_at
unfit_there why more =
    let first : why_at (why_part why ++ feed more) ≡ Some (why, feed more) = why_there why (feed more) in
    rw first refl

no_digit_of_why : (why : Why) (rest : List ℕ) → NoDigit (why_part why ++ rest)
no_digit_of_why Size rest = refl
no_digit_of_why Own rest = refl
no_digit_of_why Atom rest = refl
no_digit_of_why Proposal rest = refl
no_digit_of_why OfVote rest = refl
no_digit_of_why Address rest = refl

dropped_there : (dot : DotValue) (why : Why) (more : List ℕ) → IsDot dot
    → dropped_at ((dotted dot ++ why_part why) ++ feed more) ≡ Some (Dropped dot why, feed more)
unfolding dropped_at
dropped_there dot why more h =
    let first : dot_at (dotted dot ++ (why_part why ++ feed more)) ≡ Some (dot, why_part why ++ feed more) =
    dot_there dot (why_part why ++ feed more) h (no_digit_of_why why (feed more)) in
    let second : why_at (why_part why ++ feed more) ≡ Some (why, feed more) = why_there why (feed more) in
    ap dropped_at (append_assoc (dotted dot) (why_part why) (feed more)) ∙ rw (first, second) refl

pub reply_there : (reply : Reply) (more : List ℕ) → FitsReply reply → reply_at (reply_part reply ++ feed more) ≡ Some
    (reply, feed more)
unfolding reply_at receipt_at
reply_there (Made dot) more h = made_there dot more h
reply_there Cancelled more h = refl
reply_there (Held by) more h = held_there by more h
reply_there (Position len) more h = position_there len more h
reply_there (Gone id) more h = gone_there id more h
reply_there (Limit made undecided) more h = limit_there made undecided more h.0 h.1
reply_there (NotOpen proposal) more h = not_open_there proposal more h
reply_there New more h = refl
reply_there Later more h = refl
reply_there Repeat more h = refl
reply_there (Unfit why) more h = unfit_there why more
reply_there (Taken dot) more h = taken_there dot more h
reply_there (Dropped dot why) more h = dropped_there dot why more h
reply_there Idle more h = refl

-- ---- what is read is what is written

abbrev IsReply : List ℕ → Reply → List ℕ → Type 0
IsReply bytes reply rest = IsRead reply_part FitsReply bytes reply rest

made_back : (bytes behind : List ℕ) (reply : Reply) (rest : List ℕ) → bytes ≡ codes " made " ++ behind
    → made_at behind ≡ Some (reply, rest) → IsReply bytes reply rest
unfolding made_at
made_back bytes behind reply rest whole e =
    bind_back e (λ (dot : DotValue × List ℕ) is e.
    let first = dot_back behind dot.0 dot.1 is in
    read_as e (record { fits = first.fits; whole = whole ∙ ap (λ (t : List ℕ). codes " made " ++ t) first.whole }))

held_back : (bytes behind : List ℕ) (reply : Reply) (rest : List ℕ) → bytes ≡ codes " held " ++ behind
    → held_at behind ≡ Some (reply, rest) → IsReply bytes reply rest
unfolding held_at
held_back bytes behind reply rest whole e =
    bind_back e (λ (dot : DotValue × List ℕ) is e.
    let first = dot_back behind dot.0 dot.1 is in
    read_as e (record { fits = first.fits; whole = whole ∙ ap (λ (t : List ℕ). codes " held " ++ t) first.whole }))

not_open_back : (bytes behind : List ℕ) (reply : Reply) (rest : List ℕ) → bytes ≡ codes " notopen " ++ behind
    → not_open_at behind ≡ Some (reply, rest) → IsReply bytes reply rest
unfolding not_open_at
not_open_back bytes behind reply rest whole e =
    bind_back e (λ (dot : DotValue × List ℕ) is e.
    let first = dot_back behind dot.0 dot.1 is in
    read_as e (record { fits = first.fits; whole = whole ∙ ap (λ (t : List ℕ). codes " notopen " ++ t) first.whole }))

taken_back : (bytes behind : List ℕ) (reply : Reply) (rest : List ℕ) → bytes ≡ codes " taken " ++ behind
    → taken_at behind ≡ Some (reply, rest) → IsReply bytes reply rest
unfolding taken_at
taken_back bytes behind reply rest whole e =
    bind_back e (λ (dot : DotValue × List ℕ) is e.
    let first = dot_back behind dot.0 dot.1 is in
    read_as e (record { fits = first.fits; whole = whole ∙ ap (λ (t : List ℕ). codes " taken " ++ t) first.whole }))

gone_back : (bytes behind : List ℕ) (reply : Reply) (rest : List ℕ) → bytes ≡ codes " gone " ++ behind
    → gone_at behind ≡ Some (reply, rest) → IsReply bytes reply rest
unfolding gone_at
gone_back bytes behind reply rest whole e =
    bind_back e (λ (id : AtomIdValue × List ℕ) is e.
    let first = identity_back behind id.0 id.1 is in
    read_as e (record { fits = first.fits; whole = whole ∙ ap (λ (t : List ℕ). codes " gone " ++ t) first.whole }))

position_back : (bytes behind : List ℕ) (reply : Reply) (rest : List ℕ) → bytes ≡ codes " position " ++ behind
    → position_at behind ≡ Some (reply, rest) → IsReply bytes reply rest
unfolding position_at
position_back bytes behind reply rest whole e =
    bind_back e (λ (len : ℕ × List ℕ) is e.
    let first = short_back behind len.0 len.1 is in
    read_as e (record { fits = first.0; whole = whole ∙ ap (λ (t : List ℕ). codes " position " ++ t) first.1 }))

limit_back : (bytes behind : List ℕ) (reply : Reply) (rest : List ℕ) → bytes ≡ codes " limit " ++ behind
    → limit_at behind ≡ Some (reply, rest) → IsReply bytes reply rest
unfolding limit_at
limit_back bytes behind reply rest whole e =
    bind_back e (λ (made : ℕ × List ℕ) is_made e. bind_back e
    (λ (next : List ℕ) is_space e. bind_back e (λ (undecided : ℕ × List ℕ) is_undecided e.
    let first = short_back behind made.0 made.1 is_made in
    let second = after_back (codes " ") made.1 next is_space in
    let third = short_back next undecided.0 undecided.1 is_undecided in
    read_as e (record {
      fits = (first.0, third.0);
      whole = whole ∙ ap (λ (t : List ℕ). codes " limit " ++ t)
          (two (decimal made.0) (32 ∷ decimal undecided.0) made.1 undecided.1 first.1
          (second ∙ ap (λ (t : List ℕ). 32 ∷ t) third.1));
    }))))

unfit_back : (bytes behind : List ℕ) (reply : Reply) (rest : List ℕ) → bytes ≡ codes " unfit" ++ behind
    → unfit_at behind ≡ Some (reply, rest) → IsReply bytes reply rest
unfolding unfit_at
unfit_back bytes behind reply rest whole e =
    bind_back e (λ (why : Why × List ℕ) is e.
    let first = why_back behind why.0 why.1 is in
    read_as e (record { fits = tt; whole = whole ∙ ap (λ (t : List ℕ). codes " unfit" ++ t) first }))

dropped_back : (bytes behind : List ℕ) (reply : Reply) (rest : List ℕ) → bytes ≡ codes " dropped " ++ behind
    → dropped_at behind ≡ Some (reply, rest) → IsReply bytes reply rest
unfolding dropped_at
dropped_back bytes behind reply rest whole e =
    bind_back e (λ (dot : DotValue × List ℕ) is_dot e. bind_back e (λ (why : Why × List ℕ) is_why e.
    let first = dot_back behind dot.0 dot.1 is_dot in
    let second = why_back dot.1 why.0 why.1 is_why in
    read_as e (record {
      fits = first.fits;
      whole = whole ∙ ap (λ (t : List ℕ). codes " dropped " ++ t)
          (two (dotted dot.0) (why_part why.0) dot.1 why.1 first.whole second);
    })))

receipt_back : (bytes : List ℕ) (reply : Reply) (rest : List ℕ) → receipt_at bytes ≡ Some (reply, rest)
    → IsReply bytes reply rest
unfolding receipt_at
receipt_back bytes reply rest e =
    choose_back (codes " new") e (λ behind whole e. read_as e (record { fits = tt; whole = whole }))
    (λ e. choose_back (codes " later") e (λ behind whole e. read_as e (record { fits = tt; whole = whole }))
    (λ e. choose_back (codes " repeat") e (λ behind whole e. read_as e (record { fits = tt; whole = whole }))
    (λ e. choose_back (codes " unfit") e (λ behind whole e. unfit_back bytes behind reply rest whole e)
    (λ e. choose_back (codes " taken ") e (λ behind whole e. taken_back bytes behind reply rest whole e)
    (λ e. choose_back (codes " dropped ") e (λ behind whole e. dropped_back bytes behind reply rest whole e)
    (λ e. choose_back (codes " idle") e (λ behind whole e. read_as e (record { fits = tt; whole = whole }))
    (λ e. absurd (none-some (reply, rest) e))))))))

pub reply_back : (bytes : List ℕ) (reply : Reply) (rest : List ℕ) → reply_at bytes ≡ Some (reply, rest)
    → IsRead reply_part FitsReply bytes reply rest
unfolding reply_at
reply_back bytes reply rest e =
    choose_back (codes " made ") e (λ behind whole e. made_back bytes behind reply rest whole e)
    (λ e. choose_back (codes " cancelled") e (λ behind whole e. read_as e (record { fits = tt; whole = whole }))
    (λ e. choose_back (codes " held ") e (λ behind whole e. held_back bytes behind reply rest whole e)
    (λ e. choose_back (codes " position ") e (λ behind whole e. position_back bytes behind reply rest whole e)
    (λ e. choose_back (codes " gone ") e (λ behind whole e. gone_back bytes behind reply rest whole e)
    (λ e. choose_back (codes " limit ") e (λ behind whole e. limit_back bytes behind reply rest whole e)
    (λ e. choose_back (codes " notopen ") e (λ behind whole e. not_open_back bytes behind reply rest whole e)
    (λ e. receipt_back bytes reply rest e)))))))
