-- Lines: what is written is read, and what is read is what is written of its value.
use Rattle.std.proofs.Common.{◌≡◌, ◌<◌, ◌≤◌, ◌^◌, ℕ, List, [], ◌∷◌, ◌++◌, codes, Some, None, refl, sym, ap}
use Rattle.std.proofs.Common.{◌∙◌, append_assoc, arith}
use Rattle.std.specs.Bool.{⊤}
use Rattle.std.specs.Fmt.{decimal}
use Rattle.std.specs.List.{flat_map}
use Rattle.std.specs.Str.{IsUtf8}
use Rattle.td_base.specs.Value.{IsSite}
use Rattle.td_base.specs.declared.site.TheConstants.{MAX_SITE}
use Rattle.td_op.specs.declared.reply.Reply.{Reply}
use Rattle.td_trace.specs.declared.entry.TraceEntry.{TraceEntry}
use Rattle.td_trace.specs.declared.told_input.ToldInput.{ToldInput}
use Rattle.td_report.specs.Parts.{spaced_quoted}
use Rattle.td_report.specs.TraceLines.{TraceLine, SitesAre, HistoryOf, EntryIs, EditorAt, CallIs, LookIs, TextIs}
use Rattle.td_report.specs.TraceLines.{Ended}
use Rattle.td_report.specs.TraceLines.{told_part, reply_part, written}
use Rattle.td_script.specs.Texts.{escaped}
use Rattle.td_reader.specs.Arguments.{number_at, short_at, long_at, site_at, text_at}
use Rattle.td_reader.specs.Lines.{sites_at, history_at, entry_at, editor_at, call_at, look_at, ending_at, line_at}
use Rattle.td_reader.specs.Reading.{after}
use Rattle.td_reader.specs.Replies.{reply_at}
use Rattle.td_reader.specs.Requests.{told_at}
use Rattle.td_reader.specs.Values.{FitsEntry, IsShortNumber, IsLong}
use Rattle.td_reader.proofs.Cursors.{after_back}
use Rattle.td_reader.proofs.NameLaws.{site_there, site_back}
use Rattle.td_reader.proofs.Numbers.{number_at_there, number_at_back, short_there, short_back, long_there, long_back}
use Rattle.td_reader.proofs.Numbers.{no_word}
use Rattle.td_reader.proofs.Readings.{IsRead, bind_back, choose_back, read_as, two}
use Rattle.td_reader.proofs.ReplyLaws.{feed, reply_there, reply_back}
use Rattle.td_reader.proofs.RequestLaws.{arrow, told_ends, told_there, told_back}
use Rattle.td_reader.proofs.Texts.{text_at_there, text_at_back}

-- each part of a line is in the range of its field
abbrev pub FitsLine : TraceLine → Type 0
FitsLine (SitesAre n) = n ≤ MAX_SITE
FitsLine (HistoryOf site) = IsSite site
FitsLine (EntryIs number entry) = IsLong number × FitsEntry entry
FitsLine (EditorAt number home) = IsShortNumber number × IsSite home
FitsLine (CallIs call entry) = IsLong call × IsLong entry
FitsLine (LookIs calls upto text) = IsLong calls × IsLong upto × IsUtf8 text
FitsLine (TextIs site text) = IsSite site × IsUtf8 text
FitsLine Ended = ⊤

-- ---- what is written is read

sites_there : (n : ℕ) (more : List ℕ) → n ≤ MAX_SITE → sites_at ((decimal n ++ (10 ∷ [])) ++ more) ≡ Some
    (SitesAre n, more)
unfolding sites_at
sites_there n more h =
    let first : number_at MAX_SITE (decimal n ++ feed more) ≡ Some (n, feed more) = number_at_there MAX_SITE n
    (feed more) h (omega arith) refl in
    ap sites_at (append_assoc (decimal n) (10 ∷ []) more) ∙ rw first refl

history_there : (site : ℕ) (more : List ℕ) → IsSite site → history_at ((decimal site ++ (10 ∷ [])) ++ more) ≡ Some
    (HistoryOf site, more)
unfolding history_at
history_there site more h =
    let first : site_at (decimal site ++ feed more) ≡ Some (site, feed more) = site_there site (feed more) h refl in
    ap history_at (append_assoc (decimal site) (10 ∷ []) more) ∙ rw first refl

entry_there : (number : ℕ) (entry : TraceEntry) (more : List ℕ) → number < 2 ^ 64 → FitsEntry entry
    → entry_at (written (EntryIs number entry) ++ more) ≡ Some (EntryIs number entry, more)
unfolding entry_at
entry_there number entry more h fits =
    let last : List ℕ = reply_part entry.reply ++ feed more in
    let first : long_at (decimal number ++ (told_part entry.told ++ arrow last)) ≡ Some
    (number, told_part entry.told ++ arrow last) =
    long_there number (told_part entry.told ++ arrow last) h (told_ends entry.told (arrow last)) in
    let second : told_at (told_part entry.told ++ arrow last) ≡ Some
    (entry.told, arrow last) = told_there entry.told last fits.0 in
    let third : reply_at last ≡ Some (entry.reply, feed more) = reply_there entry.reply more fits.1 in
    ap entry_at (append_assoc (decimal number) (told_part entry.told ++ arrow
    (reply_part entry.reply ++ 10 ∷ [])) more
    ∙ ap (λ (t : List ℕ). decimal number ++ t) (append_assoc (told_part entry.told)
    (arrow (reply_part entry.reply ++ 10 ∷ [])) more
    ∙ ap (λ (t : List ℕ). told_part entry.told ++ arrow t) (append_assoc (reply_part entry.reply) (10 ∷ []) more)))
    ∙ rw (first, second, third) refl

editor_there : (number home : ℕ) (more : List ℕ) → number < 2 ^ 32 → IsSite home
    → editor_at ((decimal number ++ ((32 ∷ decimal home) ++ (10 ∷ []))) ++ more) ≡ Some (EditorAt number home, more)
unfolding editor_at
editor_there number home more h fits =
    let first : short_at (decimal number ++ (32 ∷ (decimal home ++ feed more))) ≡ Some
    (number, 32 ∷ (decimal home ++ feed more)) =
    short_there number (32 ∷ (decimal home ++ feed more)) h refl in
    let second : site_at (decimal home ++ feed more) ≡ Some (home, feed more) = site_there home
    (feed more) fits refl in
    ap editor_at (append_assoc (decimal number) (32 ∷ (decimal home ++ (10 ∷ []))) more
    ∙ ap (λ (t : List ℕ). decimal number ++ (32 ∷ t)) (append_assoc (decimal home) (10 ∷ []) more)) ∙ rw
    (first, second) refl

call_there : (call entry : ℕ) (more : List ℕ) → call < 2 ^ 64 → entry < 2 ^ 64
    → call_at ((decimal call ++ ((32 ∷ decimal entry) ++ (10 ∷ []))) ++ more) ≡ Some (CallIs call entry, more)
unfolding call_at
call_there call entry more h k =
    let first : long_at (decimal call ++ (32 ∷ (decimal entry ++ feed more))) ≡ Some
    (call, 32 ∷ (decimal entry ++ feed more)) =
    long_there call (32 ∷ (decimal entry ++ feed more)) h refl in
    let second : long_at (decimal entry ++ feed more) ≡ Some (entry, feed more) = long_there entry
    (feed more) k refl in
    ap call_at (append_assoc (decimal call) (32 ∷ (decimal entry ++ (10 ∷ []))) more
    ∙ ap (λ (t : List ℕ). decimal call ++ (32 ∷ t)) (append_assoc (decimal entry) (10 ∷ []) more)) ∙ rw
    (first, second) refl

-- a text in its quotes, and the end of the line
abbrev pub inside : List ℕ → List ℕ → List ℕ
inside text more = flat_map escaped text ++ 34 ∷ feed more

quoted_end : (text more : List ℕ) → (spaced_quoted text ++ (10 ∷ [])) ++ more ≡ 32 ∷ 34 ∷ inside text more
quoted_end text more =
    ap (λ (t : List ℕ). 32 ∷ 34 ∷ t)
    (ap (λ (t : List ℕ). t ++ more) (append_assoc (flat_map escaped text) (34 ∷ []) (10 ∷ []))
    ∙ append_assoc (flat_map escaped text) (34 ∷ 10 ∷ []) more)

look_there : (calls upto : ℕ) (text more : List ℕ) → calls < 2 ^ 64 → upto < 2 ^ 64 → IsUtf8 text
    → look_at ((decimal calls ++ (((32 ∷ decimal upto) ++ spaced_quoted text) ++ (10 ∷ []))) ++ more) ≡ Some
    (LookIs calls upto text, more)
unfolding look_at
look_there calls upto text more h k u =
    let tail : List ℕ = 32 ∷ 34 ∷ inside text more in
    let first : long_at (decimal calls ++ (32 ∷ (decimal upto ++ tail))) ≡ Some (calls, 32 ∷ (decimal upto ++ tail)) =
    long_there calls (32 ∷ (decimal upto ++ tail)) h refl in
    let second : long_at (decimal upto ++ tail) ≡ Some (upto, tail) = long_there upto tail k refl in
    let third : text_at (inside text more) ≡ Some (text, feed more) = text_at_there text (feed more) u in
    ap look_at (append_assoc (decimal calls) (32 ∷ ((decimal upto ++ spaced_quoted text) ++ (10 ∷ []))) more
    ∙ ap (λ (t : List ℕ). decimal calls ++ (32 ∷ t))
    (ap (λ (t : List ℕ). t ++ more) (append_assoc (decimal upto) (spaced_quoted text) (10 ∷ []))
    ∙ append_assoc (decimal upto) (spaced_quoted text ++ (10 ∷ [])) more
    ∙ ap (λ (t : List ℕ). decimal upto ++ t) (quoted_end text more)))
    ∙ rw (first, second, third) refl

ending_there : (site : ℕ) (text more : List ℕ) → IsSite site → IsUtf8 text
    → ending_at ((decimal site ++ (spaced_quoted text ++ (10 ∷ []))) ++ more) ≡ Some (TextIs site text, more)
unfolding ending_at
ending_there site text more h u =
    let tail : List ℕ = 32 ∷ 34 ∷ inside text more in
    let first : site_at (decimal site ++ tail) ≡ Some (site, tail) = site_there site tail h refl in
    let second : text_at (inside text more) ≡ Some (text, feed more) = text_at_there text (feed more) u in
    ap ending_at (append_assoc (decimal site) (spaced_quoted text ++ (10 ∷ [])) more
    ∙ ap (λ (t : List ℕ). decimal site ++ t) (quoted_end text more))
    ∙ rw (first, second) refl

-- an entry begins with a digit
line_of_entry : (number : ℕ) (rest : List ℕ) → number < 2 ^ 64 → line_at (decimal number ++ rest) ≡ entry_at
    (decimal number ++ rest)
unfolding line_at
line_of_entry number rest h =
    let sites : after (codes "sites ") (decimal number ++ rest) ≡ None = no_word 115
    (codes "ites ") number rest refl h in
    let site : after (codes "site ") (decimal number ++ rest) ≡ None = no_word 115
    (codes "ite ") number rest refl h in
    let editor : after (codes "editor ") (decimal number ++ rest) ≡ None = no_word 101
    (codes "ditor ") number rest refl h in
    let call : after (codes "call ") (decimal number ++ rest) ≡ None = no_word 99 (codes "all ") number rest refl h in
    let look : after (codes "look ") (decimal number ++ rest) ≡ None = no_word 108
    (codes "ook ") number rest refl h in
    let text : after (codes "text ") (decimal number ++ rest) ≡ None = no_word 116
    (codes "ext ") number rest refl h in
    let end : after (codes "end\n") (decimal number ++ rest) ≡ None = no_word 101 (codes "nd\n") number rest refl h in
    rw (sites, site, editor, call, look, text, end) refl

entry_line_there : (number : ℕ) (entry : TraceEntry) (more : List ℕ) → number < 2 ^ 64 → FitsEntry entry
    → line_at (written (EntryIs number entry) ++ more) ≡ Some (EntryIs number entry, more)
entry_line_there number entry more h fits =
    let rest : List ℕ = told_part entry.told ++ arrow (reply_part entry.reply ++ 10 ∷ []) in
    let shape : written (EntryIs number entry) ++ more ≡ decimal number ++ (rest ++ more) = append_assoc
    (decimal number) rest more in
    ap line_at shape ∙ line_of_entry number (rest ++ more) h ∙ ap entry_at (sym shape)
    ∙ entry_there number entry more h fits

pub line_there : (line : TraceLine) (more : List ℕ) → FitsLine line → line_at (written line ++ more) ≡ Some
    (line, more)
unfolding line_at
line_there (SitesAre n) more h = sites_there n more h
line_there (HistoryOf site) more h = history_there site more h
line_there (EntryIs number entry) more h = entry_line_there number entry more h.0 h.1
line_there (EditorAt number home) more h = editor_there number home more h.0 h.1
line_there (CallIs call entry) more h = call_there call entry more h.0 h.1
line_there (LookIs calls upto text) more h = look_there calls upto text more h.0 h.1 h.2
line_there (TextIs site text) more h = ending_there site text more h.0 h.1
line_there Ended more h = refl

-- ---- what is read is what is written

abbrev IsLine : List ℕ → TraceLine → List ℕ → Type 0
IsLine bytes line rest = IsRead written FitsLine bytes line rest

sites_back : (bytes behind : List ℕ) (line : TraceLine) (rest : List ℕ) → bytes ≡ codes "sites " ++ behind
    → sites_at behind ≡ Some (line, rest) → IsLine bytes line rest
unfolding sites_at
sites_back bytes behind line rest whole e =
    bind_back e (λ (n : ℕ × List ℕ) is e. bind_back e (λ (end : List ℕ) is_end e.
    let first = number_at_back MAX_SITE behind n.0 n.1 is in
    let last = after_back (codes "\n") n.1 end is_end in
    read_as e (record {
      fits = first.0;
      whole = whole ∙ ap (λ (t : List ℕ). codes "sites " ++ t)
          (two (decimal n.0) (10 ∷ []) n.1 end first.1 last);
    })))

history_back : (bytes behind : List ℕ) (line : TraceLine) (rest : List ℕ) → bytes ≡ codes "site " ++ behind
    → history_at behind ≡ Some (line, rest) → IsLine bytes line rest
unfolding history_at
history_back bytes behind line rest whole e =
    bind_back e (λ (n : ℕ × List ℕ) is e. bind_back e (λ (end : List ℕ) is_end e.
    let first = site_back behind n.0 n.1 is in
    let last = after_back (codes "\n") n.1 end is_end in
    read_as e (record {
      fits = first.fits;
      whole = whole ∙ ap (λ (t : List ℕ). codes "site " ++ t)
          (two (decimal n.0) (10 ∷ []) n.1 end first.whole last);
    })))

entry_back : (bytes : List ℕ) (line : TraceLine) (rest : List ℕ) → entry_at bytes ≡ Some (line, rest)
    → IsLine bytes line rest
unfolding entry_at
entry_back bytes line rest e =
    bind_back e (λ (number : ℕ × List ℕ) is_number e. bind_back e
    (λ (told : ToldInput × List ℕ) is_told e. bind_back e (λ (next : List ℕ) is_arrow e.
    bind_back e (λ (reply : Reply × List ℕ) is_reply e. bind_back e (λ (end : List ℕ) is_end e.
    let first = long_back bytes number.0 number.1 is_number in
    let second = told_back number.1 told.0 told.1 is_told in
    let third = after_back (codes " ->") told.1 next is_arrow in
    let fourth = reply_back next reply.0 reply.1 is_reply in
    let last = after_back (codes "\n") reply.1 end is_end in
    read_as e (record {
      fits = (first.0, (second.fits, fourth.fits));
      whole = two (decimal number.0) (told_part told.0 ++ arrow
          (reply_part reply.0 ++ (10 ∷ []))) number.1 end first.1
          (two (told_part told.0) (arrow (reply_part reply.0 ++ (10 ∷ []))) told.1 end second.whole
          (third ∙ ap arrow (two (reply_part reply.0) (10 ∷ []) reply.1 end fourth.whole last)));
    }))))))

editor_back : (bytes behind : List ℕ) (line : TraceLine) (rest : List ℕ) → bytes ≡ codes "editor " ++ behind
    → editor_at behind ≡ Some (line, rest) → IsLine bytes line rest
unfolding editor_at
editor_back bytes behind line rest whole e =
    bind_back e (λ (number : ℕ × List ℕ) is_number e. bind_back e
    (λ (next : List ℕ) is_space e. bind_back e (λ (home : ℕ × List ℕ) is_home e.
    bind_back e (λ (end : List ℕ) is_end e.
    let first = short_back behind number.0 number.1 is_number in
    let second = after_back (codes " ") number.1 next is_space in
    let third = site_back next home.0 home.1 is_home in
    let last = after_back (codes "\n") home.1 end is_end in
    read_as e (record {
      fits = (first.0, third.fits);
      whole = whole ∙ ap (λ (t : List ℕ). codes "editor " ++ t)
          (two (decimal number.0) ((32 ∷ decimal home.0) ++ (10 ∷ [])) number.1 end first.1
          (second ∙ ap (λ (t : List ℕ). 32 ∷ t) (two (decimal home.0) (10 ∷ []) home.1 end third.whole last)));
    })))))

call_back : (bytes behind : List ℕ) (line : TraceLine) (rest : List ℕ) → bytes ≡ codes "call " ++ behind
    → call_at behind ≡ Some (line, rest) → IsLine bytes line rest
unfolding call_at
call_back bytes behind line rest whole e =
    bind_back e (λ (number : ℕ × List ℕ) is_number e. bind_back e
    (λ (next : List ℕ) is_space e. bind_back e (λ (entry : ℕ × List ℕ) is_entry e.
    bind_back e (λ (end : List ℕ) is_end e.
    let first = long_back behind number.0 number.1 is_number in
    let second = after_back (codes " ") number.1 next is_space in
    let third = long_back next entry.0 entry.1 is_entry in
    let last = after_back (codes "\n") entry.1 end is_end in
    read_as e (record {
      fits = (first.0, third.0);
      whole = whole ∙ ap (λ (t : List ℕ). codes "call " ++ t)
          (two (decimal number.0) ((32 ∷ decimal entry.0) ++ (10 ∷ [])) number.1 end first.1
          (second ∙ ap (λ (t : List ℕ). 32 ∷ t) (two (decimal entry.0) (10 ∷ []) entry.1 end third.1 last)));
    })))))

-- a text that was read up to the end of its line
quoted_back : (tail inner text middle end : List ℕ) → tail ≡ 32 ∷ 34 ∷ inner → inner ≡ flat_map escaped text ++ 34
    ∷ middle → middle ≡ feed end
    → tail ≡ (spaced_quoted text ++ (10 ∷ [])) ++ end
quoted_back tail inner text middle end e f g =
    e ∙ ap (λ (t : List ℕ). 32 ∷ 34 ∷ t) (f ∙ ap (λ (t : List ℕ). flat_map escaped text ++ 34 ∷ t) g) ∙ sym
    (quoted_end text end)

look_back : (bytes behind : List ℕ) (line : TraceLine) (rest : List ℕ) → bytes ≡ codes "look " ++ behind
    → look_at behind ≡ Some (line, rest) → IsLine bytes line rest
unfolding look_at
look_back bytes behind line rest whole e =
    bind_back e (λ (calls : ℕ × List ℕ) is_calls e. bind_back e
    (λ (next : List ℕ) is_space e. bind_back e (λ (upto : ℕ × List ℕ) is_upto e.
    bind_back e (λ (inner : List ℕ) is_quote e. bind_back e (λ (text : List ℕ × List ℕ) is_text e. bind_back e
    (λ (end : List ℕ) is_end e.
    let first = long_back behind calls.0 calls.1 is_calls in
    let second = after_back (codes " ") calls.1 next is_space in
    let third = long_back next upto.0 upto.1 is_upto in
    let fourth = after_back (codes " \"") upto.1 inner is_quote in
    let fifth = text_at_back inner text.0 text.1 is_text in
    let last = after_back (codes "\n") text.1 end is_end in
    read_as e (record {
      fits = (first.0, third.0, fifth.fits);
      whole = whole ∙ ap (λ (t : List ℕ). codes "look " ++ t)
          (two (decimal calls.0) (((32 ∷ decimal upto.0) ++ spaced_quoted text.0) ++ (10 ∷ [])) calls.1 end first.1
          (second ∙ ap (λ (t : List ℕ). 32 ∷ t)
          (two (decimal upto.0) (spaced_quoted text.0 ++ (10 ∷ [])) upto.1 end third.1
          (quoted_back upto.1 inner text.0 text.1 end fourth fifth.whole last)
          ∙ ap (λ (t : List ℕ). t ++ end) (sym (append_assoc (decimal upto.0) (spaced_quoted text.0) (10 ∷ []))))));
    })))))))

ending_back : (bytes behind : List ℕ) (line : TraceLine) (rest : List ℕ) → bytes ≡ codes "text " ++ behind
    → ending_at behind ≡ Some (line, rest) → IsLine bytes line rest
unfolding ending_at
ending_back bytes behind line rest whole e =
    bind_back e (λ (site : ℕ × List ℕ) is_site e. bind_back e
    (λ (inner : List ℕ) is_quote e. bind_back e (λ (text : List ℕ × List ℕ) is_text e.
    bind_back e (λ (end : List ℕ) is_end e.
    let first = site_back behind site.0 site.1 is_site in
    let second = after_back (codes " \"") site.1 inner is_quote in
    let third = text_at_back inner text.0 text.1 is_text in
    let last = after_back (codes "\n") text.1 end is_end in
    read_as e (record {
      fits = (first.fits, third.fits);
      whole = whole ∙ ap (λ (t : List ℕ). codes "text " ++ t)
          (two (decimal site.0) (spaced_quoted text.0 ++ (10 ∷ [])) site.1 end first.whole
          (quoted_back site.1 inner text.0 text.1 end second third.whole last));
    })))))

pub line_back : (bytes : List ℕ) (line : TraceLine) (rest : List ℕ) → line_at bytes ≡ Some (line, rest)
    → IsRead written FitsLine bytes line rest
unfolding line_at
line_back bytes line rest e =
    choose_back (codes "sites ") e (λ behind whole e. sites_back bytes behind line rest whole e)
    (λ e. choose_back (codes "site ") e (λ behind whole e. history_back bytes behind line rest whole e)
    (λ e. choose_back (codes "editor ") e (λ behind whole e. editor_back bytes behind line rest whole e)
    (λ e. choose_back (codes "call ") e (λ behind whole e. call_back bytes behind line rest whole e)
    (λ e. choose_back (codes "look ") e (λ behind whole e. look_back bytes behind line rest whole e)
    (λ e. choose_back (codes "text ") e (λ behind whole e. ending_back bytes behind line rest whole e)
    (λ e. choose_back (codes "end\n") e (λ behind whole e. read_as e (record { fits = tt; whole = whole }))
    (λ e. entry_back bytes line rest e)))))))
