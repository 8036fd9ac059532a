-- A line of a trace, with its LF, read from the front of bytes.
use Rattle.std.specs.Prelude.{ℕ, List, Some, codes}
use Rattle.td_base.specs.declared.site.TheConstants.{MAX_SITE}
use Rattle.td_report.specs.TraceLines.{TraceLine, SitesAre, HistoryOf, EntryIs, EditorAt, CallIs, LookIs, TextIs}
use Rattle.td_report.specs.TraceLines.{Ended}
use Rattle.td_reader.specs.Arguments.{number_at, short_at, long_at, site_at, text_at}
use Rattle.td_reader.specs.Reading.{Reading, ◌>>=◌, after, choose}
use Rattle.td_reader.specs.Replies.{reply_at}
use Rattle.td_reader.specs.Requests.{told_at}

-- how many sites there are
unfoldable pub sites_at : List ℕ → Reading TraceLine
sites_at bytes = do
  n ← number_at MAX_SITE bytes
  rest ← after (codes "\n") n.1
  Some (SitesAre n.0, rest)

unfoldable pub history_at : List ℕ → Reading TraceLine
history_at bytes = do
  site ← site_at bytes
  rest ← after (codes "\n") site.1
  Some (HistoryOf site.0, rest)

-- an entry, with its number
unfoldable pub entry_at : List ℕ → Reading TraceLine
entry_at bytes = do
  number ← long_at bytes
  told ← told_at number.1
  behind ← after (codes " ->") told.1
  reply ← reply_at behind
  rest ← after (codes "\n") reply.1
  Some (EntryIs number.0 (record { told = told.0; reply = reply.0 }), rest)

unfoldable pub editor_at : List ℕ → Reading TraceLine
editor_at bytes = do
  number ← short_at bytes
  behind ← after (codes " ") number.1
  home ← site_at behind
  rest ← after (codes "\n") home.1
  Some (EditorAt number.0 home.0, rest)

unfoldable pub call_at : List ℕ → Reading TraceLine
call_at bytes = do
  number ← long_at bytes
  behind ← after (codes " ") number.1
  entry ← long_at behind
  rest ← after (codes "\n") entry.1
  Some (CallIs number.0 entry.0, rest)

unfoldable pub look_at : List ℕ → Reading TraceLine
look_at bytes = do
  calls ← long_at bytes
  behind ← after (codes " ") calls.1
  upto ← long_at behind
  inner ← after (codes " \"") upto.1
  text ← text_at inner
  rest ← after (codes "\n") text.1
  Some (LookIs calls.0 upto.0 text.0, rest)

unfoldable pub ending_at : List ℕ → Reading TraceLine
ending_at bytes = do
  site ← site_at bytes
  inner ← after (codes " \"") site.1
  text ← text_at inner
  rest ← after (codes "\n") text.1
  Some (TextIs site.0 text.0, rest)

unfoldable pub line_at : List ℕ → Reading TraceLine
line_at bytes =
    choose (codes "sites ") bytes sites_at
    (choose (codes "site ") bytes history_at
    (choose (codes "editor ") bytes editor_at
    (choose (codes "call ") bytes call_at
    (choose (codes "look ") bytes look_at
    (choose (codes "text ") bytes ending_at
    (choose (codes "end\n") bytes (λ rest. Some (Ended, rest)) (entry_at bytes)))))))
