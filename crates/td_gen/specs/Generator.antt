-- The generator of large scripts: three sites edit in turn by the words of Pcg32, settle every 30 edits, and flatten
-- every 300. Beside its commands it keeps how many atoms each text has at least.
use Rattle.std.specs.Prelude.{ℕ, zero, suc, ◌+◌, ◌-◌, ◌*◌, ◌/◌, ◌%◌, ◌==◌, ◌&&◌, nat_le, nat_lt, if◌then◌else◌}
use Rattle.std.specs.Prelude.{List, [], ◌∷◌, ◌++◌, map, replicate, sum, slice_index, slice_set}
use Rattle.std.specs.List.{range_with_len}
use Rattle.rand_pcg.specs.Lcg.{started, increment_of}
use Rattle.rand_pcg.specs.Pcg.{multiplier_64, pcg32}
use Rattle.td_base.specs.Run.{letters}
use Rattle.td_script.specs.declared.command.Command.TheVariants.{Sites, Ins, Del, Flat, Settle}
use Rattle.td_script.specs.declared.command.Place.TheVariants.{Root}
use Rattle.td_script.specs.declared.script.Script.{Script}
use Rattle.td_gen.specs.declared.edit.Edit.{Edit}
use Rattle.td_gen.specs.declared.least.Least.{Least}
use Rattle.td_gen.specs.declared.progress.Progress.{Progress}
use Rattle.td_gen.specs.declared.generator.TheConstants.{SITES}

-- the letter with a number, `a` being 0; after `z` comes `a`
abbrev pub letter : ℕ → ℕ
letter n = 0x61 + n % 26

-- so many letters from this one on, each an atom
abbrev pub letters_from : ℕ → ℕ → List (List ℕ)
letters_from first count = letters (map letter (range_with_len first count))

-- how many atoms the text of a site has at least
abbrev pub least_at : Least → ℕ → ℕ
least_at l site = slice_index l.sites (site - 1)

abbrev pub with_least : Least → ℕ → ℕ → Least
with_least l site least = record { shared = l.shared; sites = slice_set l.sites (site - 1) least }

-- the edit that the words a and b ask for at a site whose text has at least so many atoms: in two cases of eight a
-- delete, where there is an atom, in one an insert of eight letters, else of one
abbrev pub edit_at : ℕ → ℕ → ℕ → ℕ → Edit
edit_at site least a b =
    let letter = a / 8 % 26 in
    if nat_le 6 (a % 8) && nat_lt 0 least
    then record { command = Del site (b % least) 1; least = least - 1 } else
    if a % 8 == 5
    then record { command = Ins site (b % (least + 1)) (letters_from letter 8); least = least + 8 }
    else record { command = Ins site (b % (least + 1)) (letters_from letter 1); least = least + 1 }

-- once all sites have all edits: what they shared, with what each site's edits added, without what they took
abbrev pub joined : Least → Least
joined l =
    let shared = l.shared + sum l.sites - SITES * l.shared in
    record { shared = shared; sites = replicate SITES shared }

-- the words are those of the number, in stream 54
abbrev pub begun : ℕ → Progress
begun number =
    record {
      words = started 64 multiplier_64 number (increment_of 64 54);
      least = record { shared = 0; sites = replicate SITES 0 };
      commands = Sites SITES ∷ [];
    }

-- the site of the edit with a number from 1
abbrev pub site_of : ℕ → ℕ
site_of i = 1 + (i - 1) % SITES

-- an edit takes two words
abbrev pub edited : ℕ → Progress → Progress
edited i p =
    let first = pcg32 p.words in
    let second = pcg32 first.1 in
    let done = edit_at (site_of i) (least_at p.least (site_of i)) first.0 second.0 in
    record {
      words = second.1;
      least = with_least p.least (site_of i) done.least;
      commands = p.commands ++ done.command ∷ [];
    }

-- the sites settle where 30 divides the number of edits
abbrev pub settled : ℕ → Progress → Progress
settled i p =
    if i % 30 == 0 then record p { least = joined p.least; commands = p.commands ++ Settle ∷ [] } else p

-- one site proposes to flatten the whole text where 300 divides it, and they settle
abbrev pub flattened : ℕ → Progress → Progress
flattened i p =
    if i % 300 == 0
    then record p { commands = p.commands ++ Flat (1 + i / 300 % SITES) Root ∷ Settle ∷ [] }
    else p

-- the edit with a number, and what goes with it
abbrev pub turn : ℕ → Progress → Progress
turn i p = flattened i (settled i (edited i p))

-- the script after so many edits
abbrev pub after_edits : ℕ → ℕ → Progress
after_edits number zero = begun number
after_edits number (suc i) = turn (suc i) (after_edits number i)

-- the whole script of a size and a number
abbrev pub generated : ℕ → ℕ → Script
generated size number =
    record { sites = SITES; commands = (after_edits number size).commands ++ Settle ∷ [] }
