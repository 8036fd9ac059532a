-- The commands of a generated script, and how many there are.
use Rattle.std.proofs.Common.{◌≡◌, ◌<◌, ◌≤◌, ◌+◌, ◌-◌, ◌*◌, ◌/◌, ◌%◌, ◌==◌, ◌&&◌, ◌++◌, ℕ, zero, suc, List, [], ◌∷◌}
use Rattle.std.proofs.Common.{Bool, true, false, length, length-append, if◌then◌else◌, nat_le, nat_lt, arith}
use Rattle.std.specs.Prelude.{All}
use Rattle.std.proofs.lemmas.List.Elements.{All-append, All-cons, All-nil}
use Rattle.rand_pcg.specs.Pcg.{pcg32}
use Rattle.td_script.specs.declared.command.Command.{Command}
use Rattle.td_script.specs.declared.command.Command.TheVariants.{Sites, Ins, Del, Flat, Settle}
use Rattle.td_script.specs.declared.command.Place.TheVariants.{Root}
use Rattle.td_gen.specs.Commands.{IsGenerated}
use Rattle.td_gen.specs.Generator.{after_edits, edit_at, edited, flattened, generated, joined}
use Rattle.td_gen.specs.Generator.{least_at, letters_from, settled, site_of, turn}
use Rattle.td_gen.specs.declared.edit.Edit.{Edit}
use Rattle.td_gen.specs.declared.progress.Progress.{Progress}

-- ---- what they are

site_is_low : (i : ℕ) → site_of i ≤ 3
site_is_low i = let rest : (i - 1) % 3 < 3 = omega arith in omega (arith, rest)

abbrev edit_command : Edit → Command
edit_command e = e.command

edit_is : (site least a b : ℕ) → site ≤ 3 → IsGenerated (edit_at site least a b).command
edit_is site least a b low = at (nat_le 6 (a % 8) && nat_lt 0 least) (a % 8 == 5)
  where
    at : (c d : Bool)
        → IsGenerated (edit_command (if c then record { command = Del site (b % least) 1; least = least - 1 } else
        if d then record { command = Ins site (b % (least + 1)) (letters_from (a / 8 % 26) 8); least = least + 8 } else
        record { command = Ins site (b % (least + 1)) (letters_from (a / 8 % 26) 1); least = least + 1 }))
    at true d = low
    at false true = low
    at false false = low

with_one : (commands : List Command) (command : Command) → All IsGenerated commands → IsGenerated command
    → All IsGenerated (commands ++ command ∷ [])
with_one commands command all is =
    All-append IsGenerated commands (command ∷ []) all (All-cons IsGenerated command [] is (All-nil IsGenerated))

edited_are : (i : ℕ) (p : Progress) → All IsGenerated p.commands → All IsGenerated (edited i p).commands
edited_are i p all =
    let first = pcg32 p.words in
    let second = pcg32 first.1 in
    with_one p.commands (edit_at (site_of i) (least_at p.least (site_of i)) first.0 second.0).command all
    (edit_is (site_of i) (least_at p.least (site_of i)) first.0 second.0 (site_is_low i))

settled_are : (i : ℕ) (p : Progress) → All IsGenerated p.commands → All IsGenerated (settled i p).commands
settled_are i p all = at (i % 30 == 0)
  where
    at : (b : Bool)
        → All IsGenerated
        (if b then record p { least = joined p.least; commands = p.commands ++ Settle ∷ [] } else p).commands
    at true = with_one p.commands Settle all tt
    at false = all

flattened_are : (i : ℕ) (p : Progress) → All IsGenerated p.commands → All IsGenerated (flattened i p).commands
flattened_are i p all = at (i % 300 == 0)
  where
    low : 1 + i / 300 % 3 ≤ 3
    low = let rest : i / 300 % 3 < 3 = omega arith in omega (arith, rest)

    at : (b : Bool)
        → All IsGenerated
        (if b then record p { commands = p.commands ++ Flat (1 + i / 300 % 3) Root ∷ Settle ∷ [] } else p).commands
    at true =
        All-append IsGenerated p.commands (Flat (1 + i / 300 % 3) Root ∷ Settle ∷ []) all
        (All-cons IsGenerated (Flat (1 + i / 300 % 3) Root) (Settle ∷ []) low
        (All-cons IsGenerated Settle [] tt (All-nil IsGenerated)))
    at false = all

all_are : (number size : ℕ) → All IsGenerated (after_edits number size).commands
all_are number zero = All-cons IsGenerated (Sites 3) [] tt (All-nil IsGenerated)
all_are number (suc i) =
    let p = after_edits number i in
    flattened_are (suc i) (settled (suc i) (edited (suc i) p))
    (settled_are (suc i) (edited (suc i) p) (edited_are (suc i) p (all_are number i)))

pub generated_are : (size number : ℕ) → All IsGenerated (generated size number).commands
generated_are size number = with_one (after_edits number size).commands Settle (all_are number size) tt

-- ---- there are few of them

edited_few : (i n : ℕ) (p : Progress) → length p.commands ≤ n → length (edited i p).commands ≤ n + 1
edited_few i n p few =
    let first = pcg32 p.words in
    let second = pcg32 first.1 in
    let command = (edit_at (site_of i) (least_at p.least (site_of i)) first.0 second.0).command in
    let more : length (p.commands ++ command ∷ []) ≡ length p.commands + 1 = length-append p.commands (command ∷ []) in
    omega (arith, more, few)

settled_few : (i n : ℕ) (p : Progress) → length p.commands ≤ n → length (settled i p).commands ≤ n + 1
settled_few i n p few = at (i % 30 == 0)
  where
    at : (b : Bool)
        → length (if b then record p { least = joined p.least; commands = p.commands ++ Settle ∷ [] } else
        p).commands ≤ n + 1
    at true = let more : length (p.commands ++ Settle ∷ [])
        ≡ length p.commands + 1 = length-append p.commands (Settle ∷ []) in
        omega (arith, more, few)
    at false = omega (arith, few)

flattened_few : (i n : ℕ) (p : Progress) → length p.commands ≤ n → length (flattened i p).commands ≤ n + 2
flattened_few i n p few = at (i % 300 == 0)
  where
    at : (b : Bool)
        → length (if b then record p { commands = p.commands ++ Flat (1 + i / 300 % 3) Root ∷ Settle ∷ [] } else
        p).commands
        ≤ n + 2
    at true =
        let more : length (p.commands ++ Flat (1 + i / 300 % 3) Root ∷ Settle ∷ []) ≡ length p.commands + 2 =
        length-append p.commands (Flat (1 + i / 300 % 3) Root ∷ Settle ∷ []) in
        omega (arith, more, few)
    at false = omega (arith, few)

few_after : (number size : ℕ) → length (after_edits number size).commands ≤ 4 * size + 1
few_after number zero = omega arith
few_after number (suc i) =
    let p = after_edits number i in
    let before : length p.commands ≤ 4 * i + 1 = few_after number i in
    let all : length (turn (suc i) p).commands ≤ 4 * i + 1 + 1 + 1 + 2 =
    flattened_few (suc i) (4 * i + 1 + 1 + 1) (settled (suc i) (edited (suc i) p))
    (settled_few (suc i) (4 * i + 1 + 1) (edited (suc i) p) (edited_few (suc i) (4 * i + 1) p before)) in
    omega (arith, all)

pub generated_few : (size number : ℕ) → length (generated size number).commands ≤ 4 * size + 2
generated_few size number =
    let few : length (after_edits number size).commands ≤ 4 * size + 1 = few_after number size in
    let more = length-append (after_edits number size).commands (Settle ∷ []) in
    omega (arith, more, few)
