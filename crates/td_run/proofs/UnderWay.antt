-- A script that is being played: what was printed so far, of which a front was put and the rest is held.
use Rattle.std.proofs.Common.{◌≡◌, ◌<◌, ◌≤◌, ◌+◌, ◌++◌, ℕ, List, [], ◌∷◌, Option, length, drop, take}
use Rattle.std.proofs.Common.{get_or, refl, sym, ap, subst, ◌∙◌, inl, inr, arith}
use Rattle.std.specs.Prelude.{All}
use Rattle.std.specs.Io.KnownBytes.{Appends}
use Rattle.std.proofs.KnownBytes.{Appends-nil, Appends-trans}
use Rattle.std.proofs.Math.Seq.{take-append_seam}
use Rattle.std.proofs.lemmas.List.{append_assoc, drop_more, take-append-drop}
use Rattle.std.proofs.lemmas.List.Elements.{All-head, All-tail}
use Rattle.td_io.specs.Count.{Rose}
use Rattle.td_script.specs.Script.{AreCommands}
use Rattle.td_script.specs.declared.command.Command.{Command}
use Rattle.td_script.specs.declared.script.Script.{Script}
use Rattle.td_world.specs.World.{IsWorld, size}
use Rattle.td_run.specs.Answer.{PutsFront}
use Rattle.td_run.specs.Outputs.{IsOutputOf, PutsOut}
use Rattle.td_run.specs.Printing.{Printed, Prints, PrintsAll, behind, own_text, start_of, taken_text, with_text}
use Rattle.td_run.proofs.Onward.{GoOn, MayCome, all_grow, commands_come, comes_on, go_on}
use Rattle.td_run.proofs.Onward.{has_output, output_is, prints_behind}
use Rattle.td_run.proofs.Played.{Leads, leads_on, leads_to}
use Rattle.td_run.proofs.Sizes.{marks_stay, size_stays}
use Rattle.td_run.proofs.Unique.{same_step}

-- all that a script has printed, where a front of it was put
pub record IsUnderWay (n : ℕ) (all left : List Command) (before now : Option (List ℕ)) (held : Printed) : Type 0 where
  pub front : List ℕ
  pub put : Appends before now front
  pub own : Leads own_text (behind front held) left (start_of n) all
  pub taken : Leads taken_text (behind front held) left (start_of n) all
  pub same : size held.world ≡ n
  pub marks : length held.marks ≡ n
  pub world : AreCommands n all → IsWorld held.world
  pub come : AreCommands n all → All (MayCome n) left

pub begins : (n : ℕ) (all : List Command) (before : Option (List ℕ)) (held : Printed) → held ≡ start_of n
    → size (start_of n).world ≡ n → length (start_of n).marks ≡ n → (AreCommands n all → IsWorld (start_of n).world)
    → IsUnderWay n all all before before held
begins n all before held e same marks world =
    subst (IsUnderWay n all all before before) (sym e) (record {
      front = [];
      put = Appends-nil before;
      own = λ p h. h;
      taken = λ p h. h;
      same = same;
      marks = marks;
      world = world;
      come = commands_come n all;
    })

-- the world behind a command of a script is one
stays_world : (n : ℕ) (old new : Printed) (command : Command) → size old.world ≡ n → IsWorld old.world
    → MayCome n command → Prints own_text old command new → IsWorld new.world
stays_world n old new command same i may prints =
    let there = comes_on old command i (subst (λ (k : ℕ). MayCome k command) (sym same) may) in
    subst (λ (p : Printed). IsWorld p.world) (same_step own_text old command there.new new there.own prints) there.world

-- one command was done, and a front of what is held was put
pub one_more : (n : ℕ) (all : List Command) (before now after : Option (List ℕ)) (held next rest : Printed) (k : ℕ)
    (command : Command) → k < length all → command ≡ get_or all k command → Prints own_text held command next
    → Prints taken_text held command next → PutsOut now after next rest
    → IsUnderWay n all (drop k all) before now held → IsUnderWay n all (drop (k + 1) all) before after rest
one_more n all before now after held next rest k command less is own taken out u =
    record {
      front = u.front ++ out.0;
      put = Appends-trans before now after u.front out.0 u.put out.1;
      own = subst (λ (p : Printed). Leads own_text p (drop (k + 1) all) (start_of n) all) there
          (leads_on own_text (behind u.front held) (behind u.front next) (start_of n) all k command less is
          (prints_behind own_text u.front held command next own) u.own);
      taken = subst (λ (p : Printed). Leads taken_text p (drop (k + 1) all) (start_of n) all) there
          (leads_on taken_text (behind u.front held) (behind u.front next) (start_of n) all k command less is
          (prints_behind taken_text u.front held command next taken) u.taken);
      same = ap (λ (p : Printed). size p.world) (sym out.2) ∙ (size_stays own_text held command next own ∙ u.same);
      marks = ap (λ (p : Printed). length p.marks) (sym out.2) ∙ (marks_stay own_text held command next own ∙ u.marks);
      world = λ are. subst (λ (p : Printed). IsWorld p.world) out.2
          (stays_world n held next command u.same (u.world are)
          (All-head (MayCome n) command (drop (k + 1) all) (parts are)) own);
      come = λ are. All-tail (MayCome n) command (drop (k + 1) all) (parts are);
    }
  where
    there : behind u.front next ≡ behind (u.front ++ out.0) rest
    there =
        ap (behind u.front) out.2
        ∙ ap (λ (t : List ℕ). with_text t rest) (sym (append_assoc u.front out.0 rest.text))

    first : drop k all ≡ command ∷ drop (k + 1) all
    first = drop_more all k command less ∙ ap (λ (c : Command). c ∷ drop (k + 1) all) (sym is)

    parts : AreCommands n all → All (MayCome n) (command ∷ drop (k + 1) all)
    parts are = subst (All (MayCome n)) first (u.come are)

-- it came to its end or to a halt: a front of what it prints was put
pub halts : (script : Script) (left : List Command) (before now after : Option (List ℕ)) (held : Printed)
    → PutsFront now after held.text → IsUnderWay script.sites script.commands left before now held
    → AreCommands script.sites script.commands
    → (bytes : List ℕ) × IsOutputOf script bytes × PutsFront before after bytes
halts script left before now after held out u are = (
  all.new.text,
  output_is script all.new (u.own all.new all.own) (u.taken all.new all.taken) (λ some. all.world),
  (length (u.front ++ f), subst (Appends before after) fronts (Appends-trans before now after u.front f u.put out.1)),
)
  where
    n : ℕ
    n = script.sites

    p : Printed
    p = behind u.front held

    all : GoOn p left
    all = go_on p left (u.world are) (subst (λ (k : ℕ). All (MayCome k) left) (sym u.same) (u.come are))

    more : (rest : List ℕ) × (all.new.text ≡ p.text ++ rest)
    more = all_grow own_text p left all.new all.own

    f : List ℕ
    f = take out.0 held.text

    d : List ℕ
    d = drop out.0 held.text

    text : all.new.text ≡ (u.front ++ f) ++ (d ++ more.0)
    text =
        more.1 ∙ ap (λ (t : List ℕ). (u.front ++ t) ++ more.0) (sym (take-append-drop out.0 held.text))
        ∙ ap (λ (t : List ℕ). t ++ more.0) (sym (append_assoc u.front f d)) ∙ append_assoc (u.front ++ f) d more.0

    fronts : u.front ++ f ≡ take (length (u.front ++ f)) all.new.text
    fronts =
        sym (take-append_seam (u.front ++ f) (d ++ more.0))
        ∙ ap (λ (t : List ℕ). take (length (u.front ++ f)) t) (sym text)

-- all commands are done: with what is held, all that it prints is put
pub ends : (n : ℕ) (all left : List Command) (before now : Option (List ℕ)) (held : Printed) → left ≡ []
    → IsUnderWay n all left before now held → (end : Printed) × PrintsAll own_text (start_of n) all end
    × PrintsAll taken_text (start_of n) all end × (end.world ≡ held.world)
    × ((after : Option (List ℕ)) → Appends now after held.text → Appends before after end.text)
ends n all left before now held none u = (
  p,
  leads_to own_text p (start_of n) left all none u.own,
  leads_to taken_text p (start_of n) left all none u.taken,
  refl,
  λ after put. Appends-trans before now after u.front held.text u.put put,
)
  where
    p : Printed
    p = behind u.front held

-- nothing more was put
pub none_out : (now : Option (List ℕ)) (held : Printed) → PutsOut now now held held
none_out now held = ([], Appends-nil now, refl)

pub none_put : (now : Option (List ℕ)) (bytes : List ℕ) → PutsFront now now bytes
none_put now bytes = (0, Appends-nil now)

-- the count rose in all
pub rose_from : (old mid new : ℕ) → old ≤ mid → Rose mid new → Rose old new
rose_from old mid new more (inl less) = inl (omega (arith, more, less))
rose_from old mid new more (inr end) = inr end

-- nothing was put at all
pub none_halts : (script : Script) (now : Option (List ℕ)) → AreCommands script.sites script.commands
    → (bytes : List ℕ) × IsOutputOf script bytes × PutsFront now now bytes
none_halts script now are =
    let output = has_output script are in
    (output.0, output.1, none_put now output.0)
