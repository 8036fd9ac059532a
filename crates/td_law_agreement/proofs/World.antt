-- The words of `Words` for the logs of a family.
use Rattle.std.specs.Prelude.{length}
use Rattle.td_base.specs.Value.{AtomIdValue}
use Rattle.td_path.specs.Infix.{Pairs}
use Rattle.td_op.specs.Op.{OpValue}
use Rattle.td_machine.specs.History.{Family, IsOpOf}
use Rattle.td_law_agreement.proofs.Words.{Words}
use Rattle.td_law_logs.specs.Logs.{IsLogOf, base}
use Rattle.td_law_logs.specs.Places.{at, is_edit, birth, Overlap}
use Rattle.td_law_logs.proofs.Words.{born, holds, focus, moved}
use Rattle.td_order.specs.Show.{deletes}

abbrev pub words : Family → Words OpValue AtomIdValue Pairs
words family =
    record {
      Is = IsOpOf family;
      IsLog = IsLogOf family;
      at = at;
      born = born;
      holds = holds family;
      base = base family;
      edits = λ o. is_edit o.body;
      kills = λ o x. deletes x o.body;
      focus = focus family;
      depth = λ (p : Pairs). length p;
      birth = birth family;
      after = moved family;
      Overlap = Overlap family;
    }
