use Rattle.std.proofs.Common.{rules, ◌≡◌, ◌≢◌, ◌≤◌, ◌+◌, ℕ, List, [], ◌∷◌, ◌++◌, length, true, false}
use Rattle.std.proofs.Common.{sym, ◌∙◌, ap, subst, arith, length-append}
use Rattle.td_disk.specs.Calls.{Grows}
use Rattle.td_disk.specs.Gated.{disk_of, end_of, front_of, piece_of, IsSettled}
use Rattle.td_disk.specs.declared.disk.TheConstants.{MAX_DISK_LEN}
use Rattle.td_journal.specs.Check.{bytes_of}
use Rattle.td_journal.specs.Journal.{inputs_of}
use Rattle.td_journal.specs.Kept.{acknowledged_of, staged_of}
use Rattle.td_journal.proofs.Growing.{inputs_split}
use Rattle.td_journal.proofs.Pieces.{piece_is}
use Rattle.td_journal.proofs.Keeping.{at_rest, either_journal, staged_piece, all_counted}
use Rattle.td_journal.proofs.Keeping.{leaves_all, kept_all, counted_all, none_left, ok_part, err_part}
use Rattle.td_journal.proofs.kept.Kept.commit.Goals as goal

-- nothing is staged

pub returns-then-len-eq0-clause-acknowledged : goal.returns-then-len-eq0-clause-acknowledged
returns-then-len-eq0-clause-acknowledged g c =
    let s = c.args.self.now in
    all_counted g.K.Disk s.check.format s.replica s.acknowledged s.journal (bytes_of s.check) s.staged
    (s.kept c.if-self.false) s.counted.within (search rules)

pub returns-then-len-eq0-clause-any_moment : goal.returns-then-len-eq0-clause-any_moment
returns-then-len-eq0-clause-any_moment g c = λ is_open.
    let s = c.args.self.now in
    at_rest g.K.Disk s.check.format s.replica.machine.site s.replica.machine.size
    (acknowledged_of s.acknowledged s.replica) (staged_of s.acknowledged s.replica)
    (inputs_of s.replica.entries) s.journal (bytes_of s.check) s.staged (s.kept is_open)
    (λ f left. g.met.K.Disk.only_now (disk_of s.journal) f left)

pub returns-then-len-eq0-clause-leaves : goal.returns-then-len-eq0-clause-leaves
returns-then-len-eq0-clause-leaves g c =
    let s = c.args.self.now in
    let k = s.kept c.if-self.false in
    leaves_all g.K.Disk s.check.format s.replica s.acknowledged s.journal (bytes_of s.check) s.staged k
    (all_counted g.K.Disk s.check.format s.replica s.acknowledged s.journal (bytes_of s.check) s.staged k
    s.counted.within (search rules))

pub returns-then-len-eq0-clause-staged : goal.returns-then-len-eq0-clause-staged
returns-then-len-eq0-clause-staged g c = none_left c.args.self.now.staged (search rules)

pub returns-then-len-eq0-clause-done : goal.returns-then-len-eq0-clause-done
returns-then-len-eq0-clause-done g c = λ some. absurd (some (none_left c.args.self.now.staged (search rules)))

-- something is

pub returns-clause-nothing : goal.returns-clause-nothing
returns-clause-nothing g c = λ none.
    let some : length c.args.self.now.staged ≢ 0 = search rules in
    absurd (some (ap length none))

pub returns-clause-done : goal.returns-clause-done
returns-clause-done g c = λ some.
    let j = c.args.self.now.journal in
    subst (λ (l : List ℕ). Grows g.K.Disk (disk_of j) (end_of j) l true (disk_of c.grow.new.self)) c.bytes.ensures
    (ok_part c.grow.result
    (Grows g.K.Disk (disk_of j) (end_of j) c.bytes.result.now true (disk_of c.grow.new.self))
    (sym c.is_err.ensures.value ∙ c.if-is_err.false) c.grow.ensures.done)

pub returns-then-is_err-clause-not_done : goal.returns-then-is_err-clause-not_done
returns-then-is_err-clause-not_done g c = λ failed.
    let j = c.args.self.now.journal in
    subst (λ (l : List ℕ). Grows g.K.Disk (disk_of j) (end_of j) l false (disk_of c.grow.new.self)) c.bytes.ensures
    (err_part c.grow.result
    (Grows g.K.Disk (disk_of j) (end_of j) c.bytes.result.now false (disk_of c.grow.new.self))
    (sym c.is_err.ensures.value ∙ c.if-is_err.true) c.grow.ensures.not_done)

pub grow-requires-clause-piece : goal.grow-requires-clause-piece
grow-requires-clause-piece g c =
    let s = c.args.self.now in
    staged_piece g.K.Disk s.check.format s.replica.machine.site s.replica.machine.size
    (acknowledged_of s.acknowledged s.replica) (staged_of s.acknowledged s.replica)
    s.journal (bytes_of s.check) s.staged c.bytes.result.now (s.kept c.if-self.false) (search rules) c.bytes.ensures

pub returns-then-is_err-clause-any_moment : goal.returns-then-is_err-clause-any_moment
returns-then-is_err-clause-any_moment g c = λ is_open.
    let s = c.args.self.now in
    either_journal g.K.Disk s.check.format s.replica.machine.site s.replica.machine.size
    (acknowledged_of s.acknowledged s.replica) (staged_of s.acknowledged s.replica)
    (inputs_of s.replica.entries) s.journal c.grow.new.self (bytes_of s.check) s.staged c.bytes.result.now
    (s.kept is_open) (inputs_split s.acknowledged s.replica.entries)
    c.bytes.ensures c.grow.ensures.any_moment

pub returns-clause-any_moment : goal.returns-clause-any_moment
returns-clause-any_moment g c = λ is_open.
    let s = c.args.self.now in
    either_journal g.K.Disk s.check.format s.replica.machine.site s.replica.machine.size
    (acknowledged_of s.acknowledged s.replica) (staged_of s.acknowledged s.replica)
    (inputs_of s.replica.entries) s.journal c.grow.new.self (bytes_of s.check) s.staged c.bytes.result.now
    (s.kept is_open) (inputs_split s.acknowledged s.replica.entries)
    c.bytes.ensures c.grow.ensures.any_moment

pub returns-clause-leaves : goal.returns-clause-leaves
returns-clause-leaves g c =
    let s = c.args.self.now in
    let k = s.kept c.if-self.false in
    let grew = sym c.is_err.ensures.value ∙ c.if-is_err.false in
    let bytes_are : c.bytes.result.now ≡ c.args.self.now.staged ++ 0 ∷ [] = c.bytes.ensures in
    let end_is : end_of c.grow.new.self + 1 ≡ end_of c.args.self.now.journal + length c.bytes.result.now =
    ok_part c.grow.result (end_of c.grow.new.self + 1 ≡ end_of c.args.self.now.journal + length c.bytes.result.now)
    grew c.grow.ensures.end in
    let front : front_of g.K.Disk c.grow.new.self ≡ front_of g.K.Disk c.args.self.now.journal
    ++ c.args.self.now.staged =
    ok_part c.grow.result (front_of g.K.Disk c.grow.new.self ≡ front_of g.K.Disk c.args.self.now.journal
    ++ piece_of c.bytes.result.now) grew c.grow.ensures.grown
    ∙ ap (λ (l : List ℕ). front_of g.K.Disk c.args.self.now.journal ++ l)
    (piece_is c.args.self.now.staged c.bytes.result.now bytes_are) in
    let room : end_of c.grow.new.self + 1 ≤ MAX_DISK_LEN =
    omega (arith, end_is, k.room, ap length bytes_are, length-append c.args.self.now.staged (0 ∷ [])) in
    leaves_all g.K.Disk s.check.format s.replica c.entries-self.result c.grow.new.self (bytes_of s.check)
    c.truncate.new.self
    (kept_all g.K.Disk s.check.format s.replica s.acknowledged c.entries-self.result s.journal c.grow.new.self
    (bytes_of s.check) s.staged c.truncate.new.self
    k c.entries-self.ensures.entries c.truncate.ensures
    (ok_part c.grow.result (IsSettled g.K.Disk c.grow.new.self) grew c.grow.ensures.settled) room front)
    c.entries-self.ensures.entries

pub invariant_of-self-2 : goal.invariant_of-self-2
invariant_of-self-2 g c =
    let s = c.args.self.now in
    let k = s.kept c.if-self.false in
    let grew = sym c.is_err.ensures.value ∙ c.if-is_err.false in
    let bytes_are : c.bytes.result.now ≡ c.args.self.now.staged ++ 0 ∷ [] = c.bytes.ensures in
    let end_is : end_of c.grow.new.self + 1 ≡ end_of c.args.self.now.journal + length c.bytes.result.now =
    ok_part c.grow.result (end_of c.grow.new.self + 1 ≡ end_of c.args.self.now.journal + length c.bytes.result.now)
    grew c.grow.ensures.end in
    let front : front_of g.K.Disk c.grow.new.self ≡ front_of g.K.Disk c.args.self.now.journal
    ++ c.args.self.now.staged =
    ok_part c.grow.result (front_of g.K.Disk c.grow.new.self ≡ front_of g.K.Disk c.args.self.now.journal
    ++ piece_of c.bytes.result.now) grew c.grow.ensures.grown
    ∙ ap (λ (l : List ℕ). front_of g.K.Disk c.args.self.now.journal ++ l)
    (piece_is c.args.self.now.staged c.bytes.result.now bytes_are) in
    let room : end_of c.grow.new.self + 1 ≤ MAX_DISK_LEN =
    omega (arith, end_is, k.room, ap length bytes_are, length-append c.args.self.now.staged (0 ∷ [])) in
    record {
      writable = s.writable;
      counted = counted_all s.replica c.entries-self.result c.sent-self.result c.entries-self.ensures.replica
          c.entries-self.ensures.entries c.sent-self.ensures;
      kept = λ is_open.
          kept_all g.K.Disk s.check.format s.replica s.acknowledged c.entries-self.result s.journal c.grow.new.self
          (bytes_of s.check) s.staged c.truncate.new.self
          k c.entries-self.ensures.entries c.truncate.ensures
          (ok_part c.grow.result (IsSettled g.K.Disk c.grow.new.self) grew c.grow.ensures.settled) room front;
    }
