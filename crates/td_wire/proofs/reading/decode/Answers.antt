use Rattle.std.proofs.Common.{Ok, length, sym, ap, arith}
use Rattle.std.proofs.lemmas.Bool.{eqb-true, eqb-false}
use Rattle.td_wire.proofs.Decoding.{spelled, only_read, rejected_fault, rejected_rest}
use Rattle.td_wire.proofs.Decoding.{left_within, fault_short, rejected_at}
use Rattle.td_wire.proofs.reading.decode.Goals as goal
use Rattle.td_wire.proofs.reading.decode.Goals.{in-Ok-2, in-Err}

pub returns-in-Ok-clause-found : goal.returns-in-Ok-clause-found
returns-in-Ok-clause-found c = spelled c.args.bytes.now c.in-Ok.message c.message.new.self.rest.now c.in-Ok.ensures
    (eqb-true _ _ (sym c.if-is_empty.ensures))

pub returns-in-Ok-clause-only : goal.returns-in-Ok-clause-only
returns-in-Ok-clause-only c = λ m s. ap Ok (only_read c.args.bytes.now c.in-Ok.message m c.message.new.self.rest.now
    c.in-Ok.ensures s).0

pub overflow_sub-result : goal.overflow_sub-result
overflow_sub-result c = elim c.match-message.branch [
  | in-Ok-2 w ↦ rw w.left-is (left_within c.args.bytes.now (length c.message.new.self.rest.now)
      (rejected_rest c.args.bytes.now w.in-Ok-2.field-0 c.message.new.self.rest.now w.in-Ok-2.ensures
      (eqb-false _ _ (sym w.if-is_empty.ensures))))
  | in-Err w ↦ rw w.left-is (left_within c.args.bytes.now w.in-Err.fault.left
      (rejected_fault c.args.bytes.now w.in-Err.fault.left w.in-Err.ensures))
]

pub overflow_cast-result : goal.overflow_cast-result
overflow_cast-result c = elim c.match-message.branch [
  | in-Ok-2 w ↦ let short = fault_short c.args.bytes.now (length c.message.new.self.rest.now)
      (rejected_rest c.args.bytes.now w.in-Ok-2.field-0 c.message.new.self.rest.now w.in-Ok-2.ensures
      (eqb-false _ _ (sym w.if-is_empty.ensures))) in rw w.left-is (omega (arith, short))
  | in-Err w ↦ let short = fault_short c.args.bytes.now w.in-Err.fault.left
      (rejected_fault c.args.bytes.now w.in-Err.fault.left w.in-Err.ensures) in rw w.left-is (omega (arith, short))
]

pub returns-clause-only : goal.returns-clause-only
returns-clause-only c = elim c.match-message.branch [
  | in-Ok-2 w ↦ λ m s. absurd ((rejected_rest c.args.bytes.now w.in-Ok-2.field-0 c.message.new.self.rest.now
      w.in-Ok-2.ensures (eqb-false _ _ (sym w.if-is_empty.ensures))).none m s)
  | in-Err w ↦ λ m s. absurd ((rejected_fault c.args.bytes.now w.in-Err.fault.left w.in-Err.ensures).none m s)
]

pub returns-clause-malformed : goal.returns-clause-malformed
returns-clause-malformed c = elim c.match-message.branch [
  | in-Ok-2 w ↦ (rejected_rest c.args.bytes.now w.in-Ok-2.field-0 c.message.new.self.rest.now w.in-Ok-2.ensures
      (eqb-false _ _ (sym w.if-is_empty.ensures))).none
  | in-Err w ↦ (rejected_fault c.args.bytes.now w.in-Err.fault.left w.in-Err.ensures).none
]

pub returns-clause-at : goal.returns-clause-at
returns-clause-at c = elim c.match-message.branch [
  | in-Ok-2 w ↦ rw w.left-is (rejected_at c.args.bytes.now (length c.message.new.self.rest.now)
      (rejected_rest c.args.bytes.now w.in-Ok-2.field-0 c.message.new.self.rest.now w.in-Ok-2.ensures
      (eqb-false _ _ (sym w.if-is_empty.ensures))))
  | in-Err w ↦ rw w.left-is (rejected_at c.args.bytes.now w.in-Err.fault.left
      (rejected_fault c.args.bytes.now w.in-Err.fault.left w.in-Err.ensures))
]
