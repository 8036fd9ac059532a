use Rattle.std.proofs.Common.{◌+◌, ◌-◌, ◌∙◌, ℕ, List, length, refl, sym, subst, arith}
use Rattle.td_reader.specs.Said.{said_by}
use Rattle.td_reader.proofs.Faults.{bad_line_follows, faulty_rest, line_shorter, missing_rest, no_line_follows}
use Rattle.td_reader.proofs.Faults.{starts_are_few}
use Rattle.td_reader.proofs.Kept.{HasParted, all_read, kept, parted_more, parted_none}
use Rattle.td_reader.proofs.trace.read_trace.Goals as goal

pub overflow_cast-number : goal.overflow_cast-number
overflow_cast-number c = omega (
  arith,
  starts_are_few c.args.bytes.now c.loop-rest.rest.now c.loop-rest.starts.items
      c.loop-rest.reached c.loop-rest.invariant.read,
  c.requires,
)

pub overflow_add-number : goal.overflow_add-number
overflow_add-number c = omega (
  arith,
  starts_are_few c.args.bytes.now c.loop-rest.rest.now c.loop-rest.starts.items
      c.loop-rest.reached c.loop-rest.invariant.read,
  c.requires,
)

pub returns-in_default-clause-fault : goal.returns-in_default-clause-fault
returns-in_default-clause-fault c =
    faulty_rest c.args.bytes.now c.loop-rest.rest.now c.loop-rest.starts.items c.loop-rest.reached
    (c.len.result + 1) c.loop-rest.invariant.read (sym c.is_empty.ensures ∙ c.loop-rest-test.true)
    (no_line_follows c.loop-rest.reached c.loop-rest.rest.now c.in_default.ensures) (omega arith)

pub returns-in_default-by-clause-fault : goal.returns-in_default-by-clause-fault
returns-in_default-by-clause-fault c =
    faulty_rest c.args.bytes.now c.loop-rest.rest.now c.loop-rest.starts.items c.loop-rest.reached
    (c.len.result + 1) c.loop-rest.invariant.read (sym c.is_empty.ensures ∙ c.loop-rest-test.true)
    (bad_line_follows c.loop-rest.reached c.loop-rest.rest.now c.in-Some.behind.now
    (said_by c.in-Some.read) c.in-Some.ensures (sym c.in_default-by.ensures)) (omega arith)

pub loop-rest-smaller : goal.loop-rest-smaller
loop-rest-smaller c = line_shorter c.loop-rest.rest.now c.in-Some.behind.now
    (said_by c.in-Some.read) c.in-Some.ensures

pub loop-rest-preserved : goal.loop-rest-preserved
loop-rest-preserved c =
    subst
    (λ (starts : List ℕ). HasParted c.args.bytes.now c.in-Some.behind.now starts c.note.new.self c.in-Some-by.next)
    (sym c.in-Ok-push.ensures.items)
    (parted_more c.args.bytes.now c.loop-rest.rest.now c.loop-rest.starts.items c.loop-rest.parts c.in-Some.behind.now
    c.note.new.self c.loop-rest.reached c.in-Some-by.next (said_by c.in-Some.read)
    (length c.args.bytes.now - length c.loop-rest.rest.now) (c.len.result + 1 - 1) c.loop-rest.invariant
    c.in-Some.ensures (sym c.in-Some-by.ensures) refl (omega arith) c.in-Ok.ensures)

pub overflow_cast-number-then-not-is_ended : goal.overflow_cast-number-then-not-is_ended
overflow_cast-number-then-not-is_ended c = omega (
  arith,
  starts_are_few c.args.bytes.now c.loop-rest.rest.now
      c.loop-rest.starts.items c.loop-rest.reached c.loop-rest.invariant.read,
  c.requires,
)

pub overflow_add-number-then-not-is_ended : goal.overflow_add-number-then-not-is_ended
overflow_add-number-then-not-is_ended c = omega (
  arith,
  starts_are_few c.args.bytes.now c.loop-rest.rest.now
      c.loop-rest.starts.items c.loop-rest.reached c.loop-rest.invariant.read,
  c.requires,
)

pub returns-then-not-is_ended-clause-fault : goal.returns-then-not-is_ended-clause-fault
returns-then-not-is_ended-clause-fault c =
    missing_rest c.args.bytes.now c.loop-rest.rest.now c.loop-rest.starts.items c.loop-rest.reached
    (c.len-then-not-is_ended.result + 1) c.loop-rest.invariant.read
    (sym c.is_empty.ensures ∙ c.loop-rest-test.false) (sym c.is_ended.ensures ∙ c.if-not-is_ended.true) (omega arith)

pub loop-rest-init : goal.loop-rest-init
loop-rest-init c =
    parted_none c.args.bytes.now c.new-starts.result.items c.new-parts.result c.nothing-reached.result
    c.new-starts.ensures.items c.new-parts.ensures c.nothing-reached.ensures

pub overflow_sub-texts : goal.overflow_sub-texts
overflow_sub-texts c =
    let all = all_read c.args.bytes.now c.loop-rest.rest.now c.loop-rest.starts.items c.loop-rest.parts
    c.loop-rest.reached c.sites-sites.result c.loop-rest.invariant
    (sym c.is_empty.ensures ∙ c.loop-rest-test.false) (sym c.is_ended.ensures ∙ c.if-not-is_ended.false)
    c.sites-sites.ensures in
    omega (arith, all.less, c.from.ensures, c.len-2.ensures)

pub overflow_sub-texts-2 : goal.overflow_sub-texts-2
overflow_sub-texts-2 c =
    let all = all_read c.args.bytes.now c.loop-rest.rest.now c.loop-rest.starts.items c.loop-rest.parts
    c.loop-rest.reached c.sites-sites.result c.loop-rest.invariant
    (sym c.is_empty.ensures ∙ c.loop-rest-test.false) (sym c.is_ended.ensures ∙ c.if-not-is_ended.false)
    c.sites-sites.ensures in
    omega (arith, all.less, c.from.ensures, c.len-2.ensures)

pub overflow_cast-texts : goal.overflow_cast-texts
overflow_cast-texts c =
    let few = starts_are_few c.args.bytes.now c.loop-rest.rest.now c.loop-rest.starts.items c.loop-rest.reached
    c.loop-rest.invariant.read in
    omega (arith, few, c.len-2.ensures, c.requires)

pub of-requires : goal.of-requires
of-requires c =
    let all = all_read c.args.bytes.now c.loop-rest.rest.now c.loop-rest.starts.items c.loop-rest.parts
    c.loop-rest.reached c.sites-sites.result c.loop-rest.invariant
    (sym c.is_empty.ensures ∙ c.loop-rest-test.false) (sym c.is_ended.ensures ∙ c.if-not-is_ended.false)
    c.sites-sites.ensures in
    let few = starts_are_few c.args.bytes.now c.loop-rest.rest.now c.loop-rest.starts.items c.loop-rest.reached
    c.loop-rest.invariant.read in
    kept c.args.bytes.now c.loop-rest.starts.items c.loop-rest.parts c.push-2.new.self c.sites-sites.result
    (c.len-2.result - c.from.result - 1) all (omega (arith, few, c.requires))
    (omega (arith, c.len-2.ensures, c.from.ensures)) c.in-Ok-push-2.ensures
