use Rattle.std.proofs.Common.{◌≡◌, ℕ, List, ◌+◌, ◌-◌, ◌≤◌, ◌++◌, take, drop, subst, sym, ap, ◌∙◌, arith}
use Rattle.std.proofs.lemmas.Result.{err_from_is_err_and}
use Rattle.std.proofs.lemmas.List.Elements.{All-from_recursion}
use Rattle.td_wire.specs.Reading.{byte_at, lengths_at}
use Rattle.td_wire.proofs.Exact.{ok}
use Rattle.td_wire.proofs.Loops.{mapped, lengths_step, lengths_end, lengths_done, lengths_in, behind_byte}
use Rattle.td_wire.proofs.reader.Reader.lengths.Goals as goal

pub returns-in_err-room-clause-read : goal.returns-in_err-room-clause-read
returns-in_err-room-clause-read c =
    let p = err_from_is_err_and c.from_residual.result c.from_residual.ensures.1 in
    let items : List ℕ = c.args.self.now.rest.now in
    let i : ℕ = c.loop-i.i in
    rw (p.1, p.2) (lengths_end items c.args.count i c.loop-i.room c.in_err-room.field-0.0.left _ c.loop-i-test.true
    (ap (byte_at 1 (c.loop-i.room - (c.args.count - i - 1))) (sym c.loop-i.invariant.at) ∙ c.in_err-room.ensures)
    c.loop-i.invariant.read)

pub loop-i-preserved : goal.loop-i-preserved
loop-i-preserved c =
    let items : List ℕ = c.args.self.now.rest.now in
    let i : ℕ = c.loop-i.i in
    let most : ℕ = c.loop-i.room - (c.args.count - i - 1) in
    let read = ap (byte_at 1 most) (sym c.loop-i.invariant.at) ∙ c.in_ok-room.ensures in
    let behind = behind_byte items i 1 most c.in_ok-room.field-0 c.byte.new.self.rest.now read in
    let range = behind.2 in
    record {
      at = sym behind.0;
      within = omega (arith, behind.1);
      room = omega (arith, range.most, c.loop-i.invariant.room);
      read = subst (λ (ys : List ℕ). mapped (λ ls. take (i + 1) items ++ ls)
          (lengths_at (c.args.count - (i + 1)) (c.loop-i.room - c.in_ok-room.field-0) ys) ≡ lengths_at c.args.count 64
          items)
          (sym behind.0) (lengths_step items c.args.count i c.loop-i.room c.in_ok-room.field-0 c.byte.new.self.rest.now
          _ c.loop-i-test.true read c.loop-i.invariant.read);
    }

pub returns-clause-read : goal.returns-clause-read
returns-clause-read c =
    let items : List ℕ = c.args.self.now.rest.now in
    lengths_done items c.args.count c.loop-i.i c.loop-i.room _ c.loop-i-test.false (omega arith) c.loop-i.invariant.read
    ∙ ap (λ ys. ok (take c.args.count items, ys)) (sym c.loop-i.invariant.at)

pub returns-clause-each : goal.returns-clause-each
returns-clause-each c =
    let items : List ℕ = c.args.self.now.rest.now in
    let read = lengths_done items c.args.count c.loop-i.i c.loop-i.room _ c.loop-i-test.false
    (omega arith) c.loop-i.invariant.read in
    All-from_recursion (λ len. 1 ≤ len) (take c.args.count items)
    (lengths_in c.args.count items (take c.args.count items) (drop c.loop-i.i items) c.requires read).each

pub returns-clause-together : goal.returns-clause-together
returns-clause-together c =
    let items : List ℕ = c.args.self.now.rest.now in
    let read = lengths_done items c.args.count c.loop-i.i c.loop-i.room _ c.loop-i-test.false
    (omega arith) c.loop-i.invariant.read in
    (lengths_in c.args.count items (take c.args.count items) (drop c.loop-i.i items) c.requires read).together
