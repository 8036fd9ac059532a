use Rattle.std.proofs.Common.{refl}
use Rattle.std.specs.Option.{ForSome}
use Rattle.td_list.specs.Items.{IsItem}
use Rattle.td_list.specs.Index.{Parts}
use Rattle.td_list.proofs.Found.{item_behind}
use Rattle.td_list.proofs.Dropping.{end_follows, still_there, end_behind, dropped_all}
use Rattle.td_list.proofs.Dropping.{next_there, one_dropped, fewer_left}
use Rattle.td_list.proofs.index.Index.drop_between.Goals as goal

pub loop-next-init : goal.loop-next-init
loop-next-init g c =
    let p : Parts = c.args.self.now in
    let e = end_follows c.args.chunk c.args.end p c.requires.chunk c.requires.end c.requires.index.apart in
    record { index = c.requires.index; mid = e.0; order = e.1; kept = λ d m. refl; homes = refl }

pub after-requires : goal.after-requires
after-requires g c =
    let p : Parts = c.args.self.now in
    record {
      chunk = still_there c.args.chunk c.args.end p c.requires.chunk
          (λ e n. item_behind p c.requires.index c.args.chunk c.requires.chunk e (c.requires.end e n)) c.loop-next.self
          c.loop-next.invariant;
    }

pub drop_chunk-requires-clause-chunk : goal.drop_chunk-requires-clause-chunk
drop_chunk-requires-clause-chunk g c =
    let p : Parts = c.args.self.now in
    let s = c.in-Some.ensures.some in
    next_there c.args.chunk c.args.end p c.requires.chunk
    (λ e n. item_behind p c.requires.index c.args.chunk c.requires.chunk e (c.requires.end e n)) c.loop-next.self
    c.loop-next.invariant c.in-Some.next s.0 s.1

pub loop-next-smaller : goal.loop-next-smaller
loop-next-smaller g c =
    let p : Parts = c.args.self.now in
    let s = c.in-Some.ensures.some in
    fewer_left c.args.chunk c.args.end p c.requires.chunk
    (λ e n. item_behind p c.requires.index c.args.chunk c.requires.chunk e (c.requires.end e n)) c.loop-next.self
    c.loop-next.invariant c.in-Some.next s.0 s.1
    c.drop_chunk.new.self c.drop_chunk.ensures.order

pub loop-next-preserved : goal.loop-next-preserved
loop-next-preserved g c =
    let p : Parts = c.args.self.now in
    let s = c.in-Some.ensures.some in
    one_dropped c.args.chunk c.args.end p c.requires.chunk
    (λ e n. item_behind p c.requires.index c.args.chunk c.requires.chunk e (c.requires.end e n)) c.loop-next.self
    c.loop-next.invariant c.in-Some.next s.0 s.1
    c.drop_chunk.new.self c.drop_chunk.ensures.index c.drop_chunk.ensures.order c.drop_chunk.ensures.chunks
    c.drop_chunk.ensures.homes

pub returns-clause-order : goal.returns-clause-order
returns-clause-order g c =
    let p : Parts = c.args.self.now in
    let ends : ForSome c.args.end (λ e. IsItem e p.order) =
    λ e n. item_behind p c.requires.index c.args.chunk c.requires.chunk e (c.requires.end e n) in
    dropped_all c.args.chunk c.args.end p c.requires.chunk ends c.loop-next.self c.loop-next.invariant
    (c.in_default.ensures.none (end_behind c.args.chunk c.args.end p c.requires.chunk ends c.loop-next.self
    c.loop-next.invariant))
