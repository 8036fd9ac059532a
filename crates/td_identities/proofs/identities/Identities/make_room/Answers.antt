use Rattle.std.proofs.Common.{refl}
use Rattle.td_identities.specs.Identities.{number_of}
use Rattle.td_identities.proofs.Strays.{same_numbers}
use Rattle.td_identities.proofs.identities.Identities.make_room.Goals as goal

pub returns-in_err-reach_insert-clause-same : goal.returns-in_err-reach_insert-clause-same
unfolding number_of
returns-in_err-reach_insert-clause-same c = same_numbers c.args.self.now.sites.items c.reach_insert.new.sites.items
    c.reach_insert.ensures.same c.args.self.now.strays.items c.args.self.now.strays.items refl

pub returns-in_err-reserve-clause-same : goal.returns-in_err-reserve-clause-same
unfolding number_of
returns-in_err-reserve-clause-same c = same_numbers c.args.self.now.sites.items c.reach_insert.new.sites.items
    c.reach_insert.ensures.same c.args.self.now.strays.items c.reserve.new.self.items c.reserve.ensures.items

pub returns-clause-same : goal.returns-clause-same
unfolding number_of
returns-clause-same c = same_numbers c.args.self.now.sites.items c.reach_insert.new.sites.items
    c.reach_insert.ensures.same c.args.self.now.strays.items c.reserve.new.self.items c.reserve.ensures.items
