use Rattle.std.proofs.Common.{refl, arith}
use Rattle.channel.specs.declared.Stepped.{Stepped}
use Rattle.seat.specs.Counts.{counted}
use Rattle.seat.specs.CountLaws.{none_more, read_told, write_told, levels_told, heard_tallied, gone_tallied}
use Rattle.seat.proofs.Tallies.after.Goals as goal

pub returns-in-Read : goal.returns-in-Read
returns-in-Read c = gone_tallied c.args.self _ c.args.held c.args.e _ c.args.left _ c.requires c.in-Read.is (read_told _ _)
    c.saturating_sub.ensures c.read_more.ensures

pub returns-in-Write : goal.returns-in-Write
returns-in-Write c = gone_tallied c.args.self _ c.args.held c.args.e _ c.args.left _ c.requires c.in-Write.is (write_told _ _ _)
    c.saturating_sub-in-Write.ensures c.dropped_more.ensures

pub returns-in-Arrival : goal.returns-in-Arrival
unfolding counted
returns-in-Arrival c = heard_tallied c.args.self _ c.args.held c.args.e _ c.args.left _ c.requires c.in-Arrival.is
    c.received.ensures c.arrived_more.ensures

pub returns-in-Levels : goal.returns-in-Levels
returns-in-Levels c = let t = c.args.self in
    gone_tallied t _ c.args.held c.args.e _ c.args.left _ c.requires c.in-Levels.is (levels_told _ _) refl
    (none_more t (omega arith) (omega arith) (omega arith) (omega arith))

pub returns-in-Time : goal.returns-in-Time
unfolding counted
returns-in-Time c = heard_tallied c.args.self _ c.args.held c.args.e _ c.args.left _ c.requires c.in-Time.is
    c.received-in-Time.ensures c.arrived_more-in-Time.ensures
