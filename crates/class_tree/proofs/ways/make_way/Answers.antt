use Rattle.std.proofs.Common.{length}
use Rattle.class_tree.proofs.lookups.WayTables.{put}
use Rattle.class_tree.proofs.ways.make_way.Goals as goal

pub returns : goal.returns
returns c =
    put c.args.own.now c.args.above.now c.args.ranks.now (length c.args.own.now) c.requires.falls c.args.ways.now.items c.put_way.new.ways.items c.args.rank c.args.class
    c.requires.below c.if-ranks-class.false c.in_ok-put_way.ensures.same_length c.in_ok-put_way.ensures.over c.in_ok-put_way.ensures.others
