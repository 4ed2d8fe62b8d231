use Rattle.std.proofs.lemmas.Result.{on_ok_weaker}
use Rattle.class_make.proofs.Pieces.{members_appended}
use Rattle.class_make.proofs.write.append_members.Goals as goal

pub returns : goal.returns
returns c =
    on_ok_weaker c.append_each.result
    (members_appended c.args.out.now.items c.append_u2.new.out.items c.append_each.new.out.items c.args.names.value c.args.names.code c.args.members.now c.in_ok-append_u2.ensures)
    c.append_each.ensures
