use Rattle.std.proofs.lemmas.Result.{on_ok_weaker}
use Rattle.class_make.proofs.Pieces.{code_appended}
use Rattle.class_make.proofs.write.append_code.Goals as goal

pub returns : goal.returns
returns c =
    on_ok_weaker c.append_code_info.result
    (code_appended c.args.out.now.items c.append_u2.new.out.items c.append_u4.new.out.items c.append_code_info.new.out.items c.args.name c.code_size.result c.args.code.now c.in-Some.code c.in-Some.is c.in_ok-append_u2.ensures c.code_size.ensures c.in_ok-append_u4.ensures)
    c.append_code_info.ensures
