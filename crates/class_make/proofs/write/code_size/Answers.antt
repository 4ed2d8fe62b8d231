use Rattle.std.proofs.Common.{arith}
use Rattle.class_make.proofs.Pieces.{code_info_length}
use Rattle.class_make.proofs.write.code_size.Goals as goal

pub returns : goal.returns
returns c = omega (arith, code_info_length c.args.code.now, c.len.ensures, c.len-2.ensures)
