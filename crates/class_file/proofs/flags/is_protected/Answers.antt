use Rattle.class_file.proofs.layout.Bits.{flag_bit}
use Rattle.class_file.proofs.flags.is_protected.Goals as goal

pub returns : goal.returns
returns c = flag_bit c.args.flags 2
