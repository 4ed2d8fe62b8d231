use Rattle.class_code.proofs.Laws.{reads-rise}
use Rattle.class_code.proofs.code_list.decoded.Goals as goal

pub invariant_of-list : goal.invariant_of-list
invariant_of-list c = reads-rise c.args.code.now c.in_ok-insns.insns.items c.in_ok-insns.ensures

pub invariant_of-list-in-None : goal.invariant_of-list-in-None
invariant_of-list-in-None c = reads-rise c.args.code.now c.in_ok-insns.insns.items c.in_ok-insns.ensures
