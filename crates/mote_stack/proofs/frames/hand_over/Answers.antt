use Rattle.std.proofs.Common.{◌+◌, ◌-◌, sym, ◌∙◌, arith}
use Rattle.std.proofs.lemmas.List.{get_or_read}
use Rattle.mote_stack.proofs.Copies.{handed_over}
use Rattle.mote_stack.proofs.frames.hand_over.Goals as goal

pub returns-clause-handed : goal.returns-clause-handed
returns-clause-handed c =
    let old = c.args.cells.now.items in
    let refs = get_or_read old (c.args.caller + 2) c.index.result.now (omega arith) c.index.ensures 0 in
    let nums = get_or_read old (c.args.caller + 3) c.index-2.result.now (omega arith) c.index-2.ensures 0 in
    let first = c.args.caller_base + c.from.result in
    let last = c.args.caller - c.from-2.result in
    handed_over old c.copy_within.new.self.items c.copy_within-2.new.self.items c.args.caller c.args.caller_base c.args.base c.args.header c.args.ref_args c.args.cell_args
    (c.index.result.now - c.args.ref_args) (c.index-2.result.now - c.args.cell_args) first (first + c.from-4.result - first) (last - c.from-3.result) (c.args.header - c.from-5.result) (last - (last - c.from-3.result))
    (omega arith) (omega arith) (omega arith) (sym c.copy_within-2.new.self.ok.0 ∙ (c.copy_within-2.ensures.len ∙ (c.copy_within.ensures.len ∙ c.args.cells.now.ok.0)))
    (omega arith) (omega arith) (omega arith) (omega arith) (omega arith) (omega arith) (omega arith) (omega arith) (omega arith) (omega arith)
    c.copy_within.ensures.by_index c.copy_within-2.ensures.by_index
