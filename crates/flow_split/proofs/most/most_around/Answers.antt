-- The moves of an instruction that is no call have the greatest number of its expansion.
use Rattle.std.proofs.Common.{◌≡◌, false, max, sym, ap, ◌∙◌}
use Rattle.std.proofs.lemmas.Option.{IfSome_then}
use Rattle.jvm_model.specs.WidthsFrame.{call_signature}
use Rattle.jvm_model.specs.ImageExpansion.{expanded}
use Rattle.flow_split.specs.Around.{is_call}
use Rattle.flow_split.proofs.Moving.{enough, operands_from}
use Rattle.flow_split.proofs.most.most_around.Goals as goal

pub returns-then-not-is_call : goal.returns-then-not-is_call
returns-then-not-is_call c = IfSome_then c.most_cells.result c.most_cells.ensures (λ most is locals ids offset point around.
    let op = c.args.op.now in
    let height = c.args.height in
    let emitted = expanded locals ids offset c.args.kept.now point op in
    let plain : is_call op ≡ false = sym c.is_call.ensures ∙ c.if-not-is_call.true in
    let are = c.moves_of.ensures locals ids offset point plain around in
    is ∙ ap (max height) (sym (enough (call_signature op) height emitted c.moves_of.result are)) ∙ operands_from (call_signature op) height emitted)
