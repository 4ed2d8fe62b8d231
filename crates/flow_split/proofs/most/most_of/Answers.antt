-- The instruction sees what is handed in.
use Rattle.std.proofs.Common.{List, ap, ◌∙◌}
use Rattle.std.proofs.lemmas.Option.{IfSome_then}
use Rattle.jvm_model.specs.WidthsFrame.{call_signature, most_operands}
use Rattle.jvm_model.specs.ImageExpansion.{Emitted}
use Rattle.flow_split.proofs.Seeing.{shown, as_seen, as_shown}
use Rattle.flow_split.proofs.most.most_of.Goals as goal

pub returns : goal.returns
returns c = IfSome_then c.most_around.result c.most_around.ensures (λ most is locals ids offset point seen.
    let op = c.args.op.now in
    let shapes = c.args.before.now in
    is locals ids offset (shown point shapes) (as_shown locals point op c.args.width shapes c.args.after seen)
    ∙ ap (λ (list : List Emitted). most_operands (call_signature op) c.args.height list) (as_seen locals ids offset point c.args.kept.now op c.args.width shapes c.args.after seen))
