use Rattle.std.proofs.Common.{◌≡◌, ◌≤◌, ◌*◌, ◌++◌, List, drop, reverse}
use Rattle.image_instr.specs.declared.signature.Sig.{Sig}
use Rattle.jvm_model.specs.ImageExpansion.{Emitted, cut_arguments}
use Rattle.flow_split.specs.Peaks.{most_emitted}
use Rattle.flow_split.proofs.calls.cut.Given as goal

abbrev pub invariant-loop-position : goal.invariant-loop-position
invariant-loop-position l = record {
  small : l.above ≤ 2 * l.position;
  same : (sig : Sig) (rest : List Emitted) → most_emitted sig l.after (cut_arguments l.above (drop l.position (reverse l.kinds)) (drop l.position l.shapes) ++ rest) ≡ most_emitted sig l.fn.peak (cut_arguments 0 (reverse l.kinds) l.shapes ++ rest);
}
