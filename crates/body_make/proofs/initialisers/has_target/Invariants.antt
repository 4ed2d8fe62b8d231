use Rattle.std.proofs.Common.{◌≡◌, false, take}
use Rattle.std.specs.List.{list_any}
use Rattle.jvm_model.specs.Initialisers.{is_target}
use Rattle.body_make.specs.MemberUses.{name_of}
use Rattle.body_make.specs.Pushes.{pushed_of}
use Rattle.body_make.proofs.initialisers.has_target.Given as goal

abbrev pub invariant-loop-field : goal.invariant-loop-field
invariant-loop-field l = list_any (is_target l.pool (pushed_of l.pushed) (name_of l.named)) (take l.field-index l.fields) ≡ false
