use Rattle.std.proofs.Common.{◌≡◌, Bool, true, ◌&&◌, List, sym, ap, ◌∙◌}
use Rattle.std.specs.List.{list_any}
use Rattle.class_file.specs.declared.record.Member.{Member}
use Rattle.class_file.specs.Rules.{is_interface}
use Rattle.class_tree.specs.Set.{flags_of}
use Rattle.class_tree.specs.Members.{in_file, methods_of}
use Rattle.jvm_model.specs.Overrides.{hides_method}
use Rattle.body_make.proofs.FilesAbove.{hides_there}
use Rattle.body_make.proofs.uppers.hides_methods_of.Goals as goal

pub returns-then-is_interface : goal.returns-then-is_interface
returns-then-is_interface c =
    let files = c.args.set.now in
    let file = c.file-file.result.now in
    let is : is_interface (flags_of files c.args.interface) ≡ true = cc in
    let hides : Member → Bool = λ m. hides_method files c.args.class (in_file file.pool m) in
    c.hides_one.ensures ∙ ap (λ (ms : List Member). list_any hides ms) c.as_slice.ensures ∙ hides_there files c.args.class c.args.interface file c.requires.own c.file-file.ensures.file
    ∙ sym (ap (λ b. b && list_any (hides_method files c.args.class) (methods_of files c.args.interface)) is)
