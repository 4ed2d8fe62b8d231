-- No selector of a set has the name of an initialiser.
use Rattle.std.proofs.Common.{◌≡◌, true, false, not, ◌&&◌, List}
use Rattle.std.specs.List.{AllByRecursion}
use Rattle.std.specs.Str.{bytes_eq}
use Rattle.std.proofs.lemmas.Bool.{and_parts}
use Rattle.class_file.specs.declared.record.ClassFile.{ClassFile}
use Rattle.class_file.specs.Rules.{is_private, is_static}
use Rattle.class_tree.specs.Members.{Declaration, methods_of}
use Rattle.jvm_model.specs.ImageNumbering.{is_selected, selector_order}
use Rattle.jvm_model.specs.MethodUses.{constructor_name, initialiser_name}
use Rattle.jvm_model.specs.declared.numbers.Selector.{Selector}
use Rattle.set_image.specs.Linked.{Linked}
use Rattle.type_rounds.proofs.tables.Lists.{all_each}
use Rattle.type_safety.proofs.facts.RunMethods.{other_way}
use Rattle.type_safety.proofs.fitting.SetLists.{not_true_is}
use Rattle.set_grammar.proofs.SetSelectors.{selectors_have}

-- the selector has another name than the initialisers of classes
abbrev pub IsPlain : Selector → Type 0
IsPlain selector = bytes_eq initialiser_name selector.name ≡ false

abbrev pub HasPlainSelectors : Linked → Type 0
HasPlainSelectors linked = AllByRecursion IsPlain (selector_order linked.classes)

pub all_plain : (linked : Linked) → HasPlainSelectors linked
all_plain linked =
    selectors_have linked.classes (λ d. bytes_eq initialiser_name d.name ≡ false) IsPlain (λ d e. e)
    (λ class. all_each (λ d. is_selected d ≡ true → bytes_eq initialiser_name d.name ≡ false)
    (λ (d : Declaration) e. other_way d.name initialiser_name (not_true_is (bytes_eq d.name initialiser_name) (and_parts (not (bytes_eq d.name constructor_name)) (not (bytes_eq d.name initialiser_name)) (and_parts (not (is_private d.flags)) (not (bytes_eq d.name constructor_name) && not (bytes_eq d.name initialiser_name)) (and_parts (not (is_static d.flags)) (not (is_private d.flags) && (not (bytes_eq d.name constructor_name) && not (bytes_eq d.name initialiser_name))) e).1).1).1)) (methods_of linked.classes class))
