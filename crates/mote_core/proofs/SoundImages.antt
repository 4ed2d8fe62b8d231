-- An image that is checked is sound: the machine runs each of its methods.
use Rattle.std.proofs.Common.{◌≡◌, true, ◌==◌, List, [], ◌∷◌, length, refl, arith}
use Rattle.std.specs.List.{AllByRecursion, list_all}
use Rattle.std.proofs.lemmas.Bool.{and_parts, eqb-true}
use Rattle.image_form.specs.declared.record.Image.{Image}
use Rattle.image_form.specs.declared.record.Method.{Method}
use Rattle.image_form.specs.declared.record.HandlerEntry.{HandlerEntry}
use Rattle.image_form.specs.Grammar.{IsImage}
use Rattle.image_check.specs.BuiltForm.{has_no_handler}
use Rattle.image_check.specs.Checked.{IsChecked, IsBuilt, IsBuiltMethod}
use Rattle.split_safety.specs.Runs.{RunsMethod, RunsImage}
use Rattle.split_safety.specs.Safety.{IsSound}

-- a list of no items is empty
no_items : (handlers : List HandlerEntry) → (length handlers == 0) ≡ true → handlers ≡ []
no_items [] e = refl
no_items (handler ∷ handlers) e = absurd (omega (arith, eqb-true (length (handler ∷ handlers)) 0 e))

-- a method without handlers, each instruction of which is built, is run
runs_method : (method : Method) → has_no_handler method ≡ true → IsBuiltMethod method → RunsMethod method
runs_method method none built = record { handlers = no_items method.handlers none; insns = built.0; code = built.1; run = built.2 }

-- the same of each method
runs_methods : (methods : List Method) → list_all has_no_handler methods ≡ true → AllByRecursion IsBuiltMethod methods → AllByRecursion RunsMethod methods
runs_methods [] none built = tt
runs_methods (method ∷ methods) none built =
    let both = and_parts (has_no_handler method) (list_all has_no_handler methods) none in
    (runs_method method both.0 built.0, runs_methods methods both.1 built.1)

-- the machine runs an image that is built
built_images_run : (image : Image) → IsBuilt image → RunsImage image
built_images_run image built = runs_methods image.methods built.form built.methods

pub checked_images_are_sound : (image : Image) → IsImage image → IsChecked image → IsBuilt image → IsSound image
checked_images_are_sound image grammar checked built = record { image_is = grammar; checked = checked; runs = built_images_run image built }
