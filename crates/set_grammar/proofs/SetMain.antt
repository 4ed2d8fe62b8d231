-- The main of an accepted set is a method of its image, which takes nothing and gives nothing.
use Rattle.std.proofs.Common.{◌≡◌, ℕ, zero, suc, ◌-◌, ◌<◌, ◌≤◌, Bool, true, false, nat_lt, if◌then◌else◌, List, [], ◌∷◌, length, slice_get, Some, None, refl, sym, ap, ◌∙◌, arith}
use Rattle.std.proofs.lemmas.Bool.{ltb-false}
use Rattle.library.specs.Classes.{first_own}
use Rattle.class_pool.specs.declared.descriptor.Kind.{Kind}
use Rattle.image_form.specs.declared.record.Image.{Image}
use Rattle.image_form.specs.declared.record.Method.{Method}
use Rattle.jvm_model.specs.WidthsFrame.{signature_for}
use Rattle.mote_model.specs.SplitState.{method_at}
use Rattle.type_safety.specs.Starts.{StartsFit}
use Rattle.type_safety.proofs.fitting.SetLists.{none_some}
use Rattle.match_states.specs.Setting.{id_for}
use Rattle.match_starts.proofs.StartFrames.{main_body, main_id, main_method}
use Rattle.set_image.specs.Linked.{image_in}
use Rattle.set_compile.specs.Compiled.{SetsCompile}
use Rattle.set_compile.specs.Settings.{setting_of}
use Rattle.set_grammar.specs.Parts.{HasMain, OfEachImage}
use Rattle.set_grammar.proofs.MethodCounts.{methods_fit}
use Rattle.set_image.proofs.NoRefusals.{no_refusal}
use Rattle.set_grammar.proofs.TypedSets.{has_start}

-- ---- the method of an id

found_within : {X : Type 0} (items : List X) (place : ℕ) (item : X) → slice_get items place ≡ Some item → place < length items
found_within [] place item is = none_some item is
found_within (first ∷ items) zero item is = omega arith
found_within (first ∷ items) (suc place) item is = omega (arith, found_within items place item is)

-- an id that has a method is none of the library's
pub record IsPlaced (image : Image) (id : ℕ) (method : Method) : Type 0 where
  pub own : first_own ≤ id
  pub there : slice_get image.methods (id - first_own) ≡ Some method

pub is_placed : (image : Image) (id : ℕ) (method : Method) → method_at image id ≡ Some method → IsPlaced image id method
is_placed image id method is = by (nat_lt id first_own) refl is
  where
    by : (library : Bool) → nat_lt id first_own ≡ library → (if library then None else slice_get image.methods (id - first_own)) ≡ Some method → IsPlaced image id method
    by true low is = none_some method is
    by false from is = record { own = ltb-false id first_own from; there = is }

-- ---- main

pub main_is : SetsCompile → StartsFit → OfEachImage HasMain
main_is compile starts files linked is =
    let of = is.of_files in
    let setting = setting_of linked in
    let compiled = compile files linked of in
    let start = has_start compile files linked of starts in
    let both = main_body setting compiled start in
    let image = image_in linked in
    let method = main_method setting compiled start in
    let placed = is_placed image image.main method (ap (method_at image) (main_id setting compiled start ∙ ap (id_for setting) (sym both.1)) ∙ both.0.method) in
    let own = placed.own in
    let within = found_within image.methods (image.main - first_own) method placed.there in
    let few = methods_fit linked of.is_linked (no_refusal linked is.accepted) in
    let main = start.main in
    record {
      method = method;
      main_fits = omega (arith, own, within, few);
      not_library = own;
      method_is = placed.there;
      sig_is =
          ap (λ instance. signature_for instance main.params main.result) start.static ∙ ap (λ (params : List Kind). signature_for false params main.result) start.params
          ∙ ap (signature_for false []) start.result;
    }
