-- What an instruction calls has in the image the signature of the method that it names, and the machine runs it.
use Rattle.std.proofs.Common.{◌≡◌, inl, inr, ℕ, ◌-◌, Bool, true, false, nat_le, nat_lt, if◌then◌else◌, slice_get, Option, Some, None, option_map, unwrap_or, refl, sym, ap, ap₂, subst, ◌∙◌}
use Rattle.std.specs.Option.{option_map_or}
use Rattle.std.proofs.lemmas.Option.{none-some}
use Rattle.library.specs.declared.natives.Native.{Native}
use Rattle.library.specs.declared.natives.Native.TheVariants as native
use Rattle.library.specs.Classes.{first_own}
use Rattle.library.specs.Natives.{number_of}
use Rattle.class_pool.specs.declared.types.MemberId.{MemberId}
use Rattle.image_instr.specs.declared.signature.Sig.{Sig}
use Rattle.image_instr.specs.declared.insn.MInsn.TheVariants as insns
use Rattle.image_form.specs.declared.record.Image.{Image}
use Rattle.image_form.specs.declared.record.Method.{Method}
use Rattle.image_form.specs.Library.{library_signatures, signature, signature_in}
use Rattle.body_form.specs.declared.body.Body.{Body}
use Rattle.body_form.specs.declared.op.MethodUse.{MethodUse}
use Rattle.body_form.specs.declared.op.Op.{Op}
use Rattle.body_form.specs.declared.op.Op.TheVariants as op
use Rattle.jvm_model.specs.ImageEmission.{method_of}
use Rattle.jvm_model.specs.ImageNumbering.{is_member, number_from}
use Rattle.jvm_model.specs.TypesRules.{op_at}
use Rattle.jvm_model.specs.WidthsFrame.{signature_for, signature_used}
use Rattle.mote_model.specs.SplitState.{method_at}
use Rattle.split_safety.specs.Runs.{is_static_call}
use Rattle.type_safety.specs.Facts.{RunsNative, RunsBody, Runs, Named, params_of, result_of, is_construct}
use Rattle.match_states.specs.Setting.{Setting, IsCompiled, source_for, id_for}
use Rattle.match_code.proofs.CodeMoves.{compiled_body}
use Rattle.match_code.proofs.MatchedCode.{found_body}
use Rattle.image_rules.specs.Parts.{IsOfAccepted, CallsAs}

-- the id is that of a method of this signature, which a call of the machine runs
pub record IsSigned (image : Image) (id : ℕ) (sig : Sig) : Type 0 where
  pub there : signature_in image.methods id ≡ Some sig
  pub run : is_static_call (insns.CallS id) ≡ true

-- ---- methods of the image

own_signed : (image : Image) (id : ℕ) (method : Method) → method_at image id ≡ Some method → IsSigned image id method.sig
own_signed image id method is = by (nat_lt id first_own) refl is
  where
    by : (library : Bool) → nat_lt id first_own ≡ library → (if library then None else slice_get image.methods (id - first_own)) ≡ Some method → IsSigned image id method.sig
    by true low is = absurd (none-some method is)
    by false own is =
        record {
          there =
              ap (λ (b : Bool). if b then slice_get library_signatures id else option_map (λ (m : Method). m.sig) (slice_get image.methods (id - first_own))) own
              ∙ ap (option_map (λ (m : Method). m.sig)) is;
          run = ap (λ (b : Bool). if b then nat_le 1 id else true) own;
        }

-- ---- natives that are static

library_signed : (image : Image) (found : Native) → false ≡ is_construct found → IsSigned image (number_of found) (signature_for false (params_of found) (result_of found))
library_signed image native.Construct static = absurd cc
library_signed image native.Write static = record { there = refl; run = refl }
library_signed image native.Print static = record { there = refl; run = refl }
library_signed image native.Read static = record { there = refl; run = refl }

-- ---- what is called

module _ (setting : Setting) (compiled : IsCompiled setting) (used : MethodUse) where
  native_signed : RunsNative setting.world used.method used false → IsSigned setting.image (id_for setting used.method) (signature_used false used)
  native_signed run =
      let id : number_of run.found ≡ id_for setting used.method = sym (ap (λ (o : Option Native). option_map_or number_of o (number_from first_own (is_member used.method) setting.numbering.methods)) run.is) in
      subst (λ (n : ℕ). IsSigned setting.image n (signature_used false used)) id
      (subst (IsSigned setting.image (number_of run.found)) (sym (ap₂ (signature_for false) run.params run.result)) (library_signed setting.image run.found run.object))

  body_signed : RunsBody setting.world used.method used false → IsSigned setting.image (id_for setting used.method) (signature_used false used)
  body_signed run =
      let found = found_body setting.world.bodies used.method run.body run.found in
      let there : method_at setting.image (id_for setting used.method) ≡ Some (method_of (source_for setting run.body)) =
      ap (λ (id : MemberId). method_at setting.image (id_for setting id)) (sym found.method) ∙ (compiled_body setting compiled run.body found.of_set).method in
      let same : signature_for run.body.instance run.body.params run.body.result ≡ signature_used false used =
      ap (λ (instance : Bool). signature_for instance run.body.params run.body.result) run.object ∙ ap₂ (signature_for false) run.params run.result in
      subst (IsSigned setting.image (id_for setting used.method)) same (own_signed setting.image (id_for setting used.method) (method_of (source_for setting run.body)) there)

  -- a static method that runs is there, with the signature of the use
  pub static_signed : Runs setting.world used.method used false → IsSigned setting.image (id_for setting used.method) (signature_used false used)
  static_signed (inl run) = native_signed run
  static_signed (inr run) = body_signed run

pub calls_are : (setting : Setting) (body : Body) → IsOfAccepted setting body → (pc : ℕ) (instruction : Op) → op_at body.ops pc ≡ Some instruction → CallsAs setting.image (source_for setting body).ids instruction
calls_are setting body is pc instruction at = by instruction (is.facts.named pc instruction at)
  where
    by : (instruction : Op) → Named setting.world body.class instruction → CallsAs setting.image (source_for setting body).ids instruction
    by (op.CallStatic used) named = ap (λ (o : Option Sig). unwrap_or o (signature 0 0 0)) (static_signed setting is.compiled used named).there
    by instruction named = tt
