-- Where the type of a method's result is absent, no return holds.
use Rattle.std.proofs.Common.{◌≡◌, false, ◌&&◌, if◌then◌else◌, List, [], Option, Some, None, Ok, Err, refl, ap, ◌∙◌}
use Rattle.std.specs.Prelude.{option_and_then}
use Rattle.std.specs.Result.{result_ok}
use Rattle.class_pool.specs.declared.descriptor.Kind.{Kind}
use Rattle.class_pool.specs.declared.types.TypeRef.{TypeRef}
use Rattle.class_file.specs.declared.record.ClassFile.{ClassFile}
use Rattle.insn_form.specs.declared.ValueKind.{ValueKind}
use Rattle.body_form.specs.declared.body.Body.{Body}
use Rattle.body_form.specs.declared.types.VFrame.{VFrame}
use Rattle.body_form.specs.declared.types.VType.{VType}
use Rattle.jvm_model.specs.Resolution.{Resolved, kind_named}
use Rattle.jvm_model.specs.TypesFrames.{fits_in, fits_kind}
use Rattle.jvm_model.specs.TypesRules.{plain, has_kind, returned, return_of}
use Rattle.flow_verify.proofs.families.Taking.{and_false, none_pass}

fits_none : (files : List ClassFile) (found : Resolved TypeRef) → result_ok found ≡ None → (value : VType) → fits_in files found value ≡ false
fits_none files (Ok type) e value = cc
fits_none files (Err why) e value = refl

pub none_returned : (files : List ClassFile) (body : Body) (frame : VFrame) (result : Kind) (kind : ValueKind) (given : Option ValueKind) → body.result ≡ Some result → given ≡ Some kind → frame.pending ≡ false
    → result_ok (kind_named files result) ≡ None → return_of files body given frame ≡ None
none_returned files body frame result kind given has is pending none =
    ap (λ b. if b then None else option_and_then (λ tests. plain frame tests []) (returned files body.result given)) pending
    ∙ ap (λ (r : Option Kind). option_and_then (λ tests. plain frame tests []) (returned files r given)) has
    ∙ ap (λ (k : Option ValueKind). option_and_then (λ tests. plain frame tests []) (returned files (Some result) k)) is
    ∙ none_pass frame (λ value. has_kind kind value && fits_kind files result value) [] (λ value. ap (λ b. has_kind kind value && b) (fits_none files (kind_named files result) none value) ∙ and_false (has_kind kind value))
