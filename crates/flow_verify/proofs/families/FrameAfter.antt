-- The frame after an instruction, step by step.
use Rattle.std.proofs.Common.{◌≡◌, ℕ, Bool, true, false, ◌&&◌, not, if◌then◌else◌, List, Option, Some, None, slice_get, sym, ap, ◌∙◌}
use Rattle.std.specs.Prelude.{option_and_then}
use Rattle.std.specs.Option.{option_map_or}
use Rattle.class_file.specs.declared.record.ClassFile.{ClassFile}
use Rattle.body_form.specs.declared.body.Body.{Body}
use Rattle.body_form.specs.declared.op.Op.{Op}
use Rattle.body_form.specs.declared.types.VFrame.{VFrame}
use Rattle.body_form.specs.Flow.{goes_on}
use Rattle.jvm_model.specs.TypesRules.{Change, changed, change_of, frame_after, is_last, is_within, where_within}
use Rattle.flow_verify.specs.Finding.{after_at, falls_off_at}

module _ (files : List ClassFile) (body : Body) (position : ℕ) (x : ℕ × Op) (here : slice_get body.ops position ≡ Some x) (frame : VFrame) (within : is_within body frame ≡ true) (on : falls_off_at body position ≡ false) where
  abbrev next : Option Change → Option VFrame
  next change = option_and_then (λ (c : Change). where_within body (changed c frame)) change

  last_not : (goes_on x.1 && is_last body.ops x.0) ≡ false
  last_not = sym (ap (λ o. option_map_or (λ (y : ℕ × Op). goes_on y.1 && is_last body.ops y.0) o false) here) ∙ on

  by_change : after_at files body position frame ≡ next (change_of files body x.0 x.1 frame)
  by_change =
      ap (λ o. option_and_then (λ (y : ℕ × Op). frame_after files body y.0 y.1 frame) o) here
      ∙ ap (λ b. if b && not (goes_on x.1 && is_last body.ops x.0) then next (change_of files body x.0 x.1 frame) else None) within
      ∙ ap (λ b. if not b then next (change_of files body x.0 x.1 frame) else None) last_not

  pub none_after : change_of files body x.0 x.1 frame ≡ None → after_at files body position frame ≡ None
  none_after e = by_change ∙ ap next e

  pub after_change : (change : Change) (found : VFrame) (fits : Bool) → Some change ≡ change_of files body x.0 x.1 frame → found ≡ changed change frame → fits ≡ is_within body found
      → after_at files body position frame ≡ (if fits then Some found else None)
  after_change change found fits e is test =
      by_change ∙ ap next (sym e) ∙ ap (where_within body) (sym is) ∙ ap (λ b. if b then Some found else None) (sym test)
