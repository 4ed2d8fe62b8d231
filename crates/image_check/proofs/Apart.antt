-- A rule that fails is one that an image does not keep.
use Rattle.std.proofs.Common.{◌≡◌, ℕ, ◌+◌, ◌-◌, ◌<◌, List, drop, length, slice_get, Some, IsTrue, sym, subst, ◌∙◌, arith, true, inl, inr}
use Rattle.std.specs.List.{AllByRecursion, Contains}
use Rattle.std.proofs.lemmas.Bool.{false≢true}
use Rattle.std.proofs.lemmas.Option.{some_pair_parts, slice_get_within, get_or_from_slice_get}
use Rattle.image_instr.specs.declared.insn.MInsn.{MInsn}
use Rattle.image_instr.specs.Reading.{insn_at}
use Rattle.image_form.specs.declared.record.Image.{Image}
use Rattle.image_form.specs.declared.record.Method.{Method}
use Rattle.image_check.specs.declared.refusal.CheckCause.{CheckCause}
use Rattle.image_check.specs.declared.refusal.CheckCause.TheVariants.{BadCode, BadTarget, BadId, BadDepth, Crosses, Falls, Unbuilt, Memory}
use Rattle.image_check.specs.declared.refusal.CheckRefusal.{CheckRefusal}
use Rattle.image_check.specs.Code.{Insns, CodeIs, JumpsToStarts}
use Rattle.image_check.specs.Ids.{HasIds}
use Rattle.image_check.specs.Built.{is_built}
use Rattle.image_check.specs.Visits.{Depth, HasOperands, ReturnsResult, FitsBody, IsRight, moved_by, suffix, goes_on}
use Rattle.image_check.specs.Checked.{IsCheckedMethod, IsChecked, IsBuiltMethod, IsBuilt}
use Rattle.image_check.specs.Refused.{HasOther, IsReachedWith, FailsDepth, FailsBody, FailsEnd, FailsIn, IsRefused}
use Rattle.image_check.proofs.Passing.{each-of}
use Rattle.image_check.proofs.Reaching.{sent_on}
use Rattle.image_check.proofs.Holding.{one_list, none_stops}

-- a fact of each instruction does not fail at one
no_other : (code : List ℕ) (pc : ℕ) (P : Insns → ℕ × MInsn → Type 0) (insns : Insns) → CodeIs code insns → AllByRecursion (P insns) insns → HasOther code pc P → ⊥
no_other code pc P insns is all other =
    let same = one_list 0 code insns other.insns is.0 other.is_code.0 is.1 other.is_code.1 in
    other.is_not (each-of (P other.insns) other.insns (pc, other.insn) (subst (λ (l : Insns). AllByRecursion (P l) l) same all) other.stands)

-- the instruction that keeps its rule is the one that stands there
keeps : (image : Image) (method : Method) (pc : ℕ) (d : Depth) (insn : MInsn) (size : ℕ) (Q : MInsn → ℕ → Type 0) → (right : IsRight image method pc d) → insn_at (drop pc method.code) ≡ Some (insn, size) → Q right.insn right.size → Q insn size
keeps image method pc d insn size Q right found q =
    let parts = some_pair_parts right.insn insn right.size size (sym right.found ∙ found) in
    subst (Q insn) parts.1 (subst (λ (i : MInsn). Q i right.size) parts.0 q)

module _ (image : Image) (method : Method) (checked : IsCheckedMethod image method) (pc : ℕ) where
  no_bad_depth : IsReachedWith image method pc (FailsDepth image method pc) → ⊥
  no_bad_depth at =
      let right = checked.right pc at.d at.sent in
      let operands = keeps image method pc at.d at.insn at.size (λ i n. HasOperands (moved_by image i) at.d) right at.found right.operands in
      elim at.fails [
        | inl lacks ↦ lacks operands
        | inr other ↦ elim other [
          | inl result ↦ result (keeps image method pc at.d at.insn at.size (λ i n. ReturnsResult method i) right at.found right.result)
          | inr sends ↦
              let sent = sent_on image method.code pc at.d at.insn at.size sends.to at.sent at.found operands sends.successor in
              sends.differ (checked.one_depth sends.to sends.other (suffix (moved_by image at.insn) at.d) sends.sent sent)
        ]
      ]

  no_cross : IsReachedWith image method pc (FailsBody image method) → ⊥
  no_cross at =
      let right = checked.right pc at.d at.sent in
      elim at.fails [
        | inl before ↦ before right.fits
        | inr after ↦ after (keeps image method pc at.d at.insn at.size (λ i n. FitsBody method (suffix (moved_by image i) at.d)) right at.found right.fits_after)
      ]

  no_fall : IsReachedWith image method pc (λ d insn size. FailsEnd method pc insn size) → ⊥
  no_fall at =
      let right = checked.right pc at.d at.sent in
      let inside = keeps image method pc at.d at.insn at.size (λ i n. IsTrue (goes_on i) → pc + n < length method.code) right at.found right.inside in
      omega (arith, inside at.fails.0, at.fails.1)

pub nothing_fails : (image : Image) (method : Method) → IsCheckedMethod image method → (cause : CheckCause) (pc : ℕ) → FailsIn image method cause pc → ⊥
nothing_fails image method checked BadCode pc h = none_stops 0 method.code checked.insns h.insns checked.code.0 pc h.left checked.code.1 h.stand h.there h.none
nothing_fails image method checked BadTarget pc h = no_other method.code pc (λ insns x. JumpsToStarts method.code insns x) checked.insns checked.code checked.targets h
nothing_fails image method checked BadId pc h = no_other method.code pc (λ insns x. HasIds image method x.1) checked.insns checked.code checked.ids h
nothing_fails image method checked BadDepth pc h = no_bad_depth image method checked pc h
nothing_fails image method checked Crosses pc h = no_cross image method checked pc h
nothing_fails image method checked Falls pc h = no_fall image method checked pc h
nothing_fails image method checked Unbuilt pc h = h
nothing_fails image method checked Memory pc h = h

-- the method of an id is among those of the image
among : (image : Image) (method : Method) (id : ℕ) → slice_get image.methods (id - 32) ≡ Some method → Contains image.methods method
among image method id is =
    let k = id - 32 in
    (k, slice_get_within image.methods k method is, get_or_from_slice_get image.methods k method method is)

-- an image that is refused is not both checked and built
pub refused_not_checked : (image : Image) (refusal : CheckRefusal) → IsRefused image refusal → IsChecked image → IsBuilt image → ⊥
refused_not_checked image refusal (inl none) checked built = false≢true (sym none.no_form ∙ built.form)
refused_not_checked image refusal (inr (inl refused)) checked built =
    let there = among image refused.method refusal.method refused.is_method in
    nothing_fails image refused.method (each-of (IsCheckedMethod image) image.methods refused.method checked there) refusal.cause refusal.pc refused.fails
refused_not_checked image refusal (inr (inr unbuilt)) checked built =
    let is = each-of IsBuiltMethod image.methods unbuilt.method built.methods (among image unbuilt.method refusal.method unbuilt.is_method) in
    no_other unbuilt.method.code refusal.pc (λ insns x. is_built x.1 ≡ true) is.0 is.1 is.2 unbuilt.unbuilt
