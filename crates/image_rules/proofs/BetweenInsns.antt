-- What holds over some machine instructions holds before each of them.
use Rattle.std.proofs.Common.{◌≡◌, ℕ, ◌+◌, List, [], ◌∷◌, ◌++◌, map, length, refl, ap, ◌∙◌, arith, length-append}
use Rattle.std.specs.List.{AllByRecursion}
use Rattle.std.proofs.lemmas.List.Concat.{flat_map-cons}
use Rattle.image_instr.specs.Insn.{insn_bytes}
use Rattle.image_form.specs.declared.record.Image.{Image}
use Rattle.image_form.specs.declared.record.Method.{Method}
use Rattle.image_check.specs.Code.{targets}
use Rattle.image_check.specs.Visits.{Depth, goes_on, moved_by, suffix}
use Rattle.body_form.specs.declared.op.Op.{Op}
use Rattle.body_form.specs.Flow as flow
use Rattle.jvm_model.specs.ImageExpansion.{Emitted, bytes_of, emitted_bytes}
use Rattle.match_code.specs.Standing.{IsEmittedInsn}
use Rattle.match_code.proofs.CodeOrder.{some_bytes}
use Rattle.image_rules.specs.Depths.{GoWell, LeadAs, depth_behind}
use Rattle.image_rules.proofs.MostOperands.{Fits, StayWithin}

-- ---- depths

pub behind_joined : (image : Image) (d : Depth) (first rest : List Emitted)
    → depth_behind image d (first ++ rest) ≡ depth_behind image (depth_behind image d first) rest
unfolding depth_behind
behind_joined image d [] rest = refl
behind_joined image d (emitted ∷ first) rest = behind_joined image (suffix (moved_by image emitted.0) d) first rest

pub behind_one : (image : Image) (d : Depth) (first : List Emitted) (emitted : Emitted)
    → depth_behind image d (first ++ emitted ∷ []) ≡ suffix (moved_by image emitted.0) (depth_behind image d first)
unfolding depth_behind
behind_one image d [] emitted = refl
behind_one image d (other ∷ first) emitted = behind_one image (suffix (moved_by image other.0) d) first emitted

pub well_between : (image : Image) (method : Method) (d : Depth) (first rest : List Emitted) → GoWell image method d (first ++ rest)
    → GoWell image method (depth_behind image d first) rest
unfolding GoWell depth_behind
well_between image method d [] rest well = well
well_between image method d (emitted ∷ first) rest well = well_between image method (suffix (moved_by image emitted.0) d) first rest well.2

pub within_between : (most : ℕ) (image : Image) (d : Depth) (first rest : List Emitted) → StayWithin most image d (first ++ rest)
    → StayWithin most image (depth_behind image d first) rest
unfolding depth_behind
within_between most image d [] rest within = within
within_between most image d (emitted ∷ first) rest within = within_between most image (suffix (moved_by image emitted.0) d) first rest within.1

pub fits_first : (most : ℕ) (image : Image) (d : Depth) (list : List Emitted) → StayWithin most image d list → Fits most d
fits_first most image d [] within = within
fits_first most image d (emitted ∷ list) within = within.0

-- ---- where they lead

pub leads_last : (offset : ℕ → ℕ) (instruction : Op) (first : List Emitted) (emitted : Emitted) → LeadAs offset instruction (first ++ emitted ∷ [])
    → (goes_on emitted.0 ≡ flow.goes_on instruction) × (targets emitted.0 emitted.1 ≡ map offset (flow.targets instruction))
unfolding LeadAs
leads_last offset instruction [] emitted leads = leads
leads_last offset instruction (other ∷ []) emitted leads = leads.2
leads_last offset instruction (other ∷ more ∷ first) emitted leads = leads_last offset instruction (more ∷ first) emitted leads.2

pub leads_between : (offset : ℕ → ℕ) (instruction : Op) (first : List Emitted) (emitted next : Emitted) (rest : List Emitted)
    → LeadAs offset instruction (first ++ emitted ∷ next ∷ rest)
    → targets emitted.0 emitted.1 ≡ []
unfolding LeadAs
leads_between offset instruction [] emitted next rest leads = leads.1
leads_between offset instruction (other ∷ []) emitted next rest leads = leads.2.1
leads_between offset instruction (other ∷ more ∷ first) emitted next rest leads = leads_between offset instruction (more ∷ first) emitted next rest leads.2

-- ---- bytes

pub size_first : (emitted : Emitted) (rest : List Emitted) → length (bytes_of (emitted ∷ rest)) ≡ length (insn_bytes emitted.0 emitted.1) + length (bytes_of rest)
size_first emitted rest = ap (λ (bytes : List ℕ). length bytes) (flat_map-cons emitted_bytes emitted rest) ∙ length-append (emitted_bytes emitted) (bytes_of rest)

same_head : (x y : Emitted) (xs ys : List Emitted) → x ∷ xs ≡ y ∷ ys → x ≡ y
same_head x y xs ys e = cc

same_tail : (x y : Emitted) (xs ys : List Emitted) → x ∷ xs ≡ y ∷ ys → xs ≡ ys
same_tail x y xs ys e = cc

-- as many bytes are before one of them alone
pub same_before : (first : List Emitted) (emitted : Emitted) (rest : List Emitted) (others : List Emitted) (other : Emitted) (more : List Emitted)
    → first ++ emitted ∷ rest ≡ others ++ other ∷ more → AllByRecursion IsEmittedInsn (first ++ emitted ∷ rest)
    → AllByRecursion IsEmittedInsn (others ++ other ∷ more)
    → length (bytes_of first) ≡ length (bytes_of others) → first ≡ others
same_before [] emitted rest [] other more same all also size = refl
same_before [] emitted rest (y ∷ others) other more same all also size = absurd (omega (arith, size, size_first y others, some_bytes y.0 y.1 also.0))
same_before (x ∷ first) emitted rest [] other more same all also size = absurd (omega (arith, size, size_first x first, some_bytes x.0 x.1 all.0))
same_before (x ∷ first) emitted rest (y ∷ others) other more same all also size =
    let head = same_head x y (first ++ emitted ∷ rest) (others ++ other ∷ more) same in
    let tail = same_tail x y (first ++ emitted ∷ rest) (others ++ other ∷ more) same in
    let one : length (insn_bytes x.0 x.1) ≡ length (insn_bytes y.0 y.1) = ap (λ (e : Emitted). length (insn_bytes e.0 e.1)) head in
    ap (λ (e : Emitted). e ∷ first) head
    ∙ ap (λ (l : List Emitted). y ∷ l) (same_before first emitted rest others other more tail all.1 also.1 (omega (arith, size, size_first x first, size_first y others, one)))
