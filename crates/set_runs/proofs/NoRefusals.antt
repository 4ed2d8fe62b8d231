-- What an accepted set keeps to, refusal by refusal.
use Rattle.std.proofs.Common.{◌≡◌, ℕ, ◌≤◌, Bool, true, false, if◌then◌else◌, nat_lt, List, [], ◌∷◌, length, Option, Some, None, option_map, refl, sym}
use Rattle.std.specs.List.{AllByRecursion}
use Rattle.std.proofs.lemmas.Bool.{ltb-false}
use Rattle.std.proofs.lemmas.Option.{none-some}
use Rattle.body_form.specs.declared.body.Body.{Body}
use Rattle.body_form.specs.declared.op.Op.{Op}
use Rattle.body_form.specs.Flow.{Ops}
use Rattle.jvm_model.specs.declared.refusal.Refusal.{Refusal}
use Rattle.jvm_model.specs.declared.refusal.Cause.TheVariants as cause
use Rattle.jvm_model.specs.ImageLimits.{first_excess}
use Rattle.jvm_model.specs.Phases.{saturated, too_many}
use Rattle.set_image.specs.Linked.{Linked, Typed, bodies_of, numbering_in}
use Rattle.set_image.specs.LinkRefusals.{bytes_in, cells_in, count_refusal, first_of, first_outside, form_refusal, frame_refusal, is_built, length_refusal, link_refusal, outside_body, refusal_of_body}
use Rattle.set_image.proofs.CountLimits.{AreWithin, are_within, first_none, second_none}
use Rattle.set_image.proofs.NoRefusals.{have_none}

-- ---- lists

unmapped : {X Y : Type 0} (f : X → Y) (found : Option X) → option_map f found ≡ None → found ≡ None
unmapped f None is = refl
unmapped f (Some x) is = absurd (none-some (f x) (sym is))

unrefused : (test : Bool) (why : Refusal) → (if test then Some why else None) ≡ None → test ≡ false
unrefused true why is = absurd (none-some why (sym is))
unrefused false why is = refl

-- ---- an accepted set

-- no body has an exception table, or an instruction that is not built
pub record IsBuilt (body : Body) : Type 0 where
  pub handlers : length body.handlers ≤ 0
  pub ops : AllByRecursion (λ x. is_built x.1 ≡ true) body.ops

all_built : (ops : Ops) → first_outside ops ≡ None → AllByRecursion (λ x. is_built x.1 ≡ true) ops
unfolding first_outside
all_built [] none = tt
all_built (x ∷ ops) none = by (is_built x.1) refl none (all_built ops)
  where
    by : (b : Bool) → is_built x.1 ≡ b → (if b then first_outside ops else Some x.0) ≡ None
        → (first_outside ops ≡ None → AllByRecursion (λ (y : ℕ × Op). is_built y.1 ≡ true) ops) → AllByRecursion (λ (y : ℕ × Op). is_built y.1 ≡ true) (x ∷ ops)
    by true is none rest = (is, rest none)
    by false is none rest = absurd (none-some x.0 (sym none))

body_built : (body : Body) → form_refusal body ≡ None → IsBuilt body
body_built body none = by (nat_lt 0 (length body.handlers)) refl (unmapped (λ pc. refusal_of_body cause.Unbuilt body pc 0) (outside_body body) none)
  where
    by : (b : Bool) → nat_lt 0 (length body.handlers) ≡ b → (if b then Some 0 else first_outside body.ops) ≡ None → IsBuilt body
    by true is none = absurd (none-some 0 (sym none))
    by false is none = record { handlers = ltb-false 0 (length body.handlers) is; ops = all_built body.ops none }

all_bodies : (bodies : List Body) → AllByRecursion (λ body. form_refusal body ≡ None) bodies → AllByRecursion IsBuilt bodies
all_bodies [] none = tt
all_bodies (body ∷ bodies) none = (body_built body none.0, all_bodies bodies none.1)

-- a frame has at most 32,767 cells, and code at most 65,535 bytes
pub record IsSmall (linked : Linked) (typed : Typed) : Type 0 where
  pub cells : cells_in typed ≤ 32767
  pub bytes : bytes_in (numbering_in linked) typed ≤ 65535

small : (linked : Linked) (code : List Typed) → AllByRecursion (λ typed. frame_refusal typed ≡ None) code → AllByRecursion (λ typed. length_refusal (numbering_in linked) typed ≡ None) code
    → AllByRecursion (IsSmall linked) code
small linked [] frames lengths = tt
small linked (typed ∷ code) frames lengths =
    let cells = cells_in typed in
    let bytes = bytes_in (numbering_in linked) typed in (
      record {
        cells = ltb-false 32767 cells (unrefused (nat_lt 32767 cells) (refusal_of_body cause.FrameTooLarge typed.body 0 cells) frames.0);
        bytes = ltb-false 65535 bytes (unrefused (nat_lt 65535 bytes) (refusal_of_body cause.CodeTooLong typed.body 0 (saturated bytes)) lengths.0);
      },
      small linked code frames.1 lengths.1,
    )

-- each body is built, small, and no count is above its limit
pub record IsUnrefused (linked : Linked) : Type 0 where
  pub built : AllByRecursion IsBuilt (bodies_of linked)
  pub small : AllByRecursion (IsSmall linked) linked.code
  pub counts : first_excess linked.classes (numbering_in linked) ≡ None
  pub within : AreWithin linked.classes (numbering_in linked)

pub is_unrefused : (linked : Linked) → link_refusal linked ≡ None → IsUnrefused linked
is_unrefused linked none =
    let numbering = numbering_in linked in
    let forms = first_of form_refusal (bodies_of linked) in
    let frames = first_of frame_refusal linked.code in
    let counts = count_refusal linked.classes numbering in
    let lengths = first_of (length_refusal numbering) linked.code in
    let after_forms = second_none forms _ none in
    let after_frames = second_none frames _ after_forms in
    let within = unmapped (λ count. too_many count.0 count.1) (first_excess linked.classes numbering) (first_none counts lengths after_frames) in
    record {
      built = all_bodies (bodies_of linked) (have_none form_refusal (bodies_of linked) (first_none forms _ none));
      small =
          small linked linked.code (have_none frame_refusal linked.code (first_none frames _ after_forms))
          (have_none (length_refusal numbering) linked.code (second_none counts lengths after_frames));
      counts = within;
      within = are_within linked.classes numbering within;
    }
