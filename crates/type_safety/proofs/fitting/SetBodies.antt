-- The body of a method of a set: its facts, and the right table of its types.
use Rattle.std.proofs.Common.{◌≡◌, ℕ, suc, Bool, true, false, ◌&&◌, not, inl, inr, nat_eq, List, [], ◌∷◌, Option, Some, None, option_and_then, if◌then◌else◌, refl, sym, ap, subst, ◌∙◌, arith}
use Rattle.std.specs.List.{Contains}
use Rattle.std.proofs.lemmas.Bool.{cases_Bool, eqb-true, and_parts}
use Rattle.std.proofs.lemmas.Option.{same_Some, cond_some}
use Rattle.std.proofs.lemmas.List.Elements.{All-from_recursion, All-contains}
use Rattle.class_pool.specs.declared.types.MemberId.{MemberId}
use Rattle.class_file.specs.declared.record.ClassFile.{ClassFile}
use Rattle.body_form.specs.declared.body.Body.{Body}
use Rattle.body_form.specs.declared.op.Op.{Op}
use Rattle.body_form.specs.declared.types.VFrame.{VFrame}
use Rattle.body_form.specs.Flow.{goes_on}
use Rattle.jvm_model.specs.TypesRight.{IsRight}
use Rattle.jvm_model.specs.TypesRules.{Change, changed, change_of, is_within, is_last, where_within, frame_after}
use Rattle.typed_machine.specs.TypedWorld.{World, is_of, body_among}
use Rattle.type_safety.specs.Facts.{BodyFacts}
use Rattle.type_safety.specs.Fitting.{Tables}
use Rattle.type_safety.specs.Safety.{IsSet, method_of}

-- ---- the body of a method

same_member : (id : MemberId) (body : Body) → is_of id body ≡ true → method_of body ≡ id
same_member id body e =
    let is = and_parts (nat_eq id.class body.class) (nat_eq id.member body.method) e in
    let class : body.class ≡ id.class = sym (eqb-true id.class body.class is.0) in
    let member : body.method ≡ id.member = sym (eqb-true id.member body.method is.1) in
    ap (λ (c : ℕ). record { class = c; member = body.method }) class ∙ ap (λ (m : ℕ). record { class = id.class; member = m }) member

-- the method of a body that is found, among bodies
pub record IsAmong (bodies : List Body) (id : MemberId) (body : Body) : Type 0 where
  pub among : Contains bodies body
  pub method : method_of body ≡ id

pub among_bodies : (bodies : List Body) (id : MemberId) (body : Body) → body_among bodies id ≡ Some body → IsAmong bodies id body
unfolding body_among
among_bodies [] id body e = cc
among_bodies (first ∷ bodies) id body e =
    elim (cases_Bool (is_of id first)) [
      | inl here ↦
          let same : first ≡ body = same_Some first body (sym (ap (λ b. if b then Some first else body_among bodies id) here) ∙ e) in
          record { among = (0, omega arith, same); method = subst (λ b. method_of b ≡ id) same (same_member id first here) }
      | inr later ↦
          let rest = among_bodies bodies id body (sym (ap (λ b. if b then Some first else body_among bodies id) later) ∙ e) in
          let within = rest.among.1 in
          record { among = (suc rest.among.0, omega (arith, within), rest.among.2); method = rest.method }
    ]

pub record IsBodyOf (world : World) (tables : Tables) (id : MemberId) (body : Body) : Type 0 where
  pub facts : BodyFacts world body
  pub right : IsRight world.files body (tables id)

pub body_of : (world : World) (tables : Tables) → IsSet world tables → (id : MemberId) (body : Body) → body_among world.bodies id ≡ Some body → IsBodyOf world tables id body
body_of world tables set id body found =
    let is = among_bodies world.bodies id body found in
    let Right : Body → Type 0 = λ b. IsRight world.files b (tables (method_of b)) in
    let right = All-contains Right world.bodies body (All-from_recursion Right world.bodies set.types) is.among in
    record { facts = set.facts body is.among; right = subst (λ m. IsRight world.files body (tables m)) is.method right }

-- ---- the rule of an instruction

-- what an instruction changes, where its rule holds
pub record IsChange (files : List ClassFile) (body : Body) (pc : ℕ) (instruction : Op) (types after : VFrame) : Type 0 where
  pub change : Change
  pub is : change_of files body pc instruction types ≡ Some change
  pub reached : changed change types ≡ after
  pub ends : (goes_on instruction && is_last body.ops pc) ≡ false

module _ (files : List ClassFile) (body : Body) (pc : ℕ) (instruction : Op) (types after : VFrame) where
  change_with : (found : Option Change) → change_of files body pc instruction types ≡ found → (goes_on instruction && is_last body.ops pc) ≡ false
      → option_and_then (λ change. where_within body (changed change types)) found ≡ Some after → IsChange files body pc instruction types after
  change_with None is ends e = cc
  change_with (Some change) is ends e =
      record { change = change; is = is; reached = (cond_some (is_within body (changed change types)) (changed change types) after e).1; ends = ends }

  change_where : (first second : Bool) → (goes_on instruction && is_last body.ops pc) ≡ second
      → (if first && not second then option_and_then (λ change. where_within body (changed change types)) (change_of files body pc instruction types) else None) ≡ Some after
      → IsChange files body pc instruction types after
  change_where true false ends e = change_with (change_of files body pc instruction types) refl ends e
  change_where true true ends e = cc
  change_where false second ends e = cc

  pub change_by : frame_after files body pc instruction types ≡ Some after → IsChange files body pc instruction types after
  change_by e = change_where (is_within body types) (goes_on instruction && is_last body.ops pc) refl e
