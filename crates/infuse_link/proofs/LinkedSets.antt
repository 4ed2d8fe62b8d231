-- A linked set whose bodies have types is one of which an image can be made: what the image asks of it holds.
use Rattle.std.proofs.Common.{◌≡◌, ℕ, List, [], ◌∷◌, map, length, Option, Some, None, is_some, refl, sym, ap, subst, ◌∙◌, arith}
use Rattle.std.specs.Prelude.{◌≤◌, if◌then◌else◌, unwrap_or, IfSome}
use Rattle.std.specs.List.{AllByRecursion}
use Rattle.std.proofs.lemmas.Option.{none-some}
use Rattle.code_reach.specs.Reached.{RisesFrom}
use Rattle.class_pool.specs.declared.descriptor.Descriptor.{Descriptor}
use Rattle.class_pool.specs.declared.types.MemberId.{MemberId}
use Rattle.class_file.specs.declared.record.ClassFile.{ClassFile}
use Rattle.body_form.specs.declared.body.Body.{Body}
use Rattle.jvm_model.specs.declared.numbers.Selector.{Selector}
use Rattle.jvm_model.specs.declared.refusal.Refusal.{Refusal}
use Rattle.jvm_model.specs.Bodies.{AreBodies}
use Rattle.jvm_model.specs.Entry.{entry_of}
use Rattle.jvm_model.specs.Phases.{class_refusal}
use Rattle.type_rounds.proofs.tables.Lists.{all_both, all_elements, all_from, all_given, all_map}
use Rattle.expansion.specs.Expanding.{KeepsCounts}
use Rattle.expansion.specs.Seen.{KeepsRows}
use Rattle.body_limits.specs.Limits.{CountsAreKept, HasFewParameters, ParametersAreFew, PcsRise, RowsAreKept}
use Rattle.infuse_emit.specs.Parts.{KeepLimits}
use Rattle.infuse_tables.specs.Tables.{IsShort}
use Rattle.set_image.specs.Linked.{IsOfFiles, IsTyped, Linked, bodies_of, body_of, numbering_in}
use Rattle.set_compile.specs.Compiled.{SetsCompile}
use Rattle.set_grammar.proofs.SetSelectors.{IsFew, selectors_few}
use Rattle.set_grammar.proofs.TypedSets.{is_typed}
use Rattle.infuse_sets.specs.declared.typed.TypedBody.{TypedBody}
use Rattle.infuse_sets.specs.TypedBodies.{AreOf, IsFit, typed_of}
use Rattle.infuse_link.specs.Stages.{IsLinkedSet, IsVerified, linked_of}
use Rattle.infuse_link.proofs.ReadSets.{records_are, scan_same}

-- ---- the parts of a set

-- classes that are not refused for having no entry have one
entry_is : (found : Option MemberId) (nothing : MemberId) (why : Refusal) → (if is_some found then None else Some why) ≡ None → found ≡ Some (unwrap_or found nothing)
entry_is (Some main) nothing why e = refl
entry_is None nothing why e = absurd (none-some why (sym e))

-- the bodies of typed bodies
bodies_are : (typed : List TypedBody) → map body_of (map typed_of typed) ≡ map (λ one. one.body.now) typed
bodies_are [] = refl
bodies_are (one ∷ typed) = ap (λ (more : List Body). let body = one.body in body.now ∷ more) (bodies_are typed)

-- ---- what bodies keep to

-- what the laws say of a body
record HasLimits (body : Body) : Type 0 where
  rise : RisesFrom 0 body.ops
  limits : KeepLimits body
  few : HasFewParameters body

fit_of : (classes : List ClassFile) (one : TypedBody) → IsVerified classes one → HasLimits (body_of (typed_of one)) → IsFit one
fit_of classes one verified limits = record { rise = limits.rise; reached = verified.reached; limits = limits.limits; few = limits.few }

-- the method type of a selector is short
short_of : (selector : Selector) → IsFew selector.descriptor → IsShort selector
short_of selector is =
    let few = is.few in
    let most : length is.type.params ≤ 254 = omega (arith, few) in
    subst (λ (found : Option Descriptor). IfSome found (λ type. length type.params ≤ 254)) (sym is.typed) most

-- ---- the set

module _ (files : List (List ℕ)) (classes : List ClassFile) (bodies : List Body) (typed : List TypedBody) (is : IsLinkedSet files classes bodies) (same : map (λ one. one.body.now) typed ≡ bodies) (verified : AllByRecursion (IsVerified classes) typed) where
  linked : Linked
  linked = linked_of classes typed

  are_typed : AllByRecursion (IsTyped classes) (map typed_of typed)
  are_typed = all_given (IsTyped classes) typed_of typed (all_map (IsVerified classes) (λ one. IsTyped classes (typed_of one)) (λ one v. v.least) typed verified)

  -- it is that of the files
  pub of_files : IsOfFiles files (linked_of classes typed)
  of_files =
      let set = is.is_closed in
      record {
        records = records_are files classes set.read;
        codes = scan_same class_refusal 0 files classes set.read ∙ set.codes;
        links = is.links;
        is_linked = record {
          closed = set.closed;
          are_bodies = subst (AreBodies classes) (sym (bodies_are typed ∙ same)) is.are_bodies;
          are_typed = are_typed;
          is_main = entry_is (entry_of classes) _ _ is.enters;
        };
      }

  module _ (rise : PcsRise) (rows : RowsAreKept) (counts : CountsAreKept) (parameters : ParametersAreFew) (compile : SetsCompile) where
    have_limits : AllByRecursion HasLimits (bodies_of (linked_of classes typed))
    have_limits =
        let set = is_typed compile files (linked_of classes typed) of_files in
        all_elements HasLimits (bodies_of (linked_of classes typed)) (λ body there. record {
          rise = rise files _ _ set body there;
          limits = all_both (λ x. KeepsCounts x.1) (λ x. KeepsRows x.1) (λ x. KeepsCounts x.1 × KeepsRows x.1) (λ x count row. (count, row)) body.ops (counts files _ _ set body there) (rows files _ _ set body there);
          few = parameters files _ _ set body there;
        })

    -- its image can be made
    pub are_of : AreOf (linked_of classes typed) classes typed
    are_of =
        record {
          is_linked = of_files.is_linked;
          classes_are = refl;
          code_is = refl;
          fit = all_both (IsVerified classes) (λ one. HasLimits (body_of (typed_of one))) IsFit (fit_of classes) typed verified
              (all_from (λ one. HasLimits (body_of one)) typed_of typed (all_from HasLimits body_of (map typed_of typed) have_limits));
          short = all_map (λ (selector : Selector). IsFew selector.descriptor) IsShort short_of (numbering_in (linked_of classes typed)).selectors
              (selectors_few files (linked_of classes typed) of_files);
        }
