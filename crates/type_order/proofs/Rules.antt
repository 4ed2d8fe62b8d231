-- The frame after an instruction: of types of the set, proper where the one before it is, and above where that is.
use Rattle.std.proofs.Common.{◌≡◌, ℕ, Bool, true, false, ◌&&◌, not, nat_eq, nat_le, ◌-◌, inl, inr, List, [], ◌∷◌, map, length, replicate, Option, Some, None, IfSome, option_and_then, unwrap_or, if◌then◌else◌, refl, sym, ap, subst, ◌∙◌, zero, suc, arith}
use Rattle.std.specs.List.{AllByRecursion, Contains}
use Rattle.std.proofs.lemmas.Bool.{cases_Bool, and_parts, and_from, cond-true}
use Rattle.std.proofs.lemmas.Option.{same_Some, cond_some}
use Rattle.std.proofs.lemmas.List.Elements.{All-from_recursion, All-contains, length_all_zip}
use Rattle.class_pool.specs.declared.descriptor.Kind.{Kind}
use Rattle.class_file.specs.declared.record.ClassFile.{ClassFile}
use Rattle.body_form.specs.declared.body.Body.{Body}
use Rattle.body_form.specs.declared.body.Guard.{Guard}
use Rattle.body_form.specs.declared.op.Op.{Op}
use Rattle.body_form.specs.declared.types.VFrame.{VFrame}
use Rattle.body_form.specs.declared.types.VType.{VType}
use Rattle.body_form.specs.declared.types.VType.TheVariants.{Top, Ref, This}
use Rattle.body_form.specs.Flow.{Ops, goes_on}
use Rattle.class_tree.specs.Set.{IsClass}
use Rattle.class_tree.specs.Subtypes.{class_type}
use Rattle.class_tree.specs.Tree.{Gathers}
use Rattle.class_tree.specs.MergeLaws.{IsKnown}
use Rattle.jvm_model.specs.Instructions.{throwable}
use Rattle.jvm_model.specs.TypesFrames.{IsKnownFrame, is_constructor, receiver_of, parameter_of, arguments_of, start_frame}
use Rattle.jvm_model.specs.TypesNames.{NamesKnown, IsOfSet}
use Rattle.jvm_model.specs.TypesRules.{Change, changed, is_this, op_at, change_of, is_within, is_last, where_within, frame_after}
use Rattle.jvm_model.specs.TypesRight.{entered}
use Rattle.type_order.specs.OrderLaws.{IsProper, LacksThis, StartIsProper, AfterIsProper, EnteredIsProper, RulesAreMonotone, EnteredIsAbove, AfterIsKnown}
use Rattle.type_order.proofs.merges.Frames.{above_parts, above_whole, proper-is-above}
use Rattle.type_order.proofs.families.Pairs.{IsLocalPair, IsOperandPair, ArePaired, paired, paired_above, paired_proper}
use Rattle.type_order.proofs.families.Values.{IsFresh, class_fresh, parameter_known, parameter_lacks}
use Rattle.type_order.proofs.families.Moves.{IsRule, where_true, all_append}
use Rattle.type_order.proofs.families.RuleOf.{rule_is}

-- ---- the instruction at a pc

names_at : (files : List ClassFile) (ops : Ops) (pc : ℕ) (instruction : Op) → AllByRecursion (λ x. NamesKnown files x.1) ops → op_at ops pc ≡ Some instruction → NamesKnown files instruction
unfolding op_at
names_at files [] pc instruction all e = cc
names_at files ((at, first) ∷ ops) pc instruction all e =
    elim (cases_Bool (nat_eq at pc)) [
      | inl here ↦
          let same = same_Some first instruction (sym (ap (λ b. if b then Some first else op_at ops pc) here) ∙ e) in
          subst (NamesKnown files) same all.0
      | inr later ↦ names_at files ops pc instruction all.1 (sym (ap (λ b. if b then Some first else op_at ops pc) later) ∙ e)
    ]

-- ---- the frame after an instruction

record HasParts (files : List ClassFile) (body : Body) (pc : ℕ) (instruction : Op) (frame after : VFrame) : Type 0 where
  change : Change
  within : is_within body frame ≡ true
  ends : not (goes_on instruction && is_last body.ops pc) ≡ true
  is : change_of files body pc instruction frame ≡ Some change
  fits : is_within body (changed change frame) ≡ true
  reached : changed change frame ≡ after

module _ (files : List ClassFile) (body : Body) (pc : ℕ) (instruction : Op) where
  parts_with : (frame after : VFrame) → is_within body frame ≡ true → not (goes_on instruction && is_last body.ops pc) ≡ true → (found : Option Change) → change_of files body pc instruction frame ≡ found
      → option_and_then (λ change. where_within body (changed change frame)) found ≡ Some after → HasParts files body pc instruction frame after
  parts_with frame after within ends None is e = cc
  parts_with frame after within ends (Some change) is e =
      let fits = cond_some (is_within body (changed change frame)) (changed change frame) after e in
      record { change = change; within = within; ends = ends; is = is; fits = fits.0; reached = fits.1 }

  parts : (frame after : VFrame) → frame_after files body pc instruction frame ≡ Some after → HasParts files body pc instruction frame after
  parts frame after e =
      let ends = not (goes_on instruction && is_last body.ops pc) in
      let holds = where_true (is_within body frame && ends) (option_and_then (λ change. where_within body (changed change frame)) (change_of files body pc instruction frame)) after e in
      let passes = and_parts (is_within body frame) ends holds.0 in
      parts_with frame after passes.0 passes.1 (change_of files body pc instruction frame) refl holds.1

  whole : (frame after : VFrame) → HasParts files body pc instruction frame after → frame_after files body pc instruction frame ≡ Some after
  whole frame after is =
      let ends = not (goes_on instruction && is_last body.ops pc) in
      let rest : Option Change → Option VFrame = λ found. option_and_then (λ change. where_within body (changed change frame)) found in
      let reached = changed is.change frame in
      cond-true (is_within body frame && ends) (rest (change_of files body pc instruction frame)) None (and_from (is_within body frame) ends is.within is.ends)
      ∙ ap rest is.is ∙ cond-true (is_within body reached) (Some reached) None is.fits ∙ ap (λ f. Some f) is.reached

-- frames of as many locals and operands are within the same limits
within_lower : (files : List ClassFile) (body : Body) (upper lower : VFrame) → ArePaired files upper lower → is_within body upper ≡ true → is_within body lower ≡ true
within_lower files body upper lower pairs e =
    let locals : length upper.locals ≡ length lower.locals = length_all_zip (IsLocalPair files lower.pending) upper.locals lower.locals pairs.locals in
    let stack : length upper.stack ≡ length lower.stack = length_all_zip (IsOperandPair files lower.pending) upper.stack lower.stack pairs.stack in
    subst (λ n. (nat_le (length lower.stack) body.max_stack && nat_le n body.max_locals) ≡ true) locals
    (subst (λ n. (nat_le n body.max_stack && nat_le (length upper.locals) body.max_locals) ≡ true) stack e)

module _ (files : List ClassFile) (gathers : Gathers files None) (body : Body) (of_set : IsOfSet files body) (pc : ℕ) (instruction : Op) (at : op_at body.ops pc ≡ Some instruction) where
  rule : IsRule files (change_of files body pc instruction)
  rule = rule_is files gathers body of_set pc instruction (names_at files body.ops pc instruction of_set.ops at)

  -- what a rule leads to in a frame below one in which it holds
  record LeadsTo (above lower : VFrame) : Type 0 where
    after : VFrame
    is : frame_after files body pc instruction lower ≡ Some after
    pairs : ArePaired files above after

  leads : (upper lower above : VFrame) → ArePaired files upper lower → frame_after files body pc instruction upper ≡ Some above → LeadsTo above lower
  leads upper lower above pairs e =
      let is = parts files body pc instruction upper above e in
      let step = rule.step upper lower is.change pairs is.is in
      let after = changed step.change lower in
      record {
        after = after;
        is = whole files body pc instruction lower after (record {
          change = step.change;
          within = within_lower files body upper lower pairs is.within;
          ends = is.ends;
          is = step.is;
          fits = within_lower files body (changed is.change upper) after step.pairs is.fits;
          reached = refl;
        });
        pairs = subst (λ f. ArePaired files f after) is.reached step.pairs;
      }

pub after-is-known : AfterIsKnown
after-is-known files gathers body of_set pc instruction frame after at known e =
    let is = parts files body pc instruction frame after e in
    subst (IsKnownFrame files) is.reached ((rule files gathers body of_set pc instruction at).known frame is.change known is.is)

pub rules-are-monotone : RulesAreMonotone
rules-are-monotone files gathers body of_set pc instruction upper lower above at known proper is_above e =
    let pairs = paired files upper lower known proper (above_parts files upper lower is_above) in
    let to = leads files gathers body of_set pc instruction at upper lower above pairs e in
    (to.after, to.is, above_whole files above to.after (paired_above files above to.after to.pairs))

pub after-is-proper : AfterIsProper
after-is-proper files gathers body of_set pc instruction frame after at proper e =
    let pairs = paired files frame frame proper.known proper (above_parts files frame frame (proper-is-above files gathers frame proper)) in
    let to = leads files gathers body of_set pc instruction at frame frame after pairs e in
    subst (IsProper files) (same_Some to.after after (sym to.is ∙ e)) (paired_proper files gathers after to.after to.pairs)

-- ---- handlers

module _ (files : List ClassFile) (gathers : Gathers files None) (body : Body) (of_set : IsOfSet files body) where
  caught_inside : (class : Option ℕ) → IfSome class (IsClass files) → IsClass files (unwrap_or class throwable)
  caught_inside None inside = inl (omega arith)
  caught_inside (Some class) inside = inside

  caught : (guard : Guard) → Contains body.handlers guard → IsFresh files (Ref (class_type (unwrap_or guard.class throwable)))
  caught guard among =
      let IsKnownGuard : Guard → Type 0 = λ g. IfSome g.class (IsClass files) in
      let inside = All-contains IsKnownGuard body.handlers guard (All-from_recursion IsKnownGuard body.handlers of_set.handlers) among in
      class_fresh files (unwrap_or guard.class throwable) (caught_inside guard.class inside)

pub entered-is-proper : EnteredIsProper
entered-is-proper files gathers body of_set guard frame among proper =
    let operand = caught files gathers body of_set guard among in
    record {
      known = record { locals = proper.known.locals; stack = (operand.known, tt) };
      operands = (operand.allows, tt);
      pending = elim proper.pending [ inl pending ↦ inl pending | inr lacks ↦ inr (lacks.0, (operand.lacks, tt)) ];
    }

pub entered-is-above : EnteredIsAbove
entered-is-above files gathers body of_set guard upper lower among known proper is_above =
    let above = above_parts files upper lower is_above in
    let entered_lower = entered-is-proper files gathers body of_set guard lower among proper in
    let itself = above_parts files (entered guard lower) (entered guard lower) (proper-is-above files gathers (entered guard lower) entered_lower) in
    above_whole files (entered guard upper) (entered guard lower) (record { locals = above.locals; stack = itself.stack; pending = above.pending })

-- ---- the start

module _ (files : List ClassFile) (body : Body) (of_set : IsOfSet files body) where
  receiver_known : (instance constructs : Bool) → AllByRecursion (IsKnown files) (if instance then (if constructs then This else Ref (class_type body.class)) ∷ [] else [])
  receiver_known false constructs = tt
  receiver_known true true = (tt, tt)
  receiver_known true false = ((of_set.class, tt), tt)

  receiver_lacks : (instance constructs : Bool) → constructs ≡ false → LacksThis (if instance then (if constructs then This else Ref (class_type body.class)) ∷ [] else [])
  receiver_lacks false constructs e = tt
  receiver_lacks true true e = cc
  receiver_lacks true false e = (refl, tt)

  params_known : (params : List Kind) → AllByRecursion (IsKnown files) (map (parameter_of files) params)
  params_known [] = tt
  params_known (param ∷ params) = (parameter_known files param, params_known params)

  params_lack : (params : List Kind) → LacksThis (map (parameter_of files) params)
  params_lack [] = tt
  params_lack (param ∷ params) = (parameter_lacks files param, params_lack params)

  tops_known : (n : ℕ) → AllByRecursion (IsKnown files) (replicate n Top)
  tops_known zero = tt
  tops_known (suc n) = (tt, tops_known n)

  tops_lack : (n : ℕ) → LacksThis (replicate n Top)
  tops_lack zero = tt
  tops_lack (suc n) = (refl, tops_lack n)

  -- what holds of the receiver, of each parameter and of Top
  all_locals : (P : VType → Type 0) → AllByRecursion P (receiver_of files body) → AllByRecursion P (map (parameter_of files) body.params) → ((n : ℕ) → AllByRecursion P (replicate n Top))
      → AllByRecursion P (start_frame files body).locals
  all_locals P receiver params tops =
      let arguments = arguments_of files body in
      let rest = body.max_locals - length arguments in
      all_append P arguments (replicate rest Top) (all_append P (receiver_of files body) (map (parameter_of files) body.params) receiver params) (tops rest)

pub start-is-proper : StartIsProper
start-is-proper files gathers body of_set =
    let constructs = is_constructor files body in
    record {
      known = record {
        locals = all_locals files body of_set (IsKnown files) (receiver_known files body of_set body.instance constructs) (params_known files body of_set body.params) (tops_known files body of_set);
        stack = tt;
      };
      operands = tt;
      pending = elim (cases_Bool constructs) [
        | inl pending ↦ inl pending
        | inr never ↦ inr (
          all_locals files body of_set (λ type. is_this type ≡ false) (receiver_lacks files body of_set body.instance constructs never) (params_lack files body of_set body.params) (tops_lack files body of_set),
          tt,
        )
      ];
    }
