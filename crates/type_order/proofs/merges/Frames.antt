-- The merge of two frames is the least frame above both, and it is proper where both are.
use Rattle.std.proofs.Common.{◌≡◌, ℕ, Bool, true, false, ◌||◌, inl, inr, nat_eq, if◌then◌else◌, List, Option, Some, None, option_map, option_and_then, refl, sym, ap, subst, ◌∙◌}
use Rattle.std.proofs.lemmas.Bool.{or_left}
use Rattle.std.proofs.lemmas.Option.{same_Some}
use Rattle.class_file.specs.declared.record.ClassFile.{ClassFile}
use Rattle.body_form.specs.declared.types.VFrame.{VFrame}
use Rattle.body_form.specs.declared.types.VType.{VType}
use Rattle.body_form.specs.declared.types.VType.TheVariants.{Top, Int, Null, Ref, New, This}
use Rattle.class_tree.specs.Merge.{merge}
use Rattle.jvm_model.specs.TypesFrames.{may_be_local, may_be_operand, merge_lists, IsAbove}
use Rattle.jvm_model.specs.TypesRules.{is_this}
use Rattle.type_order.specs.OrderLaws.{MergesAreAbove, MergesAreLeast, AboveGoesOn, AboveIsOneWay, ProperIsAbove, MergeIsProper}
use Rattle.type_order.proofs.merges.ListMerges.{AreOver, over_from, over_to, over_allows, merged_above, merged_keeps, merged_least, over_goes_on, over_one_way, over_itself, locals_downward, operands_downward, all_locals}

-- ---- tests

or_twice : (a b : Bool) → ((a || b) || a) ≡ (a || b)
or_twice true b = refl
or_twice false true = refl
or_twice false false = refl

or_again : (a b : Bool) → ((a || b) || b) ≡ (a || b)
or_again true b = refl
or_again false true = refl
or_again false false = refl

or_both : (u a b : Bool) → (u || a) ≡ u → (u || b) ≡ u → (u || (a || b)) ≡ u
or_both true a b first second = refl
or_both false a b first second = ap (λ x. x || b) first ∙ second

or_goes_on : (a b c : Bool) → (a || b) ≡ a → (b || c) ≡ b → (a || c) ≡ a
or_goes_on true b c first second = refl
or_goes_on false b c first second = ap (λ x. x || c) (sym first) ∙ second ∙ first

or_one_way : (a b : Bool) → (a || b) ≡ a → (b || a) ≡ b → a ≡ b
or_one_way true true first second = refl
or_one_way true false first second = second
or_one_way false b first second = sym first

or_itself : (a : Bool) → (a || a) ≡ a
or_itself true = refl
or_itself false = refl

-- ---- the parts of a merge

record HasParts (first second : Option (List VType)) (third : Bool) (frame : VFrame) : Type 0 where
  locals : first ≡ Some frame.locals
  stack : second ≡ Some frame.stack
  pending : third ≡ frame.pending

abbrev joined : Option (List VType) → Option (List VType) → Bool → Option VFrame
joined locals stack pending = option_and_then (λ (ls : List VType). option_map (λ (ss : List VType). record { locals = ls; stack = ss; pending = pending }) stack) locals

parts : (locals stack : Option (List VType)) (pending : Bool) (frame : VFrame) → joined locals stack pending ≡ Some frame → HasParts locals stack pending frame
parts None stack pending frame e = cc
parts (Some ls) None pending frame e = cc
parts (Some ls) (Some ss) pending frame e =
    let same : VFrame = record { locals = ls; stack = ss; pending = pending } in
    let is = same_Some same frame e in
    record { locals = ap (λ (f : VFrame). Some f.locals) is; stack = ap (λ (f : VFrame). Some f.stack) is; pending = ap (λ (f : VFrame). f.pending) is }

whole : (locals stack : Option (List VType)) (pending : Bool) (frame : VFrame) → HasParts locals stack pending frame → joined locals stack pending ≡ Some frame
whole locals stack pending frame is =
    ap (λ o. joined o stack pending) is.locals ∙ ap (λ o. joined (Some frame.locals) o pending) is.stack ∙ ap (joined (Some frame.locals) (Some frame.stack)) is.pending

-- ---- frames above frames

-- one frame is above another, part by part
pub record Above (files : List ClassFile) (upper lower : VFrame) : Type 0 where
  pub locals : AreOver files may_be_local upper.locals lower.locals
  pub stack : AreOver files may_be_operand upper.stack lower.stack
  pub pending : (upper.pending || lower.pending) ≡ upper.pending

module _ (files : List ClassFile) where
  pub above_parts : (upper lower : VFrame) → IsAbove files upper lower → Above files upper lower
  above_parts upper lower above =
      let is = parts (merge_lists files may_be_local upper.locals lower.locals) (merge_lists files may_be_operand upper.stack lower.stack) (upper.pending || lower.pending) upper above in
      record { locals = over_from files may_be_local upper.locals lower.locals is.locals; stack = over_from files may_be_operand upper.stack lower.stack is.stack; pending = is.pending }

  pub above_whole : (upper lower : VFrame) → Above files upper lower → IsAbove files upper lower
  above_whole upper lower above =
      whole (merge_lists files may_be_local upper.locals lower.locals) (merge_lists files may_be_operand upper.stack lower.stack) (upper.pending || lower.pending) upper
      (record { locals = over_to files may_be_local upper.locals lower.locals above.locals; stack = over_to files may_be_operand upper.stack lower.stack above.stack; pending = above.pending })

-- ---- merges of frames

pub merges-are-above : MergesAreAbove
merges-are-above files gathers f g h first second e =
    let is = parts (merge_lists files may_be_local f.locals g.locals) (merge_lists files may_be_operand f.stack g.stack) (f.pending || g.pending) h e in
    let locals = merged_above files may_be_local gathers f.locals g.locals h.locals first.locals second.locals is.locals in
    let stack = merged_above files may_be_operand gathers f.stack g.stack h.stack first.stack second.stack is.stack in (
      above_whole files h f (record { locals = locals.first; stack = stack.first; pending = subst (λ b. (b || f.pending) ≡ b) is.pending (or_twice f.pending g.pending) }),
      above_whole files h g (record { locals = locals.second; stack = stack.second; pending = subst (λ b. (b || g.pending) ≡ b) is.pending (or_again f.pending g.pending) }),
      record { locals = locals.known; stack = stack.known },
    )

pub merges-are-least : MergesAreLeast
merges-are-least files gathers f g upper first second known one two =
    let over_f = above_parts files upper f one in
    let over_g = above_parts files upper g two in
    let locals = merged_least files may_be_local gathers (locals_downward files gathers) upper.locals f.locals g.locals known.locals first.locals second.locals over_f.locals over_g.locals in
    let stack = merged_least files may_be_operand gathers (operands_downward files gathers) upper.stack f.stack g.stack known.stack first.stack second.stack over_f.stack over_g.stack in
    let merged : VFrame = record { locals = locals.0; stack = stack.0; pending = f.pending || g.pending } in (
      merged,
      whole (merge_lists files may_be_local f.locals g.locals) (merge_lists files may_be_operand f.stack g.stack) (f.pending || g.pending) merged
          (record { locals = locals.1; stack = stack.1; pending = refl }),
      above_whole files upper merged (record { locals = locals.2; stack = stack.2; pending = or_both upper.pending f.pending g.pending over_f.pending over_g.pending }),
    )

pub above-goes-on : AboveGoesOn
above-goes-on files gathers f g h first second third one two =
    let over_g = above_parts files f g one in
    let over_h = above_parts files g h two in
    above_whole files f h (record {
      locals = over_goes_on files may_be_local gathers f.locals g.locals h.locals first.locals second.locals third.locals over_g.locals over_h.locals;
      stack = over_goes_on files may_be_operand gathers f.stack g.stack h.stack first.stack second.stack third.stack over_g.stack over_h.stack;
      pending = or_goes_on f.pending g.pending h.pending over_g.pending over_h.pending;
    })

pub above-is-one-way : AboveIsOneWay
above-is-one-way files gathers f g first second one two =
    let over_g = above_parts files f g one in
    let over_f = above_parts files g f two in
    let locals = over_one_way files may_be_local gathers f.locals g.locals first.locals second.locals over_g.locals over_f.locals in
    let stack = over_one_way files may_be_operand gathers f.stack g.stack first.stack second.stack over_g.stack over_f.stack in
    let pending = or_one_way f.pending g.pending over_g.pending over_f.pending in
    ap (λ ls. record f { locals = ls }) locals ∙ ap (λ ss. record { locals = g.locals; stack = ss; pending = f.pending }) stack ∙ ap (λ b. record g { pending = b }) pending

pub proper-is-above : ProperIsAbove
proper-is-above files gathers f proper =
    above_whole files f f (record {
      locals = over_itself files may_be_local gathers f.locals proper.known.locals (all_locals files gathers f.locals);
      stack = over_itself files may_be_operand gathers f.stack proper.known.stack proper.operands;
      pending = or_itself f.pending;
    })

-- ---- merges of proper frames

module _ (files : List ClassFile) where
  new_lacks : (b : Bool) (pc : ℕ) → is_this (if b then New pc else Top) ≡ false
  new_lacks true pc = refl
  new_lacks false pc = refl

  merge_lacks : (a b : VType) → is_this a ≡ false → is_this (merge files a b) ≡ false
  merge_lacks Int Int e = refl
  merge_lacks Null Null e = refl
  merge_lacks Null (Ref t) e = refl
  merge_lacks (Ref s) Null e = refl
  merge_lacks (Ref s) (Ref t) e = refl
  merge_lacks (New p) (New q) e = new_lacks (nat_eq p q) p
  merge_lacks This b e = cc
  merge_lacks a b e = refl

pub merge-is-proper : MergeIsProper
merge-is-proper files gathers f g h first second e =
    let is = parts (merge_lists files may_be_local f.locals g.locals) (merge_lists files may_be_operand f.stack g.stack) (f.pending || g.pending) h e in
    let above = merges-are-above files gathers f g h first.known second.known e in
    let over = above_parts files h f above.0 in
    record {
      known = above.2;
      operands = over_allows files may_be_operand h.stack f.stack over.stack;
      pending = elim first.pending [
        | inl pending ↦ inl (sym is.pending ∙ or_left f.pending g.pending pending)
        | inr lacks ↦ inr (
          merged_keeps files may_be_local (λ type. is_this type ≡ false) (merge_lacks files) f.locals g.locals h.locals lacks.0 is.locals,
          merged_keeps files may_be_operand (λ type. is_this type ≡ false) (merge_lacks files) f.stack g.stack h.stack lacks.1 is.stack,
        )
      ];
    }
