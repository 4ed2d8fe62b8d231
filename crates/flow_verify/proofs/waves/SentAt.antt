-- What the instruction at one position sends, by its frame and its rule.
use Rattle.std.proofs.Common.{◌≡◌, ℕ, ◌<◌, List, [], length, get_or, Option, Some, None, IfSome, option_map, option_and_then, slice_get, refl, sym, ap, subst, ◌∙◌, arith}
use Rattle.std.specs.Option.{option_map_or}
use Rattle.std.proofs.lemmas.List.{get_or_default}
use Rattle.std.proofs.lemmas.Option.{none-some, same_Some, slice_get_read, some_pair_parts}
use Rattle.class_file.specs.declared.record.ClassFile.{ClassFile}
use Rattle.body_form.specs.declared.op.Op.{Op}
use Rattle.body_form.specs.declared.body.Body.{Body}
use Rattle.body_form.specs.declared.types.VFrame.{VFrame}
use Rattle.body_form.specs.Flow.{Ops}
use Rattle.jvm_model.specs.TypesRules.{frame_after}
use Rattle.jvm_model.specs.TypesRight.{sent_from}
use Rattle.jvm_model.specs.TypesRounds.{sent_by}
use Rattle.type_table.specs.Frames.{Stored, IsFrame, frame_of}
use Rattle.type_table.specs.declared.store.FrameId.{FrameId}
use Rattle.flow_verify.specs.declared.frames.Known.{Known}
use Rattle.flow_verify.specs.Finding.{IsOption, after_at}
use Rattle.flow_verify.specs.KnownFrames.{Entries, frame_at}
use Rattle.flow_verify.specs.Waves.{sent_at, IsUnruled}

pub at_index : (ops slice : Ops) (position : ℕ) (x : ℕ × Op) → position < length ops → slice ≡ ops → x ≡ get_or slice position x → slice_get ops position ≡ Some x
at_index ops slice position x within same is = slice_get_read ops (length ops) position x refl within (is ∙ ap (λ (list : Ops). get_or list position x) same)

module _ (files : List ClassFile) (body : Body) (stored : Stored) (entries : Entries) (position : ℕ) (x : ℕ × Op) (here : slice_get body.ops position ≡ Some x) where
  pub sent_there : sent_at files body stored entries position ≡ sent_by files body (λ pc. frame_at stored entries position) x
  sent_there = ap (λ (o : Option (ℕ × Op)). option_map_or (sent_by files body (λ pc. frame_at stored entries position)) o []) here

  -- where a frame is known
  module _ (frame : VFrame) (has : frame_at stored entries position ≡ Some frame) where
    sent_with_rule : sent_at files body stored entries position ≡ option_map_or (sent_from body x.0 frame) (frame_after files body x.0 x.1 frame) []
    sent_with_rule = sent_there ∙ ap (λ (o : Option VFrame). option_map_or (λ f. option_map_or (sent_from body x.0 f) (frame_after files body x.0 x.1 f) []) o []) has

    pub sent_is : (after : VFrame) → frame_after files body x.0 x.1 frame ≡ Some after → sent_at files body stored entries position ≡ sent_from body x.0 frame after
    sent_is after rule = sent_with_rule ∙ ap (λ (o : Option VFrame). option_map_or (sent_from body x.0 frame) o []) rule

    pub sent_unruled : frame_after files body x.0 x.1 frame ≡ None → sent_at files body stored entries position ≡ []
    sent_unruled rule = sent_with_rule ∙ ap (λ (o : Option VFrame). option_map_or (sent_from body x.0 frame) o []) rule

    pub is_unruled : frame_after files body x.0 x.1 frame ≡ None → IsUnruled files body stored entries position x.0
    is_unruled rule = record { instruction = x.1; frame = frame; here = here; has = has; fails = rule }

    pub is_ruled : (after : VFrame) → frame_after files body x.0 x.1 frame ≡ Some after → (pc : ℕ) → IsUnruled files body stored entries position pc → ⊥
    is_ruled after rule pc un =
        let same : x ≡ (pc, un.instruction) = same_Some x (pc, un.instruction) (sym here ∙ un.here) in
        let same_frame : un.frame ≡ frame = same_Some un.frame frame (sym un.has ∙ has) in
        let fails : frame_after files body x.0 x.1 frame ≡ None =
        ap (λ (y : ℕ × Op). frame_after files body y.0 y.1 frame) same ∙ ap (λ (f : VFrame). frame_after files body pc un.instruction f) (sym same_frame) ∙ un.fails
        in
        none-some after (sym fails ∙ rule)

-- at a position one pc alone may be that of a rule that does not hold
pub one_unruled : (files : List ClassFile) (body : Body) (stored : Stored) (entries : Entries) (position low pc : ℕ) → pc < low → IsUnruled files body stored entries position low
    → IsUnruled files body stored entries position pc → ⊥
one_unruled files body stored entries position low pc less first second =
    let at : low ≡ pc = (some_pair_parts low pc first.instruction second.instruction (sym first.here ∙ second.here)).0 in
    omega (arith, less, at)

-- an entry that the code reads
pub entry_read : (entries : Entries) (position n : ℕ) (o : Option Known) → length entries ≡ n → position < n → o ≡ get_or entries position o → get_or entries position None ≡ o
entry_read entries position n o count within is = let inside : position < length entries = omega (arith, within, count) in get_or_default entries position None o inside ∙ sym is

-- where an entry is there
pub frame_known : (stored : Stored) (entries : Entries) (position : ℕ) (known : Known) → get_or entries position None ≡ Some known → frame_at stored entries position ≡ Some (frame_of stored known.frame)
frame_known stored entries position known is = ap (λ (o : Option Known). option_map (λ (k : Known). frame_of stored k.frame) o) is

pub at_known : (P : Known → Type 0) (o : Option Known) (known : Known) → o ≡ Some known → IfSome o P → P known
at_known P o known is all = let Q : Option Known → Type 0 = λ p. IfSome p P in subst Q is all

-- what the rule of the code found
module _ (files : List ClassFile) (body : Body) (stored : Stored) (position : ℕ) (x : ℕ × Op) (here : slice_get body.ops position ≡ Some x) (before : VFrame) (o : Option FrameId) (found : IsOption stored o (after_at files body position before)) where
  after_is : option_map (frame_of stored) o ≡ frame_after files body x.0 x.1 before
  after_is = found.is ∙ ap (λ (y : Option (ℕ × Op)). option_and_then (λ z. frame_after files body z.0 z.1 before) y) here

  pub rule_found : (id : FrameId) → o ≡ Some id → IsFrame stored id × (frame_after files body x.0 x.1 before ≡ Some (frame_of stored id))
  rule_found id is =
      let P : Option FrameId → Type 0 = λ p. IfSome p (IsFrame stored) in
      (subst P is found.there, sym after_is ∙ ap (option_map (frame_of stored)) is)

  pub rule_fails : o ≡ None → frame_after files body x.0 x.1 before ≡ None
  rule_fails is = sym after_is ∙ ap (option_map (frame_of stored)) is
