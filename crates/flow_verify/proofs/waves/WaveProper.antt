-- What a wave sends is proper.
use Rattle.std.proofs.Common.{◌≡◌, ℕ, ◌<◌, List, [], ◌∷◌, length, get_or, Option, Some, None, IfSome, option_map, sym, subst}
use Rattle.std.specs.List.{AllByRecursion, flat_map}
use Rattle.std.proofs.lemmas.Option.{none-some, same_Some}
use Rattle.class_file.specs.declared.record.ClassFile.{ClassFile}
use Rattle.class_tree.specs.Tree.{Gathers}
use Rattle.body_form.specs.declared.op.Op.{Op}
use Rattle.body_form.specs.declared.body.Body.{Body}
use Rattle.body_form.specs.declared.types.VFrame.{VFrame}
use Rattle.body_form.specs.Flow.{pc_at}
use Rattle.jvm_model.specs.TypesNames.{IsOfSet}
use Rattle.jvm_model.specs.TypesRight.{Sent}
use Rattle.type_order.specs.OrderLaws.{IsProper}
use Rattle.type_rounds.proofs.tables.Lists.{all_append, all_filter}
use Rattle.type_rounds.proofs.Rounds.{ordered}
use Rattle.type_rounds.proofs.tables.SentFrames.{sent_one}
use Rattle.type_rounds.proofs.tables.ProperTables.{sends_proper}
use Rattle.type_table.specs.Frames.{Stored, frame_of}
use Rattle.flow_verify.specs.declared.frames.Known.{Known}
use Rattle.flow_verify.specs.KnownFrames.{Entries, frame_at, IsSound, AreSound}
use Rattle.flow_verify.specs.Waves.{sent_at, is_received, sent_in}
use Rattle.flow_verify.proofs.waves.Positions.{at_position, op_of_position}
use Rattle.flow_verify.proofs.waves.SentAt.{sent_there}

module _ (files : List ClassFile) (gathers : Gathers files None) (body : Body) (of_set : IsOfSet files body) (stored : Stored) (entries : Entries) (sound : AreSound files stored entries) where
  abbrev Proper : Sent → Type 0
  Proper sent = IsProper files sent.frame

  proper_with : (o : Option Known) (frame : VFrame) → IfSome o (λ known. IsSound files stored known.frame) → option_map (λ (k : Known). frame_of stored k.frame) o ≡ Some frame → IsProper files frame
  proper_with None frame is e = absurd (none-some frame e)
  proper_with (Some known) frame is e = subst (IsProper files) (same_Some (frame_of stored known.frame) frame e) is.proper

  proper_at : (position : ℕ) (frame : VFrame) → frame_at stored entries position ≡ Some frame → IsProper files frame
  proper_at position frame e = proper_with (get_or entries position None) frame (sound position) e

  one_proper : (position : ℕ) → position < length body.ops → AllByRecursion Proper (sent_at files body stored entries position)
  one_proper position within =
      let (instruction, here) = at_position body.ops position within in
      let x : ℕ × Op = (pc_at body.ops position, instruction) in
      subst (AllByRecursion Proper) (sym (sent_there files body stored entries position x here))
      (sent_one files body (λ pc. frame_at stored entries position) Proper x
      (sends_proper ordered files gathers body of_set (λ pc. frame_at stored entries position) (λ pc frame e. proper_at position frame e) x (op_of_position body.ops of_set.rise position x here)))

  flat_proper : (wave : List ℕ) → AllByRecursion (λ position. position < length body.ops) wave → AllByRecursion Proper (flat_map (sent_at files body stored entries) wave)
  flat_proper [] within = tt
  flat_proper (position ∷ wave) within =
      all_append Proper (sent_at files body stored entries position) (flat_map (sent_at files body stored entries) wave) (one_proper position within.0) (flat_proper wave within.1)

  pub wave_proper : (wave : List ℕ) → AllByRecursion (λ position. position < length body.ops) wave → AllByRecursion (λ sent. IsProper files sent.frame) (sent_in files body stored entries wave)
  wave_proper wave within = all_filter Proper (is_received body.ops) (flat_map (sent_at files body stored entries) wave) (flat_proper wave within)
