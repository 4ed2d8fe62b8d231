-- The machine instructions of an instruction name what is there, and are run.
use Rattle.std.proofs.Common.{◌≡◌, ℕ, true, false, [], map, Some, refl, sym, subst}
use Rattle.std.specs.Prelude.{IsSome}
use Rattle.std.proofs.lemmas.Bool.{false≢true}
use Rattle.image_instr.specs.declared.insn.MInsn.TheVariants as insns
use Rattle.image_instr.specs.declared.signature.Sig.{Sig}
use Rattle.image_form.specs.declared.record.Method.{Method}
use Rattle.body_form.specs.declared.body.Body.{Body}
use Rattle.body_form.specs.declared.op.Op.{Op}
use Rattle.body_form.specs.declared.op.Op.TheVariants as op
use Rattle.jvm_model.specs.ImageEmission.{Source, method_of, offset_of}
use Rattle.jvm_model.specs.ImageExpansion.{alone, kind_in, top_of, width_of, write_as, moved_row}
use Rattle.jvm_model.specs.TypesRules.{op_at}
use Rattle.jvm_model.specs.WidthsFrame.{signature_used}
use Rattle.jvm_model.specs.WidthsShapes.{Point, point_at}
use Rattle.type_rounds.proofs.tables.Starts.{holds_at}
use Rattle.type_safety.specs.Facts.{Named}
use Rattle.set_image.specs.LinkRefusals.{is_built}
use Rattle.match_states.specs.Setting.{Setting, source_for, id_for}
use Rattle.match_code.specs.Standing.{emitted_at}
use Rattle.image_rules.specs.Parts.{IsOfAccepted, ExpansionsNameWell}
use Rattle.image_rules.proofs.CalledSignatures.{IsSigned, static_signed}
use Rattle.image_rules.proofs.names.Locals.{load_well, count_well, store_well}
use Rattle.image_rules.proofs.names.Plain.{AreWell, IsWell, both, constant_well, restack_well, unary_well, switch_well, return_well, read_well, write_well, call_well}
use Rattle.image_rules.proofs.names.Statics.{static_there}

module _ (setting : Setting) (body : Body) (is : IsOfAccepted setting body) (pc : ℕ) where
  abbrev source : Source
  source = source_for setting body

  abbrev method : Method
  method = method_of source

  abbrev point : Point
  point = point_at source.body.ops source.widths source.table pc

  signed_well : (id : ℕ) (sig : Sig) → IsSigned setting.image id sig → IsWell setting.image method (insns.CallS id, [])
  signed_well id sig signed = (subst IsSome (sym signed.there) refl, signed.run)

  expansion_well : (instruction : Op) → op_at body.ops pc ≡ Some instruction → is_built instruction ≡ true → Named setting.world body.class instruction → AreWell setting.image method (emitted_at setting body pc instruction)
  expansion_well op.Nop at built named = tt
  expansion_well (op.Const value) at built named = (constant_well setting.image method value (top_of point.after), tt)
  expansion_well (op.Load k local) at built named = (load_well setting body is pc local k at, tt)
  expansion_well (op.Store k local) at built named = store_well setting body is pc local k at
  expansion_well (op.Inc local amount) at built named = (count_well setting body is pc local amount at, tt)
  expansion_well (op.Stack f) at built named = restack_well setting.image method f point.before
  expansion_well (op.Bin operation) at built named = ((tt, refl), tt)
  expansion_well (op.Unary operation) at built named = unary_well setting.image method operation (top_of point.before) (top_of point.after)
  expansion_well (op.If condition target) at built named = ((tt, refl), tt)
  expansion_well (op.IfCmp condition target) at built named = ((tt, refl), tt)
  expansion_well (op.IfRef condition target) at built named = ((tt, refl), tt)
  expansion_well (op.Goto target) at built named = ((tt, refl), tt)
  expansion_well (op.Switch f default rows) at built named =
      (switch_well setting.image method f (width_of (top_of point.before)) (offset_of source default) rows (map (moved_row (offset_of source)) rows), tt)
  expansion_well (op.Return k) at built named = return_well setting.image method source.body.result (top_of point.before) k
  expansion_well (op.GetStatic used) at built named = ((static_there setting is.compiled used named, refl), read_well setting.image method used.kind (top_of point.after))
  expansion_well (op.PutStatic used) at built named =
      both setting.image method (write_as used.kind (top_of point.before)) (alone (insns.PutS (kind_in used.kind) (source.ids.static used.field)))
      (write_well setting.image method used.kind (top_of point.before)) ((static_there setting is.compiled used named, refl), tt)
  expansion_well (op.CallStatic used) at built named =
      call_well setting.image method used point (insns.CallS (source.ids.method used.method))
      (signed_well (id_for setting used.method) (signature_used false used) (static_signed setting is.compiled used named))
  expansion_well instruction at built named = absurd (false≢true built)

pub expansions_name_well : ExpansionsNameWell
expansions_name_well setting body is pc instruction at =
    expansion_well setting body is pc instruction at (holds_at (λ x. is_built x.1 ≡ true) body.ops is.built pc instruction at) (is.facts.named pc instruction at)
