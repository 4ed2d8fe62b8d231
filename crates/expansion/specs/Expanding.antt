-- What `expand` appends, and on what of its surroundings an expansion hangs.
use Rattle.std.specs.Prelude.{◌<◌, ◌≤◌, ◌^◌, if◌then◌else◌, List, [], ◌∷◌, ◌++◌, map, length, Option}
use Rattle.class_pool.specs.declared.descriptor.Kind.{Kind as DeclaredKind}
use Rattle.class_pool.specs.declared.types.TypeBase.TheVariants as base
use Rattle.insn_form.specs.declared.ElementKind.{ElementKind}
use Rattle.image_instr.specs.declared.insn.MInsn.{MInsn}
use Rattle.image_instr.specs.declared.insn.MInsn.TheVariants as insns_of
use Rattle.body_form.specs.declared.op.Op.{Op}
use Rattle.body_form.specs.declared.op.Op.TheVariants as op
use Rattle.body_form.specs.declared.types.VType.TheVariants as known
use Rattle.jvm_model.specs.WidthsShapes.{Point}
use Rattle.jvm_model.specs.ImageExpansion.{Emitted, Locals, Ids, alone, top_of, second_of, width_of, element_of, read_element, is_small_element, cut_to_one, expanded}
use Rattle.expansion.specs.declared.around.Around.{Around}
use Rattle.expansion.specs.declared.around.Numbers.{Numbers}

-- ---- what is appended

-- machine instructions without the rows of switches
abbrev pub insns : List Emitted → List MInsn
insns list = map (λ (emitted : Emitted). emitted.0) list

-- each local has these numbers
abbrev pub locals_of : Numbers → Locals
locals_of numbers = record { slot = λ local. numbers.slot; cell = λ local. numbers.cell; width = λ local. numbers.width }

-- all that is named has these numbers
abbrev pub ids_of : Numbers → Ids
ids_of numbers =
    record {
      static = λ member. numbers.place;
      field = λ member. numbers.place;
      type = λ type. numbers.type_id;
      method = λ member. numbers.method;
      selector = λ used. numbers.selector;
    }

-- a point that is all that is seen
abbrev pub point_of : Around → Point
point_of around =
    record {
      types = known.Top ∷ (if around.boolean then known.Ref (record { dims = 1; base = base.Boolean }) else known.Top) ∷ [];
      before = around.before;
      after = around.after ∷ [];
    }

abbrev pub expansion_of : Around → Numbers → Option DeclaredKind → Op → List MInsn
expansion_of around numbers result instruction = insns (expanded (locals_of numbers) (ids_of numbers) (λ pc. numbers.target) result (point_of around) instruction)

-- what reads and writes an element
abbrev pub element_loaded : Around → ElementKind → List MInsn
element_loaded around k = insns (alone (insns_of.ALoad (element_of k) (width_of (top_of around.before))) ++ read_element k around.boolean around.after)

abbrev pub element_stored : Around → ElementKind → List MInsn
element_stored around k = insns (cut_to_one (is_small_element k) (top_of around.before) ++ alone (insns_of.AStore (element_of k) (width_of (second_of around.before))))

-- at most 255 arguments (JVMS 4.3.3), and as many rows as a count of two bytes counts
abbrev pub KeepsCounts : Op → Type 0
KeepsCounts (op.Switch form default rows) = length rows < 2 ^ 16
KeepsCounts (op.CallVirtual used) = length used.descriptor.params ≤ 255
KeepsCounts (op.CallSpecial used) = length used.descriptor.params ≤ 255
KeepsCounts (op.CallStatic used) = length used.descriptor.params ≤ 255
KeepsCounts (op.CallInterface used) = length used.descriptor.params ≤ 255
KeepsCounts instruction = Unit {0}
