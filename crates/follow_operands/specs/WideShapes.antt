-- What holds a value in a body whose whole numbers each have two cells.
use Rattle.image_instr.specs.declared.insn.Kind.{Kind}
use Rattle.image_instr.specs.declared.insn.Kind.TheVariants as kind
use Rattle.jvm_model.specs.State.{Value, Whole}

-- two cells of a whole number, else a reference
abbrev pub kind_of_value : Value → Kind
kind_of_value (Whole number) = kind.Two
kind_of_value value = kind.Ref
