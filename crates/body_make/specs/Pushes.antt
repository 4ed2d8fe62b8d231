-- What an initialiser holds between its instructions, and what one of them does.
use Rattle.std.specs.Prelude.{◌≡◌, ℕ, ◌∷◌, Option, Some, None, option_map, option_and_then, if◌then◌else◌}
use Rattle.class_file.specs.declared.record.ClassFile.{ClassFile}
use Rattle.class_file.specs.declared.record.Member.{Member}
use Rattle.class_code.specs.declared.insn.Insn.{Insn}
use Rattle.class_code.specs.Code.{Insns}
use Rattle.body_make.specs.declared.initialisers.Pushed.{Pushed}
use Rattle.body_make.specs.declared.initialisers.Pushed.TheVariants as code
use Rattle.body_make.specs.declared.initialisers.Next.{Next}
use Rattle.body_make.specs.declared.initialisers.Next.TheVariants.{Holds, Returns, Fails}
use Rattle.jvm_model.specs.Initialisers.{Pushed as Held, Number, Null, fails_after_return, fails_from}
use Rattle.jvm_model.specs.Linking.{is_initialiser, initialiser_fault}

abbrev pub pushed_of : Pushed → Held
pushed_of (code.Number value) = Number value
pushed_of code.Null = Null

-- what the instruction of a pc does, where this is held before it and these come after it
abbrev pub GoesOn : ClassFile → ℕ → Option Held → ℕ × Insn → Insns → Next → Type 0
GoesOn file end held x insns (Holds next) = fails_from file end held (x ∷ insns) ≡ fails_from file end (option_map pushed_of next) insns
GoesOn file end held x insns Returns = fails_from file end held (x ∷ insns) ≡ fails_after_return insns
GoesOn file end held x insns Fails = fails_from file end held (x ∷ insns) ≡ Some x.0

-- the first pc at which the code of a method is of another form, where it is the initialiser of its class
abbrev pub method_fault : ClassFile → Member → Option ℕ
method_fault file m = if is_initialiser file.pool m then option_and_then (initialiser_fault file) m.code else None
