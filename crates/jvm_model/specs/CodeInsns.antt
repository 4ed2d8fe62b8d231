-- The instructions of code, where it is decoded.
use Rattle.std.specs.Prelude.{Option, Some, None, Result, Ok, Err}
use Rattle.class_code.specs.declared.refusal.CodeRefusal.{CodeRefusal}
use Rattle.class_code.specs.Code.{Insns}

abbrev pub insns_in : Result Insns CodeRefusal → Option Insns
insns_in (Ok insns) = Some insns
insns_in (Err why) = None
