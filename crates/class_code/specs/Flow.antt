-- Where the instructions of some code lead, with its exception table.
use Rattle.std.specs.Prelude.{Bool, true, false, List, map}
use Rattle.code_reach.specs.declared.row.Row.{Row}
use Rattle.code_reach.specs.Reached.{Way, Ways, code_ways as ways_of}
use Rattle.class_file.specs.declared.record.HandlerRow.{HandlerRow}
use Rattle.class_code.specs.declared.insn.Insn.{Insn}
use Rattle.class_code.specs.declared.insn.Insn.TheVariants.{Goto, Switch, Return, Throw}
use Rattle.class_code.specs.Code.{Insns, targets}

-- it goes on after itself
abbrev pub goes_on : Insn → Bool
goes_on (Goto target) = false
goes_on (Switch form default rows) = false
goes_on (Return kind) = false
goes_on Throw = false
goes_on _ = true

-- where an instruction leads of itself
abbrev pub insn_way : Insn → Way
insn_way insn = record { goes_on = goes_on insn; targets = targets insn }

-- a row of an exception table without the class that it catches
abbrev pub row_of : HandlerRow → Row
row_of row = record { start = row.start; end = row.end; target = row.target }

-- the ways of code with this exception table
abbrev pub code_ways : List HandlerRow → Insns → Ways
code_ways rows insns = ways_of insn_way (map row_of rows) insns
