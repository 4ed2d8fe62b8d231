-- The conversions of an int to a smaller type and back (JVMS 2.11.4).
use Rattle.std.specs.Prelude.{ℤ, pos, FitsSigned}
use Rattle.std.specs.Int.{w8, w16, int_wrap, FitsUnsigned}
use Rattle.cell_num.specs.Cells.{low_cell}
use Rattle.cell_num.specs.declared.conversions.Conv.{Conv}
use Rattle.cell_num.specs.declared.conversions.Conv.TheVariants.{Byte, Char, Short}

-- what 8 or 16 bits keep of the number, with its sign or, for a char, without
abbrev pub converted : Conv → ℤ → ℤ
converted Byte number = int_wrap w8 number
converted Char number = pos (low_cell number)
converted Short number = int_wrap w16 number

-- the number is one of the smaller type
abbrev pub IsOfType : Conv → ℤ → Type 0
IsOfType Byte number = FitsSigned w8 number
IsOfType Char number = FitsUnsigned w16 number
IsOfType Short number = FitsSigned w16 number
