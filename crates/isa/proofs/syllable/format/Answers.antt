-- By the range of the opcode.
use mathlib.Core.Logic.{inl, inr}
use mathlib.Core.Path.{sym}
use native.Mathlib.Omega.{arith}
use Rattle.isa.specs.declared.Format.TheVariants.{Still, Two, One, Carry, Test, Select, Load, Store, Copy, Jump, Fork}
use Rattle.isa.proofs.Formats.{format_of_lem}
use Rattle.isa.proofs.syllable.format.Goals as goal

pub returns-in-0 : goal.returns-in-0
returns-in-0 c = sym (format_of_lem Still _ (omega arith))

pub returns-in-1-to-18 : goal.returns-in-1-to-18
returns-in-1-to-18 c = sym (format_of_lem Two _ (inl (omega arith, omega arith)))

pub returns-in-1-to-18-2 : goal.returns-in-1-to-18-2
returns-in-1-to-18-2 c = sym (format_of_lem Two _ (inr (omega arith, omega arith)))

pub returns-in-19-to-22 : goal.returns-in-19-to-22
returns-in-19-to-22 c = sym (format_of_lem One _ (omega arith, omega arith))

pub returns-in-23 : goal.returns-in-23
returns-in-23 c = sym (format_of_lem Carry _ (omega arith))

pub returns-in-40-to-49 : goal.returns-in-40-to-49
returns-in-40-to-49 c = sym (format_of_lem Test _ (omega arith, omega arith))

pub returns-in-50-to-51 : goal.returns-in-50-to-51
returns-in-50-to-51 c = sym (format_of_lem Select _ (omega arith, omega arith))

pub returns-in-52-to-56 : goal.returns-in-52-to-56
returns-in-52-to-56 c = sym (format_of_lem Load _ (omega arith, omega arith))

pub returns-in-57-to-59 : goal.returns-in-57-to-59
returns-in-57-to-59 c = sym (format_of_lem Store _ (omega arith, omega arith))

pub returns-in-60 : goal.returns-in-60
returns-in-60 c = sym (format_of_lem Copy _ (omega arith))

pub returns-in-61 : goal.returns-in-61
returns-in-61 c = sym (format_of_lem Jump _ (omega arith))

pub returns-in_default : goal.returns-in_default
returns-in_default c = sym (format_of_lem Fork _ (omega arith))
