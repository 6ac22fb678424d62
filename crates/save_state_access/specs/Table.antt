-- The registers of the service: the fields that they are made of.
use Rattle.std.specs.Prelude.{ℕ, Option, Some, None}
use Rattle.smm_base.specs.declared.registers.Register.{Register}
use Rattle.smm_base.specs.declared.registers.Register.TheVariants as registers
use Rattle.smm_base.specs.Register.{register_numbered}
use Rattle.save_state_map.specs.declared.field.Field.TheVariants as fields
use Rattle.save_state_access.specs.declared.table.Parts.{Parts}
use Rattle.save_state_access.specs.declared.table.Parts.TheVariants.{Missing, One, Pair}

-- the fields that a register is made of, in each map that has them (this project's own choice)
abbrev pub parts_of : Register → Parts
parts_of registers.GdtBase = Pair fields.GdtBaseLow fields.GdtBaseHigh
parts_of registers.IdtBase = Pair fields.IdtBaseLow fields.IdtBaseHigh
parts_of registers.LdtBase = Pair fields.LdtBaseLow fields.LdtBaseHigh
parts_of registers.GdtLimit = Missing
parts_of registers.IdtLimit = Missing
parts_of registers.LdtLimit = Missing
parts_of registers.LdtInfo = Missing
parts_of registers.Es = One fields.Es
parts_of registers.Cs = One fields.Cs
parts_of registers.Ss = One fields.Ss
parts_of registers.Ds = One fields.Ds
parts_of registers.Fs = One fields.Fs
parts_of registers.Gs = One fields.Gs
parts_of registers.LdtrSel = One fields.Ldtr
parts_of registers.TrSel = One fields.Tr
parts_of registers.Dr7 = One fields.Dr7
parts_of registers.Dr6 = One fields.Dr6
parts_of registers.R8 = One fields.R8
parts_of registers.R9 = One fields.R9
parts_of registers.R10 = One fields.R10
parts_of registers.R11 = One fields.R11
parts_of registers.R12 = One fields.R12
parts_of registers.R13 = One fields.R13
parts_of registers.R14 = One fields.R14
parts_of registers.R15 = One fields.R15
parts_of registers.Rax = One fields.Rax
parts_of registers.Rbx = One fields.Rbx
parts_of registers.Rcx = One fields.Rcx
parts_of registers.Rdx = One fields.Rdx
parts_of registers.Rsp = One fields.Rsp
parts_of registers.Rbp = One fields.Rbp
parts_of registers.Rsi = One fields.Rsi
parts_of registers.Rdi = One fields.Rdi
parts_of registers.Rip = One fields.Rip
parts_of registers.Rflags = One fields.Rflags
parts_of registers.Cr0 = One fields.Cr0
parts_of registers.Cr3 = One fields.Cr3
parts_of registers.Cr4 = One fields.Cr4
parts_of registers.Io = Missing
parts_of registers.Lma = Missing
parts_of registers.ProcessorId = Missing
parts_of registers.AutoHalt = One fields.AutoHalt
parts_of registers.IoRestart = One fields.IoRestart

-- the same by the register's number; no number stands for two registers
abbrev pub parts_at : Option Register → Parts
parts_at None = Missing
parts_at (Some register) = parts_of register

abbrev pub parts_numbered : ℕ → Parts
parts_numbered number = parts_at (register_numbered number)
