-- The registers of the save-state service, their numbers and their printed names.
use Rattle.std.specs.Prelude.{ℕ, Bool, List, Option, ◌==◌, codes, find, is_some}
use Rattle.std.specs.Str.{bytes_eq}
use Rattle.smm_base.specs.declared.registers.TheConstants.{REGISTERS}
use Rattle.smm_base.specs.declared.registers.Register.{Register}
use Rattle.smm_base.specs.declared.registers.Register.TheVariants.{GdtBase, IdtBase, LdtBase, GdtLimit, IdtLimit, LdtLimit, LdtInfo, Es, Cs, Ss, Ds, Fs, Gs, LdtrSel, TrSel, Dr7, Dr6, R8, R9, R10, R11, R12, R13, R14, R15, Rax, Rbx, Rcx, Rdx, Rsp, Rbp, Rsi, Rdi, Rip, Rflags, Cr0, Cr3, Cr4, Io, Lma, ProcessorId, AutoHalt, IoRestart}

-- the number (UEFI PI Volume 4, EFI_MM_SAVE_STATE_REGISTER; 1024 and 1025 are this project's own)
abbrev pub register_number : Register → ℕ
register_number GdtBase = 4
register_number IdtBase = 5
register_number LdtBase = 6
register_number GdtLimit = 7
register_number IdtLimit = 8
register_number LdtLimit = 9
register_number LdtInfo = 10
register_number Es = 20
register_number Cs = 21
register_number Ss = 22
register_number Ds = 23
register_number Fs = 24
register_number Gs = 25
register_number LdtrSel = 26
register_number TrSel = 27
register_number Dr7 = 28
register_number Dr6 = 29
register_number R8 = 30
register_number R9 = 31
register_number R10 = 32
register_number R11 = 33
register_number R12 = 34
register_number R13 = 35
register_number R14 = 36
register_number R15 = 37
register_number Rax = 38
register_number Rbx = 39
register_number Rcx = 40
register_number Rdx = 41
register_number Rsp = 42
register_number Rbp = 43
register_number Rsi = 44
register_number Rdi = 45
register_number Rip = 46
register_number Rflags = 51
register_number Cr0 = 52
register_number Cr3 = 53
register_number Cr4 = 54
register_number Io = 512
register_number Lma = 513
register_number ProcessorId = 514
register_number AutoHalt = 1024
register_number IoRestart = 1025

-- the printed name
abbrev pub register_text : Register → List ℕ
register_text GdtBase = codes "GDTBASE"
register_text IdtBase = codes "IDTBASE"
register_text LdtBase = codes "LDTBASE"
register_text GdtLimit = codes "GDTLIMIT"
register_text IdtLimit = codes "IDTLIMIT"
register_text LdtLimit = codes "LDTLIMIT"
register_text LdtInfo = codes "LDTINFO"
register_text Es = codes "ES"
register_text Cs = codes "CS"
register_text Ss = codes "SS"
register_text Ds = codes "DS"
register_text Fs = codes "FS"
register_text Gs = codes "GS"
register_text LdtrSel = codes "LDTR_SEL"
register_text TrSel = codes "TR_SEL"
register_text Dr7 = codes "DR7"
register_text Dr6 = codes "DR6"
register_text R8 = codes "R8"
register_text R9 = codes "R9"
register_text R10 = codes "R10"
register_text R11 = codes "R11"
register_text R12 = codes "R12"
register_text R13 = codes "R13"
register_text R14 = codes "R14"
register_text R15 = codes "R15"
register_text Rax = codes "RAX"
register_text Rbx = codes "RBX"
register_text Rcx = codes "RCX"
register_text Rdx = codes "RDX"
register_text Rsp = codes "RSP"
register_text Rbp = codes "RBP"
register_text Rsi = codes "RSI"
register_text Rdi = codes "RDI"
register_text Rip = codes "RIP"
register_text Rflags = codes "RFLAGS"
register_text Cr0 = codes "CR0"
register_text Cr3 = codes "CR3"
register_text Cr4 = codes "CR4"
register_text Io = codes "IO"
register_text Lma = codes "LMA"
register_text ProcessorId = codes "PROCESSOR_ID"
register_text AutoHalt = codes "AUTO_HALT"
register_text IoRestart = codes "IO_RESTART"

-- each register once, in the order of their numbers
abbrev pub registers : List Register
registers = REGISTERS

-- the register with this number, where there is one
abbrev pub register_numbered : ℕ → Option Register
register_numbered number = find (λ register. register_number register == number) registers

-- the register with this printed name, where there is one
abbrev pub register_named : List ℕ → Option Register
register_named text = find (λ register. bytes_eq (register_text register) text) registers

-- some register has this number
abbrev pub is_register_number : ℕ → Bool
is_register_number number = is_some (register_numbered number)
