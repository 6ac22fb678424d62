-- The fields of the two save-state maps, and their places in an image.
use Rattle.std.specs.Prelude.{ℕ, ◌-◌, Bool, true, false, Option, Some, None, option_map}
use Rattle.smm_base.specs.declared.kinds.MapKind.{MapKind}
use Rattle.smm_base.specs.declared.kinds.MapKind.TheVariants.{Ia32, Intel64}
use Rattle.save_state_map.specs.declared.field.Place.{Place}
use Rattle.save_state_map.specs.declared.field.Field.{Field}
use Rattle.save_state_map.specs.declared.field.Field.TheVariants.{Cr0, Cr3, Rflags, Efer, Rip, Dr6, Dr7, Tr, Ldtr, Gs, Fs, Ds, Ss, Cs, Es, IoState, IoMemoryAddress, Rdi, Rsi, Rbp, Rsp, Rbx, Rdx, Rcx, Rax, R8, R9, R10, R11, R12, R13, R14, R15, AutoHalt, IoRestart, Revision, Smbase, LdtBaseLow, IdtBaseLow, GdtBaseLow, Cr4, IdtBaseHigh, LdtBaseHigh, GdtBaseHigh}

-- a row of the Intel 64 map: the offset from SMBASE + 8000H, and the width in bytes (Intel SDM Volume 3,
-- System Management Mode; the rows of LDT, IDT and GDT base and of CR4 are this project's own)
abbrev pub intel64_row : Field → ℕ × ℕ
intel64_row Cr0 = (0x7FF8, 8)
intel64_row Cr3 = (0x7FF0, 8)
intel64_row Rflags = (0x7FE8, 8)
intel64_row Efer = (0x7FE0, 8)
intel64_row Rip = (0x7FD8, 8)
intel64_row Dr6 = (0x7FD0, 8)
intel64_row Dr7 = (0x7FC8, 8)
intel64_row Tr = (0x7FC4, 4)
intel64_row Ldtr = (0x7FC0, 4)
intel64_row Gs = (0x7FBC, 4)
intel64_row Fs = (0x7FB8, 4)
intel64_row Ds = (0x7FB4, 4)
intel64_row Ss = (0x7FB0, 4)
intel64_row Cs = (0x7FAC, 4)
intel64_row Es = (0x7FA8, 4)
intel64_row IoState = (0x7FA4, 4)
intel64_row IoMemoryAddress = (0x7F9C, 8)
intel64_row Rdi = (0x7F94, 8)
intel64_row Rsi = (0x7F8C, 8)
intel64_row Rbp = (0x7F84, 8)
intel64_row Rsp = (0x7F7C, 8)
intel64_row Rbx = (0x7F74, 8)
intel64_row Rdx = (0x7F6C, 8)
intel64_row Rcx = (0x7F64, 8)
intel64_row Rax = (0x7F5C, 8)
intel64_row R8 = (0x7F54, 8)
intel64_row R9 = (0x7F4C, 8)
intel64_row R10 = (0x7F44, 8)
intel64_row R11 = (0x7F3C, 8)
intel64_row R12 = (0x7F34, 8)
intel64_row R13 = (0x7F2C, 8)
intel64_row R14 = (0x7F24, 8)
intel64_row R15 = (0x7F1C, 8)
intel64_row AutoHalt = (0x7F02, 2)
intel64_row IoRestart = (0x7F00, 2)
intel64_row Revision = (0x7EFC, 4)
intel64_row Smbase = (0x7EF8, 4)
intel64_row LdtBaseLow = (0x7E9C, 4)
intel64_row IdtBaseLow = (0x7E94, 4)
intel64_row GdtBaseLow = (0x7E8C, 4)
intel64_row Cr4 = (0x7E40, 4)
intel64_row IdtBaseHigh = (0x7DD8, 4)
intel64_row LdtBaseHigh = (0x7DD4, 4)
intel64_row GdtBaseHigh = (0x7DD0, 4)

-- a row of the 32-bit map, where it has the field (Intel SDM Volume 3, System Management Mode)
abbrev pub ia32_row : Field → Option (ℕ × ℕ)
ia32_row Cr0 = Some (0x7FFC, 4)
ia32_row Cr3 = Some (0x7FF8, 4)
ia32_row Rflags = Some (0x7FF4, 4)
ia32_row Efer = None
ia32_row Rip = Some (0x7FF0, 4)
ia32_row Dr6 = Some (0x7FCC, 4)
ia32_row Dr7 = Some (0x7FC8, 4)
ia32_row Tr = Some (0x7FC4, 4)
ia32_row Ldtr = None
ia32_row Gs = Some (0x7FBC, 4)
ia32_row Fs = Some (0x7FB8, 4)
ia32_row Ds = Some (0x7FB4, 4)
ia32_row Ss = Some (0x7FB0, 4)
ia32_row Cs = Some (0x7FAC, 4)
ia32_row Es = Some (0x7FA8, 4)
ia32_row IoState = Some (0x7FA4, 4)
ia32_row IoMemoryAddress = Some (0x7FA0, 4)
ia32_row Rdi = Some (0x7FEC, 4)
ia32_row Rsi = Some (0x7FE8, 4)
ia32_row Rbp = Some (0x7FE4, 4)
ia32_row Rsp = Some (0x7FE0, 4)
ia32_row Rbx = Some (0x7FDC, 4)
ia32_row Rdx = Some (0x7FD8, 4)
ia32_row Rcx = Some (0x7FD4, 4)
ia32_row Rax = Some (0x7FD0, 4)
ia32_row R8 = None
ia32_row R9 = None
ia32_row R10 = None
ia32_row R11 = None
ia32_row R12 = None
ia32_row R13 = None
ia32_row R14 = None
ia32_row R15 = None
ia32_row AutoHalt = Some (0x7F02, 2)
ia32_row IoRestart = Some (0x7F00, 2)
ia32_row Revision = Some (0x7EFC, 4)
ia32_row Smbase = Some (0x7EF8, 4)
ia32_row LdtBaseLow = None
ia32_row IdtBaseLow = None
ia32_row GdtBaseLow = None
ia32_row Cr4 = None
ia32_row IdtBaseHigh = None
ia32_row LdtBaseHigh = None
ia32_row GdtBaseHigh = None

-- which fields a handler may write, in both maps (this project's own choice)
abbrev pub is_writable : Field → Bool
is_writable Cr0 = false
is_writable Cr3 = false
is_writable Rflags = true
is_writable Efer = true
is_writable Rip = true
is_writable Dr6 = false
is_writable Dr7 = false
is_writable Tr = false
is_writable Ldtr = false
is_writable Gs = false
is_writable Fs = false
is_writable Ds = false
is_writable Ss = false
is_writable Cs = false
is_writable Es = false
is_writable IoState = false
is_writable IoMemoryAddress = false
is_writable Rdi = true
is_writable Rsi = true
is_writable Rbp = true
is_writable Rsp = true
is_writable Rbx = true
is_writable Rdx = true
is_writable Rcx = true
is_writable Rax = true
is_writable R8 = true
is_writable R9 = true
is_writable R10 = true
is_writable R11 = true
is_writable R12 = true
is_writable R13 = true
is_writable R14 = true
is_writable R15 = true
is_writable AutoHalt = true
is_writable IoRestart = true
is_writable Revision = false
is_writable Smbase = true
is_writable LdtBaseLow = false
is_writable IdtBaseLow = false
is_writable GdtBaseLow = false
is_writable Cr4 = false
is_writable IdtBaseHigh = false
is_writable LdtBaseHigh = false
is_writable GdtBaseHigh = false

-- the place of a field in the list of all fields
abbrev pub field_index : Field → ℕ
field_index Cr0 = 0
field_index Cr3 = 1
field_index Rflags = 2
field_index Efer = 3
field_index Rip = 4
field_index Dr6 = 5
field_index Dr7 = 6
field_index Tr = 7
field_index Ldtr = 8
field_index Gs = 9
field_index Fs = 10
field_index Ds = 11
field_index Ss = 12
field_index Cs = 13
field_index Es = 14
field_index IoState = 15
field_index IoMemoryAddress = 16
field_index Rdi = 17
field_index Rsi = 18
field_index Rbp = 19
field_index Rsp = 20
field_index Rbx = 21
field_index Rdx = 22
field_index Rcx = 23
field_index Rax = 24
field_index R8 = 25
field_index R9 = 26
field_index R10 = 27
field_index R11 = 28
field_index R12 = 29
field_index R13 = 30
field_index R14 = 31
field_index R15 = 32
field_index AutoHalt = 33
field_index IoRestart = 34
field_index Revision = 35
field_index Smbase = 36
field_index LdtBaseLow = 37
field_index IdtBaseLow = 38
field_index GdtBaseLow = 39
field_index Cr4 = 40
field_index IdtBaseHigh = 41
field_index LdtBaseHigh = 42
field_index GdtBaseHigh = 43

-- the offset from SMBASE + 8000H at which the image begins: it ends at FFFFH from SMBASE
abbrev pub image_start : MapKind → ℕ
image_start Ia32 = 0x7E00
image_start Intel64 = 0x7C00

-- how many bytes the image has: 512 or 1,024
abbrev pub image_length : MapKind → ℕ
image_length kind = 0x8000 - image_start kind

-- the place in the image of what stands at this row
abbrev pub place_of : ℕ → ℕ × ℕ → Place
place_of start row = record { offset = row.0 - start; width = row.1 }

-- where a field stands in an image of this kind, if the map has it
abbrev pub field_place : MapKind → Field → Option Place
field_place Ia32 field = option_map (place_of (image_start Ia32)) (ia32_row field)
field_place Intel64 field = Some (place_of (image_start Intel64) (intel64_row field))
