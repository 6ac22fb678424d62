-- Lists that were read have their ranges.
use Rattle.std.proofs.Common.{◌≡◌, ℕ, ◌≤◌, Bool, true, ◌&&◌, le-leb, List, length, sym, subst, arith}
use Rattle.std.specs.List.{list_all}
use Rattle.cpu_table.specs.Distinct.{are_distinct}
use Rattle.cpu_table.specs.Ranges.{same_text, same_visit, handler_fits, handlers_fit, procedure_fits, procedures_fit, cause_fits, causes_fit}
use Rattle.cpu_table.specs.declared.handlers.HandlerDef.{HandlerDef}
use Rattle.cpu_table.specs.declared.handlers.ProcedureDef.{ProcedureDef}
use Rattle.cpu_table.specs.declared.setup.CauseAt.{CauseAt}

three : (a b c : Bool) → a ≡ true → b ≡ true → c ≡ true → a && b && c ≡ true
three a b c x y z = rw (x, y, z)

-- few enough, each in range, and no two of one name
pub handlers_are_fit : (defs : List HandlerDef) (n : ℕ) → length defs ≡ n → n ≤ 64 → list_all (handler_fits n) defs ≡ true → are_distinct (λ a b. same_text a.name b.name) defs ≡ true → handlers_fit defs ≡ true
handlers_are_fit defs n count few fit distinct =
    let P : ℕ → Type 0 = λ m. list_all (handler_fits m) defs ≡ true in
    three _ _ _ (le-leb (length defs) 64 (omega (arith, count, few))) (subst P (sym count) fit) distinct

pub procedures_are_fit : (defs : List ProcedureDef) → length defs ≤ 64 → list_all procedure_fits defs ≡ true → are_distinct (λ a b. same_text a.name b.name) defs ≡ true → procedures_fit defs ≡ true
procedures_are_fit defs few fit distinct = three _ _ _ (le-leb (length defs) 64 few) fit distinct

pub causes_are_fit : (processors visits : ℕ) (causes : List CauseAt) → length causes ≤ 4096 → list_all (cause_fits processors visits) causes ≡ true → are_distinct same_visit causes ≡ true → causes_fit processors visits causes ≡ true
causes_are_fit processors visits causes few fit distinct = three _ _ _ (le-leb (length causes) 4096 few) fit distinct
