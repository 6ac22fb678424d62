-- What the machine asks of a label that the BSP says as it serves, and what the label changes.
use Rattle.std.proofs.Common.{ℕ, ◌≡◌, Bool, true, false, List, length, Some, refl, sym, ap, ◌∙◌}
use Rattle.std.specs.Prelude.{replicate, ◌&&◌, ◌==◌, if◌then◌else◌}
use Rattle.std.proofs.lemmas.List.{set-get_or}
use Rattle.smm_base.specs.Register.{register_number}
use Rattle.smm_base.specs.declared.registers.Register.{Register}
use Rattle.smm_base.specs.declared.registers.Register.TheVariants as registers
use Rattle.smm_base.specs.declared.status.Status.{Status}
use Rattle.smm_base.specs.declared.status.Status.TheVariants.{Success, InvalidParameter, NotFound}
use Rattle.save_state_map.specs.Images.{ImageContents}
use Rattle.save_state_access.specs.Reading.{ReadAnswer}
use Rattle.save_state_access.specs.Writing.{WriteAnswer}
use Rattle.cpu_table.specs.Data.{SetupData}
use Rattle.sync_words.specs.declared.label.Label.{Label}
use Rattle.sync_words.specs.declared.label.Label.TheVariants as say
use Rattle.serving_place.specs.Setting.{Setting}
use Rattle.handler_ops.specs.Course.{read_of, write_of, shown_value, value_on, low_bytes, blank}
use Rattle.rendezvous_machine.specs.Machines.{Machine, Member, IsBsp, member, nobody}
use Rattle.rendezvous_machine.specs.Listed.{CanSay}
use Rattle.rendezvous_machine.specs.Refusals.{refusal}
use Rattle.rendezvous_machine.specs.Rules.{Rule}
use Rattle.rendezvous_machine.specs.Effects.{effect, saying, with_member}
use Rattle.rendezvous_machine.specs.Services.{Reads, Writes, written}

-- beside that the list may go on with it; a write of this kind leaves the image
abbrev pub Asks : SetupData → Machine → ℕ → Label → Type 0
Asks d m i (say.Manage kind) = Unit {0}
Asks d m i (say.Deep kind) = Unit {0}
Asks d m i (say.Call h) = Unit {0}
Asks d m i (say.Return h S) = Unit {0}
Asks d m i (say.Answer S) = Unit {0}
Asks d m i (say.Set into x) = Unit {0}
Asks d m i (say.Read c register width x S) = Reads d m i c register width x S
Asks d m i (say.Write c register width x S) = Writes d m i c register width x S × (written S register width x (member m c).image ≡ (member m c).image)
Asks d m i (say.Check j S) = Unit {0}
Asks d m i (say.Wait j x S) = Unit {0}
Asks d m i (say.Alloc n x S) = Unit {0}
Asks d m i (say.Free n S) = Unit {0}
Asks d m i (say.Register h n S) = Unit {0}
Asks d m i (say.Unregister n S) = Unit {0}
Asks d m i (say.Refuse c x) = refusal d m i ≡ Some x
Asks d m i say.Spent = Unit {0}
Asks d m i _ = ⊥

pub plain_rule : (d : SetupData) (m : Machine) (i : ℕ) (l : Label) → Asks d m i l → IsBsp m i (CanSay d m l) → Rule d m i l
plain_rule d m i (say.Manage kind) a h = h
plain_rule d m i (say.Deep kind) a h = h
plain_rule d m i (say.Call k) a h = h
plain_rule d m i (say.Return k S) a h = h
plain_rule d m i (say.Answer S) a h = h
plain_rule d m i (say.Set into x) a h = h
plain_rule d m i (say.Read c register width x S) a h = (h, a)
plain_rule d m i (say.Write c register width x S) a h = (h, a.0)
plain_rule d m i (say.Check j S) a h = h
plain_rule d m i (say.Wait j x S) a h = h
plain_rule d m i (say.Alloc n x S) a h = h
plain_rule d m i (say.Free n S) a h = h
plain_rule d m i (say.Register k n S) a h = h
plain_rule d m i (say.Unregister n S) a h = h
plain_rule d m i (say.Refuse c x) a h = (h, a)
plain_rule d m i say.Spent a h = h
plain_rule d m i _ a h = absurd a

same_member : (m : Machine) (c : ℕ) (image : ImageContents) → image ≡ (member m c).image → with_member c (record (member m c) { image = image }) m ≡ m
same_member m c image e =
    ap (λ (x : ImageContents). with_member c (record (member m c) { image = x }) m) e ∙ ap (λ (ms : List Member). record m { members = ms }) (set-get_or m.members c nobody)

pub plain_effect : (d : SetupData) (m : Machine) (i : ℕ) (l : Label) → Asks d m i l → effect d m i l ≡ saying l m
plain_effect d m i (say.Manage kind) a = refl
plain_effect d m i (say.Deep kind) a = refl
plain_effect d m i (say.Call k) a = refl
plain_effect d m i (say.Return k S) a = refl
plain_effect d m i (say.Answer S) a = refl
plain_effect d m i (say.Set into x) a = refl
plain_effect d m i (say.Read c register width x S) a = refl
plain_effect d m i (say.Write c register width x S) a =
    ap (λ (n : Machine). saying (say.Write c register width x S) n) (same_member m c (written S register width x (member m c).image) a.1)
plain_effect d m i (say.Check j S) a = refl
plain_effect d m i (say.Wait j x S) a = refl
plain_effect d m i (say.Alloc n x S) a = refl
plain_effect d m i (say.Free n S) a = refl
plain_effect d m i (say.Register k n S) a = refl
plain_effect d m i (say.Unregister n S) a = refl
plain_effect d m i (say.Refuse c x) a = refl
plain_effect d m i say.Spent a = refl
plain_effect d m i _ a = absurd a

-- A PROCESSOR THAT ISN'T PRESENT

-- why its registers can't be read
abbrev absent_status : Bool → Bool → Status
absent_status true b = InvalidParameter
absent_status false true = NotFound
absent_status false false = InvalidParameter

absent_value : (a b : Bool) (bytes : List ℕ) → value_on (absent_status a b) bytes ≡ 0
absent_value true b bytes = refl
absent_value false true bytes = refl
absent_value false false bytes = refl

abbrev absent_answer : Bool → Bool → Bool → List ℕ → ReadAnswer → ReadAnswer
absent_answer a b e out other =
    if a then record { status = InvalidParameter; out = out }
    else (if b && true then record { status = NotFound; out = out }
    else (if b && e then record { status = InvalidParameter; out = out } else (if b then other else record { status = InvalidParameter; out = out })))

absent_case : (a b e : Bool) (out : List ℕ) (other : ReadAnswer) → (absent_answer a b e out other).status ≡ absent_status a b
absent_case true b e out other = refl
absent_case false true e out other = refl
absent_case false false e out other = refl

-- how many bytes are asked for
abbrev asked : ℕ → ℕ
asked width = let out : List ℕ = replicate width 0 in length out

read_status : (t : Setting) (image : ImageContents) (c reg width : ℕ)
    → (read_of t false image c reg width).status ≡ absent_status (asked width == 0) (reg == register_number registers.ProcessorId)
read_status t image c reg width = absent_case (asked width == 0) (reg == register_number registers.ProcessorId) _ _ _

pub read_absent : (t : Setting) (image : ImageContents) (c reg width : ℕ)
    → (0 ≡ shown_value (read_of t false image c reg width)) × ((read_of t false blank c reg width).status ≡ (read_of t false image c reg width).status)
read_absent t image c reg width =
    let e = read_status t image c reg width in (
      sym (ap (λ (S : Status). value_on S (read_of t false image c reg width).out) e ∙ absent_value (asked width == 0) (reg == register_number registers.ProcessorId) _),
      read_status t blank c reg width ∙ sym e,
    )

-- a write changes nothing there
abbrev unwritten_status : Bool → Bool → Status
unwritten_status true b = InvalidParameter
unwritten_status false true = Success
unwritten_status false false = InvalidParameter

abbrev unwritten_answer : Bool → Bool → ImageContents → WriteAnswer → WriteAnswer
unwritten_answer a b m rest = if a then record { status = InvalidParameter; image = m } else (if b then record { status = Success; image = m } else rest)

unwritten_case : (a b : Bool) (m : ImageContents) → (unwritten_answer a b m (record { status = InvalidParameter; image = m })).status ≡ unwritten_status a b
unwritten_case true b m = refl
unwritten_case false true m = refl
unwritten_case false false m = refl

pub write_status : (image : ImageContents) (reg width x : ℕ)
    → (write_of false image reg width x).status ≡ unwritten_status (length (low_bytes width x) == 0) (reg == register_number registers.ProcessorId)
write_status image reg width x = unwritten_case (length (low_bytes width x) == 0) (reg == register_number registers.ProcessorId) image

stays_case : (a b : Bool) (m : ImageContents) (rest : WriteAnswer) (r : Register) (width x : ℕ)
    → (write_of true m (register_number r) width x).image ≡ (unwritten_answer a b m rest).image → written (unwritten_status a b) r width x m ≡ m
stays_case true b m rest r width x e = refl
stays_case false true m rest r width x e = e
stays_case false false m rest r width x e = refl

pub unwritten : (image other : ImageContents) (r : Register) (width x : ℕ) → written (write_of false other (register_number r) width x).status r width x image ≡ image
unwritten image other r width x =
    ap (λ (S : Status). written S r width x image) (write_status other (register_number r) width x)
    ∙ stays_case (length (low_bytes width x) == 0) (register_number r == register_number registers.ProcessorId) image _ r width x refl
