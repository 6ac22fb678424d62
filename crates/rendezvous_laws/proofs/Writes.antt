-- What a write leaves of an image, by its label and by the access; and that a register is found by its number.
use Rattle.std.proofs.Common.{◌≡◌, ℕ, Bool, true, false, cond, List, [], ◌∷◌, length, Option, Some, None, refl, sym, ap}
use Rattle.std.specs.Prelude.{find, IfSome, is_some, is_none, unwrap_or, not, ◌&&◌, ◌==◌, nat_lt}
use Rattle.std.proofs.lemmas.Bool.{eqb-true, false≢true}
use Rattle.smm_base.specs.declared.registers.Register.{Register}
use Rattle.smm_base.specs.declared.registers.Register.TheVariants as register
use Rattle.smm_base.specs.Register.{registers, register_number, register_numbered, is_register_number}
use Rattle.smm_base.specs.declared.status.Status.{Status}
use Rattle.smm_base.specs.declared.status.Status.TheVariants.{Success, InvalidParameter, NotFound, Unsupported}
use Rattle.save_state_map.specs.Images.{ImageContents}
use Rattle.save_state_access.specs.Reading.{first_case, register_at, width_at}
use Rattle.save_state_access.specs.Writing.{WriteAnswer, write_answer, is_written, with_low_bytes, starts_halt}
use Rattle.save_state_access.specs.Table.{parts_numbered}
use Rattle.serving_place.specs.Operations.{register_of}
use Rattle.handler_ops.specs.Course.{write_of, low_bytes}
use Rattle.rendezvous_machine.specs.Services.{written}

-- A REGISTER BY ITS NUMBER

first_or_rest : {X : Type 0} (P : X → Type 0) (x : X) (rest : Option X) (passes : Bool) → (passes ≡ true → P x) → IfSome rest P
    → IfSome (cond passes (Some x) rest) P
first_or_rest P x rest true here behind = here refl
first_or_rest P x rest false here behind = behind

found_passes : {X : Type 0} (test : X → Bool) (P : X → Type 0) → ((x : X) → test x ≡ true → P x) → (xs : List X) → IfSome (find test xs) P
found_passes test P follows [] = tt
found_passes test P follows (x ∷ xs) = first_or_rest P x (find test xs) (test x) (follows x) (found_passes test P follows xs)

named_by : (reg : ℕ) (o : Option Register) → is_some o ≡ true → IfSome o (λ r. register_number r ≡ reg) → register_number (unwrap_or o register.Rax) ≡ reg
named_by reg None h k = absurd (false≢true h)
named_by reg (Some r) h k = k

pub register_known : (reg : ℕ) → is_register_number reg ≡ true → register_number (register_of reg) ≡ reg
register_known reg h =
    named_by reg (register_numbered reg) h
    (found_passes (λ r. register_number r == reg) (λ r. register_number r ≡ reg) (λ r. eqb-true (register_number r) reg) registers)

-- A WRITE

-- where the status isn't success the image stays
abbrev KeptUnless : Status → Type 0 → Type 0
KeptUnless Success P = Unit {0}
KeptUnless _ P = P

abbrev Stays : ImageContents → WriteAnswer → Type 0
Stays m a = KeptUnless a.status (a.image ≡ m)

abbrev with_status : ImageContents → Status → WriteAnswer
with_status m status = record { status = status; image = m }

by_cases : (m after : ImageContents) (a b c e f h i j k : Bool) → Stays m (first_case (
    (a, with_status m InvalidParameter)
    ∷ (b, with_status m Success)
    ∷ (c, with_status m InvalidParameter)
    ∷ (e, with_status m Success)
    ∷ (f, with_status m NotFound)
    ∷ (h, with_status m NotFound)
    ∷ (i, with_status m Unsupported)
    ∷ (j, with_status m InvalidParameter)
    ∷ (k, with_status m Unsupported)
    ∷ []
    ) (with_status after Success))
by_cases m after true b c e f h i j k = refl
by_cases m after false true c e f h i j k = tt
by_cases m after false false true e f h i j k = refl
by_cases m after false false false true f h i j k = tt
by_cases m after false false false false true h i j k = refl
by_cases m after false false false false false true i j k = refl
by_cases m after false false false false false false true j k = refl
by_cases m after false false false false false false false true k = refl
by_cases m after false false false false false false false false true = refl
by_cases m after false false false false false false false false false = tt

write_stays : (m : ImageContents) (present : Bool) (number : ℕ) (new : List ℕ) → Stays m (write_answer m present number new)
write_stays m present number new =
    by_cases m (with_low_bytes m (parts_numbered number) new) (length new == 0) (number == register_number register.ProcessorId) (not present)
    (number == register_number register.Lma) (number == register_number register.Io) (is_none (register_at m number)) (not (is_written (parts_numbered number)))
    (nat_lt (width_at m number) (length new)) (number == register_number register.AutoHalt && starts_halt m new)

by_status : (S : Status) (r : Register) (width x : ℕ) (image after : ImageContents) → KeptUnless S (after ≡ image)
    → (write_of true image (register_number r) width x).image ≡ after → written S r width x image ≡ after
by_status Success r width x image after stays e = e
by_status _ r width x image after stays e = sym stays

-- the image after a write by its label is that after the access
pub written_is : (reg width x : ℕ) (r : Register) (image : ImageContents) → register_number r ≡ reg
    → written (write_of true image reg width x).status r width x image ≡ (write_of true image reg width x).image
written_is reg width x r image e =
    by_status (write_of true image reg width x).status r width x image (write_of true image reg width x).image
    (write_stays image true reg (low_bytes width x))
    (ap (λ (n : ℕ). (write_of true image n width x).image) e)
