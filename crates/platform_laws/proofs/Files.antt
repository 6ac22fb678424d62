-- The bytes of a file and the platform that they stand for.
use Rattle.std.proofs.Common.{◌≡◌, inl, inr, ℕ, Bool, true, false, List, Option, Some, None, Ok, Err, refl, ap, sym, subst, ◌∙◌, if◌then◌else◌}
use Rattle.std.specs.Prelude.{Result}
use Rattle.std.specs.Str.{is_utf8}
use Rattle.std.proofs.lemmas.Option.{same_Some, none-some}
use Rattle.toml.specs.Data.{Members}
use Rattle.toml.specs.Parse.{parse_document}
use Rattle.cpu_table.specs.Data.{SetupData}
use Rattle.platform_document.specs.declared.fault.WalkFault.{WalkFault}
use Rattle.platform_file.specs.declared.error.PlatformError.{PlatformError}
use Rattle.platform_file.specs.declared.error.PlatformError.TheVariants as error
use Rattle.platform_document.specs.Reading.{Reading}
use Rattle.platform_file.specs.Walk.{setup_at, error_of, told, document_of, platform_in, setup_read}
use Rattle.platform_laws.specs.Says.{Says}
use Rattle.platform_laws.specs.Platform.{IsDocument, StandsFor, IsWrong}
use Rattle.platform_laws.proofs.Readings.{err_ok, same_ok}
use Rattle.platform_laws.proofs.Whole.{setup_said, setup_is_read}
use Rattle.platform_laws.proofs.Judging.{same_err, ok_err}
use Rattle.platform_laws.proofs.JudgedSetup.{fault_is, fault_clash}

told_ok : {A : Type 0} (r : Reading A) (x : A) → told r ≡ Ok x → r ≡ Ok x
told_ok (Ok y) x is = ap Ok (same_ok y x is)
told_ok (Err fault) x is = err_ok (error_of fault) x is

document_said : (b : Bool) (o : Option Members) (t : Members) → (if b then o else None) ≡ Some t → (b ≡ true) × (o ≡ Some t)
document_said true o t is = (refl, is)
document_said false o t is = absurd (none-some t is)

record IsOf (o : Option Members) (d : SetupData) : Type 0 where
  document : Members
  there : o ≡ Some document
  read : setup_at document ≡ Ok d

of_document : (o : Option Members) (d : SetupData) → platform_in o ≡ Ok d → IsOf o d
of_document None d is = err_ok error.NotToml d is
of_document (Some t) d is = record { document = t; there = refl; read = told_ok (setup_at t) d is }

pub read_is_said : (bytes : List ℕ) (d : SetupData) → setup_read bytes ≡ Ok d → StandsFor bytes d
unfolding setup_read
read_is_said bytes d is =
    let found = of_document (document_of bytes) d is in
    let (utf8, parsed) = document_said (is_utf8 bytes) (parse_document bytes) found.document found.there in
    let (says, fits) = setup_said found.document d found.read in
    record { document = found.document; is_document = (utf8, parsed); says = says; fits = fits }

pub said_is_read : (bytes : List ℕ) (d : SetupData) → StandsFor bytes d → setup_read bytes ≡ Ok d
unfolding setup_read
said_is_read bytes d stands =
    let there : document_of bytes ≡ Some stands.document = ap (λ b. if b then parse_document bytes else None) stands.is_document.0 ∙ stands.is_document.1 in
    ap platform_in there ∙ ap told (setup_is_read stands.document d stands.says stands.fits)

pub stands_for_one : (bytes : List ℕ) (d e : SetupData) → StandsFor bytes d → StandsFor bytes e → d ≡ e
stands_for_one bytes d e first second = same_ok d e (sym (said_is_read bytes d first) ∙ said_is_read bytes e second)

-- what is wrong with a file
document_is : (bytes : List ℕ) (t : Members) → IsDocument bytes t → document_of bytes ≡ Some t
document_is bytes t is = ap (λ b. if b then parse_document bytes else None) is.0 ∙ is.1

record IsToldOf (t : Members) (e : PlatformError) : Type 0 where
  fault : WalkFault
  stops : setup_at t ≡ Err fault
  told : e ≡ error_of fault

told_err : (t : Members) (r : Reading SetupData) (e : PlatformError) → setup_at t ≡ r → told r ≡ Err e → IsToldOf t e
told_err t (Ok d) e there is = ok_err d e is
told_err t (Err fault) e there is = record { fault = fault; stops = there; told = sym (same_err (error_of fault) e is) }

wrong_in : (bytes : List ℕ) (o : Option Members) (e : PlatformError) → document_of bytes ≡ o → platform_in o ≡ Err e → IsWrong bytes e
wrong_in bytes None e there is = inl ((λ t document. none-some t (sym there ∙ document_is bytes t document)), sym (same_err error.NotToml e is))
wrong_in bytes (Some t) e there is =
    let out = told_err t (setup_at t) e refl is in
    inr (t, out.fault, document_said (is_utf8 bytes) (parse_document bytes) t there, fault_is t out.fault out.stops, out.told)

pub stop_is_wrong : (bytes : List ℕ) (e : PlatformError) → setup_read bytes ≡ Err e → IsWrong bytes e
unfolding setup_read
stop_is_wrong bytes e is = wrong_in bytes (document_of bytes) e refl is

pub wrong_clash : (bytes : List ℕ) (e : PlatformError) (d : SetupData) → IsWrong bytes e → StandsFor bytes d → ⊥
wrong_clash bytes e d (inl (none, told)) stands = none stands.document stands.is_document
wrong_clash bytes e d (inr (t, fault, document, is, told)) stands =
    let same : stands.document ≡ t = same_Some stands.document t (sym stands.is_document.1 ∙ document.1) in
    fault_clash t fault d is (subst (λ u. Says u d) same stands.says) stands.fits

pub stands_unless_wrong : (bytes : List ℕ) → ((e : PlatformError) → IsWrong bytes e → ⊥) → (d : SetupData) × StandsFor bytes d
stands_unless_wrong bytes none = by_reading (setup_read bytes) refl where
  by_reading : (r : Result SetupData PlatformError) → setup_read bytes ≡ r → (d : SetupData) × StandsFor bytes d
  by_reading (Ok d) e = (d, read_is_said bytes d e)
  by_reading (Err f) e = absurd (none f (stop_is_wrong bytes f e))
