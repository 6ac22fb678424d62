-- A desk of the platform's kind is received.
use Rattle.std.proofs.Common.{◌≡◌, ◌∙◌, ℕ, ◌==◌, true, ◌&&◌, [], ◌∷◌, refl}
use Rattle.std.specs.Prelude.{if◌then◌else◌}
use Rattle.smm_base.specs.declared.kinds.MapKind.{MapKind}
use Rattle.smm_base.specs.declared.kinds.MapKind.TheVariants.{Ia32, Intel64}
use Rattle.cpu_program.specs.Hands.{is_kind}

pub is_same_kind : (a b : MapKind) → a ≡ b → is_kind a b ≡ true
is_same_kind Ia32 Ia32 e = refl
is_same_kind Intel64 Intel64 e = refl
is_same_kind Ia32 Intel64 e = absurd cc
is_same_kind Intel64 Ia32 e = absurd cc
