-- How an image of either length lies in an array of 1,024 bytes: its own bytes first, then zeros.
use Rattle.std.specs.Prelude.{◌≡◌, ℕ, ◌+◌, ◌-◌, ◌<◌, ◌≤◌, List, ◌++◌, length, take, drop, get_or, slice_index, replicate}
use Rattle.std.proofs.Common.{arith, ap, ◌∙◌, sym}
use Rattle.std.proofs.lemmas.List.{same_lists, length-take, length-drop, length-replicate, get_or-drop, get_or-replicate, get_or_default, take-append-drop}
use Rattle.smm_base.specs.declared.kinds.MapKind.{MapKind}
use Rattle.smm_base.specs.declared.kinds.MapKind.TheVariants.{Ia32, Intel64}
use Rattle.save_state_map.specs.Fields.{image_length}

-- the array's bytes behind the image are zeros
pub record IsPadded (kind : MapKind) (bytes : List ℕ) : Type 0 where
  pub size : length bytes ≡ 1024
  pub each : (i : ℕ) → slice_index bytes i < 256
  pub zeros : (i : ℕ) → image_length kind ≤ i → slice_index bytes i ≡ 0

-- no image is longer than the array
pub image_length_le : (kind : MapKind) → image_length kind ≤ 1024
image_length_le Ia32 = omega arith
image_length_le Intel64 = omega arith

zeros_left : (n m : ℕ) (bytes : List ℕ) → n ≤ m → length bytes ≡ m → ((i : ℕ) → n ≤ i → get_or bytes i 0 ≡ 0) → replicate (m - n) 0 ≡ drop n bytes
zeros_left n m bytes le size zeros =
    same_lists (replicate (m - n) 0) (drop n bytes) (omega (arith, length-replicate {A = ℕ} (m - n) 0, length-drop n bytes))
    (λ k d lt.
    let inside : k < m - n = omega (arith, length-replicate {A = ℕ} (m - n) 0) in
    let there : n + k < length bytes = omega arith in
    get_or-replicate (m - n) k 0 d inside ∙ sym (get_or-drop n bytes k d ∙ get_or_default bytes (n + k) d 0 there ∙ zeros (n + k) (omega arith)))

-- an array's own bytes and zeros behind them are the array
pub padded_back : (n m : ℕ) (bytes : List ℕ) → n ≤ m → length bytes ≡ m → ((i : ℕ) → n ≤ i → get_or bytes i 0 ≡ 0)
    → take n bytes ++ replicate (m - length (take n bytes)) 0 ≡ bytes
padded_back n m bytes le size zeros =
    let own : length (take n bytes) ≡ n = omega (arith, length-take n bytes) in
    ap (λ (k : ℕ). take n bytes ++ replicate (m - k) 0) own
    ∙ ap (λ (r : List ℕ). take n bytes ++ r) (zeros_left n m bytes le size zeros) ∙ take-append-drop n bytes

-- an image's own bytes and zeros behind them are the array that holds it
pub image_bytes_back : (kind : MapKind) (bytes : List ℕ) → IsPadded kind bytes
    → take (image_length kind) bytes ++ replicate (1024 - length (take (image_length kind) bytes)) 0 ≡ bytes
image_bytes_back kind bytes padded = padded_back (image_length kind) 1024 bytes (image_length_le kind) padded.size padded.zeros
