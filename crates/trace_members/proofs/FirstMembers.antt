-- The processors of a start, one after the other.
use Rattle.std.proofs.Common.{◌≡◌, ◌+◌, ◌<◌, ◌≤◌, ◌∙◌, ◌++◌, ◌∷◌, ℕ, List, [], length, drop, get_or, sym, ap, append_assoc, add-one}
use Rattle.std.proofs.Math.Seq.{drop-cons}
use Rattle.std.proofs.lemmas.List.{drop_all, append-nil}
use Rattle.save_state_map.specs.Images.{ImageContents}
use Rattle.cpu_regs.specs.Registers.{Registers}
use Rattle.cpu_table.specs.Data.{SetupData}
use Rattle.rendezvous_machine.specs.Machines.{Member, first_member}
use Rattle.rendezvous_machine.proofs.Once.{first_length}
use Rattle.trace_members.specs.Members.{firsts}

next_of : {A : Type 0} (xs : List A) (i : ℕ) (d : A) → i < length xs → drop i xs ≡ get_or xs i d ∷ drop (i + 1) xs
next_of xs i d within = drop-cons xs i d within ∙ ap (λ n. get_or xs i d ∷ drop n xs) (sym (add-one i))

-- one more
pub one_more : (members members' : List Member) (i : ℕ) (rs : List Registers) (images : List ImageContents) (r r' : Registers) (image image' : ImageContents)
    → i < length rs → i < length images → r ≡ get_or rs i r' → image ≡ get_or images i image' → members' ≡ members ++ first_member r image ∷ []
    → members' ++ firsts (drop (i + 1) rs) (drop (i + 1) images) ≡ members ++ firsts (drop i rs) (drop i images)
one_more members members' i rs images r r' image image' within within' r_is image_is is =
    let left = drop (i + 1) rs in
    let left' = drop (i + 1) images in
    let rest = firsts left left' in
    let some : r ∷ left ≡ drop i rs = ap (λ x. x ∷ left) r_is ∙ sym (next_of rs i r' within) in
    let some' : image ∷ left' ≡ drop i images = ap (λ x. x ∷ left') image_is ∙ sym (next_of images i image' within') in
    ap (λ ms. ms ++ rest) is
    ∙ append_assoc members (first_member r image ∷ []) rest
    ∙ ap (λ xs. members ++ firsts xs (image ∷ left')) some
    ∙ ap (λ xs. members ++ firsts (drop i rs) xs) some'

-- and no more
pub no_more : (members : List Member) (i : ℕ) (rs : List Registers) (images : List ImageContents) → length rs ≤ i
    → members ≡ members ++ firsts (drop i rs) (drop i images)
no_more members i rs images past = sym (ap (λ xs. members ++ firsts xs (drop i images)) (drop_all i rs past) ∙ append-nil members)

-- there is a member for each processor
pub first_size : (d : SetupData) (rs : List Registers) (images : List ImageContents) (members : List Member) → length rs ≡ d.processors → length images ≡ d.processors
    → members ≡ firsts rs images → length members ≡ d.processors
first_size d rs images members e f is = ap length is ∙ first_length rs images d.processors e f
