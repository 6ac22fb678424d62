use Rattle.std.proofs.Common.{◌≡◌, ◌-◌, List, length, take, drop, sym, ap, subst, ◌∙◌, arith}
use Rattle.std.proofs.lemmas.List.{take_rest}
use Rattle.std.proofs.lemmas.Result.{IfOk-weaker, MatchResult-from_both}
use Rattle.save_state_map.specs.Images.{ImageContents}
use Rattle.image_file.specs.Spelling.{IsSpelling}
use Rattle.image_file.specs.Refusals.{kind_number_of, kind_numbered, count_of}
use Rattle.image_file.specs.Contents.{images_at}
use Rattle.image_file.proofs.Files.{is_spelling, spelling_unrefused, same_images}
use Rattle.image_file.proofs.reading.read_images.Goals as goal

pub returns-in_err-kind-clause-only : goal.returns-in_err-kind-clause-only
returns-in_err-kind-clause-only c = λ images spelled.
    let none = spelling_unrefused c.args.bytes.now images spelled in
    let some = c.in_err-kind.ensures.exact in
    absurd cc

pub returns-clause-found : goal.returns-clause-found
returns-clause-found c =
    let there : images_at c.in_ok-kind.kind c.in_ok-kind.count (take (length c.args.bytes.now - 12) (drop 12 c.args.bytes.now)) ≡ images_at (kind_numbered (kind_number_of c.args.bytes.now)) (count_of c.args.bytes.now) (drop 12 c.args.bytes.now) = rw (c.in_ok-kind.ensures.kind, c.in_ok-kind.ensures.count) (ap (images_at (kind_numbered (kind_number_of c.args.bytes.now)) (count_of c.args.bytes.now)) (take_rest c.args.bytes.now 12)) in
    let spelled = is_spelling c.args.bytes.now (λ i. omega (arith, c.type_inv.bytes i)) c.in_ok-kind.ensures.exact in
    IfOk-weaker c.images_of.result _ _ (λ images e. subst (λ (x : List ImageContents). IsSpelling c.args.bytes.now x) (sym (e ∙ there)) spelled) c.images_of.ensures.images

pub returns-clause-only : goal.returns-clause-only
returns-clause-only c = λ images spelled.
    let there : images_at c.in_ok-kind.kind c.in_ok-kind.count (take (length c.args.bytes.now - 12) (drop 12 c.args.bytes.now)) ≡ images_at (kind_numbered (kind_number_of c.args.bytes.now)) (count_of c.args.bytes.now) (drop 12 c.args.bytes.now) = rw (c.in_ok-kind.ensures.kind, c.in_ok-kind.ensures.count) (ap (images_at (kind_numbered (kind_number_of c.args.bytes.now)) (count_of c.args.bytes.now)) (take_rest c.args.bytes.now 12)) in
    MatchResult-from_both c.images_of.result _ _ (IfOk-weaker c.images_of.result _ _ (λ read e. e ∙ there ∙ same_images c.args.bytes.now images spelled) c.images_of.ensures.images) c.images_of.ensures.memory

pub returns-clause-contents : goal.returns-clause-contents
returns-clause-contents c =
    let there : images_at c.in_ok-kind.kind c.in_ok-kind.count (take (length c.args.bytes.now - 12) (drop 12 c.args.bytes.now)) ≡ images_at (kind_numbered (kind_number_of c.args.bytes.now)) (count_of c.args.bytes.now) (drop 12 c.args.bytes.now) = rw (c.in_ok-kind.ensures.kind, c.in_ok-kind.ensures.count) (ap (images_at (kind_numbered (kind_number_of c.args.bytes.now)) (count_of c.args.bytes.now)) (take_rest c.args.bytes.now 12)) in
    IfOk-weaker c.images_of.result _ _ (λ images e. e ∙ there) c.images_of.ensures.images

pub returns-clause-unrefused : goal.returns-clause-unrefused
returns-clause-unrefused c = IfOk-weaker c.images_of.result _ _ (λ images e. c.in_ok-kind.ensures.exact) c.images_of.ensures.images
