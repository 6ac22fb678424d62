use Rattle.std.proofs.Common.{◌≡◌, ◌∙◌, ap, ◌∷◌, ◌++◌, [], Option, Some, None, IfSome, ℕ, List}
use Rattle.std.specs.Fmt.{WritesText, with_newline}
use Rattle.std.proofs.lemmas.Fmt.{contents_after_writes}
use Rattle.trace_text.proofs.write.write_line.Goals as goal

-- a text and a line end that an empty writer took, and that was appended then
appended_line : {W : Type 0} (took : W → List ℕ → W → Type 0) (contents : W → List ℕ) → ((w : W) (bs : List ℕ) (v : W) → took w bs v → contents v ≡ contents w ++ bs) → (w v : W) (o : Option (List ℕ)) (before after : List ℕ) → contents w ≡ [] → after ≡ before ++ contents v → WritesText took w (with_newline o) v → IfSome o (λ bytes. after ≡ before ++ (bytes ++ 10 ∷ []))
appended_line took contents appends w v None before after empty appended writes = tt
appended_line took contents appends w v (Some bytes) before after empty appended writes =
    appended ∙ ap (λ xs. before ++ xs) (contents_after_writes took contents appends w (bytes ++ 10 ∷ []) v writes ∙ ap (λ xs. xs ++ (bytes ++ 10 ∷ [])) empty)

pub returns-in-Ok-clause-gains_line : goal.returns-in-Ok-clause-gains_line
returns-in-Ok-clause-gains_line g c =
    appended_line _ (λ line. line.bytes) (λ _ _ _ took. took) _ _ (g.D.Display.output c.args.text) _ _ c.new-line.ensures
    (c.in_ok-extend_from_slice-in-Ok.ensures.items ∙ ap (λ xs. c.args.out.now.items ++ xs) (c.as_bytes.ensures.value ∙ c.as_str.ensures.value))
    c.in-Ok.ensures.writes
