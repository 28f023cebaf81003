-- Texts that are put together piece by piece.
use Rattle.std.specs.Prelude.{◌≡◌, ℕ, List, ◌++◌}
use Rattle.std.proofs.Common.{◌∙◌, ap}
use Rattle.std.proofs.lemmas.List.{append_assoc}

pub counted : (old a b c d e f g t u v w : List ℕ) → t ≡ old ++ a ++ b → u ≡ t ++ c ++ d → v ≡ u ++ e ++ f → w ≡ v ++ g
    → w ≡ old ++ (a ++ b ++ c ++ d ++ e ++ f ++ g)
counted old a b c d e f g t u v w e1 e2 e3 e4 =
    e4 ∙ ap (λ x. x ++ g) (e3 ∙ ap (λ x. x ++ e ++ f) (e2 ∙ ap (λ x. x ++ c ++ d) e1)) ∙ flat old a b c d e f g
  where
    flat : (old a b c d e f g : List ℕ)
        → (old ++ a ++ b ++ c ++ d ++ e ++ f) ++ g ≡ old ++ (a ++ b ++ c ++ d ++ e ++ f ++ g)
    flat old a b c d e f g = simp append_assoc

pub three : (old a b c t u v : List ℕ) → t ≡ old ++ a → u ≡ t ++ b → v ≡ u ++ c → v ≡ old ++ (a ++ b ++ c)
three old a b c t u v e1 e2 e3 = e3 ∙ ap (λ x. x ++ c) (e2 ∙ ap (λ x. x ++ b) e1) ∙ flat old a b c
  where
    flat : (old a b c : List ℕ) → (old ++ a ++ b) ++ c ≡ old ++ (a ++ b ++ c)
    flat old a b c = simp append_assoc
