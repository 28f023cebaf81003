-- The fronts of texts.
use Rattle.std.proofs.Common.{◌≡◌, ℕ, ◌++◌, List, Bool, true, false, refl, MatchBool}
use Rattle.std.proofs.lemmas.Bool.{false≢true}
use Rattle.gh_log.specs.Reading.{IsNotFront}

pub next_from : (b : Bool) (wanted text after : List ℕ) → (b ≡ true → text ≡ wanted ++ after)
    → ((rest : List ℕ) → text ≡ wanted ++ rest → b ≡ true)
    → MatchBool b (IsNotFront wanted text → ⊥) (IsNotFront wanted text)
next_from true wanted text after f g = λ h. h after (f refl)
next_from false wanted text after f g = λ rest e. absurd (false≢true (g rest e))
