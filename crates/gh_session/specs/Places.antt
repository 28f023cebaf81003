-- What is kept, and the places at which it is filed under fingerprints.
use Rattle.std.specs.Prelude.{◌≡◌, ℕ, List, [], Some, map, Vec, slice_get, nat_eq, Contains}
use Rattle.std.specs.Option.{option_map, unwrap_or}
use Rattle.std.specs.Global.{Global}
use Rattle.std.specs.HashMap as hash
use Rattle.gh_session.specs.Essences.{Essence}
use Rattle.gh_session.specs.Fingerprint.{fingerprint}
use Rattle.gh_session.specs.Views.{essence_view}
use Rattle.gh_session.specs.Known.{Known, known, AreRight}
use Rattle.gh_session.specs.declared.kept.Kept.{Kept}

abbrev pub known_of : Kept → Known
known_of k = known (essence_view k.essence) k.answer

-- what a session knows that keeps this
abbrev pub knowledge : List Kept → List Known
knowledge = map known_of

-- what is kept at a place, if anything is, has another essence
abbrev pub LacksAt : List Kept → Essence → ℕ → Type 0
LacksAt kept e n = (k : Kept) → slice_get kept n ≡ Some k → essence_view k.essence ≡ e → ⊥

-- what is kept at each of some places, if anything is, has another essence
abbrev pub LacksAtAll : List Kept → Essence → List ℕ → Type 0
LacksAtAll kept e ns = (n : ℕ) (k : Kept) → Contains ns n → slice_get kept n ≡ Some k → essence_view k.essence ≡ e → ⊥

module _ {S : Type 0} where
  -- the places under a fingerprint
  abbrev pub filed : hash.HashMap ℕ (Vec ℕ Global) S → ℕ → List ℕ
  filed table q = unwrap_or (option_map (λ v. v.items) (hash.get nat_eq table q)) []

  -- each essence is filed under its fingerprint at the place where it stands, and all answers are right
  pub record IsFiled (kept : List Kept) (table : hash.HashMap ℕ (Vec ℕ Global) S) : Type 0 where
    pub places : (n : ℕ) (k : Kept) → slice_get kept n ≡ Some k
        → Contains (filed table (fingerprint (essence_view k.essence))) n
    pub right : AreRight (knowledge kept)
