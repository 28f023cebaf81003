-- Mentions of terms.
use Rattle.std.specs.Prelude.{◌≡◌, ◌≢◌, ◌⊎◌, ℕ, suc, ◌+◌, ◌<◌, ◌≤◌, ◌++◌, Bool, true, false, nat_eq, nat_lt}
use Rattle.std.specs.Prelude.{if◌then◌else◌, List, [], ◌∷◌, map, Option, Some, None, length, slice_get, slice_index_or}
use Rattle.std.specs.Prelude.{◌-◌}
use Rattle.gh_base.specs.declared.atom.Term.{Term}
use Rattle.gh_base.specs.declared.atom.Atom.{Atom}
use Rattle.gh_base.specs.declared.atom.Atom.TheVariants.{Eq, Btwn, Hop, Alloc, Def}
use Rattle.gh_base.specs.declared.atom.Lit.{Lit}
use Rattle.gh_cc.specs.declared.uses.Mention.{Mention}
use Rattle.gh_cc.specs.declared.partition.Link.{Link}
use Rattle.gh_cc.specs.Partitions.{Merged, rep, rep_of, no_link}

-- what callers see of `Uses`: how many terms there are, the room, and the terms that are mentioned, in order
pub record Mentioned : Type 0 where
  pub terms : ℕ
  pub room : ℕ
  pub list : List (Option Term)

abbrev pub terms_of : List Mention → List (Option Term)
terms_of mentions = map (λ (m : Mention). m.term) mentions

-- one more than the last place below the bound at which the term is mentioned, or 0
pub record IsLast (list : List (Option Term)) (t : Term) (bound next : ℕ) : Type 0 where
  pub within : next ≤ bound
  pub here : (n : ℕ) → next ≡ suc n → slice_get list n ≡ Some (Some t)
  pub none : (j : ℕ) → next ≤ j → j < bound → slice_get list j ≢ Some (Some t)

-- the tables link the mentions of each term
pub record AreUses (mentions : List Mention) (last : List ℕ) : Type 0 where
  pub heads : (t : Term) (n : ℕ) → slice_get last t.0 ≡ Some n → IsLast (terms_of mentions) t (length mentions) n
  pub links : (i : ℕ) (m : Mention) (t : Term) → slice_get mentions i ≡ Some m → m.term ≡ Some t → (t.0 < length last)
      × IsLast (terms_of mentions) t i m.before

abbrev pub one_if : Bool → ℕ
one_if true = 1
one_if false = 0

-- how many mentions there are of terms with a property
abbrev pub counted : (ℕ → Bool) → List (Option Term) → ℕ
counted has [] = 0
counted has (None ∷ list) = counted has list
counted has (Some t ∷ list) = one_if (has t.0) + counted has list

-- how often a term is mentioned
abbrev pub times : List (Option Term) → ℕ → ℕ
times list t = counted (λ u. nat_eq u t) list

-- how often the terms below a bound are mentioned whose representative is this one
abbrev pub class_times : List (Option Term) → (ℕ → ℕ) → ℕ → ℕ → ℕ
class_times list r class terms = counted (λ u. if nat_lt u terms then nat_eq (r u) class else false) list

-- a count for each of so many terms
pub record AreCounts (mentions : List Mention) (counts : List ℕ) (terms : ℕ) : Type 0 where
  pub long : length counts ≡ terms
  pub each : (t n : ℕ) → slice_get counts t ≡ Some n → n ≡ times (terms_of mentions) t

-- both tables are those of the mentions
abbrev pub AreMentions : List Mention → List ℕ → List ℕ → Type 0
AreMentions mentions last counts = AreUses mentions last × AreCounts mentions counts (length last)

-- the terms of an atom in order, and nothing in the places that it lacks
abbrev pub first_term : Atom → Option Term
first_term (Eq a b) = Some a
first_term (Btwn v x y z) = Some x
first_term (Hop v x y) = Some x
first_term (Alloc v x) = Some x
first_term (Def number) = None

abbrev pub second_term : Atom → Option Term
second_term (Eq a b) = Some b
second_term (Btwn v x y z) = Some y
second_term (Hop v x y) = Some y
second_term (Alloc v x) = None
second_term (Def number) = None

abbrev pub third_term : Atom → Option Term
third_term (Eq a b) = None
third_term (Btwn v x y z) = Some z
third_term (Hop v x y) = None
third_term (Alloc v x) = None
third_term (Def number) = None

abbrev pub terms_in : Atom → List (Option Term)
terms_in a = first_term a ∷ second_term a ∷ third_term a ∷ []

-- three mentions for each literal
abbrev pub all_mentions : List Lit → List (Option Term)
all_mentions [] = []
all_mentions (l ∷ ls) = first_term l.atom ∷ second_term l.atom ∷ third_term l.atom ∷ all_mentions ls

abbrev pub Mentions : Atom → Term → Type 0
Mentions a t = (first_term a ≡ Some t) ⊎ ((second_term a ≡ Some t) ⊎ (third_term a ≡ Some t))

-- the last link moved the term's class
abbrev pub IsMoved : List Link → Term → Type 0
IsMoved links t = rep links (length links - 1) t.0
    ≡ rep links (length links - 1) (slice_index_or links (length links - 1) no_link).from.0

-- the terms are those that a link joins
abbrev pub AreEnds : Link → Term → Term → Type 0
AreEnds l a b = ((l.from ≡ a) × (l.to ≡ b)) ⊎ ((l.from ≡ b) × (l.to ≡ a))

-- two terms were joined, and the class that moved is mentioned no more often than that into which it moved
pub record JoinsLighter (list : List (Option Term)) (old new : Merged) (a b : Term) : Type 0 where
  pub link : Link
  pub ends : AreEnds link a b
  pub merged : new ≡ record { terms = old.terms; links = old.links ++ link ∷ [] }
  pub lighter : class_times list (rep_of old) (rep_of old link.from.0) old.terms
      ≤ class_times list (rep_of old) (rep_of old link.to.0) old.terms
