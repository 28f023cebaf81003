-- Names with terms, as a list.
use Rattle.std.specs.Prelude.{◌≡◌, ◌≢◌, ℕ, ◌<◌, List, length, slice_index_or, [], ◌∷◌, ◌++◌, map, Contains, Option}
use Rattle.std.specs.Prelude.{Some, None, cond, AllPairs, Bool, false, ◌==◌, ◌&&◌, position, slice_get, unwrap_or}
use Rattle.std.specs.Str.{bytes_eq}
use Rattle.gh_base.specs.declared.atom.Term.{Term}
use Rattle.gh_base.specs.declared.term.TermKind.{TermKind}
use Rattle.gh_base.specs.declared.term.TermKind.TheVariants.{Null, Value, Next}
use Rattle.gh_base.specs.Atoms.{term}
use Rattle.gh_ast.specs.Programs.{Name}
use Rattle.gh_grass.specs.declared.binding.Bond.{Bond}

abbrev pub bound_names : List Bond → List Name
bound_names bs = map (λ b. b.name) bs

-- no name is listed twice
abbrev pub AreDistinct : List Bond → Type 0
AreDistinct bs = AllPairs (λ x y. x ≢ y) (bound_names bs)

-- the term of a name
abbrev pub term_in : List Bond → Name → Option Term
term_in [] name = None
term_in (b ∷ bs) name = cond (bytes_eq b.name name) (Some b.term) (term_in bs name)

-- the first entry of the name stands at i
pub record IsListedAt (bs : List Bond) (name : Name) (i : ℕ) : Type 0 where
  pub within : i < length bs
  pub named : (d : Bond) → (slice_index_or bs i d).name ≡ name
  pub earlier : (k : ℕ) (d : Bond) → k < i → (slice_index_or bs k d).name ≢ name

-- one name gets a term, and all others keep theirs
pub record IsBound (old new : List Bond) (name : Name) (term : Term) : Type 0 where
  pub term_is : term_in new name ≡ Some term
  pub others : (other : Name) → other ≢ name → term_in new other ≡ term_in old other

-- the term of a name; one without a term counts as null
abbrev pub bound_term : List Bond → Name → Term
bound_term bs name = unwrap_or (term_in bs name) (term 0)

-- no kind stands twice
abbrev pub AreDistinctKinds : List TermKind → Type 0
AreDistinctKinds ks = AllPairs (λ j k. j ≢ k) ks

-- the kinds of terms, in order: null stands first, and a term is a byte
abbrev pub AreTermKinds : List TermKind → Type 0
AreTermKinds ks = (length ks < 256) × (slice_get ks 0 ≡ Some Null) × AreDistinctKinds ks

-- no term but this one is of the kind
abbrev pub IsOnlyAt : List TermKind → TermKind → ℕ → Type 0
IsOnlyAt ks kind place = (t : ℕ) → slice_get ks t ≡ Some kind → t ≡ place

-- a kind that wasn't there is added last
abbrev pub AddsNew : List TermKind → List TermKind → TermKind → Type 0
AddsNew old new kind = (Contains old kind → ⊥) → new ≡ old ++ kind ∷ []

-- the kind of the content of the cell at a term in a version
abbrev pub is_next : ℕ → Term → TermKind → Bool
is_next i x Null = false
is_next i x (Value n) = false
is_next i x (Next j y) = (i == j) && (x.0 == y.0)

-- the term of a successor; one that isn't listed counts as null
abbrev pub next_term : List TermKind → ℕ → Term → Term
next_term ks i x = term (unwrap_or (position (is_next i x) ks) 0)
