-- Terms and what is bound to them, as lists.
use Rattle.std.specs.Prelude.{◌≡◌, ◌≢◌, ℕ, ◌+◌, ◌<◌, ◌≤◌, List, [], ◌∷◌, length, slice_index_or, count_by, Contains}
use Rattle.std.specs.Prelude.{AllPairs}
use Rattle.gh_ast.specs.declared.Operand.{Operand}
use Rattle.gh_ast.specs.Programs.{Name}
use Rattle.gh_path.specs.Terms.{Kind, null, value, next, is_value, Bindings, unbound, bound, used, followed}
use Rattle.gh_path.specs.Terms.{operand_term, Terms, terms}
use Rattle.gh_symb.specs.declared.scope.Entry.{Entry}
use Rattle.gh_symb.specs.declared.kinds.Kind as kept
use Rattle.gh_symb.specs.declared.kinds.Kind.TheVariants.{Null, Value, Next}

abbrev pub kind_of : kept.Kind → Kind
kind_of Null = null
kind_of (Value n) = value n
kind_of (Next i x) = next i x

pub record BeginsWithNull (ks : List Kind) : Type 0 where
  pub rest : List Kind
  pub is : ks ≡ null ∷ rest

-- null comes first, values are numbered in their order, and no kind stands twice
pub record AreListed (ks : List Kind) : Type 0 where
  pub first : BeginsWithNull ks
  pub numbered : (n : ℕ) → Contains ks (value n) → n < count_by is_value ks
  pub apart : AllPairs (λ (j k : Kind). j ≢ k) ks

-- a value's number has 16 bits, and those of a successor have 8
abbrev pub IsShort : kept.Kind → Type 0
IsShort Null = Unit {0}
IsShort (Value n) = n < 65536
IsShort (Next i x) = (i < 256) × (x < 256)

-- names with terms, in the order in which they were bound
abbrev pub Pairs : Type 0
Pairs = List (Name × ℕ)

abbrev pub pair_of : Entry → Name × ℕ
pair_of e = (e.name.now, e.term)

-- the bindings b, once the names of the list are bound, in order
abbrev pub bound_from : Bindings → Pairs → Bindings
bound_from b [] = b
bound_from b ((x, t) ∷ es) = bound_from (bound b x t) es

-- the last term of a name counts
abbrev pub bound_by : Pairs → Bindings
bound_by es = bound_from unbound es

-- no entry of the name stands at i or later
abbrev pub NoneFrom : List Entry → Name → ℕ → Type 0
NoneFrom es name i = (k : ℕ) (d : Entry) → i ≤ k → k < length es → (slice_index_or es k d).name.now ≢ name

-- the last entry of the name stands at i
pub record IsLastAt (es : List Entry) (name : Name) (i : ℕ) : Type 0 where
  pub within : i < length es
  pub named : (d : Entry) → (slice_index_or es i d).name.now ≡ name
  pub later : NoneFrom es name (i + 1)

abbrev pub state : List Kind → Pairs → ℕ → Terms
state ks es i = terms ks (bound_by es) i

-- the term of an operand, whatever the kinds and the version are
abbrev pub IsOperandTerm : Operand → Pairs → ℕ → Type 0
IsOperandTerm o es term = (ks : List Kind) (i : ℕ) → term ≡ operand_term o (state ks es i)

-- a walk in version i: it leads from the terms before it to f of them
abbrev pub Walks : (Terms → Terms) → List Kind → Pairs → List Kind → Pairs → ℕ → Type 0
Walks f ks es ls fs i = state ls fs i ≡ f (state ks es i)

-- a variable is used, and the content of the cell at its term is listed
abbrev pub Visits : Name → List Kind → Pairs → List Kind → Pairs → ℕ → Type 0
Visits x ks es ls fs i = Walks (λ s. followed x (used x s)) ks es ls fs i

-- a walk that is the same in every version
abbrev pub WalksAlways : (Terms → Terms) → List Kind → Pairs → List Kind → Pairs → Type 0
WalksAlways f ks es ls fs = (i : ℕ) → Walks f ks es ls fs i
