-- Classes of terms that are merged one link after another.
use Rattle.std.specs.Prelude.{◌≡◌, ◌≢◌, ◌<◌, ◌≤◌, ◌++◌, ℕ, zero, suc, List, false, All, Contains, Some, length}
use Rattle.std.specs.Prelude.{slice_get, slice_index_or, nat_eq, if◌then◌else◌}
use Rattle.gh_base.specs.declared.atom.Term.{Term}
use Rattle.gh_base.specs.declared.atom.Lit.{Lit}
use Rattle.gh_base.specs.Meaning.{Interpretation, lit_truth}
use Rattle.gh_base.specs.Atoms.{positive, negative, equation}
use Rattle.gh_cc.specs.declared.partition.Link.{Link}

-- what callers see of a `Partition`: how many terms there are, and the links that merged classes, in order
pub record Merged : Type 0 where
  pub terms : ℕ
  pub links : List Link

abbrev pub no_link : Link
no_link = record { from = record { 0 = 0 }; to = record { 0 = 0 } }

-- the class of the link's first term is merged into that of the second
abbrev pub relabel : (ℕ → ℕ) → Link → ℕ → ℕ
relabel r l t = if nat_eq (r t) (r l.from.0) then r l.to.0 else r t

-- one representative in the place of another
abbrev pub moved : Term → Term → Term → Term
moved old new r = if nat_eq r.0 old.0 then new else r

-- the representative of a term after the first links
abbrev pub rep : List Link → ℕ → ℕ → ℕ
rep links zero t = t
rep links (suc d) t = relabel (rep links d) (slice_index_or links d no_link) t

-- the representative of a term
abbrev pub rep_of : Merged → ℕ → ℕ
rep_of p t = rep p.links (length p.links) t

-- each link joined two classes
abbrev pub AreMerges : ℕ → List Link → Type 0
AreMerges terms links =
    (d : ℕ) (l : Link) → slice_get links d ≡ Some l
    → (l.from.0 < terms) × (l.to.0 < terms) × (rep links d l.from.0 ≢ rep links d l.to.0)

-- the equality that a link rests on
abbrev pub equality_of : Link → Lit
equality_of l = positive (equation l.from l.to)

abbrev pub disequality_of : Link → Lit
disequality_of l = negative (equation l.from l.to)

-- the added literals negate equalities of links, and where all added ones are false the two terms have one class
pub record Explains (links : List Link) (a b : Term) (added : List Lit) : Type 0 where
  pub negated : All (λ l. (k : Link) × Contains links k × (l ≡ disequality_of k)) added
  pub joins : (m : Interpretation) → All (λ l. lit_truth m l ≡ false) added → m.class a.0 ≡ m.class b.0

-- such literals were added to a clause
pub record ExplainsMore (links : List Link) (a b : Term) (old new : List Lit) : Type 0 where
  pub added : List Lit
  pub more : new ≡ old ++ added
  pub explains : Explains links a b added

-- what a partition keeps: representatives, and those before each merge
pub record IsPartition (links : List Link) (reps : List Term) (saved : List (List Term)) (room : ℕ) : Type 0 where
  pub few : length reps < 256
  pub merges : AreMerges (length reps) links
  pub present : (t : ℕ) → t < length reps → slice_get reps t ≡ Some (record { 0 = rep links (length links) t })
  pub before : (d : ℕ) → d < length links → (row : List Term) × (slice_get saved d ≡ Some row)
      × ((t : ℕ) → t < length reps → slice_get row t ≡ Some (record { 0 = rep links d t }))
  pub long : All (λ row. length row ≡ length reps) saved
  pub rows : length saved ≡ length reps
  pub reserved : length reps ≤ room
