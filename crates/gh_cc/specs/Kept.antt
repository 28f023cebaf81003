-- What `Classes` keeps of the asserted literals.
use Rattle.std.specs.Prelude.{◌≡◌, ◌≢◌, ℕ, ◌<◌, ◌≤◌, ◌^◌, ◌++◌, List, All, Contains, Bool, true, false, Option, Some}
use Rattle.std.specs.Prelude.{None, length, take, slice_get, slice_index_or, nat_lt, if◌then◌else◌}
use Rattle.gh_base.specs.declared.atom.Term.{Term}
use Rattle.gh_base.specs.declared.atom.Atom.{Atom}
use Rattle.gh_base.specs.declared.atom.Atom.TheVariants.{Eq, Btwn, Hop, Alloc, Def}
use Rattle.gh_base.specs.declared.atom.Lit.{Lit}
use Rattle.gh_base.specs.declared.sizes.Sizes.{Sizes}
use Rattle.gh_base.specs.Meaning.{Interpretation, IsCongruence, atom_truth, lit_truth}
use Rattle.gh_base.specs.Atoms.{IsInRange, AreInRange, number_of, count_of}
use Rattle.gh_cc.specs.declared.partition.Link.{Link}
use Rattle.gh_cc.specs.declared.signatures.SignatureEntry.{SignatureEntry}
use Rattle.gh_cc.specs.declared.moving.IndexedLits.{IndexedLits}
use Rattle.gh_cc.specs.declared.clash.Clash.{Clash}
use Rattle.gh_cc.specs.declared.clash.Clash.TheVariants.{Unequal, Opposite}
use Rattle.gh_cc.specs.declared.classes.Stage.{Stage}
use Rattle.gh_cc.specs.declared.classes.ClashAt.{ClashAt}
use Rattle.gh_cc.specs.Partitions.{Merged, rep, equality_of, disequality_of, AreMerges}
use Rattle.gh_cc.specs.Signatures.{Filed, find_lit}
use Rattle.gh_cc.specs.Uses.{Mentions, IsMoved}
use Rattle.gh_cc.specs.Asserted.{equality}

abbrev pub at : (ℕ → ℕ) → Term → Term
at r t = record { 0 = r t.0 }

-- representatives in the places of terms, but for an equality, which stays as it is
abbrev pub normal : (ℕ → ℕ) → Atom → Atom
normal r (Eq a b) = Eq a b
normal r (Btwn v x y z) = Btwn v (at r x) (at r y) (at r z)
normal r (Hop v x y) = Hop v (at r x) (at r y)
normal r (Alloc v x) = Alloc v (at r x)
normal r (Def number) = Def number

-- the atom is no equality
abbrev pub IsRelation : Atom → Type 0
IsRelation (Eq a b) = ⊥
IsRelation (Btwn v x y z) = Unit {0}
IsRelation (Hop v x y) = Unit {0}
IsRelation (Alloc v x) = Unit {0}
IsRelation (Def number) = Unit {0}

-- the representatives after all links
abbrev pub reps : List Link → ℕ → ℕ
reps links = rep links (length links)

-- an entry is of an atom that differs from its literal's by equal terms at most
pub record IsEntry (s : Sizes) (r : ℕ → ℕ) (lits : List Lit) (e : SignatureEntry) : Type 0 where
  pub lit : Lit
  pub atom : Atom
  pub there : slice_get lits e.lit ≡ Some lit
  pub relation : IsRelation lit.atom
  pub in_range : IsInRange s atom
  pub number : e.number ≡ number_of s atom
  pub same : normal r atom ≡ normal r lit.atom

-- the entry of an atom's number is of a literal of this sign
pub record HasSign (lits : List Lit) (entries : List SignatureEntry) (number : ℕ) (sign : Bool) : Type 0 where
  pub place : ℕ
  pub lit : Lit
  pub found : find_lit entries number ≡ Some place
  pub there : slice_get lits place ≡ Some lit
  pub signed : lit.positive ≡ sign

-- the tables agree with a literal
abbrev pub IsFiledAs : Sizes → (ℕ → ℕ) → List Lit → List SignatureEntry → Atom → Bool → Type 0
IsFiledAs s r lits entries (Eq a b) true = r a.0 ≡ r b.0
IsFiledAs s r lits entries (Eq a b) false = r a.0 ≢ r b.0
IsFiledAs s r lits entries (Btwn v x y z) sign = HasSign lits entries (number_of s (normal r (Btwn v x y z))) sign
IsFiledAs s r lits entries (Hop v x y) sign = HasSign lits entries (number_of s (normal r (Hop v x y))) sign
IsFiledAs s r lits entries (Alloc v x) sign = HasSign lits entries (number_of s (normal r (Alloc v x))) sign
IsFiledAs s r lits entries (Def number) sign = HasSign lits entries (number_of s (Def number)) sign

abbrev pub IsFiled : Sizes → List Lit → List Link → List SignatureEntry → Lit → Type 0
IsFiled s lits links entries l = IsFiledAs s (reps links) lits entries l.atom l.positive

-- the tables agree with each literal
abbrev pub AllFiled : Sizes → List Lit → List Link → List SignatureEntry → Type 0
AllFiled s lits links entries = All (IsFiled s lits links entries) lits

-- they agree with the literal at a place
abbrev pub IsFiledAt : Sizes → List Lit → List Link → List SignatureEntry → ℕ → Type 0
IsFiledAt s lits links entries place = (l : Lit) → slice_get lits place ≡ Some l → IsFiled s lits links entries l

-- .. with each literal that mentions a term
abbrev pub AreFiledOf : IndexedLits → List Link → List SignatureEntry → Term → Type 0
AreFiledOf a links entries t =
    (i : ℕ) (l : Lit) → slice_get a.lits.now i ≡ Some l → Mentions l.atom t → IsFiled a.sizes a.lits.now links entries l

-- .. with each that mentions a term which the last link moved
abbrev pub AreFiledMoved : IndexedLits → List Link → List SignatureEntry → Type 0
AreFiledMoved a links entries = (i : ℕ) (l : Lit) (t : Term) → slice_get a.lits.now i ≡ Some l → Mentions l.atom t
    → t.0 < a.sizes.terms
    → IsMoved links t → IsFiled a.sizes a.lits.now links entries l

-- where there was no clash and they agreed with each literal before a place, they agree now with each literal
abbrev pub FilesLits : Bool → IndexedLits → ℕ → Merged → Merged → Filed → Filed → Type 0
FilesLits clashed a place old new old_filed new_filed = clashed ≡ false
    → AllFiled a.sizes (take place a.lits.now) old.links old_filed.entries
    → AllFiled a.sizes a.lits.now new.links new_filed.entries

-- the literals of two places have the same sign, or opposite ones
abbrev pub HaveOneSign : List Lit → ℕ → ℕ → Type 0
HaveOneSign lits first second = (l k : Lit) → slice_get lits first ≡ Some l → slice_get lits second ≡ Some k
    → l.positive ≡ k.positive

abbrev pub HaveTwoSigns : List Lit → ℕ → ℕ → Type 0
HaveTwoSigns lits first second = (l k : Lit) → slice_get lits first ≡ Some l → slice_get lits second ≡ Some k
    → l.positive ≢ k.positive

-- a disequality between terms of one class, or two literals of opposite signs over terms of the same classes
abbrev pub IsClash : (ℕ → ℕ) → List Lit → Clash → Type 0
IsClash r lits (Unequal place) =
    (a : Term) × (b : Term) × (slice_get lits place ≡ Some (record { atom = Eq a b; positive = false }))
    × (r a.0 ≡ r b.0)
IsClash r lits (Opposite first second) =
    (l : Lit) × (k : Lit) × (slice_get lits first ≡ Some l) × (slice_get lits second ≡ Some k) × IsRelation l.atom
    × (normal r l.atom ≡ normal r k.atom) × (l.positive ≢ k.positive)

-- links and entries rest on the literals, and the links join the terms of each equality
pub record IsState (s : Sizes) (lits : List Lit) (links : List Link) (entries : List SignatureEntry) : Type 0 where
  pub linked : (l : Link) → Contains links l → Contains lits (equality_of l)
  pub joined : (a b : Term) → Contains lits (equality a b) → reps links a.0 ≡ reps links b.0
  pub named : All (IsEntry s (reps links) lits) entries

-- literals in range, and classes whose links rest on them
pub record AreLinked (s : Sizes) (lits : List Lit) (p : Merged) : Type 0 where
  pub in_range : AreInRange s lits
  pub terms : p.terms ≡ s.terms
  pub linked : (l : Link) → Contains p.links l → Contains lits (equality_of l)

-- literals, classes and entries that belong together
pub record AreTied (s : Sizes) (lits : List Lit) (p : Merged) (f : Filed) : Type 0 where
  pub in_range : AreInRange s lits
  pub terms : p.terms ≡ s.terms
  pub merges : AreMerges p.terms p.links
  pub count : f.count ≡ count_of s
  pub few : count_of s < 2 ^ 32
  pub state : IsState s lits p.links f.entries

-- entries were added
pub record Grows (old new : Filed) : Type 0 where
  pub added : List SignatureEntry
  pub more : new.entries ≡ old.entries ++ added
  pub count : new.count ≡ old.count

-- links were added
pub record LinksMore (old new : Merged) : Type 0 where
  pub added : List Link
  pub more : new.links ≡ old.links ++ added
  pub terms : new.terms ≡ old.terms

-- the fields of `Classes` but for the mentions
pub record Core : Type 0 where
  pub sizes : Sizes
  pub lits : List Lit
  pub stages : List Stage
  pub links : List Link
  pub entries : List SignatureEntry
  pub clash : Option ClashAt

-- the clash that stands after a literal at this place was taken in
abbrev pub first_clash : Option ClashAt → ℕ → Option Clash → Option ClashAt
first_clash (Some f) place found = Some f
first_clash None place None = None
first_clash None place (Some c) = Some (record { place = place; clash = c })

-- the clash that stands after the literals from this place on were taken back
abbrev pub clash_before : ℕ → Option ClashAt → Option ClashAt
clash_before mark None = None
clash_before mark (Some f) = if nat_lt f.place mark then Some f else None

-- how many links and entries there were when so many literals stood
abbrev pub stage_at : Core → ℕ → Stage
stage_at c k = slice_index_or c.stages k (record { depth = length c.links; entries = length c.entries })

-- no clash was found before so many literals stood
abbrev pub NoClashBefore : Option ClashAt → ℕ → Type 0
NoClashBefore clash k = (f : ClashAt) → clash ≡ Some f → k ≤ f.place

-- what was so at stage t, when only the first k literals stood
pub record IsStage (c : Core) (k : ℕ) (t : Stage) : Type 0 where
  pub depth : t.depth ≤ length c.links
  pub count : t.entries ≤ length c.entries
  pub state : IsState c.sizes (take k c.lits) (take t.depth c.links) (take t.entries c.entries)
  pub filed : NoClashBefore c.clash k
      → AllFiled c.sizes (take k c.lits) (take t.depth c.links) (take t.entries c.entries)
  pub clash : (f : ClashAt) → c.clash ≡ Some f → f.place < k
      → IsClash (reps (take t.depth c.links)) (take k c.lits) f.clash

-- one stage isn't after another
pub record IsBefore (t u : Stage) : Type 0 where
  pub depth : t.depth ≤ u.depth
  pub entries : t.entries ≤ u.entries

-- what is true of `Classes` between its calls
pub record IsKept (c : Core) : Type 0 where
  pub few : length c.lits ≤ count_of c.sizes
  pub staged : length c.stages ≡ length c.lits
  pub in_range : AreInRange c.sizes c.lits
  pub apart : (i j : ℕ) (l k : Lit) → slice_get c.lits i ≡ Some l → slice_get c.lits j ≡ Some k → l.atom ≡ k.atom
      → i ≡ j
  pub each : (k : ℕ) → k ≤ length c.lits → IsStage c k (stage_at c k)
  pub clashed : (f : ClashAt) → c.clash ≡ Some f → f.place < length c.lits
  pub rising : (j k : ℕ) → j ≤ k → k ≤ length c.lits → IsBefore (stage_at c j) (stage_at c k)

-- negated equalities of links were added to a clause, and where all of these are false the two atoms have one truth
pub record ExplainsAtoms (s : Sizes) (links : List Link) (a b : Atom) (old new : List Lit) : Type 0 where
  pub added : List Lit
  pub more : new ≡ old ++ added
  pub negated : All (λ l. (k : Link) × Contains links k × (l ≡ disequality_of k)) added
  pub agrees : (m : Interpretation) → IsCongruence s m → All (λ l. lit_truth m l ≡ false) added
      → atom_truth m a ≡ atom_truth m b
