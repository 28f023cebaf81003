-- Literals under the keys of their atoms.
use Rattle.std.proofs.Common.{◌≡◌, ◌≢◌, inl, inr, ℕ, ◌+◌, ◌<◌, Bool, true, false, cond, eqb, List, [], ◌∷◌, ◌++◌, All}
use Rattle.std.proofs.Common.{length, take, Option, Some, None, refl, sym, ap, ◌∙◌, subst, arith, append_assoc}
use Rattle.std.specs.Prelude.{slice_get, IfNone, IfSome}
use Rattle.std.proofs.lemmas.Bool.{eq-eqb}
use Rattle.std.proofs.lemmas.List.{append-nil}
use Rattle.std.proofs.lemmas.Bool.Decides.{eqb_tells}
use Rattle.std.proofs.lemmas.List.Elements.{All-contains, All-weaker, All-push, All-more}
use Rattle.std.proofs.lemmas.Option.{get_or_from_slice_get}
use Rattle.gh_base.specs.declared.atom.Term.{Term}
use Rattle.gh_base.specs.declared.atom.Atom.{Atom}
use Rattle.gh_base.specs.declared.atom.Atom.TheVariants.{Eq, Btwn, Hop, Alloc, Def}
use Rattle.gh_base.specs.declared.atom.Lit.{Lit}
use Rattle.gh_base.specs.declared.sizes.Sizes.{Sizes}
use Rattle.gh_base.specs.Atoms.{IsInRange, number_of}
use Rattle.gh_base.proofs.NumberLemmas.{apart}
use Rattle.gh_cc.specs.declared.partition.Link.{Link}
use Rattle.gh_cc.specs.declared.signatures.SignatureEntry.{SignatureEntry}
use Rattle.gh_cc.specs.Partitions.{Merged, AreMerges}
use Rattle.gh_cc.specs.Signatures.{Filed, find_lit}
use Rattle.gh_cc.specs.Kept.{at, normal, reps, IsRelation, IsEntry, HasSign, IsFiledAs, IsFiled, IsClash, AreTied}
use Rattle.gh_cc.specs.Kept.{Grows}
use Rattle.gh_cc.specs.declared.clash.Clash.TheVariants.{Opposite}
use Rattle.gh_cc.specs.declared.clash.Clash.{Clash}
use Rattle.gh_base.proofs.ListLemmas.{get_some}
use Rattle.gh_cc.proofs.PartitionLemmas.{rep_range, rep_own, slice_get-contains}
use Rattle.gh_cc.proofs.SignatureLemmas.{find_sound}

pub reps_range : (n : ℕ) (links : List Link) (t : ℕ) → AreMerges n links → t < n → reps links t < n
reps_range n links t m h = rep_range n links (length links) t m (omega arith) h

pub normal_below : (s : Sizes) (r : ℕ → ℕ) (a : Atom) → ((t : ℕ) → t < s.terms → r t < s.terms) → IsInRange s a
    → IsInRange s (normal r a)
normal_below s r (Eq a b) m h = h
normal_below s r (Btwn v x y z) m h = (h.0, m x.0 h.1, m y.0 h.2, m z.0 h.3)
normal_below s r (Hop v x y) m h = (h.0, m x.0 h.1, m y.0 h.2)
normal_below s r (Alloc v x) m h = (h.0, m x.0 h.1)
normal_below s r (Def k) m h = h

pub normal_range : (s : Sizes) (links : List Link) (a : Atom) → AreMerges s.terms links → IsInRange s a
    → IsInRange s (normal (reps links) a)
normal_range s links a m h = normal_below s (reps links) a (λ t below. reps_range s.terms links t m below) h

-- coarser representatives forget finer ones
pub normal_coarser : (r more : ℕ → ℕ) → ((t : ℕ) → more (r t) ≡ more t) → (a : Atom)
    → normal more (normal r a) ≡ normal more a
normal_coarser r more h (Eq a b) = refl
normal_coarser r more h (Btwn v x y z) = cc (h x.0, h y.0, h z.0)
normal_coarser r more h (Hop v x y) = cc (h x.0, h y.0)
normal_coarser r more h (Alloc v x) = cc (h x.0)
normal_coarser r more h (Def k) = refl

pub normal_twice : (links : List Link) (a : Atom) → normal (reps links) (normal (reps links) a) ≡ normal (reps links) a
normal_twice links a = normal_coarser (reps links) (reps links) (rep_own links (length links)) a

pub normal_relation : (r : ℕ → ℕ) (a : Atom) → IsRelation a → IsRelation (normal r a)
normal_relation r (Eq a b) h = h
normal_relation r (Btwn v x y z) h = tt
normal_relation r (Hop v x y) h = tt
normal_relation r (Alloc v x) h = tt
normal_relation r (Def k) h = tt

pub filed_as : (s : Sizes) (r : ℕ → ℕ) (lits : List Lit) (entries : List SignatureEntry) (a : Atom) (sign : Bool)
    → IsRelation a
    → HasSign lits entries (number_of s (normal r a)) sign → IsFiledAs s r lits entries a sign
filed_as s r lits entries (Eq a b) sign h f = absurd h
filed_as s r lits entries (Btwn v x y z) sign h f = f
filed_as s r lits entries (Hop v x y) sign h f = f
filed_as s r lits entries (Alloc v x) sign h f = f
filed_as s r lits entries (Def k) sign h f = f

find_here : (x : SignatureEntry) (xs : List SignatureEntry) (n : ℕ) → eqb x.number n ≡ true
    → find_lit (x ∷ xs) n ≡ Some x.lit
find_here x xs n e = ap (λ (b : Bool). cond b (Some x.lit) (find_lit xs n)) e

find_there : (x : SignatureEntry) (xs : List SignatureEntry) (n : ℕ) → eqb x.number n ≡ false
    → find_lit (x ∷ xs) n ≡ find_lit xs n
find_there x xs n e = ap (λ (b : Bool). cond b (Some x.lit) (find_lit xs n)) e

-- more entries find what was found
pub find_front : (xs ys : List SignatureEntry) (n k : ℕ) → find_lit xs n ≡ Some k → find_lit (xs ++ ys) n ≡ Some k
find_front [] ys n k e = cc
find_front (x ∷ xs) ys n k e =
    elim (eqb_tells x.number n) as (λ _. find_lit (x ∷ (xs ++ ys)) n ≡ Some k) [
      | inl h ↦
          let was : find_lit (x ∷ xs) n ≡ Some x.lit = find_here x xs n h.0 in
          find_here x (xs ++ ys) n h.0 ∙ sym was ∙ e
      | inr h ↦ find_there x (xs ++ ys) n h.0 ∙ find_front xs ys n k (sym (find_there x xs n h.0) ∙ e)
    ]

pub find_push : (xs : List SignatureEntry) (y : SignatureEntry) → find_lit xs y.number ≡ None
    → find_lit (xs ++ y ∷ []) y.number ≡ Some y.lit
find_push [] y e = find_here y [] y.number (eq-eqb y.number y.number refl)
find_push (x ∷ xs) y e =
    elim (eqb_tells x.number y.number) as (λ _. find_lit (x ∷ (xs ++ y ∷ [])) y.number ≡ Some y.lit) [
      | inl h ↦ let was : find_lit (x ∷ xs) y.number ≡ Some x.lit = find_here x xs y.number h.0 in cc
      | inr h ↦ find_there x (xs ++ y ∷ []) y.number h.0 ∙ find_push xs y (sym (find_there x xs y.number h.0) ∙ e)
    ]

pub sign_along : (lits lits' : List Lit) (entries entries' : List SignatureEntry) (n : ℕ) (sign : Bool)
    → ((i : ℕ) (l : Lit) → slice_get lits i ≡ Some l → slice_get lits' i ≡ Some l)
    → ((m k : ℕ) → find_lit entries m ≡ Some k → find_lit entries' m ≡ Some k) → HasSign lits entries n sign
    → HasSign lits' entries' n sign
sign_along lits lits' entries entries' n sign stay find h = record {
  place = h.place;
  lit = h.lit;
  found = find n h.place h.found;
  there = stay h.place h.lit h.there;
  signed = h.signed;
}

-- what is filed stays filed
pub filed_along : (s : Sizes) (r : ℕ → ℕ) (lits lits' : List Lit) (entries entries' : List SignatureEntry) (a : Atom)
    (sign : Bool) → ((i : ℕ) (l : Lit) → slice_get lits i ≡ Some l → slice_get lits' i ≡ Some l)
    → ((m k : ℕ) → find_lit entries m ≡ Some k → find_lit entries' m ≡ Some k) → IsFiledAs s r lits entries a sign
    → IsFiledAs s r lits' entries' a sign
filed_along s r lits lits' entries entries' (Eq a b) true stay find h = h
filed_along s r lits lits' entries entries' (Eq a b) false stay find h = h
filed_along s r lits lits' entries entries' (Btwn v x y z) sign stay find h =
    sign_along lits lits' entries entries' _ sign stay find h
filed_along s r lits lits' entries entries' (Hop v x y) sign stay find h =
    sign_along lits lits' entries entries' _ sign stay find h
filed_along s r lits lits' entries entries' (Alloc v x) sign stay find h =
    sign_along lits lits' entries entries' _ sign stay find h
filed_along s r lits lits' entries entries' (Def k) sign stay find h =
    sign_along lits lits' entries entries' _ sign stay find h

pub grows_find : (old new : Filed) → Grows old new → (m k : ℕ) → find_lit old.entries m ≡ Some k
    → find_lit new.entries m ≡ Some k
grows_find old new g m k e =
    ap (λ (es : List SignatureEntry). find_lit es m) g.more ∙ find_front old.entries g.added m k e

pub grows_filed : (s : Sizes) (lits : List Lit) (links : List Link) (old new : Filed) → Grows old new → (l : Lit)
    → IsFiled s lits links old.entries l → IsFiled s lits links new.entries l
grows_filed s lits links old new g l h = filed_along s (reps links) lits lits old.entries new.entries l.atom l.positive
    (λ i k at. at) (grows_find old new g) h

pub grows_none : (f : Filed) → Grows f f
grows_none f = record { added = []; more = sym (append-nil f.entries); count = refl }

pub grows_on : (a b c : Filed) → Grows a b → Grows b c → Grows a c
grows_on a b c g h = record {
  added = g.added ++ h.added;
  more = h.more ∙ ap (λ (es : List SignatureEntry). es ++ h.added) g.more ∙ append_assoc a.entries g.added h.added;
  count = h.count ∙ g.count;
}

-- the entry of a key
pub entry_of : (s : Sizes) (links : List Link) (lits : List Lit) (entries : List SignatureEntry) (n k : ℕ)
    → All (IsEntry s (reps links) lits) entries → find_lit entries n ≡ Some k
    → IsEntry s (reps links) lits (record { number = n; lit = k })
entry_of s links lits entries n k all found =
    let w = find_sound entries n k found in
    All-contains (IsEntry s (reps links) lits) entries (record { number = n; lit = k }) all
    (slice_get-contains entries w.0 _ w.1)

-- its literal differs from the atom of the key by equal terms at most
pub entry_same : (s : Sizes) (links : List Link) (lits : List Lit) (a : Atom) (k : ℕ)
    (e : IsEntry s (reps links) lits (record { number = number_of s (normal (reps links) a); lit = k }))
    → AreMerges s.terms links → IsInRange s a → normal (reps links) e.lit.atom ≡ normal (reps links) a
entry_same s links lits a k e m h =
    let is : e.atom ≡ normal (reps links) a =
    apart s e.atom (normal (reps links) a) e.in_range (normal_range s links a m h) (sym e.number) in
    sym e.same ∙ ap (normal (reps links)) is ∙ normal_twice links a

-- the entry that a literal makes
pub entry_new : (s : Sizes) (links : List Link) (lits : List Lit) (place : ℕ) (l : Lit) → slice_get lits place ≡ Some l
    → IsRelation l.atom → AreMerges s.terms links → IsInRange s l.atom
    → IsEntry s (reps links) lits (record { number = number_of s (normal (reps links) l.atom); lit = place })
entry_new s links lits place l there relation m h = record {
  lit = l;
  atom = normal (reps links) l.atom;
  there = there;
  relation = relation;
  in_range = normal_range s links l.atom m h;
  number = refl;
  same = normal_twice links l.atom;
}

pub relation_of : (a : Atom) → ((x y : Term) → a ≡ Eq x y → ⊥) → IsRelation a
relation_of (Eq a b) h = h a b refl
relation_of (Btwn v x y z) h = tt
relation_of (Hop v x y) h = tt
relation_of (Alloc v x) h = tt
relation_of (Def k) h = tt

pub IfNone_then : {X P Q : Type 0} (r : Option X) → IfNone r P → (P → Q) → IfNone r Q
IfNone_then None h f = f h
IfNone_then (Some x) h f = h

-- what filing a literal does
pub record Files (s : Sizes) (lits : List Lit) (p : Merged) (old new : Filed) (place : ℕ) : Type 0 where
  pub tied : AreTied s lits p new
  pub grows : Grows old new
  pub filed : (l : Lit) → slice_get lits place ≡ Some l → IsFiled s lits p.links new.entries l

-- a literal under a key that had no entry
pub put_files : (s : Sizes) (lits : List Lit) (p : Merged) (old new : Filed) (n place : ℕ) (x : Lit)
    → AreTied s lits p old → slice_get lits place ≡ Some x → IsRelation x.atom
    → n ≡ number_of s (normal (reps p.links) x.atom) → find_lit old.entries n ≡ None
    → new ≡ record old { entries = old.entries ++ (record { number = n; lit = place }) ∷ [] }
    → Files s lits p old new place
put_files s lits p old new n place x t there relation is none now =
    let merges : AreMerges s.terms p.links = subst (λ n. AreMerges n p.links) t.terms t.merges in
    let inside : IsInRange s x.atom = All-contains (λ (k : Lit). IsInRange s k.atom) lits x t.in_range
    (slice_get-contains lits place x there) in
    let e : SignatureEntry = record { number = n; lit = place } in
    let entries : new.entries ≡ old.entries ++ e ∷ [] = ap (λ (f : Filed). f.entries) now in
    let count : new.count ≡ old.count = ap (λ (f : Filed). f.count) now in
    let entry : IsEntry s (reps p.links) lits e = record {
      lit = x;
      atom = normal (reps p.links) x.atom;
      there = there;
      relation = relation;
      in_range = normal_range s p.links x.atom merges inside;
      number = is;
      same = normal_twice p.links x.atom;
    } in
    let found : find_lit new.entries (number_of s (normal (reps p.links) x.atom)) ≡ Some place =
    ap (λ (m : ℕ). find_lit new.entries m) (sym is) ∙ ap (λ (es : List SignatureEntry). find_lit es n) entries
    ∙ find_push old.entries e none in
    record {
      tied = record {
        in_range = t.in_range;
        terms = t.terms;
        merges = t.merges;
        count = count ∙ t.count;
        few = t.few;
        state = record {
          linked = t.state.linked;
          joined = t.state.joined;
          named = subst (λ (es : List SignatureEntry). All (IsEntry s (reps p.links) lits) es) (sym entries)
              (All-push (IsEntry s (reps p.links) lits) old.entries e t.state.named entry);
        };
      };
      grows = record { added = e ∷ []; more = entries; count = count };
      filed = λ l at.
          let same : x ≡ l = cc (at, there) in
          subst (λ (k : Lit). IsFiled s lits p.links new.entries k) same
          (filed_as s (reps p.links) lits new.entries x.atom x.positive relation
          (record { place = place; lit = x; found = found; there = there; signed = refl }));
    }

-- the entry of a literal's key, found
pub entry_found : (s : Sizes) (lits : List Lit) (p : Merged) (f : Filed) (l : Lit) (k : ℕ) → AreTied s lits p f
    → find_lit f.entries (number_of s (normal (reps p.links) l.atom)) ≡ Some k
    → IsEntry s (reps p.links) lits (record { number = number_of s (normal (reps p.links) l.atom); lit = k })
entry_found s lits p f l k t found = entry_of s p.links lits f.entries _ k t.state.named found

pub filed_found : (s : Sizes) (lits : List Lit) (p : Merged) (f : Filed) (place : ℕ) (l : Lit) (k : ℕ)
    → AreTied s lits p f → slice_get lits place ≡ Some l → IsRelation l.atom
    → find_lit f.entries (number_of s (normal (reps p.links) l.atom)) ≡ Some k
    → ((a b : Lit) → slice_get lits k ≡ Some a → slice_get lits place ≡ Some b → a.positive ≡ b.positive)
    → IsFiled s lits p.links f.entries l
filed_found s lits p f place l k t there relation found same =
    let e = entry_found s lits p f l k t found in
    filed_as s (reps p.links) lits f.entries l.atom l.positive relation
    (record { place = k; lit = e.lit; found = found; there = e.there; signed = same e.lit l e.there there })

pub clash_found : (s : Sizes) (lits : List Lit) (p : Merged) (f : Filed) (place : ℕ) (l : Lit) (k : ℕ)
    → AreTied s lits p f → slice_get lits place ≡ Some l
    → find_lit f.entries (number_of s (normal (reps p.links) l.atom)) ≡ Some k
    → ((a b : Lit) → slice_get lits k ≡ Some a → slice_get lits place ≡ Some b → a.positive ≢ b.positive)
    → IsClash (reps p.links) lits (Opposite k place)
clash_found s lits p f place l k t there found differ =
    let e = entry_found s lits p f l k t found in
    let merges : AreMerges s.terms p.links = subst (λ n. AreMerges n p.links) t.terms t.merges in
    let inside : IsInRange s l.atom = All-contains (λ (j : Lit). IsInRange s j.atom) lits l t.in_range
    (slice_get-contains lits place l there) in (
      e.lit,
      l,
      e.there,
      there,
      e.relation,
      entry_same s p.links lits l.atom k e merges inside,
      differ e.lit l e.there there,
    )

pub same_filed : (s : Sizes) (lits : List Lit) (p : Merged) (f : Filed) (place : ℕ) (x : Lit) (k : ℕ)
    → AreTied s lits p f → slice_get lits place ≡ Some x → IsRelation x.atom
    → find_lit f.entries (number_of s (normal (reps p.links) x.atom)) ≡ Some k
    → ((a b : Lit) → slice_get lits k ≡ Some a → slice_get lits place ≡ Some b → a.positive ≡ b.positive) → (l : Lit)
    → slice_get lits place ≡ Some l → IsFiled s lits p.links f.entries l
same_filed s lits p f place x k t there relation found same l at =
    let is : x ≡ l = cc (at, there) in
    subst (λ (j : Lit). IsFiled s lits p.links f.entries j) is
    (filed_found s lits p f place x k t there relation found same)

pub clash_same : (s : Sizes) (lits : List Lit) (p : Merged) (f : Filed) (place : ℕ) (x : Lit) (k : ℕ) (o : Option Clash)
    → AreTied s lits p f → slice_get lits place ≡ Some x
    → find_lit f.entries (number_of s (normal (reps p.links) x.atom)) ≡ Some k → IfSome o (λ c. c ≡ Opposite k place)
    → IfSome o (λ _. (a b : Lit) → slice_get lits k ≡ Some a → slice_get lits place ≡ Some b → a.positive ≢ b.positive)
    → IfSome o (λ c. IsClash (reps p.links) lits c)
clash_same s lits p f place x k None t there found is differ = tt
clash_same s lits p f place x k (Some c) t there found is differ =
    subst (λ (d : Clash). IsClash (reps p.links) lits d) (sym is)
    (clash_found s lits p f place x k t there found differ)

-- one literal more is filed
pub refile_more : (s : Sizes) (lits : List Lit) (links : List Link) (old new : Filed) (place : ℕ) → Grows old new
    → place < length lits
    → All (IsFiled s lits links old.entries) (take place lits)
    → ((l : Lit) → slice_get lits place ≡ Some l → IsFiled s lits links new.entries l)
    → All (IsFiled s lits links new.entries) (take (place + 1) lits)
refile_more s lits links old new place g h before here =
    let w = get_some lits place h in
    All-more (IsFiled s lits links new.entries) lits place w.0 h
    (All-weaker (IsFiled s lits links old.entries) (IsFiled s lits links new.entries)
    (grows_filed s lits links old new g) (take place lits) before)
    (subst (λ (l : Lit). IsFiled s lits links new.entries l) (sym (get_or_from_slice_get lits place w.0 w.0 w.1))
    (here w.0 w.1))
