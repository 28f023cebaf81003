-- What the open terms of literals and rows say.
use Rattle.std.proofs.Common.{◌≡◌, ◌≢◌, ℕ, zero, suc, ◌+◌, ◌<◌, ◌≤◌, List, [], ◌∷◌, ◌++◌, length, None, refl, sym, ap}
use Rattle.std.proofs.Common.{subst, ◌∙◌, arith, append_assoc, append-nil, take, set, All}
use Rattle.std.specs.Prelude.{slice_index_or}
use Rattle.std.specs.Int.{bit_at}
use Rattle.std.proofs.lemmas.Nat.Bits.{bit_at-zero}
use Rattle.std.proofs.lemmas.List.{take_more_set}
use Rattle.std.proofs.lemmas.List.Elements.{All-append, All-cons, All-nil}
use Rattle.gh_base.specs.declared.atom.Term.{Term}
use Rattle.gh_base.specs.Meaning.{Interpretation, IsLitTrue}
use Rattle.gh_base.specs.Atoms.{term}
use Rattle.gh_inst.specs.declared.schema.Pattern.{Pattern}
use Rattle.gh_inst.specs.Schemas.{lit_over, places_of}
use Rattle.gh_inst.specs.Search.{IsAmong, IsSearched, IsRowTrue, tuples_with}
use Rattle.gh_inst.specs.Words.{AreFalse, IsLitOpen, IsOpen}
use Rattle.gh_inst.proofs.SearchLemmas.{index_front, index_below, few_places, place_among, block_ruled_out}
use Rattle.gh_inst.proofs.WordLemmas.{all_ones}

-- a literal whose variable at a place is not there yet
pub not_among : (first k : ℕ) (p : Pattern) → length p.places ≡ 3 → k < places_of p.shape
    → first ≤ slice_index_or p.places k 0 → ¬ IsAmong first p
not_among first k p three used late among =
    let few = few_places p.shape in
    let early : slice_index_or p.places k 0 < first =
    place_among (places_of p.shape) p.places first k among used (omega (arith, three, few)) in
    absurd (omega (arith, early, late))

-- a literal that is true whatever comes next
pub lit_always : (m : Interpretation) (version n : ℕ) (p : Pattern) (tuple : List Term) (first : ℕ)
    → ((rest : List Term) → All (λ t. t.0 < n) rest → IsLitTrue m (lit_over version (take first tuple ++ rest) p))
    → IsLitOpen m version n p tuple first 0
lit_always m version n p tuple first h = record {
  closed = λ z rest below later end bit. h rest later;
  known = λ some. absurd (some refl);
}

-- a literal of which no more is known than that it isn't true yet
pub lit_open : (m : Interpretation) (version n : ℕ) (p : Pattern) (tuple : List Term) (first : ℕ) → n ≤ 32
    → (IsAmong first p → ¬ IsLitTrue m (lit_over version (take first tuple) p))
    → IsLitOpen m version n p tuple first 4294967295
lit_open m version n p tuple first few h = record {
  closed = λ z rest below later end bit. absurd (all_ones z (omega (arith, below, few)) bit);
  known = λ some among. h among;
}

-- any term of a tuple in range, and that beyond its end
pub any_below : (n i : ℕ) (tuple : List Term) → 0 < n → All (λ t. t.0 < n) tuple
    → (slice_index_or tuple i (term 0)).0 < n
any_below n i [] some h = some
any_below n zero (t ∷ ts) some h = h zero t (omega arith)
any_below n (suc i) (t ∷ ts) some h = any_below n i ts some (λ j d l. h (suc j) d (omega (arith, l)))

-- a literal with the bits of a word, when the term at the place is known
pub term_true : (m : Interpretation) (version n first k : ℕ) (p : Pattern) (tuple : List Term) (word : ℕ)
    → AreFalse m version n p tuple first k word → first ≤ length tuple
    → All (λ t. t.0 < n) (take first tuple) → slice_index_or p.places k 0 < first
    → bit_at word (slice_index_or tuple (slice_index_or p.places k 0) (term 0)).0 ≡ 0
    → IsLitOpen m version n p tuple first 0
term_true m version n first k p tuple word t long below known bit =
    lit_always m version n p tuple first
    (λ rest later. t.holds _ rest (index_below first n tuple (slice_index_or p.places k 0) known long below)
    (index_front first tuple rest (slice_index_or p.places k 0) known long) bit)

pub term_false : (m : Interpretation) (version n first k : ℕ) (p : Pattern) (tuple : List Term) (word : ℕ)
    → AreFalse m version n p tuple first k word → first ≤ length tuple → n ≤ 32
    → All (λ t. t.0 < n) (take first tuple) → slice_index_or p.places k 0 < first
    → bit_at word (slice_index_or tuple (slice_index_or p.places k 0) (term 0)).0 ≢ 0
    → IsLitOpen m version n p tuple first 4294967295
term_false m version n first k p tuple word t long few below known bit =
    lit_open m version n p tuple first few
    (λ among. subst (λ ts. ¬ IsLitTrue m (lit_over version ts p)) (append-nil (take first tuple))
    (t.fails _ [] (index_below first n tuple (slice_index_or p.places k 0) known long below)
    (index_front first tuple [] (slice_index_or p.places k 0) known long) bit))

-- when it is the next term
pub term_next : (m : Interpretation) (version n first k : ℕ) (p : Pattern) (tuple : List Term) (word : ℕ)
    → AreFalse m version n p tuple first k word → slice_index_or p.places k 0 ≡ first
    → ¬ IsAmong first p → IsLitOpen m version n p tuple first word
term_next m version n first k p tuple word t next late = record {
  closed =
      λ z rest below later end bit. t.holds z rest below
      (ap (λ i. slice_index_or (take first tuple ++ rest) i (term 0)) next ∙ end) bit;
  known = λ some among. absurd (late among);
}

-- when it is false at none
pub term_none : (m : Interpretation) (version n first k : ℕ) (p : Pattern) (tuple : List Term) (word : ℕ)
    → AreFalse m version n p tuple first k word → word ≡ 0 → 0 < n → All (λ t. t.0 < n) (take first tuple)
    → IsLitOpen m version n p tuple first 0
term_none m version n first k p tuple word t none some below =
    lit_always m version n p tuple first
    (λ rest later.
    let full = take first tuple ++ rest in
    let z = (slice_index_or full (slice_index_or p.places k 0) (term 0)).0 in
    t.holds z rest (any_below n (slice_index_or p.places k 0) full some
    (All-append (λ t. t.0 < n) (take first tuple) rest below later)) refl
    (ap (λ w. bit_at w z) none ∙ bit_at-zero z))

-- a block in which no next term is open
pub closed_block : (m : Interpretation) (version more n : ℕ) (lits : List Pattern) (tuple : List Term) (first word : ℕ)
    → IsOpen m version n lits tuple first word → word ≡ 0 → 0 < n
    → All (λ t. t.0 < n) (take first tuple)
    → IsSearched (IsRowTrue m version lits) (tuples_with more n (take first tuple)) None
closed_block m version more n lits tuple first word o none some below =
    block_ruled_out m version more n lits (take first tuple)
    (λ rest long later.
    let full = take first tuple ++ rest in
    let z = (slice_index_or full first (term 0)).0 in
    o.closed z rest (any_below n first full some (All-append (λ t. t.0 < n) (take first tuple) rest below later)) later
    refl (ap (λ w. bit_at w z) none ∙ bit_at-zero z))

index_here : (first : ℕ) (tuple : List Term) (x : Term) (rest : List Term) → first ≤ length tuple
    → slice_index_or (take first tuple ++ x ∷ rest) first (term 0) ≡ x
index_here zero tuple x rest h = refl
index_here (suc first) [] x rest h = absurd (omega (arith, h))
index_here (suc first) (t ∷ ts) x rest h = index_here first ts x rest (omega (arith, h))

-- the block of a next term that is not open
pub skipped_block : (m : Interpretation) (version more n : ℕ) (lits : List Pattern) (tuple : List Term)
    (first word k : ℕ) → IsOpen m version n lits tuple first word → first ≤ length tuple
    → k < n → bit_at word k ≡ 0
    → IsSearched (IsRowTrue m version lits) (tuples_with more n (take first tuple ++ term k ∷ [])) None
skipped_block m version more n lits tuple first word k o long h bit =
    block_ruled_out m version more n lits (take first tuple ++ term k ∷ [])
    (λ rest size later. subst (IsRowTrue m version lits) (sym (append_assoc (take first tuple) (term k ∷ []) rest))
    (o.closed k (term k ∷ rest) h (All-cons (λ t. t.0 < n) (term k) rest h later)
    (index_here first tuple (term k) rest long) bit))

-- a tuple with one more first term
pub set_below : (n first k : ℕ) (tuple start : List Term) → first < length tuple → take first tuple ≡ take first start
    → All (λ t. t.0 < n) (take first start) → k < n
    → All (λ t. t.0 < n) (take (first + 1) (set tuple first (term k)))
set_below n first k tuple start h e below there =
    let is : take (first + 1) (set tuple first (term k)) ≡ take first start ++ term k ∷ [] =
    take_more_set tuple first (term k) h ∙ ap (λ ts. ts ++ term k ∷ []) e in
    subst (All (λ t. t.0 < n)) (sym is)
    (All-append (λ t. t.0 < n) (take first start) (term k ∷ []) below
    (All-cons (λ t. t.0 < n) (term k) [] there (All-nil (λ t. t.0 < n))))
