-- Searches through tuples, names and rows.
use Rattle.std.proofs.Common.{◌≡◌, ℕ, ◌+◌, ◌-◌, ◌<◌, ◌≤◌, List, [], ◌∷◌, ◌++◌, map, length, append_assoc, append-nil}
use Rattle.std.proofs.Common.{All, Option, Some, None, option_map, refl, sym, ap, subst, ◌∙◌, arith, replicate, map-id}
use Rattle.std.proofs.Common.{take, true, false, zero-add}
use Rattle.std.specs.Prelude.{slice_get}
use Rattle.std.specs.List.{flat_map, range_with_len}
use Rattle.std.specs.Option.{is_some}
use Rattle.std.proofs.lemmas.List.{take_at}
use Rattle.std.proofs.lemmas.List.Elements.{All-append, All-nil, All-cons}
use Rattle.gh_base.specs.declared.atom.Term.{Term}
use Rattle.gh_base.specs.Meaning.{Interpretation, IsClauseTrue}
use Rattle.gh_base.specs.Structures.{Tables, interpretation_of}
use Rattle.gh_base.specs.Atoms.{term}
use Rattle.gh_inst.specs.declared.naming.InstanceName.{InstanceName}
use Rattle.gh_inst.specs.declared.schema.Pattern.{Pattern}
use Rattle.gh_inst.specs.declared.table.Row.{Row}
use Rattle.gh_inst.specs.Schemas.{clause_over}
use Rattle.gh_inst.specs.Table.{AxiomRow, row, table, row_with, row_of, variables_of, lits_of}
use Rattle.gh_inst.specs.Tuples.{tuples}
use Rattle.gh_inst.specs.Instances.{name_of, tuple_of, clause_of, clause_with, instances, row_in, row_instances}
use Rattle.gh_inst.specs.Instances.{IsInstance}
use Rattle.gh_inst.specs.Violations.{IsInstanceTrue}
use Rattle.gh_inst.specs.Search.{IsSearched, IsRowTrue, IsFirstTuple, IsFirstFalseOf, tuples_with}
use Rattle.gh_inst.proofs.InstanceLemmas.{row_at, row_there, some_same}
use Rattle.gh_inst.proofs.SearchLemmas.{searched_map, got, among, found_in_block, none_in_block, blocks_end}
use Rattle.gh_inst.proofs.TupleLemmas.{range_at, range_length}
use Rattle.gh_inst.proofs.ListedLemmas.{all_are_listed}

-- the clause of an instance is that of its row at its tuple
pub clause_there : (number version : ℕ) (r : AxiomRow) (tuple : List Term) → row_with number table ≡ Some r
    → clause_of (name_of number version tuple) ≡ clause_over version tuple r.lits
clause_there number version r tuple e =
    let name = name_of number version tuple in
    let here : tuple_of name ≡ tuple = take_at tuple (replicate (4 - length tuple) (term 0)) (length tuple) refl in
    ap (clause_with name) e ∙ ap (λ ts. clause_over version ts r.lits) here

-- from the tuples of a row to its instances in a version
pub names_searched : (m : Interpretation) (number version variables n : ℕ) (r : AxiomRow) (found : Option (List Term))
    → row_with number table ≡ Some r
    → IsSearched (IsRowTrue m version r.lits) (tuples_with (variables - 0) n []) found
    → IsSearched (IsInstanceTrue m) (map (name_of number version) (tuples variables n))
    (option_map (name_of number version) found)
names_searched m number version variables n r found e s =
    let whole : variables - 0 ≡ variables = omega arith in
    let all : tuples_with (variables - 0) n [] ≡ tuples variables n = ap (λ k. tuples_with k n []) whole
    ∙ map-id (tuples variables n) in
    searched_map (IsRowTrue m version r.lits) (IsInstanceTrue m) (name_of number version)
    (λ t h. subst (IsClauseTrue m) (sym (clause_there number version r t e)) h)
    (λ t h. subst (IsClauseTrue m) (clause_there number version r t e) h)
    (tuples variables n) found (subst (λ ts. IsSearched (IsRowTrue m version r.lits) ts found) all s)

-- from the first tuple at which a row is false to its first instance in a version that is
pub name_found : (s : Tables) (number version variables : ℕ) (row : Row) (lits : List Pattern)
    (terms : Option (List Term)) (name : Option InstanceName) → row_with number table ≡ Some (row_of number row)
    → lits ≡ lits_of row → variables ≡ variables_of row → IsFirstTuple s version lits variables 0 [] terms
    → option_map (name_of number version) (option_map (take variables) terms) ≡ name
    → IsFirstFalseOf s (row_in s.sizes version (row_of number row)) name
name_found s number version variables row lits terms name there same_lits same_variables first is =
    let m = interpretation_of s in
    let v = variables_of row in
    let n = s.sizes.terms in
    let with_lits : IsSearched (IsRowTrue m version (lits_of row)) (tuples_with (variables - 0) n [])
    (option_map (take variables) terms) =
    subst (λ (ls : List Pattern). IsSearched (IsRowTrue m version ls) (tuples_with (variables - 0) n [])
    (option_map (take variables) terms)) same_lits first in
    let found : IsSearched (IsRowTrue m version (lits_of row)) (tuples_with (v - 0) n []) (option_map (take v) terms) =
    subst (λ (k : ℕ). IsSearched (IsRowTrue m version (lits_of row)) (tuples_with (k - 0) n [])
    (option_map (take k) terms)) same_variables with_lits in
    let named : option_map (name_of number version) (option_map (take v) terms) ≡ name =
    ap (λ (k : ℕ). option_map (name_of number version) (option_map (take k) terms)) (sym same_variables) ∙ is in
    subst (IsSearched (IsInstanceTrue m) (map (name_of number version) (tuples v n))) named
    (names_searched m number version v n (row_of number row) (option_map (take v) terms) there found)

-- the row that is found in the table is the one that the code has
pub row_same : (number : ℕ) (row : Row) (r : AxiomRow) (found : Option Row)
    → row_with number table ≡ option_map (row_of number) found → found ≡ Some row → row_with number table ≡ Some r
    → row_of number row ≡ r
row_same number row r found listed is e =
    some_same (row_of number row) r (sym (listed ∙ ap (option_map (row_of number)) is) ∙ e)

-- the instances of a row in the versions before `k`
abbrev pub instances_before : ℕ → ℕ → ℕ → AxiomRow → List InstanceName
instances_before n versions k r =
    flat_map (λ version. map (name_of r.number version) (tuples r.variables n)) (take k (range_with_len 0 versions))

-- a version in which none is false
pub versions_on : (m : Interpretation) (n versions k : ℕ) (r : AxiomRow) (found : Option InstanceName)
    → is_some found ≡ false → k < versions → IsSearched (IsInstanceTrue m) (instances_before n versions k r) None
    → IsSearched (IsInstanceTrue m) (map (name_of r.number k) (tuples r.variables n)) found
    → IsSearched (IsInstanceTrue m) (instances_before n versions (k + 1) r) None
versions_on m n versions k r found none below before here =
    none_in_block (IsInstanceTrue m) (λ version. map (name_of r.number version) (tuples r.variables n))
    (range_with_len 0 versions) k k found none (range_at 0 versions k below ∙ ap Some (zero-add k)) before here

-- one in which one is
pub versions_found : (m : Interpretation) (n versions k : ℕ) (q r : AxiomRow) (found : Option InstanceName) → q ≡ r
    → is_some found ≡ true → k < versions → IsSearched (IsInstanceTrue m) (instances_before n versions k q) None
    → IsSearched (IsInstanceTrue m) (map (name_of q.number k) (tuples q.variables n)) found
    → IsSearched (IsInstanceTrue m) (row_instances n versions r) found
versions_found m n versions k q r found is some below before here =
    subst (λ (x : AxiomRow). IsSearched (IsInstanceTrue m) (row_instances n versions x) found) is
    (found_in_block (IsInstanceTrue m) (λ version. map (name_of q.number version) (tuples q.variables n))
    (range_with_len 0 versions) k k found some (range_at 0 versions k below ∙ ap Some (zero-add k)) before here)

-- after the last version
pub versions_end : (m : Interpretation) (n versions k : ℕ) (q r : AxiomRow) → q ≡ r → versions ≤ k
    → IsSearched (IsInstanceTrue m) (instances_before n versions k q) None
    → IsSearched (IsInstanceTrue m) (row_instances n versions r) None
versions_end m n versions k q r is all before =
    subst (λ (x : AxiomRow). IsSearched (IsInstanceTrue m) (row_instances n versions x) None) is
    (blocks_end (IsInstanceTrue m) (λ version. map (name_of q.number version) (tuples q.variables n))
    (range_with_len 0 versions) k (omega (arith, all, range_length 0 versions)) before)

-- the row of a number in the table
pub row_of_number : (number : ℕ) → 1 ≤ number → number < 16
    → (slice_get table (number - 1) ≡ Some (row_at (number - 1))) × (row_with number table ≡ Some (row_at (number - 1)))
row_of_number number a b =
    let one_more : number - 1 + 1 ≡ number = omega arith in (
      got table (number - 1) (row 0 1 []) (omega arith),
      subst (λ k. row_with k table ≡ Some (row_at (number - 1))) one_more (row_there (number - 1) (omega arith)).found,
    )

-- what a walk through a list has left: all before have the property
pub record HasLeft {X : Type 0} (P : X → Type 0) (all rest : List X) : Type 0 where
  pub before : List X
  pub here : all ≡ before ++ rest
  pub earlier : All P before

pub left_at_first : {X : Type 0} (P : X → Type 0) (all : List X) → HasLeft P all all
left_at_first P all = record { before = []; here = refl; earlier = All-nil P }

pub left_next : {X : Type 0} (P : X → Type 0) (all rest : List X) (x : X) → HasLeft P all (x ∷ rest) → P x
    → HasLeft P all rest
left_next P all rest x l h = record {
  before = l.before ++ x ∷ [];
  here = l.here ∙ sym (append_assoc l.before (x ∷ []) rest);
  earlier = All-append P l.before (x ∷ []) l.earlier (All-cons P x [] h (All-nil P));
}

pub left_found : {X : Type 0} (P : X → Type 0) (all rest : List X) (x : X) → HasLeft P all (x ∷ rest) → ¬ P x
    → IsSearched P all (Some x)
left_found P all rest x l h =
    record { comes = record { before = l.before; after = rest; here = l.here; earlier = l.earlier; without = h } }

pub left_none : {X : Type 0} (P : X → Type 0) (all : List X) → HasLeft P all [] → IsSearched P all None
left_none P all l = record { comes = subst (All P) (sym (append-nil l.before) ∙ sym l.here) l.earlier }

-- what is left first is an instance
pub left_instance : (P : InstanceName → Type 0) (n versions : ℕ) (rest : List InstanceName) (name : InstanceName)
    → HasLeft P (instances n versions) (name ∷ rest) → IsInstance n versions name
left_instance P n versions rest name l = (all_are_listed n versions name).0 (rw l.here (among l.before name rest))
