-- How many instances there are, and that no assertion is empty.
use Rattle.std.proofs.Common.{◌≡◌, ℕ, ◌+◌, ◌*◌, ◌^◌, ◌<◌, Bool, true, List, [], ◌∷◌, ◌++◌, length, map, get_or, All}
use Rattle.std.proofs.Common.{refl, sym, ◌∙◌, ap, subst, arith}
use Rattle.std.proofs.Math.Nat.{pow-suc, pow-zero}
use Rattle.std.specs.List.{list_all}
use Rattle.std.proofs.Math.Dec.{ltb}
use Rattle.std.proofs.lemmas.Bool.{ltb-true}
use Rattle.std.proofs.lemmas.List.Sums.{AllPass-from_list_all}
use Rattle.std.proofs.lemmas.List.{length-map}
use Rattle.std.proofs.lemmas.List.Elements.{All-cons, All-append, All-weaker, All-map, All-contains}
use Rattle.gh_base.specs.declared.atom.Lit.{Lit}
use Rattle.gh_base.specs.Grounds.{Problem, IsProblem}
use Rattle.gh_base.specs.Atoms.{opposite}
use Rattle.gh_grass.specs.Claims.{GroundFormula, atom, negation_of, conjunction_of, disjunction_of, equivalence_of}
use Rattle.gh_grass.specs.Claims.{GroundFormulas, no_ground_formulas, ground_formula_first}
use Rattle.gh_grass.specs.Clauses.{made, all_made, stated, clauses_from, defined, conjunction_clauses}
use Rattle.gh_grass.specs.Clauses.{disjunction_clauses, equivalence_clauses}
use Rattle.gh_symb.specs.Formulas.{condition_formulas, problem}
use Rattle.gh_symb.specs.Symbolic.{Symbolic}
use Rattle.gh_inst.specs.declared.naming.InstanceName.{InstanceName}
use Rattle.gh_inst.specs.Schemas.{lit_over, clause_over}
use Rattle.gh_inst.specs.Table.{AxiomRow, table, row_with}
use Rattle.gh_inst.specs.Instances.{instances, clause_of, clause_with, tuple_of, IsInstance}
use Rattle.gh_inst.proofs.ListedLemmas.{found_row, row_in}
use Rattle.gh_smt.specs.Scripts.{HasLits, IsSized, IsScript, instance_count, script_of}
use Rattle.gh_smt.proofs.ScriptLemmas.{all_are_instances, script_in_range}

square : (n : ℕ) → n ^ 2 ≡ n * n
square n = pow-suc n 1 ∙ ap (λ k. k * n) (pow-suc n 0 ∙ ap (λ k. k * n) (pow-zero n) ∙ omega arith)

cube : (n : ℕ) → n ^ 3 ≡ n * n * n
cube n = pow-suc n 2 ∙ ap (λ k. k * n) (square n)

fourth : (n : ℕ) → n ^ 4 ≡ n * n * n * n
fourth n = pow-suc n 3 ∙ ap (λ k. k * n) (cube n)

pub counted : (n v a b c d e : ℕ) → a ≡ n * 4 + 5 → b ≡ n * a + 5 → c ≡ n * b + 1 → d ≡ n * c + 0 → e ≡ v * d + 0
    → e ≡ instance_count n v
counted n v a b c d e ha hb hc hd he =
    let inner : n * (n * (n * (n * 4 + 5) + 5) + 1) + 0 ≡ n + 5 * (n * n) + 5 * (n * n * n) + 4 * (n * n * n * n) =
    omega arith in
    let powers : n + 5 * n ^ 2 + 5 * n ^ 3 + 4 * n ^ 4 ≡ n + 5 * (n * n) + 5 * (n * n * n) + 4 * (n * n * n * n) =
    λ i. n + 5 * square n i + 5 * cube n i + 4 * fourth n i in
    let d_is : d ≡ n * (n * (n * (n * 4 + 5) + 5) + 1) + 0 =
    hd ∙ ap (λ k. n * k + 0) (hc ∙ ap (λ k. n * k + 1) (hb ∙ ap (λ k. n * k + 5) ha)) in
    let plain : v * d + 0 ≡ v * d = omega arith in
    he ∙ plain ∙ ap (λ k. v * k) (d_is ∙ inner ∙ sym powers)

-- the clauses of formulas have literals
each_pair : (f : Lit → List Lit) → ((l : Lit) → HasLits (f l)) → (ls : List Lit) → All HasLits (map f ls)
each_pair f h ls = All-map HasLits f ls (λ k d l. h (get_or ls k d))

one : (c : List Lit) → HasLits c → All HasLits (c ∷ [])
one c h = All-cons HasLits c [] h (λ k d l. absurd (omega arith))

conjoined_lits : (d : ℕ) (ls : List Lit) → All HasLits (conjunction_clauses d ls)
conjoined_lits d ls =
    All-append HasLits (map (λ l. opposite (defined d) ∷ l ∷ []) ls) ((defined d ∷ map opposite ls) ∷ [])
    (each_pair (λ l. opposite (defined d) ∷ l ∷ []) (λ l. omega arith) ls)
    (one (defined d ∷ map opposite ls) (omega arith))

disjoined_lits : (d : ℕ) (ls : List Lit) → All HasLits (disjunction_clauses d ls)
disjoined_lits d ls =
    All-append HasLits (map (λ l. defined d ∷ opposite l ∷ []) ls) ((opposite (defined d) ∷ ls) ∷ [])
    (each_pair (λ l. defined d ∷ opposite l ∷ []) (λ l. omega arith) ls)
    (one (opposite (defined d) ∷ ls) (omega arith))

equated_lits : (d : ℕ) (l m : Lit) → All HasLits (equivalence_clauses d l m)
equated_lits d l m =
    let n = opposite (defined d) in
    let a = n ∷ opposite l ∷ m ∷ [] in let b = n ∷ l ∷ opposite m ∷ [] in let e = defined d ∷ l ∷ m ∷ [] in
    let f = defined d ∷ opposite l ∷ opposite m ∷ [] in
    All-cons HasLits a (b ∷ e ∷ f ∷ []) (omega arith)
    (All-cons HasLits b (e ∷ f ∷ []) (omega arith)
    (All-cons HasLits e (f ∷ []) (omega arith) (one f (omega arith))))

mutual
  made_lits : (f : GroundFormula) (d : ℕ) → All HasLits (made f d).clauses
  made_lits (atom a) d = λ k e l. absurd (omega arith)
  made_lits (negation_of f) d = made_lits f d
  made_lits (conjunction_of fs) d =
      All-append HasLits (all_made fs d).clauses (conjunction_clauses (all_made fs d).next (all_made fs d).lits)
      (all_made_lits fs d) (conjoined_lits (all_made fs d).next (all_made fs d).lits)
  made_lits (disjunction_of fs) d =
      All-append HasLits (all_made fs d).clauses (disjunction_clauses (all_made fs d).next (all_made fs d).lits)
      (all_made_lits fs d) (disjoined_lits (all_made fs d).next (all_made fs d).lits)
  made_lits (equivalence_of f g) d =
      let r = made f d in let s = made g r.next in
      All-append HasLits (r.clauses ++ s.clauses) (equivalence_clauses s.next r.lit s.lit)
      (All-append HasLits r.clauses s.clauses (made_lits f d) (made_lits g r.next))
      (equated_lits s.next r.lit s.lit)

  all_made_lits : (fs : GroundFormulas) (d : ℕ) → All HasLits (all_made fs d).clauses
  all_made_lits no_ground_formulas d = λ k e l. absurd (omega arith)
  all_made_lits (ground_formula_first f fs) d =
      let r = made f d in
      All-append HasLits r.clauses (all_made fs r.next).clauses (made_lits f d) (all_made_lits fs r.next)

clauses_lits : (fs : List GroundFormula) (d : ℕ) → All HasLits (clauses_from fs d)
clauses_lits [] d = λ k e l. absurd (omega arith)
clauses_lits (f ∷ fs) d =
    let r = made f d in
    All-append HasLits (stated r) (clauses_from fs r.next)
    (All-append HasLits r.clauses ((r.lit ∷ []) ∷ []) (made_lits f d) (one (r.lit ∷ []) (omega arith)))
    (clauses_lits fs r.next)

-- and those of instances
has_lits : AxiomRow → Bool
has_lits r = ltb 0 (length r.lits)

all_have_lits : list_all has_lits table ≡ true
unfolding has_lits
all_have_lits = refl

row_lits : All (λ (r : AxiomRow). 0 < length r.lits) table
unfolding has_lits
row_lits =
    All-weaker (λ r. has_lits r ≡ true) (λ (r : AxiomRow). 0 < length r.lits) (λ r h. ltb-true 0 (length r.lits) h)
    table
    (AllPass-from_list_all has_lits table all_have_lits)

instance_lits : (n versions : ℕ) (name : InstanceName) → IsInstance n versions name → HasLits (clause_of name)
instance_lits n versions name is =
    let f = found_row (row_with name.row table) name.arity is.row in
    let t = row_in name.row table f.0 f.1 in
    let some : 0 < length f.0.lits = All-contains (λ (r : AxiomRow). 0 < length r.lits) table f.0 row_lits t.0 in
    let long : length (clause_over name.version (tuple_of name) f.0.lits) ≡ length f.0.lits =
    length-map f.0.lits (lit_over name.version (tuple_of name)) in
    subst HasLits (sym (ap (clause_with name) f.1)) (omega (arith, some, long))

script_lits : (p : Problem) → All HasLits p.clauses → All HasLits (script_of p).clauses
script_lits p h =
    All-append HasLits p.clauses (map clause_of (instances p.sizes.terms p.sizes.versions)) h
    (All-map HasLits clause_of (instances p.sizes.terms p.sizes.versions)
    (All-weaker (IsInstance p.sizes.terms p.sizes.versions) (λ name. HasLits (clause_of name))
    (instance_lits p.sizes.terms p.sizes.versions)
    (instances p.sizes.terms p.sizes.versions) (all_are_instances p.sizes.terms p.sizes.versions)))

-- the script of a condition can be written
pub is_script : (s : Symbolic) (p q : Problem) → p ≡ problem s → IsProblem p → IsSized p.sizes → q ≡ script_of p
    → IsScript q
is_script s p q e is sized same =
    subst IsScript (sym same)
    (record {
      sized = sized;
      lits = script_lits p (subst (λ (r : Problem). All HasLits r.clauses) (sym e)
          (clauses_lits (condition_formulas s) 0));
      in_range = script_in_range p is.in_range;
    })
