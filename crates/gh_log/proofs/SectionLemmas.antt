-- Valid sections refute: the clause of each line is true wherever the ground clauses and all axiom instances are.
use Rattle.std.proofs.Common.{◌≡◌, ◌∙◌, List, [], ◌∷◌, ◌++◌, length, Option, Some, None, All, refl, sym, ap, subst}
use Rattle.std.proofs.Common.{arith, append_assoc}
use Rattle.std.specs.Prelude.{slice_get}
use Rattle.std.specs.List.{cons_option}
use Rattle.std.proofs.lemmas.List.{append-nil}
use Rattle.std.proofs.lemmas.List.Elements.{All-contains, All-push, filter_map-append}
use Rattle.std.proofs.Math.Seq.{take-append_seam}
use Rattle.gh_base.specs.declared.atom.Lit.{Lit}
use Rattle.gh_base.specs.Grounds.{Problem}
use Rattle.gh_base.specs.Meaning.{Interpretation, IsCongruence, IsClauseTrue}
use Rattle.gh_base.proofs.UnitLemmas.{sound}
use Rattle.gh_base.proofs.HintLemmas.{are_true}
use Rattle.gh_inst.specs.Instances.{instances}
use Rattle.gh_inst.specs.Violations.{IsInstanceTrue, AreInstancesTrue}
use Rattle.gh_inst.proofs.ListedLemmas.{all_are_listed}
use Rattle.gh_log.specs.Lines.{LogLine}
use Rattle.gh_log.specs.Lines as line
use Rattle.gh_log.specs.Sections.{line_clause, clauses_of, IsOfKind, AreOfKind, ValidSectionsRefute}
use Rattle.gh_log.proofs.ClauseLemmas.{clause_there, clauses_at_are}

own_clause : (m : Interpretation) (d c : List Lit) → Some d ≡ Some c → IsClauseTrue m d → IsClauseTrue m c
own_clause m d c e h = let same : d ≡ c = cc in subst (IsClauseTrue m) same h

-- the clause of a line of its kind is true where the clauses before it are
line_true : (p : Problem) (m : Interpretation) → IsCongruence p.sizes m → All (IsClauseTrue m) p.clauses
    → AreInstancesTrue p.sizes m
    → (earlier : List LogLine) → All (IsClauseTrue m) (clauses_of p earlier) → (l : LogLine) → IsOfKind p earlier l
    → (c : List Lit) → line_clause p l ≡ Some c → IsClauseTrue m c
line_true p m congruence clauses rows earlier before (line.Axiom name) h c e =
    own_clause m _ c e (All-contains (IsInstanceTrue m) (instances p.sizes.terms p.sizes.versions) name rows
    ((all_are_listed p.sizes.terms p.sizes.versions name).1 h))
line_true p m congruence clauses rows earlier before (line.Clause k) h c e = own_clause m _ c e (clauses k [] h)
line_true p m congruence clauses rows earlier before (line.Lemma d) h c e = own_clause m d c e (h.follows m congruence)
line_true p m congruence clauses rows earlier before (line.Learnt d) h c e =
    own_clause m d c e (sound (clauses_of p earlier) d m before h.1)
line_true p m congruence clauses rows earlier before (line.Hinted d hints) h c e =
    own_clause m d c e
    (are_true (clauses_of p earlier) h.1.clauses d m (clauses_at_are p earlier hints h.1.clauses h.1.at) before
    h.1.shown)
line_true p m congruence clauses rows earlier before (line.Delete positions) h c e = absurd (cc)

pub get_middle : {X : Type 0} (before after : List X) (x : X) → slice_get (before ++ x ∷ after) (length before) ≡ Some x
get_middle [] after x = refl
get_middle (y ∷ before) after x = get_middle before after x

one_more : (m : Interpretation) (cs : List (List Lit)) (o : Option (List Lit)) → All (IsClauseTrue m) cs
    → ((c : List Lit) → o ≡ Some c → IsClauseTrue m c) → All (IsClauseTrue m) (cs ++ cons_option o [])
one_more m cs (Some c) h one = All-push (IsClauseTrue m) cs c h (one c refl)
one_more m cs None h one = subst (All (IsClauseTrue m)) (sym (append-nil cs)) h

-- the clause of each line of a section whose lines are of their kinds is true
all_true : (p : Problem) (m : Interpretation) → IsCongruence p.sizes m → All (IsClauseTrue m) p.clauses
    → AreInstancesTrue p.sizes m
    → (before rest : List LogLine) → AreOfKind p (before ++ rest) → All (IsClauseTrue m) (clauses_of p before)
    → All (IsClauseTrue m) (clauses_of p (before ++ rest))
all_true p m congruence clauses rows before [] kinds h =
    subst (λ w. All (IsClauseTrue m) (clauses_of p w)) (sym (append-nil before)) h
all_true p m congruence clauses rows before (l ∷ rest) kinds h =
    let kind =
    subst (λ w. IsOfKind p w l) (take-append_seam before (l ∷ rest))
    (kinds (length before) l (get_middle before rest l)) in
    let here = line_true p m congruence clauses rows before h l kind in
    let same : (before ++ l ∷ []) ++ rest ≡ before ++ l ∷ rest = append_assoc before (l ∷ []) rest in
    let more =
    subst (All (IsClauseTrue m)) (sym (filter_map-append (line_clause p) before (l ∷ [])))
    (one_more m (clauses_of p before) (line_clause p l) h here) in
    subst (λ w. All (IsClauseTrue m) (clauses_of p w)) same
    (all_true p m congruence clauses rows (before ++ l ∷ []) rest (subst (AreOfKind p) (sym same) kinds) more)

-- no literal of the empty clause is true
none_true : (m : Interpretation) → IsClauseTrue m [] → ⊥
none_true m none = absurd (omega (arith, none.2))

pub refute : ValidSectionsRefute
refute p lines valid m congruence clauses rows =
    let all = all_true p m congruence clauses rows [] lines valid.of_kind (λ k d h. absurd (omega arith)) in
    let ends = valid.ends in
    let at : slice_get lines (length ends.0) ≡ Some ends.1 =
    ap (λ w. slice_get w (length ends.0)) ends.2 ∙ get_middle ends.0 [] ends.1 in
    none_true m (All-contains (IsClauseTrue m) (clauses_of p lines) [] all
    (clause_there p lines (length ends.0) ends.1 [] at ends.3))
