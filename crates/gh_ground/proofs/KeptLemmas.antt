-- What a solver keeps, as lines are added.
use Rattle.std.proofs.Common.{◌≡◌, ℕ, zero, suc, ◌+◌, ◌<◌, ◌≤◌, List, [], ◌∷◌, ◌++◌, length, take, get_or, map, Option}
use Rattle.std.proofs.Common.{Some, None, inl, inr, refl, sym, ap, ◌∙◌, subst, arith, append_assoc, append-nil}
use Rattle.std.proofs.Common.{Contains}
use Rattle.std.specs.Prelude.{slice_get, slice_index_or, IfSome, All}
use Rattle.std.proofs.lemmas.List.{take_more, map_push, length-map}
use Rattle.std.proofs.lemmas.Option.{get_or_from_slice_get}
use Rattle.std.proofs.lemmas.List.Elements.{Contains-append_left, All-weaker, All-push, All-cons, All-tail}
use Rattle.gh_base.specs.declared.atom.Lit.{Lit}
use Rattle.gh_base.specs.declared.sizes.Sizes.{Sizes}
use Rattle.gh_base.specs.Atoms.{AreInRange}
use Rattle.gh_base.specs.Grounds.{Problem, IsProblem}
use Rattle.gh_base.specs.Meaning.{IsEqualityClause}
use Rattle.gh_inst.specs.declared.naming.InstanceName.{InstanceName}
use Rattle.gh_inst.specs.Instances.{IsInstance, clause_of}
use Rattle.gh_log.specs.Lines.{LogLine}
use Rattle.gh_log.specs.Lines as line
use Rattle.gh_log.specs.declared.lines.Section.{Section}
use Rattle.gh_log.specs.Sections.{line_clause, Deletes, HasClauseAt, IsUndeleted, AllUndeleted, AreAt, IsHinted}
use Rattle.gh_log.specs.Sections.{IsOfKind, AreOfKind, IsValidSection}
use Rattle.gh_log.specs.Spelled.{IsOfVersion}
use Rattle.gh_log.proofs.KindLemmas.{kind_push}
use Rattle.gh_sat.specs.Trail.{SearchState, IsSound, cut, most_clauses}
use Rattle.gh_sat.specs.Learn.{IsConflictAt, IsLearnt, AreReasons, add_clause}
use Rattle.gh_sat.specs.Theory.{PropagatesBeside}
use Rattle.gh_sat.specs.Whole.{AddsClause}
use Rattle.gh_base.proofs.ListLemmas.{get_within, get_some, get_last}
use Rattle.gh_sat.proofs.LearnLemmas.{false_in_range}
use Rattle.gh_sat.proofs.TheoryLemmas.{added_cut}
use Rattle.gh_ground.specs.Kept.{HasLineEach, KeepsLines, IsAnswered}
use Rattle.gh_ground.specs.Solving.{IsNoDeletion, RefutesProblem}

-- the line of a clause with hints
abbrev pub IsHintedLine : List Lit → List ℕ → LogLine → Type 0
IsHintedLine clause hints l = l ≡ line.Hinted clause hints

-- what stands at a place of two lists that are one, read by two functions
same_at : {X Y Z : Type 0} (f : X → Z) (g : Y → Z) (xs : List X) (ys : List Y) (k : ℕ) (y : Y) → map f xs ≡ map g ys
    → slice_get ys k ≡ Some y → (x : X) × (slice_get xs k ≡ Some x) × (f x ≡ g y)
same_at f g [] [] k y e at = cc
same_at f g [] (z ∷ ys) k y e at = absurd (let l = ap length e in omega arith)
same_at f g (x ∷ xs) [] k y e at = cc
same_at f g (x ∷ xs) (z ∷ ys) zero y e at =
    (x, refl, (let same : z ≡ y = cc in let one : f x ≡ g z = cc in one ∙ ap g same))
same_at f g (x ∷ xs) (z ∷ ys) (suc k) y e at = same_at f g xs ys k y (cc) at

-- a line with a clause deletes nothing
no_deletion : (p : Problem) (l : LogLine) (c : List Lit) → line_clause p l ≡ Some c → IsNoDeletion l
no_deletion p (line.Axiom n) c e = tt
no_deletion p (line.Clause k) c e = tt
no_deletion p (line.Lemma d) c e = tt
no_deletion p (line.Learnt d) c e = tt
no_deletion p (line.Hinted d hints) c e = tt
no_deletion p (line.Delete positions) c e = cc

pub deletes_nothing : (l : LogLine) (k : ℕ) → IsNoDeletion l → Deletes l k → ⊥
deletes_nothing (line.Axiom n) k t d = d
deletes_nothing (line.Clause i) k t d = d
deletes_nothing (line.Lemma c) k t d = d
deletes_nothing (line.Learnt c) k t d = d
deletes_nothing (line.Hinted c hints) k t d = d
deletes_nothing (line.Delete positions) k t d = t

all_clauses : (p : Problem) (lines : List LogLine) (cs : List (List Lit)) → map (line_clause p) lines ≡ map Some cs
    → All IsNoDeletion lines
all_clauses p [] cs e = λ k d lt. absurd (omega arith)
all_clauses p (l ∷ lines) [] e = absurd (let n = ap length e in omega arith)
all_clauses p (l ∷ lines) (c ∷ cs) e =
    All-cons IsNoDeletion l lines (no_deletion p l c (cc)) (all_clauses p lines cs (cc))

pub no_deletions : (p : Problem) (s : SearchState) (lines : List LogLine) → HasLineEach p s lines
    → All IsNoDeletion lines
no_deletions p s lines kept = all_clauses p lines s.clauses kept.clauses

-- the clauses by number stand at the positions of their lines
stand_at : (p : Problem) (s : SearchState) (lines : List LogLine) (ks : List ℕ) → HasLineEach p s lines
    → All (λ k. k < length s.clauses) ks
    → AllUndeleted p lines (map (λ k. k + 1) ks)
    × AreAt p lines (map (λ k. k + 1) ks) (map (λ k. slice_index_or s.clauses k []) ks)
stand_at p s lines [] kept within = (λ k d lt. absurd (omega arith), tt)
stand_at p s lines (k ∷ ks) kept within =
    let c = get_some s.clauses k (within 0 0 (omega arith)) in
    let is : slice_index_or s.clauses k [] ≡ c.0 = get_or_from_slice_get s.clauses k c.0 [] c.1 in
    let l = same_at (line_clause p) Some lines s.clauses k c.0 kept.clauses c.1 in
    let there : HasClauseAt p lines (k + 1) c.0 =
    record { place = k; position_is = refl; line = l.0; at = l.1; has = l.2 } in
    let rest = stand_at p s lines ks kept (All-tail (λ n. n < length s.clauses) k ks within) in
    let none = no_deletions p s lines kept in
    let stands : IsUndeleted p lines (k + 1) =
    record {
      clause = c.0;
      there = there;
      kept = λ j d lt. deletes_nothing (get_or lines j d) (k + 1) (none j d lt);
    } in (
      All-cons (IsUndeleted p lines) (k + 1) (map (λ n. n + 1) ks) stands rest.0,
      (subst (HasClauseAt p lines (k + 1)) (sym is) there, rest.1),
    )

-- reasons are hints
hinted_by : (p : Problem) (s : SearchState) (lines : List LogLine) (reasons hints : List ℕ) (clause : List Lit)
    → HasLineEach p s lines → AreReasons s.clauses reasons clause → hints ≡ map (λ k. k + 1) reasons
    → IsHinted p lines clause hints
hinted_by p s lines reasons hints clause kept shown is =
    let w = stand_at p s lines reasons kept shown.within in
    subst (IsHinted p lines clause) (sym is)
    (record {
      stand = w.0;
      clauses = map (λ k. slice_index_or s.clauses k []) reasons;
      at = w.1;
      shown = shown.shows;
    })

pub no_kinds : (p : Problem) → AreOfKind p []
no_kinds p i l at = absurd (let lt = get_within [] i l at in omega arith)

-- one more line for a ground clause
pub clauses_more : (p : Problem) (lines : List LogLine) (n : ℕ) → n < length p.clauses
    → map (line_clause p) lines ≡ map Some (take n p.clauses)
    → map (line_clause p) (lines ++ line.Clause n ∷ []) ≡ map Some (take (n + 1) p.clauses)
clauses_more p lines n lt h =
    map_push (line_clause p) lines (line.Clause n)
    ∙ ap (λ (cs : List (Option (List Lit))). cs ++ Some (get_or p.clauses n []) ∷ []) h
    ∙ sym (map_push Some (take n p.clauses) (get_or p.clauses n [])) ∙ ap (map Some) (sym (take_more p.clauses n [] lt))

pub kept_first : (p : Problem) (s : SearchState) (lines : List LogLine) → IsProblem p
    → s ≡ record { sizes = p.sizes; clauses = p.clauses; trail = []; starts = [] }
    → map (line_clause p) lines ≡ map Some p.clauses → AreOfKind p lines
    → All (IsOfVersion 2) lines → HasLineEach p s lines
kept_first p s lines problem is clauses kinds version =
    let same : s.clauses ≡ p.clauses = ap (λ (t : SearchState). t.clauses) is in
    record {
      problem = problem;
      sizes = ap (λ (t : SearchState). t.sizes) is;
      clauses = clauses ∙ ap (map Some) (sym same);
      of_kind = kinds;
      version = version;
      ground = λ c there. subst (λ (cs : List (List Lit)). Contains cs c) (sym same) there;
    }

pub keeps_same : (old new : SearchState) (lines : List LogLine) → new.sizes ≡ old.sizes → new.clauses ≡ old.clauses
    → KeepsLines old lines new lines
keeps_same old new lines sizes clauses = record {
  keeps = λ p h. record {
    problem = h.problem;
    sizes = sizes ∙ h.sizes;
    clauses = h.clauses ∙ ap (map Some) (sym clauses);
    of_kind = h.of_kind;
    version = h.version;
    ground = λ c there. subst (λ (cs : List (List Lit)). Contains cs c) (sym clauses) (h.ground c there);
  };
  more = [];
  longer = sym (append-nil lines);
}

pub keeps_then : (a b c : SearchState) (k l m : List LogLine) → KeepsLines a k b l → KeepsLines b l c m
    → KeepsLines a k c m
keeps_then a b c k l m f g = record {
  keeps = λ p h. g.keeps p (f.keeps p h);
  more = f.more ++ g.more;
  longer = g.longer ∙ ap (λ (xs : List LogLine). xs ++ g.more) f.longer ∙ append_assoc k f.more g.more;
}

-- what is kept through three calls
pub kept_through : (a b c d : SearchState) (k l m n : List LogLine) → KeepsLines a k b l → KeepsLines b l c m
    → KeepsLines c m d n → KeepsLines a k d n
kept_through a b c d k l m n f g h = keeps_then a b d k l n f (keeps_then b c d l m n g h)

-- a line more for a clause more
pub keeps_push : (old new : SearchState) (before after : List LogLine) (l : LogLine) (clause : List Lit)
    → after ≡ before ++ l ∷ [] → new.sizes ≡ old.sizes → new.clauses ≡ old.clauses ++ clause ∷ [] → IsOfVersion 2 l
    → ((p : Problem) → HasLineEach p old before → (line_clause p l ≡ Some clause) × IsOfKind p before l)
    → KeepsLines old before new after
keeps_push old new before after l clause pushed sizes clauses version one = record {
  keeps = λ p h.
      let o = one p h in
      record {
        problem = h.problem;
        sizes = sizes ∙ h.sizes;
        clauses =
            ap (map (line_clause p)) pushed ∙ map_push (line_clause p) before l
            ∙ ap (λ (c : Option (List Lit)). map (line_clause p) before ++ c ∷ []) o.0
            ∙ ap (λ (cs : List (Option (List Lit))). cs ++ Some clause ∷ []) h.clauses
            ∙ sym (map_push Some old.clauses clause) ∙ ap (map Some) (sym clauses);
        of_kind = subst (AreOfKind p) (sym pushed) (kind_push p before l h.of_kind o.1);
        version = subst (All (IsOfVersion 2)) (sym pushed) (All-push (IsOfVersion 2) before l h.version version);
        ground =
            λ c there. subst (λ (cs : List (List Lit)). Contains cs c) (sym clauses)
            (Contains-append_left old.clauses (clause ∷ []) c (h.ground c there));
      };
  more = l ∷ [];
  longer = pushed;
}

past_end : {X : Type 0} (xs : List X) (x : X) → slice_get xs (length xs) ≡ Some x → ⊥
past_end xs x at = absurd (let lt = get_within xs (length xs) x at in omega arith)

some_same : {X : Type 0} (a b : X) → Some a ≡ Some b → a ≡ b
some_same a b e = cc

-- propagation adds no clause, or a lemma
pub keeps_none : (old new : SearchState) (lines : List LogLine) (answer : Option ℕ)
    → PropagatesBeside (IsEqualityClause old.sizes) old new answer → None ≡ slice_get new.clauses (length old.clauses)
    → KeepsLines old lines new lines
keeps_none old new lines answer moves none = elim moves.clauses [
  | inl same ↦ keeps_same old new lines moves.sizes same
  | inr w ↦ absurd (let at : slice_get new.clauses (length old.clauses)
      ≡ Some w.0 = ap (λ (cs : List (List Lit)). slice_get cs (length old.clauses)) w.2 ∙ get_last old.clauses w.0 in
      let e : None ≡ Some w.0 = none ∙ at in cc)
]

pub keeps_lemma : (old new : SearchState) (before after : List LogLine) (c : List Lit) (answer : Option ℕ)
    → PropagatesBeside (IsEqualityClause old.sizes) old new answer → Some c ≡ slice_get new.clauses (length old.clauses)
    → after ≡ before ++ line.Lemma c ∷ [] → KeepsLines old before new after
keeps_lemma old new before after c answer moves some pushed = elim moves.clauses [
  | inl same ↦ absurd (past_end old.clauses c
      (ap (λ (cs : List (List Lit)). slice_get cs (length old.clauses)) (sym same) ∙ sym some))
  | inr w ↦
      let at : slice_get new.clauses (length old.clauses) ≡ Some w.0 =
      ap (λ (cs : List (List Lit)). slice_get cs (length old.clauses)) w.2 ∙ get_last old.clauses w.0 in
      let is : w.0 ≡ c = sym (some_same c w.0 (some ∙ at)) in
      let clauses : new.clauses ≡ old.clauses ++ c ∷ [] = w.2 ∙ ap (λ (x : List Lit). old.clauses ++ x ∷ []) is in
      let valid : IsEqualityClause old.sizes c = subst (IsEqualityClause old.sizes) is w.1 in
      keeps_push old new before after (line.Lemma c) c pushed moves.sizes clauses tt
      (λ p h. (refl, subst (λ (z : Sizes). IsEqualityClause z c) h.sizes valid))
]

-- the line of a learnt clause has its reasons as hints
pub keeps_learnt : (old new : SearchState) (before after : List LogLine) (k : ℕ) (clause : List Lit) (level : ℕ)
    (unit : Lit) (to : ℕ) (reasons : List ℕ) (l : LogLine) → IsSound old → IsLearnt old k clause level unit
    → AreReasons old.clauses reasons clause → new ≡ cut (add_clause old clause) to
    → IsHintedLine clause (map (λ k. k + 1) reasons) l → after ≡ before ++ l ∷ [] → KeepsLines old before new after
keeps_learnt old new before after k clause level unit to reasons l h learnt shown is hinted pushed =
    let hints : List ℕ = map (λ k. k + 1) reasons in
    keeps_push old new before after (line.Hinted clause hints) clause
    (pushed ∙ ap (λ (x : LogLine). before ++ x ∷ []) hinted) (ap (λ (t : SearchState). t.sizes) is)
    (ap (λ (t : SearchState). t.clauses) is) refl
    (λ p kept. (
      refl,
      (
        subst (λ (z : Sizes). AreInRange z clause) kept.sizes
            (false_in_range old clause h learnt.is_false),
        hinted_by p old before reasons hints clause kept shown refl,
      ),
    ))

pub sizes_added : (old new : SearchState) (clause : List Lit) → AddsClause old clause new → new.sizes ≡ old.sizes
sizes_added old new clause adds = let w = added_cut old new clause adds in ap (λ (t : SearchState). t.sizes) w.1

pub keeps_instance : (old new : SearchState) (before after : List LogLine) (name : InstanceName) (clause : List Lit)
    → IsInstance old.sizes.terms old.sizes.versions name → clause ≡ clause_of name → AddsClause old clause new
    → after ≡ before ++ line.Axiom name ∷ [] → KeepsLines old before new after
keeps_instance old new before after name clause instance is adds pushed =
    let w = added_cut old new clause adds in
    keeps_push old new before after (line.Axiom name) clause pushed (ap (λ (t : SearchState). t.sizes) w.1)
    (ap (λ (t : SearchState). t.clauses) w.1) tt
    (λ p kept. (ap Some (sym is), subst (λ (z : Sizes). IsInstance z.terms z.versions name) kept.sizes instance))

-- the empty clause ends a section
pub refutation_of : (p : Problem) (s : SearchState) (lines ended : List LogLine) (reasons : List ℕ) (end : LogLine)
    (section : Section) → AreReasons s.clauses reasons [] → HasLineEach p s lines
    → IsHintedLine [] (map (λ k. k + 1) reasons) end
    → ended ≡ lines ++ end ∷ [] → section.lines ≡ ended → section.first ≡ 1 → length section.lines ≤ 4294967294
    → RefutesProblem p section
refutation_of p s lines ended reasons end section shown kept hinted pushed is first few =
    let last : LogLine = line.Hinted [] (map (λ k. k + 1) reasons) in
    let whole : section.lines ≡ lines ++ last ∷ [] = is ∙ pushed ∙ ap (λ (x : LogLine). lines ++ x ∷ []) hinted in
    let of_kind : IsOfKind p lines last =
    (λ k d lt. absurd (omega arith), hinted_by p s lines reasons (map (λ k. k + 1) reasons) [] kept shown refl) in
    record {
      valid =
          subst (IsValidSection p) (sym whole)
          (record { of_kind = kind_push p lines last kept.of_kind of_kind; ends = (lines, last, refl, refl) });
      version = subst (All (IsOfVersion 2)) (sym whole) (All-push (IsOfVersion 2) lines last kept.version refl);
      no_deletions =
          subst (All IsNoDeletion) (sym whole) (All-push IsNoDeletion lines last (no_deletions p s lines kept) tt);
      first = first;
      few = few;
    }

pub none_left : (xs : List ℕ) → length xs ≡ 0 → xs ≡ []
none_left [] e = λ i. []
none_left (x ∷ xs) e = absurd (omega arith)

pub answered_some : (s : SearchState) (a : Option ℕ) (k : ℕ) → IsAnswered s a → a ≡ Some k → IsConflictAt s k
answered_some s a k h e = subst (λ (o : Option ℕ). IfSome o (IsConflictAt s)) e h.conflict

-- what an answer says
pub kept_longer : (n : InstanceName) (before after more : List LogLine) → after ≡ before ++ more
    → Contains before (line.Axiom n) → Contains after (line.Axiom n)
kept_longer n before after more is there =
    subst (λ (ls : List LogLine). Contains ls (line.Axiom n)) (sym is)
    (Contains-append_left before more (line.Axiom n) there)

-- the names before a place and the next one have their lines
pub added_more : (names : List InstanceName) (i : ℕ) (d n : InstanceName) (old new : SearchState)
    (before after : List LogLine) → i < length names → n ≡ get_or names i d → KeepsLines old before new after
    → All (λ x. Contains before (line.Axiom x)) (take i names) → Contains after (line.Axiom n)
    → All (λ x. Contains after (line.Axiom x)) (take (i + 1) names)
added_more names i d n old new before after lt at keeps all there =
    let P : InstanceName → Type 0 = λ x. Contains after (line.Axiom x) in
    let longer : take (i + 1) names ≡ take i names ++ n ∷ [] =
    take_more names i d lt ∙ ap (λ (x : InstanceName). take i names ++ x ∷ []) (sym at) in
    subst (All P) (sym longer)
    (All-push P (take i names) n
    (λ k e below. kept_longer (get_or (take i names) k e) before after keeps.more keeps.longer (all k e below))
    there)

-- numbers of clauses, of which there are few
pub are_numbers : (n : ℕ) (numbers : List ℕ) → n ≤ most_clauses → All (λ k. k < n) numbers
    → All (λ k. k < 4294967295) numbers
are_numbers n numbers few h = All-weaker (λ k. k < n) (λ k. k < 4294967295) (λ k lt. omega (arith, lt, few)) numbers h

pub lines_long : (p : Problem) (s : SearchState) (lines : List LogLine) → HasLineEach p s lines
    → length lines ≡ length s.clauses
lines_long p s lines h = sym (length-map lines (line_clause p)) ∙ ap length h.clauses ∙ length-map s.clauses Some
