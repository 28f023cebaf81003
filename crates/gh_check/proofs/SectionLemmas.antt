-- Sections, as lines are read.
use Rattle.std.proofs.Common.{◌≡◌, ◌∙◌, ◌+◌, ◌-◌, ◌<◌, ◌≤◌, ℕ, List, [], ◌∷◌, ◌++◌, map, Option, Some, None, inl, inr}
use Rattle.std.proofs.Common.{refl, sym, ap, subst, arith, length, take, take_all}
use Rattle.std.specs.Prelude.{slice_get, slice_index_or}
use Rattle.std.proofs.lemmas.List.{take_more, length_push, length-take-le, length-map}
use Rattle.std.proofs.lemmas.Option.{get_or_from_slice_get}
use Rattle.std.proofs.lemmas.Bool.{cases_lt}
use Rattle.gh_base.specs.declared.atom.Lit.{Lit}
use Rattle.gh_base.specs.declared.sizes.Sizes.{Sizes}
use Rattle.gh_base.specs.Grounds.{Problem}
use Rattle.gh_log.specs.Lines.{LogLine}
use Rattle.gh_log.specs.Lines as line
use Rattle.gh_log.specs.Sections.{line_clause, IsOfKind, AreOfKind, EndsEmpty, IsValidSection, IsFaultOf}
use Rattle.gh_log.proofs.KindLemmas.{kind_push}
use Rattle.gh_base.proofs.ListLemmas.{get_within, take_get}
use Rattle.gh_sat.proofs.WholeLemmas.{take_take}
use Rattle.gh_check.specs.declared.fault.CheckError.TheVariants.{Fault}
use Rattle.gh_check.specs.declared.fault.FaultKind.{FaultKind}
use Rattle.gh_check.specs.Names.{fault_at}
use Rattle.gh_check.specs.declared.lines.Earlier.{Earlier}
use Rattle.gh_check.specs.declared.lines.Outcome.TheVariants.{Faulty, Holds}
use Rattle.gh_check.specs.Kept.{Kept, IsBeforeAll, IsNamed, HasNext, next_line, with_line, IsWithin, AreLinesKept}
use Rattle.gh_check.specs.Lines.{IsTaken, IsChecked, IsKeptAfter, FitsSizes}
use Rattle.gh_check.proofs.KeptLemmas.{kept_first}
use Rattle.gh_check.specs.Answers.{IsSectionError, AreApart, AreOne}

pub apart : AreApart
apart p lines number place valid (inl f) = f.faulty (valid.of_kind place f.line f.at)
apart p lines number place valid (inr n) = n.no_end valid.ends

-- a line before a place, where all these are of their kind
kind_before : (p : Problem) (lines : List LogLine) (i j : ℕ) (l : LogLine) → AreOfKind p (take j lines) → i < j
    → slice_get lines i ≡ Some l → IsOfKind p (take i lines) l
kind_before p lines i j l all lt at =
    subst (λ (ls : List LogLine). IsOfKind p ls l) (take_take i j lines (omega arith))
    (all i l (take_get j lines i l lt at))

-- a line has one fault
one_fault : (p : Problem) (earlier : List LogLine) (l : LogLine) (n m : ℕ) → IsFaultOf p earlier l n
    → IsFaultOf p earlier l m → n ≡ m
one_fault p earlier (line.Axiom name) n m f g = f ∙ sym g
one_fault p earlier (line.Clause k) n m f g = f ∙ sym g
one_fault p earlier (line.Lemma c) n m f g = f ∙ sym g
one_fault p earlier (line.Learnt c) n m f g = f ∙ sym g
one_fault p earlier (line.Hinted c hints) n m (inl f) (inl g) = f.1 ∙ sym g.1
one_fault p earlier (line.Hinted c hints) n m (inl f) (inr g) = absurd (g.0 f.0)
one_fault p earlier (line.Hinted c hints) n m (inr f) (inl g) = absurd (f.0 g.0)
one_fault p earlier (line.Hinted c hints) n m (inr f) (inr g) = f.1 ∙ sym g.1
one_fault p earlier (line.Delete positions) n m f g = f ∙ sym g

pub one : AreOne
one p lines n i m j (inl f) (inl g) = elim (cases_lt i j) [
  | inl lt ↦ absurd (f.faulty (kind_before p lines i j f.line g.earlier lt f.at))
  | inr ge ↦ elim (cases_lt j i) [
    | inl gt ↦ absurd (g.faulty (kind_before p lines j i g.line f.earlier gt g.at))
    | inr le ↦
        let same : i ≡ j = omega arith in
        let there : slice_get lines j ≡ Some f.line = subst (λ (k : ℕ). slice_get lines k ≡ Some f.line) same f.at in
        let line : f.line ≡ g.line = let at = g.at in cc in
        let moved : IsFaultOf p (take j lines) f.line n =
        subst (λ (k : ℕ). IsFaultOf p (take k lines) f.line n) same f.number_is in (
          one_fault p (take j lines) g.line n m (subst (λ (l : LogLine). IsFaultOf p (take j lines) l n) line moved)
              g.number_is,
          same,
        )
  ]
]
one p lines n i m j (inl f) (inr g) = absurd (f.faulty (g.of_kind i f.line f.at))
one p lines n i m j (inr f) (inl g) = absurd (g.faulty (f.of_kind j g.line g.at))
one p lines n i m j (inr f) (inr g) = (f.number_is ∙ sym g.number_is, f.place_is ∙ sym g.place_is)

-- the last of two equal lists with one more
last_same : (xs ys : List LogLine) (x y : LogLine) → xs ++ x ∷ [] ≡ ys ++ y ∷ [] → x ≡ y
last_same [] [] x y e = cc
last_same [] (b ∷ ys) x y e =
    absurd (let n : length (x ∷ []) ≡ length (b ∷ (ys ++ y ∷ [])) = ap length e in omega (arith, length_push ys y))
last_same (a ∷ xs) [] x y e =
    absurd (let n : length (a ∷ (xs ++ x ∷ [])) ≡ length (y ∷ []) = ap length e in omega (arith, length_push xs x))
last_same (a ∷ xs) (b ∷ ys) x y e = last_same xs ys x y (let f : xs ++ x ∷ [] ≡ ys ++ y ∷ [] = cc in f)

ends_push : (p : Problem) (xs : List LogLine) (x : LogLine) → EndsEmpty p (xs ++ x ∷ []) → line_clause p x ≡ Some []
ends_push p xs x e = subst (λ (l : LogLine). line_clause p l ≡ Some []) (sym (last_same xs e.0 x e.1 e.2)) e.3

no_line : (p : Problem) → EndsEmpty p [] → ⊥
no_line p e = let n : length (let ls : List LogLine = [] in ls) ≡ length (e.0 ++ e.1 ∷ []) = ap length e.2 in
    omega (arith, n, length_push e.0 e.1)

-- the last line, and where its clause stands
pub record HasLast (p : Problem) (lines : List LogLine) : Type 0 where
  pub before : List LogLine
  pub last : LogLine
  pub whole : lines ≡ before ++ last ∷ []
  pub there : slice_index_or (None ∷ map (line_clause p) lines) (length lines) None ≡ line_clause p last

has_last : (p : Problem) (l : LogLine) (ls : List LogLine) → HasLast p (l ∷ ls)
has_last p l [] = record { before = []; last = l; whole = refl; there = refl }
has_last p l (m ∷ ls) = let w = has_last p m ls in
    record { before = l ∷ w.before; last = w.last; whole = ap (λ (xs : List LogLine). l ∷ xs) w.whole; there = w.there }

-- whether the clause at the last position is empty
ends_forth : (p : Problem) (lines : List LogLine)
    → slice_index_or (None ∷ map (line_clause p) lines) (length lines) None ≡ Some [] → EndsEmpty p lines
ends_forth p [] e = absurd (cc)
ends_forth p (l ∷ ls) e = let w = has_last p l ls in (w.before, w.last, w.whole, sym w.there ∙ e)

ends_back : (p : Problem) (lines : List LogLine) → EndsEmpty p lines
    → slice_index_or (None ∷ map (line_clause p) lines) (length lines) None ≡ Some []
ends_back p [] e = absurd (no_line p e)
ends_back p (l ∷ ls) e = let w = has_last p l ls in
    w.there ∙ ends_push p w.before w.last (subst (EndsEmpty p) w.whole e)

-- so many positions as lines, and that of no line
count_is : (p : Problem) (lines : List LogLine) (clauses : List (Option (List Lit)))
    → clauses ≡ None ∷ map (line_clause p) lines → length clauses ≡ length lines + 1
count_is p lines clauses e = omega (arith, ap length e, length-map lines (line_clause p))

last_is : (p : Problem) (lines : List LogLine) (clauses : List (Option (List Lit)))
    → clauses ≡ None ∷ map (line_clause p) lines
    → slice_index_or clauses (length clauses - 1) None
    ≡ slice_index_or (None ∷ map (line_clause p) lines) (length lines) None
last_is p lines clauses e =
    let n : length clauses - 1 ≡ length lines = omega (arith, count_is p lines clauses e) in
    ap (λ k. slice_index_or clauses k None) n ∙ ap (λ os. slice_index_or os (length lines) None) e

-- the first i lines were read, and this is kept of them
pub record Reads (p : Problem) (first : ℕ) (lines : List LogLine) (i : ℕ) (e : Earlier) (line : ℕ) : Type 0 where
  pub problem : e.kept.problem ≡ p
  pub lines_are : e.kept.lines ≡ lines
  pub kept : AreLinesKept p (take i lines) e.kept
  pub ready : FitsSizes p.sizes e
  pub of_kind : AreOfKind p (take i lines)
  pub number : line ≡ first + i

pub reads_first : (p : Problem) (first : ℕ) (lines : List LogLine) (e : Earlier) → IsBeforeAll p lines e.kept
    → FitsSizes p.sizes e → Reads p first lines 0 e first
reads_first p first lines e f ready = record {
  problem = f.problem;
  lines_are = f.lines_are;
  kept = kept_first p lines e.kept f;
  ready = ready;
  of_kind = λ i l at. absurd (let lt = get_within [] i l at in omega arith);
  number = omega arith;
}

named : (p : Problem) (earlier : List LogLine) (l : LogLine) → IsOfKind p earlier l → IsNamed p l
named p earlier (line.Axiom name) kind = kind
named p earlier (line.Clause k) kind = tt
named p earlier (line.Lemma c) kind = tt
named p earlier (line.Learnt c) kind = tt
named p earlier (line.Hinted c hints) kind = tt
named p earlier (line.Delete positions) kind = tt

-- a line that is of its kind is the next one
pub next_is : (p : Problem) (first : ℕ) (lines : List LogLine) (i : ℕ) (l : LogLine) (e new : Earlier) (line : ℕ)
    → i < length lines → slice_get lines i ≡ Some l → Reads p first lines i e line
    → new.kept.lines ≡ e.kept.lines → IsKeptAfter p (take i lines) l Holds new.kept → next_line new.kept ≡ Some l
next_is p first lines i l e new line lt at r same after =
    let front : List LogLine = take i lines in
    let n = count_is p (front ++ l ∷ []) (new.kept.clauses ++ line_clause p l ∷ []) after.clauses in
    let place : length new.kept.clauses - 1 ≡ i =
    omega (
      arith,
      n,
      length_push front l,
      length_push new.kept.clauses (line_clause p l),
      length-take-le i lines (omega arith),
    ) in
    ap (λ (ls : List LogLine). slice_get ls (length new.kept.clauses - 1)) (same ∙ r.lines_are)
    ∙ ap (slice_get lines) place ∙ at

pub has_next : (p : Problem) (first : ℕ) (lines : List LogLine) (i : ℕ) (l : LogLine) (e new : Earlier) (line : ℕ)
    → i < length lines → slice_get lines i ≡ Some l → Reads p first lines i e line
    → new.kept.problem ≡ e.kept.problem → new.kept.lines ≡ e.kept.lines → IsTaken p (take i lines) l
    → IsKeptAfter p (take i lines) l Holds new.kept → HasNext new.kept
has_next p first lines i l e new line lt at r problem same taken after = record {
  line = l;
  next = next_is p first lines i l e new line lt at r same after;
  named = subst (λ (q : Problem). IsNamed q l) (sym (problem ∙ r.problem)) (named p (take i lines) l taken.kind);
}

pub reads_more : (p : Problem) (first : ℕ) (lines : List LogLine) (i : ℕ) (l : LogLine) (e mid new : Earlier) (line : ℕ)
    → i < length lines → slice_get lines i ≡ Some l → Reads p first lines i e line
    → mid.kept.problem ≡ e.kept.problem → mid.kept.lines ≡ e.kept.lines → IsTaken p (take i lines) l
    → IsKeptAfter p (take i lines) l Holds mid.kept → FitsSizes p.sizes mid
    → ((m : LogLine) → next_line mid.kept ≡ Some m → new.kept ≡ with_line mid.kept (line_clause mid.kept.problem m))
    → ((sizes : Sizes) (m : LogLine) → next_line mid.kept ≡ Some m → IsWithin sizes (line_clause mid.kept.problem m)
    → FitsSizes sizes mid → FitsSizes sizes new)
    → Reads p first lines (i + 1) new (line + 1)
reads_more p first lines i l e mid new line lt at r problem same taken after ready kept is_ready =
    let front : List LogLine = take i lines in
    let from : mid.kept.problem ≡ p = problem ∙ r.problem in
    let next = next_is p first lines i l e mid line lt at r same after in
    let is : new.kept ≡ with_line mid.kept (line_clause p l) =
    kept l next ∙ ap (λ (q : Problem). with_line mid.kept (line_clause q l)) from in
    let longer : take (i + 1) lines ≡ front ++ l ∷ [] =
    take_more lines i l lt ∙ ap (λ (x : LogLine). front ++ x ∷ []) (get_or_from_slice_get lines i l l at) in
    record {
      problem = ap (λ (k : Kept). k.problem) is ∙ from;
      lines_are = ap (λ (k : Kept). k.lines) is ∙ same ∙ r.lines_are;
      kept = subst (λ (ls : List LogLine). AreLinesKept p ls new.kept) (sym longer)
          (subst (AreLinesKept p (front ++ l ∷ [])) (sym is) after);
      ready =
          is_ready p.sizes l next (subst (λ (q : Problem). IsWithin p.sizes (line_clause q l)) (sym from) taken.within)
          ready;
      of_kind = subst (AreOfKind p) (sym longer) (kind_push p front l r.of_kind taken.kind);
      number = let n = r.number in omega arith;
    }

pub line_refused : (p : Problem) (first : ℕ) (lines : List LogLine) (i : ℕ) (l : LogLine) (e : Earlier) (line : ℕ)
    (kind : FaultKind) → slice_get lines i ≡ Some l → Reads p first lines i e line
    → IsChecked p (take i lines) l (Faulty kind) → IsSectionError p first lines (Fault (fault_at kind line))
line_refused p first lines i l e line kind at r faulty = (
  i,
  inl (record {
    line = l;
    at = at;
    earlier = r.of_kind;
    faulty = faulty.0;
    number_is = faulty.1;
  }),
  r.number,
)

pub all_read : (p : Problem) (first : ℕ) (lines : List LogLine) (n : ℕ) (e : Earlier) (line : ℕ) → length lines ≤ n
    → Reads p first lines n e line
    → slice_index_or e.kept.clauses (length e.kept.clauses - 1) None ≡ Some [] → IsValidSection p lines
all_read p first lines n e line long r empty =
    let whole : take n lines ≡ lines = take_all n lines long in
    let clauses = subst (λ (ls : List LogLine). e.kept.clauses ≡ None ∷ map (line_clause p) ls) whole r.kept.clauses in
    record {
      of_kind = subst (AreOfKind p) whole r.of_kind;
      ends = ends_forth p lines (sym (last_is p lines e.kept.clauses clauses) ∙ empty);
    }

pub end_refused : (p : Problem) (first : ℕ) (lines : List LogLine) (n : ℕ) (e : Earlier) (line : ℕ) → length lines ≤ n
    → n ≤ length lines → Reads p first lines n e line
    → (slice_index_or e.kept.clauses (length e.kept.clauses - 1) None ≡ Some [] → ⊥)
    → IsSectionError p first lines (Fault (record { number = 5; line = line }))
end_refused p first lines n e line long short r fails =
    let whole : take n lines ≡ lines = take_all n lines long in
    let clauses = subst (λ (ls : List LogLine). e.kept.clauses ≡ None ∷ map (line_clause p) ls) whole r.kept.clauses in (
      length lines,
      inr (record {
        of_kind = subst (AreOfKind p) whole r.of_kind;
        no_end = λ ends. fails (last_is p lines e.kept.clauses clauses ∙ ends_back p lines ends);
        number_is = refl;
        place_is = refl;
      }),
      let q = r.number in omega arith,
    )
