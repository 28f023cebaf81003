-- The clauses of lines, by their places.
use Rattle.std.proofs.Common.{◌≡◌, ℕ, zero, suc, List, [], ◌∷◌, Option, Some, None, All, ◌∙◌, ap, arith}
use Rattle.std.specs.Prelude.{slice_get, Contains}
use Rattle.std.specs.List.{cons_option}
use Rattle.std.proofs.lemmas.List.Elements.{All-cons}
use Rattle.gh_base.specs.declared.atom.Lit.{Lit}
use Rattle.gh_base.specs.Grounds.{Problem}
use Rattle.gh_log.specs.Lines.{LogLine}
use Rattle.gh_log.specs.Sections.{line_clause, clauses_of, HasClauseAt, AreAt}

first_has : (o : Option (List Lit)) (c : List Lit) (cs : List (List Lit)) → o ≡ Some c → Contains (cons_option o cs) c
first_has (Some d) c cs e = let same : d ≡ c = cc in (0, omega arith, same)
first_has None c cs e = absurd (cc)

after_has : (o : Option (List Lit)) (c : List Lit) (cs : List (List Lit)) → Contains cs c
    → Contains (cons_option o cs) c
after_has (Some d) c cs h = (suc h.0, omega (arith, h.1), h.2)
after_has None c cs h = h

-- the clause of a line is one of those of the lines
pub clause_there : (p : Problem) (lines : List LogLine) (place : ℕ) (l : LogLine) (c : List Lit)
    → slice_get lines place ≡ Some l → line_clause p l ≡ Some c → Contains (clauses_of p lines) c
clause_there p [] place l c at has = absurd (cc)
clause_there p (x ∷ xs) zero l c at has = let same : x ≡ l = cc in
    first_has (line_clause p x) c (clauses_of p xs) (ap (line_clause p) same ∙ has)
clause_there p (x ∷ xs) (suc k) l c at has =
    after_has (line_clause p x) c (clauses_of p xs) (clause_there p xs k l c at has)

pub clause_at_is : (p : Problem) (lines : List LogLine) (position : ℕ) (c : List Lit) → HasClauseAt p lines position c
    → Contains (clauses_of p lines) c
clause_at_is p lines position c h = clause_there p lines h.place h.line c h.at h.has

-- clauses at positions are clauses of the lines
pub clauses_at_are : (p : Problem) (lines : List LogLine) (positions : List ℕ) (cs : List (List Lit))
    → AreAt p lines positions cs → All (Contains (clauses_of p lines)) cs
clauses_at_are p lines [] [] h = λ k d l. absurd (omega arith)
clauses_at_are p lines [] (c ∷ cs) h = absurd h
clauses_at_are p lines (k ∷ ks) [] h = λ k d l. absurd (omega arith)
clauses_at_are p lines (k ∷ ks) (c ∷ cs) h =
    All-cons (Contains (clauses_of p lines)) c cs (clause_at_is p lines k c h.0) (clauses_at_are p lines ks cs h.1)
