-- Clauses in range, and the clauses of one definition.
use Rattle.std.specs.Prelude.{◌≡◌, ℕ, suc, ◌+◌, ◌<◌, List, [], ◌∷◌, ◌++◌, map, length, take, get_or}
use Rattle.std.proofs.Common.{refl, sym, ◌∙◌, ap, subst, append_assoc, arith}
use Rattle.std.proofs.lemmas.List.{map-append, take_more}
use Rattle.std.proofs.lemmas.List.Elements.{All-cons}
use Rattle.gh_base.specs.declared.atom.Lit.{Lit}
use Rattle.gh_base.specs.declared.sizes.Sizes.{Sizes}
use Rattle.gh_base.specs.Atoms.{opposite, IsInRange, AreInRange}
use Rattle.gh_base.specs.Grounds.{Problem}
use Rattle.gh_grass.specs.Clauses.{defined, conjunction_clauses, disjunction_clauses, equivalence_clauses}
use Rattle.gh_reduce.specs.Growth.{with_clauses, sized, grown}
use Rattle.gh_reduce.proofs.GrowthLemmas.{in_range_more, all_in_range_more, defined_twice}

pub none_in_range : (s : Sizes) → AreInRange s []
none_in_range s = λ k x l. absurd (omega (arith, l))

pub first_in_range : (s : Sizes) (a : Lit) (ls : List Lit) → IsInRange s a.atom → AreInRange s ls
    → AreInRange s (a ∷ ls)
first_in_range s a ls h k = All-cons (λ (l : Lit). IsInRange s l.atom) a ls h k

pub one_in_range : (s : Sizes) (a : Lit) → IsInRange s a.atom → AreInRange s (a ∷ [])
one_in_range s a h = first_in_range s a [] h (none_in_range s)

pub two_in_range : (s : Sizes) (a b : Lit) → IsInRange s a.atom → IsInRange s b.atom → AreInRange s (a ∷ b ∷ [])
two_in_range s a b h k = first_in_range s a (b ∷ []) h (one_in_range s b k)

pub three_in_range : (s : Sizes) (a b c : Lit) → IsInRange s a.atom → IsInRange s b.atom → IsInRange s c.atom
    → AreInRange s (a ∷ b ∷ c ∷ [])
three_in_range s a b c h k l = first_in_range s a (b ∷ c ∷ []) h (two_in_range s b c k l)

pub opposites_in_range : (s : Sizes) (ls : List Lit) → AreInRange s ls → AreInRange s (map opposite ls)
opposites_in_range s [] h = none_in_range s
opposites_in_range s (l ∷ ls) h =
    first_in_range s (opposite l) (map opposite ls) (h 0 l (omega arith))
    (opposites_in_range s ls (λ k x m. h (suc k) x (omega (arith, m))))

abbrev pub with_definition : Problem → Problem
with_definition p = record p { sizes = sized p.sizes (p.sizes.defs + 1) }

-- after a definition was taken
pub still_in_range : (p q : Problem) (ls : List Lit) → q ≡ with_definition p → AreInRange p.sizes ls
    → AreInRange q.sizes ls
still_in_range p q ls e h =
    subst (λ (x : Problem). AreInRange x.sizes ls) (sym e)
    (all_in_range_more p.sizes p.sizes.defs (p.sizes.defs + 1) (omega arith) ls h)

pub still_one : (p q : Problem) (l : Lit) → q ≡ with_definition p → IsInRange p.sizes l.atom → IsInRange q.sizes l.atom
still_one p q l e h =
    subst (λ (x : Problem). IsInRange x.sizes l.atom) (sym e)
    (in_range_more p.sizes p.sizes.defs (p.sizes.defs + 1) (omega arith) l.atom h)

pub new_in_range : (p q : Problem) (l : Lit) → q ≡ with_definition p → l ≡ defined p.sizes.defs
    → IsInRange q.sizes l.atom
new_in_range p q l e is =
    subst (λ (x : Problem). IsInRange x.sizes l.atom) (sym e)
    (subst (λ (x : Lit). IsInRange (with_definition p).sizes x.atom) (sym is) (below p.sizes.defs))
  where
    below : (d : ℕ) → d < d + 1
    below d = omega arith

pub opposite_in_range : (s : Sizes) (l m : Lit) → m ≡ opposite l → IsInRange s l.atom → IsInRange s m.atom
opposite_in_range s l m e h = subst (λ (x : Lit). IsInRange s x.atom) (sym e) h

-- clauses leave the numbers as they are
pub clauses_keep : (q r : Problem) (more : List (List Lit)) (ls : List Lit) → r ≡ with_clauses q more
    → AreInRange q.sizes ls → AreInRange r.sizes ls
clauses_keep q r more ls e h = subst (λ (x : Problem). AreInRange x.sizes ls) (sym e) h

pub clauses_keep_one : (q r : Problem) (more : List (List Lit)) (l : Lit) → r ≡ with_clauses q more
    → IsInRange q.sizes l.atom → IsInRange r.sizes l.atom
clauses_keep_one q r more l e h = subst (λ (x : Problem). IsInRange x.sizes l.atom) (sym e) h

abbrev pub pairs : Lit → List Lit → List (List Lit)
pairs first ls = map (λ l. first ∷ l ∷ []) ls

-- one more pair
pub pairs_more : (p q r : Problem) (first : Lit) (ls : List Lit) (i : ℕ) (l : Lit)
    → q ≡ with_clauses p (pairs first (take i ls)) → i < length ls → l ≡ get_or ls i l
    → r ≡ with_clauses q ((first ∷ l ∷ []) ∷ []) → r ≡ with_clauses p (pairs first (take (i + 1) ls))
pairs_more p q r first ls i l e within is h =
    let last : take (i + 1) ls ≡ take i ls ++ l ∷ [] =
    take_more ls i l within ∙ ap (λ (x : Lit). take i ls ++ x ∷ []) (sym is) in
    h
    ∙ ap (λ (x : Problem). with_clauses x ((first ∷ l ∷ []) ∷ [])) e
    ∙ ap (λ cs. let x : Problem = record { sizes = p.sizes; clauses = cs } in x)
    (append_assoc p.clauses (pairs first (take i ls)) ((first ∷ l ∷ []) ∷ [])
    ∙ ap (λ cs. p.clauses ++ cs)
    (sym (map-append (λ x. first ∷ x ∷ []) (take i ls) (l ∷ [])) ∙ ap (pairs first) (sym last)))

pub conjunction_state : (p q r s : Problem) (ls opp : List Lit) (new fails : Lit) → q ≡ with_definition p
    → new ≡ defined p.sizes.defs → fails ≡ opposite new → opp ≡ map opposite ls
    → r ≡ with_clauses q (pairs fails ls) → s ≡ with_clauses r ((new ∷ opp) ∷ [])
    → s ≡ grown p (p.sizes.defs + 1) (conjunction_clauses p.sizes.defs ls)
conjunction_state p q r s ls opp new fails e is neg opps f g =
    let d = p.sizes.defs in
    defined_twice p q r s (d + 1) (pairs fails ls) ((new ∷ opp) ∷ []) e f g
    ∙ ap (λ (x : Lit). grown p (d + 1) (pairs x ls ++ (new ∷ opp) ∷ [])) (neg ∙ ap opposite is)
    ∙ ap (λ (x : Lit). grown p (d + 1) (pairs (opposite (defined d)) ls ++ (x ∷ opp) ∷ [])) is
    ∙ ap (λ (x : List Lit). grown p (d + 1) (pairs (opposite (defined d)) ls ++ (defined d ∷ x) ∷ [])) opps

pairs_of_opposites : (first : Lit) (ls : List Lit)
    → pairs first (map opposite ls) ≡ map (λ l. first ∷ opposite l ∷ []) ls
pairs_of_opposites first [] = refl
pairs_of_opposites first (l ∷ ls) = ap (λ cs. (first ∷ opposite l ∷ []) ∷ cs) (pairs_of_opposites first ls)

pub disjunction_state : (p q r s : Problem) (ls opp : List Lit) (new fails : Lit) → q ≡ with_definition p
    → new ≡ defined p.sizes.defs → fails ≡ opposite new → opp ≡ map opposite ls
    → r ≡ with_clauses q (pairs new opp) → s ≡ with_clauses r ((fails ∷ ls) ∷ [])
    → s ≡ grown p (p.sizes.defs + 1) (disjunction_clauses p.sizes.defs ls)
disjunction_state p q r s ls opp new fails e is neg opps f g =
    let d = p.sizes.defs in
    defined_twice p q r s (d + 1) (pairs new opp) ((fails ∷ ls) ∷ []) e f g
    ∙ ap (λ (x : Lit). grown p (d + 1) (pairs new opp ++ (x ∷ ls) ∷ [])) (neg ∙ ap opposite is)
    ∙ ap (λ (x : Lit). grown p (d + 1) (pairs x opp ++ (opposite (defined d) ∷ ls) ∷ [])) is
    ∙ ap (λ cs. grown p (d + 1) (cs ++ (opposite (defined d) ∷ ls) ∷ []))
    (ap (pairs (defined d)) opps ∙ pairs_of_opposites (defined d) ls)

four : (cs : List (List Lit)) (a b c d : List Lit)
    → (((cs ++ a ∷ []) ++ b ∷ []) ++ c ∷ []) ++ d ∷ [] ≡ cs ++ (a ∷ b ∷ c ∷ d ∷ [])
four cs a b c d =
    append_assoc ((cs ++ a ∷ []) ++ b ∷ []) (c ∷ []) (d ∷ [])
    ∙ append_assoc (cs ++ a ∷ []) (b ∷ []) (c ∷ d ∷ [])
    ∙ append_assoc cs (a ∷ []) (b ∷ c ∷ d ∷ [])

abbrev clauses_at : ℕ → Lit → Lit → Lit → Lit → Lit → Lit → List (List Lit)
clauses_at d new fails l m nl nm =
    (fails ∷ nl ∷ m ∷ []) ∷ (fails ∷ l ∷ nm ∷ []) ∷ (new ∷ l ∷ m ∷ []) ∷ (new ∷ nl ∷ nm ∷ []) ∷ []

pub equivalence_state : (p q a b c e : Problem) (l m nl nm new fails : Lit) → q ≡ with_definition p
    → new ≡ defined p.sizes.defs → fails ≡ opposite new → nl ≡ opposite l → nm ≡ opposite m
    → a ≡ with_clauses q ((fails ∷ nl ∷ m ∷ []) ∷ [])
    → b ≡ with_clauses a ((fails ∷ l ∷ nm ∷ []) ∷ [])
    → c ≡ with_clauses b ((new ∷ l ∷ m ∷ []) ∷ [])
    → e ≡ with_clauses c ((new ∷ nl ∷ nm ∷ []) ∷ [])
    → e ≡ grown p (p.sizes.defs + 1) (equivalence_clauses p.sizes.defs l m)
equivalence_state p q a b c e l m nl nm new fails taken is neg not_l not_m first second third fourth =
    let d = p.sizes.defs in
    fourth
    ∙ ap (λ (x : Problem). with_clauses x ((new ∷ nl ∷ nm ∷ []) ∷ [])) (third
    ∙ ap (λ (x : Problem). with_clauses x ((new ∷ l ∷ m ∷ []) ∷ [])) (second
    ∙ ap (λ (x : Problem). with_clauses x ((fails ∷ l ∷ nm ∷ []) ∷ []))
    (first ∙ ap (λ (x : Problem). with_clauses x ((fails ∷ nl ∷ m ∷ []) ∷ [])) taken)))
    ∙ ap (λ cs. let x : Problem = record { sizes = sized p.sizes (d + 1); clauses = cs } in x)
    (four p.clauses (fails ∷ nl ∷ m ∷ []) (fails ∷ l ∷ nm ∷ []) (new ∷ l ∷ m ∷ []) (new ∷ nl ∷ nm ∷ []))
    ∙ ap (λ (x : Lit). grown p (d + 1) (clauses_at d new x l m nl nm)) (neg ∙ ap opposite is)
    ∙ ap (λ (x : Lit). grown p (d + 1) (clauses_at d x (opposite (defined d)) l m nl nm)) is
    ∙ ap (λ (x : Lit). grown p (d + 1) (clauses_at d (defined d) (opposite (defined d)) l m x nm)) not_l
    ∙ ap (λ (x : Lit). grown p (d + 1) (clauses_at d (defined d) (opposite (defined d)) l m (opposite l) x)) not_m
