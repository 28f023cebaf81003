-- A program that breaks no type rule fits the rules on counts.
use Rattle.std.specs.Prelude.{◌≡◌, ◌≢◌, suc, ◌+◌, List, [], ◌∷◌, ◌++◌, length, map, Bool, true, false, AllPairs}
use Rattle.std.specs.Prelude.{Contains}
use Rattle.std.proofs.lemmas.List.{get_or_append_left, get_or-append-add, length-append}
use Rattle.std.proofs.lemmas.List.Elements.{Contains-append_left, Contains-append_right}
use Rattle.std.proofs.Common.{sym, ◌∙◌, subst, arith}
use Rattle.gh_ast.specs.declared.Occ.{Occ}
use Rattle.gh_ast.specs.declared.Expr.{Expr}
use Rattle.gh_ast.specs.Plain.{Statement, set, new, write, free, call, if, while, return, Statements, no_statements}
use Rattle.gh_ast.specs.Plain.{statement_first, Procedure, Program}
use Rattle.gh_ast.specs.Programs.{Name, names, parameters_of, results_of, body_statements}
use Rattle.gh_ast.specs.Occurrences.{in_cond, in_assertion, in_exprs, Site, mentioned, assigned, called, returned}
use Rattle.gh_ast.specs.Occurrences.{sites_in, all_sites_in, sites_of, locals_of}
use Rattle.gh_ast.specs.Rules.{IsTyped}
use Rattle.gh_ast.proofs.Lists.{member_first, member_later}
use Rattle.gh_ast.proofs.Sites.{site_in_body}
use Rattle.gh_ast.proofs.TypedPrograms.{variables_are_distinct, variables_split, targets_are_distinct, callee_is_known}
use Rattle.gh_ast.proofs.TypedPrograms.{counts_agree, values_are_counted}
use Rattle.gh_machine.specs.Fits.{AreAllDistinct, Fits, AllFit}
use Rattle.gh_machine.specs.Laws.{TypedFit}

pub distinct_list : (xs : List Name) → AllPairs (λ x y. x ≢ y) xs → AreAllDistinct xs
distinct_list [] apart = tt
distinct_list (x ∷ xs) apart = (
  λ there. apart 0 (suc there.0) x (omega arith) (omega (arith, there.1)) (sym there.2),
  distinct_list xs (λ i j d l w. apart (suc i) (suc j) d (omega (arith, l)) (omega (arith, w))),
)

pub distinct_left : (xs ys : List Name) → AllPairs (λ x y. x ≢ y) (xs ++ ys) → AllPairs (λ x y. x ≢ y) xs
distinct_left xs ys apart i j d l w same =
    let count : length (xs ++ ys) ≡ length xs + length ys = length-append xs ys in
    apart i j d l (omega (arith, w, count))
    (get_or_append_left xs ys d i (omega (arith, l, w)) ∙ same ∙ sym (get_or_append_left xs ys d j w))

pub distinct_right : (xs ys : List Name) → AllPairs (λ x y. x ≢ y) (xs ++ ys) → AllPairs (λ x y. x ≢ y) ys
distinct_right xs ys apart i j d l w same =
    let count : length (xs ++ ys) ≡ length xs + length ys = length-append xs ys in
    apart (length xs + i) (length xs + j) d (omega (arith, l)) (omega (arith, w, count))
    (get_or-append-add xs ys i d ∙ same ∙ sym (get_or-append-add xs ys j d))

-- the sites of a block are among those of the procedure
abbrev pub Within : List Site → Procedure → Type 0
Within xs q = (x : Site) → Contains xs x → Contains (sites_of q) x

pub within_left : (xs ys : List Site) (q : Procedure) → Within (xs ++ ys) q → Within xs q
within_left xs ys q all x there = all x (Contains-append_left xs ys x there)

pub within_right : (xs ys : List Site) (q : Procedure) → Within (xs ++ ys) q → Within ys q
within_right xs ys q all x there = all x (Contains-append_right xs ys x there)

call_fits : (P : Program) → IsTyped P → (q : Procedure) → Contains P.procedures q
    → (ts : List Occ) (f : Occ) (es : List Expr) → Contains (sites_of q) (assigned ts)
    → Contains (sites_of q) (called ts f es) → Fits P q (call ts f es)
call_fits P typed q here ts f es assigns calls = (
  callee_is_known P typed q here ts f es calls,
  λ r declares. counts_agree P typed q here ts f es calls r declares,
  distinct_list (names ts) (targets_are_distinct P typed q here ts assigns),
)

mutual
  statement_fits : (P : Program) → IsTyped P → (q : Procedure) → Contains P.procedures q
      → (inside : Bool) (s : Statement) → Within (sites_in inside s) q → Fits P q s
  statement_fits P typed q here inside (set x e) all = tt
  statement_fits P typed q here inside (new x) all = tt
  statement_fits P typed q here inside (write x e) all = tt
  statement_fits P typed q here inside (free x) all = tt
  statement_fits P typed q here inside (call ts f es) all =
      call_fits P typed q here ts f es
      (all (assigned ts) (member_first (assigned ts) (called ts f es ∷ map mentioned (ts ++ in_exprs es))))
      (all (called ts f es) (member_later (assigned ts) (called ts f es)
      (called ts f es ∷ map mentioned (ts ++ in_exprs es))
      (member_first (called ts f es) (map mentioned (ts ++ in_exprs es)))))
  statement_fits P typed q here inside (if t a c b d) all =
      let front : Within (map mentioned (in_cond t) ++ all_sites_in inside a) q =
      within_left (map mentioned (in_cond t) ++ all_sites_in inside a) (all_sites_in inside b) q all in (
        statements_fit P typed q here inside a
            (within_right (map mentioned (in_cond t)) (all_sites_in inside a) q front),
        statements_fit P typed q here inside b
            (within_right (map mentioned (in_cond t) ++ all_sites_in inside a) (all_sites_in inside b) q all),
      )
  statement_fits P typed q here inside (while at t i body close) all =
      statements_fit P typed q here true body
      (within_right (map mentioned (in_cond t ++ in_assertion i)) (all_sites_in true body) q all)
  statement_fits P typed q here inside (return at es) all =
      values_are_counted P typed q here inside at es
      (all (returned inside at es) (member_first (returned inside at es) (map mentioned (in_exprs es))))

  statements_fit : (P : Program) → IsTyped P → (q : Procedure) → Contains P.procedures q
      → (inside : Bool) (ss : Statements) → Within (all_sites_in inside ss) q → AllFit P q ss
  statements_fit P typed q here inside no_statements all = tt
  statements_fit P typed q here inside (statement_first s ss) all = (
    statement_fits P typed q here inside s (within_left (sites_in inside s) (all_sites_in inside ss) q all),
    statements_fit P typed q here inside ss (within_right (sites_in inside s) (all_sites_in inside ss) q all),
  )

pub typed_fit : TypedFit
typed_fit P typed q here =
    let apart : AllPairs (λ x y. x ≢ y) ((parameters_of q ++ results_of q) ++ names (locals_of q)) =
    subst (λ (xs : List Name). AllPairs (λ x y. x ≢ y) xs) (variables_split q)
    (variables_are_distinct P typed q here) in
    let front : AllPairs (λ x y. x ≢ y) (parameters_of q ++ results_of q) =
    distinct_left (parameters_of q ++ results_of q) (names (locals_of q)) apart in
    record {
      body = statements_fit P typed q here false (body_statements q) (λ x there. site_in_body q x there);
      parameters = distinct_list (parameters_of q) (distinct_left (parameters_of q) (results_of q) front);
      results = distinct_list (results_of q) (distinct_right (parameters_of q) (results_of q) front);
    }
