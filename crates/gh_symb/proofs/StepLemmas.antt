-- New values for some variables, callees by number, and what a walk comes to.
use Rattle.std.specs.Prelude.{◌≡◌, ℕ, ◌+◌, ◌<◌, List, [], ◌∷◌, ◌++◌, filter, length, get_or, drop, Bool, true}
use Rattle.std.specs.Option.{option_map}
use Rattle.std.proofs.Common.{refl, ◌∙◌, ap, arith}
use Rattle.std.proofs.lemmas.List.{map-append, length-map}
use Rattle.std.proofs.lemmas.List.Elements.{filter-append}
use Rattle.gh_ast.specs.declared.Occ.{Occ}
use Rattle.gh_ast.specs.Plain.{procedure_of, program_of}
use Rattle.gh_ast.specs.declared.Procedure as whole
use Rattle.gh_ast.specs.declared.Program as whole_program
use Rattle.std.proofs.lemmas.Option.{slice_get-map, slice_get_read}
use Rattle.gh_ast.specs.Programs.{Name, names}
use Rattle.gh_path.specs.Terms.{Terms, renewed, terms, with_value, bound}
use Rattle.gh_path.specs.Graphs.{HasProcedure, IsProcedureAt}
use Rattle.gh_symb.proofs.TableLemmas.{head_of}

pub renewed_more : (xs ys : List Name) (s : Terms) → renewed (xs ++ ys) s ≡ renewed ys (renewed xs s)
renewed_more [] ys s = refl
renewed_more (x ∷ xs) ys s =
    renewed_more xs ys (terms (with_value s.kinds) (bound s.bindings x (length s.kinds)) s.version)

pub renewed_here : (test : Name → Bool) (os : List Occ) (i : ℕ) (o : Occ) → i < length os → o ≡ get_or os i o
    → test o.name ≡ true → (s : Terms) →
    renewed (filter test (names (drop (i + 1) os))) (renewed (o.name ∷ []) s)
    ≡ renewed (filter test (names (drop i os))) s
renewed_here test os i o within is holds s = rw (head_of os i o within is, holds) refl

three : (test : Name → Bool) (xs ys zs : List Occ)
    → filter test (names (xs ++ ys ++ zs)) ≡ filter test (names xs) ++ filter test (names ys) ++ filter test (names zs)
three test xs ys zs =
    ap (filter test) (map-append (λ (o : Occ). o.name) (xs ++ ys) zs)
    ∙ filter-append test (names (xs ++ ys)) (names zs)
    ∙ ap (λ ns. filter test ns ++ filter test (names zs)) (map-append (λ (o : Occ). o.name) xs ys)
    ∙ ap (λ ns. ns ++ filter test (names zs)) (filter-append test (names xs) (names ys))

pub renewed_three : (test : Name → Bool) (xs ys zs : List Occ) (s : Terms) →
    renewed (filter test (names zs)) (renewed (filter test (names ys)) (renewed (filter test (names xs)) s))
    ≡ renewed (filter test (names (xs ++ ys ++ zs))) s
renewed_three test xs ys zs s =
    rw (
      three test xs ys zs,
      renewed_more (filter test (names xs) ++ filter test (names ys)) (filter test (names zs)) s,
      renewed_more (filter test (names xs)) (filter test (names ys)) s,
    ) refl

-- the number of a procedure is one of those of the text, and the procedure at it is its plain form
pub callee_within : (P : whole_program.Program) (n : ℕ) → HasProcedure (program_of P) n → n < length P.procedures.items
callee_within P n has = omega (arith, has, length-map P.procedures.items procedure_of)

pub called_procedure : (P : whole_program.Program) (n : ℕ) (q : whole.Procedure) → n < length P.procedures.items
    → q ≡ get_or P.procedures.items n q →
    IsProcedureAt (program_of P) n (procedure_of q)
called_procedure P n q within is =
    let ps = P.procedures.items in
    slice_get-map procedure_of ps n ∙ ap (option_map procedure_of) (slice_get_read ps (length ps) n q refl within is)
