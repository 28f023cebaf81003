-- A list of tokens spells at most one program.
use Rattle.std.proofs.Common.{◌≡◌, ℕ, List, ◌∷◌, Option, Some, refl, ap, subst, sym}
use Rattle.std.specs.Prelude.{codes}
use Rattle.gh_base.specs.declared.place.Span.{Span}
use Rattle.gh_ast.specs.declared.Occ.{Occ}
use Rattle.gh_ast.specs.declared.Field.{Field}
use Rattle.gh_ast.specs.declared.sign.Sign.TheVariants as sg
use Rattle.gh_ast.specs.declared.sign.Keyword.{Keyword}
use Rattle.gh_ast.specs.declared.sign.Keyword.TheVariants as kw
use Rattle.gh_ast.specs.Plain.{Body, Procedure, Program}
use Rattle.gh_ast.specs.Readings.{AreOne}
use Rattle.gh_ast.specs.Tokens.{Token, sign}
use Rattle.gh_ast.specs.Grammar.{SpellsClause, SpellsEnsures, SpellsLocals, last_local, next_local, SpellsOpenBody}
use Rattle.gh_ast.specs.Grammar.{no_locals, some_locals, SpellsParams, last_param, next_param, SpellsHeader, no_params}
use Rattle.gh_ast.specs.Grammar.{params, SpellsResults, no_results, results, SpellsBody, no_body, a_body}
use Rattle.gh_ast.specs.Grammar.{SpellsProcedure, a_procedure, SpellsProcedures, no_procedures, one_procedure}
use Rattle.gh_ast.specs.Grammar.{SpellsWord, by_name, by_key, SpellsFields, no_fields, one_field, SpellsProgram}
use Rattle.gh_ast.specs.Grammar.{a_program}
use Rattle.gh_ast.proofs.OneAssertion.{one_clause, one_ensures}
use Rattle.gh_ast.proofs.OneStatement.{tail_one, one_statements, no_var_first}

pub one_locals : (ts r q : List Token) (xs ys : List Occ) → SpellsLocals ts xs r → SpellsLocals ts ys q
    → AreOne xs ys r q
one_locals _ r q xs ys last_local last_local = record { value = refl; rest = refl }
one_locals _ r q xs ys (next_local {o = o} {ts = ts} {l = l} a) (next_local {l = m} b) =
    let e = one_locals ts r q l m a b in record { value = ap (λ x. o ∷ x) e.value; rest = e.rest }

pub one_inside : (ts r q : List Token) (x y : Body) → SpellsOpenBody ts x r → SpellsOpenBody ts y q → AreOne x y r q
one_inside ts r q x y (no_locals {c = c} {a = l} a) (no_locals {c = d} {a = m} b) =
    let e = one_statements ts r q l m c d a b in let es = e.value in let ec = e.close in
    record { value = cc; rest = e.rest }
one_inside _ r q x y (some_locals {c = c} {ts = ts} {us = us} {xs = xs} {ys = ys} {a = l} a i)
    (some_locals {c = d} {us = us2} {xs = xs2} {ys = ys2} {a = l2} b j) =
    let w = one_locals ts us us2 xs xs2 a b in
    let v =
    one_inside us r q (record { locals = ys; statements = l; close = c })
    (record { locals = ys2; statements = l2; close = d }) i
    (subst (λ z. SpellsOpenBody z (record { locals = ys2; statements = l2; close = d }) q) (sym w.rest) j) in
    let e1 = w.value in
    let e2 : ys ≡ ys2 = ap (λ k. k.locals) v.value in let e3 : l ≡ l2 = ap (λ k. k.statements) v.value in
    let e4 : c ≡ d = ap (λ k. k.close) v.value in
    record { value = cc; rest = v.rest }
one_inside _ r q x y (no_locals a) (some_locals b j) = absurd (no_var_first a)
one_inside _ r q x y (some_locals a i) (no_locals b) = absurd (no_var_first b)

pub one_params : (ts r q : List Token) (xs ys : List Occ) → SpellsParams ts xs r → SpellsParams ts ys q
    → AreOne xs ys r q
one_params _ r q xs ys last_param last_param = record { value = refl; rest = refl }
one_params _ r q xs ys (next_param {o = o} {ts = ts} {l = l} a) (next_param {l = m} b) =
    let e = one_params ts r q l m a b in record { value = ap (λ x. o ∷ x) e.value; rest = e.rest }

pub one_header : (ts r q : List Token) (xs ys : List Occ) → SpellsHeader ts xs r → SpellsHeader ts ys q
    → AreOne xs ys r q
one_header _ r q xs ys no_params no_params = record { value = refl; rest = refl }
one_header ts r q xs ys (params a) (params b) = one_params ts r q xs ys a b
one_header _ r q xs ys no_params (params b) = elim b [ ]
one_header _ r q xs ys (params a) no_params = elim a [ ]

pub one_results : (ts r q : List Token) (xs ys : List Occ) → SpellsResults ts xs r → SpellsResults ts ys q
    → AreOne xs ys r q
one_results _ r q xs ys (no_results n) (no_results m) = record { value = refl; rest = refl }
one_results _ r q xs ys (results {ts = ts} a) (results b) = one_header ts r q xs ys a b
one_results _ r q xs ys (no_results n) (results b) = absurd (n _ _ refl)
one_results _ r q xs ys (results a) (no_results n) = absurd (n _ _ refl)

pub record AreOneBody (x y : Option Body) (c d : Span) (r q : List Token) : Type 0 where
  pub value : x ≡ y
  pub close : c ≡ d
  pub rest : r ≡ q

pub one_body : (ts r q : List Token) (x y : Option Body) (c d : Span) → SpellsBody ts x c r → SpellsBody ts y d q
    → AreOneBody x y c d r q
one_body _ r q x y c d no_body no_body = record { value = refl; close = refl; rest = refl }
one_body _ r q x y c d (a_body {ts = ts} {b = i} a) (a_body {b = j} b) =
    let e = one_inside ts r q i j a b in
    record { value = ap Some e.value; close = ap (λ k. k.close) e.value; rest = e.rest }

pub one_procedure_at : (ts r q : List Token) (x y : Procedure) → SpellsProcedure ts x r → SpellsProcedure ts y q
    → AreOne x y r q
one_procedure_at _ r q x y
    (a_procedure {c = c} {ts = ts} {us = us} {vs = vs} {ws = ws} {zs = zs} {xs = xs} {ys = ys} {x = f} {l = g} {b = b}
    h1 r1 n1 e1 b1)
    (a_procedure {c = c2} {us = us2} {vs = vs2} {ws = ws2} {zs = zs2} {xs = xs2} {ys = ys2} {x = given} {l = g2} {b = d}
    h2 r2 n2 e2 b2) =
    let p1 = one_header ts us us2 xs xs2 h1 h2 in
    let p2 = one_results us vs vs2 ys ys2 r1 (subst (λ z. SpellsResults z ys2 vs2) (sym p1.rest) r2) in
    let p3 =
    one_clause kw.Requires vs f given ws ws2 n1
    (subst (λ z. SpellsClause kw.Requires z given ws2) (sym p2.rest) n2) in
    let p4 = one_ensures ws g g2 zs zs2 e1 (subst (λ z. SpellsEnsures z g2 zs2) (sym p3.rest) e2) in
    let p5 = one_body zs r q b d c c2 b1 (subst (λ z. SpellsBody z d c2 q) (sym p4.rest) b2) in
    let s1 = p1.value in let s2 = p2.value in let s3 = p3.value in let s4 = p4.value in let s5 = p5.value in
    let s6 = p5.close in
    record { value = cc; rest = p5.rest }

pub one_procedures : (ts : List Token) (x y : List Procedure) → SpellsProcedures ts x → SpellsProcedures ts y → x ≡ y
one_procedures _ x y no_procedures no_procedures = refl
one_procedures ts x y (one_procedure {us = us} {p = p} {ps = ps} a i)
    (one_procedure {us = us2} {p = p2} {ps = ps2} b j) =
    let w = one_procedure_at ts us us2 p p2 a b in
    let v = one_procedures us ps ps2 i (subst (λ z. SpellsProcedures z ps2) (sym w.rest) j) in
    let e = w.value in cc
one_procedures _ x y no_procedures (one_procedure b j) = elim b [ ]
one_procedures _ x y (one_procedure a i) no_procedures = elim a [ ]

one_word_at : (k k2 : Keyword) (text text2 : List ℕ) (ts r q : List Token) (x y : Occ) → text ≡ text2
    → SpellsWord k text ts x r → SpellsWord k2 text2 ts y q → AreOne x y r q
one_word_at k k2 text text2 _ r q x y e by_name by_name = record { value = refl; rest = refl }
one_word_at k k2 text text2 _ r q x y e by_key by_key = record { value = cc; rest = refl }

pub one_word : (k : Keyword) (text : List ℕ) (ts r q : List Token) (x y : Occ) → SpellsWord k text ts x r
    → SpellsWord k text ts y q → AreOne x y r q
one_word k text ts r q x y a b = one_word_at k k text text ts r q x y refl a b

pub record AreOneFields (x y : List Field) (c d : Span) (r q : List Token) : Type 0 where
  pub value : x ≡ y
  pub close : c ≡ d
  pub rest : r ≡ q

pub one_fields : (ts r q : List Token) (x y : List Field) (c d : Span) → SpellsFields ts x c r → SpellsFields ts y d q
    → AreOneFields x y c d r q
one_fields _ r q x y c d no_fields no_fields = record { value = refl; close = refl; rest = refl }
one_fields _ r q x y c d (one_field {q = p} {r = s} {ts = ts} {us = us} {vs = vs} {o = o} {k = k} {l = l} a b i)
    (one_field {q = p2} {r = s2} {us = us2} {vs = vs2} {o = o2} {k = k2} {l = l2} a2 b2 j) =
    let w = one_word kw.Next (codes "next") ts (sign sg.Colon p ∷ us) (sign sg.Colon p2 ∷ us2) o o2 a a2 in
    let v =
    one_word kw.Node (codes "Node") us (sign sg.Semicolon s ∷ vs) (sign sg.Semicolon s2 ∷ vs2) k k2 b
    (subst (λ z. SpellsWord kw.Node (codes "Node") z k2 (sign sg.Semicolon s2 ∷ vs2)) (sym (tail_one w.rest)) b2) in
    let u = one_fields vs r q l l2 c d i (subst (λ z. SpellsFields z l2 d q) (sym (tail_one v.rest)) j) in
    let e1 = w.value in let e2 : k.name ≡ k2.name = ap (λ z. z.name) v.value in let e3 = u.value in
    record { value = cc; close = u.close; rest = u.rest }

pub one_program : (ts : List Token) (x y : Program) → SpellsProgram ts x → SpellsProgram ts y → x ≡ y
one_program _ x y (a_program {c = c} {ts = ts} {us = us} {fs = fs} {ps = ps} a i)
    (a_program {c = c2} {us = us2} {fs = fs2} {ps = ps2} b j) =
    let w = one_fields ts us us2 fs fs2 c c2 a b in
    let v = one_procedures us ps ps2 i (subst (λ z. SpellsProcedures z ps2) (sym w.rest) j) in
    let e1 = w.value in let e2 = w.close in cc
