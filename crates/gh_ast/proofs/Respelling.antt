-- Tokens that are those of a printed part spell it, but for the places.
use Rattle.std.proofs.Common.{◌≡◌, List, [], ◌∷◌, ◌++◌, map, Bool, true, false, refl, sym, ◌∙◌, ap, subst, append_assoc}
use Rattle.std.proofs.lemmas.Bool.{both_ways}
use Rattle.gh_base.specs.declared.place.Span.{Span}
use Rattle.gh_ast.specs.declared.Occ.{Occ}
use Rattle.gh_ast.specs.declared.Operand.{Operand}
use Rattle.gh_ast.specs.declared.Operand.TheVariants as operand_is
use Rattle.gh_ast.specs.declared.Expr.{Expr}
use Rattle.gh_ast.specs.declared.Expr.TheVariants as expr_is
use Rattle.gh_ast.specs.declared.sign.Sign.{Sign}
use Rattle.gh_ast.specs.declared.sign.Sign.TheVariants as sg
use Rattle.gh_ast.specs.declared.sign.Keyword.{Keyword}
use Rattle.gh_ast.specs.declared.sign.Keyword.TheVariants as kw
use Rattle.gh_ast.specs.Plain.{Cond, compare, negation, conjunction, disjunction, Conds, no_conds, cond_first}
use Rattle.gh_ast.specs.Tokens.{Token, named, key, sign}
use Rattle.gh_ast.specs.Grammar as g
use Rattle.gh_ast.specs.Printed.{Lexeme, word, reserved, mark, lexeme_of, operand_shown, expr_shown, bracketed, is_list}
use Rattle.gh_ast.specs.Printed.{cond_shown, conds_shown, conds_followed}
use Rattle.gh_ast.specs.Bare.{bare_occ, bare_operand, bare_expr, bare_cond, bare_conds}
use Rattle.gh_ast.proofs.Printing.{no_more}
use Rattle.gh_ast.specs.WellFormed.{AreManyConds}
use Rattle.gh_ast.proofs.Good.{GoodExpr, GoodTest, GoodTests}

abbrev pub shapes : List Token → List Lexeme
shapes = map lexeme_of

-- a part that is spelled at the front, with what is left
pub record IsRespelled {A : Type 0} (S : List Token → A → List Token → Type 0) (bare : A → A) (us : List Token) (x : A)
    (rest : List Lexeme) : Type 0 where
  pub value : A
  pub after : List Token
  pub spells : S us value after
  pub left : shapes after ≡ rest
  pub same : bare value ≡ bare x

pub record TakesKey (k : Keyword) (us : List Token) (rest : List Lexeme) : Type 0 where
  pub place : Span
  pub after : List Token
  pub here : us ≡ key k place ∷ after
  pub left : shapes after ≡ rest

pub record TakesSign (s : Sign) (us : List Token) (rest : List Lexeme) : Type 0 where
  pub place : Span
  pub after : List Token
  pub here : us ≡ sign s place ∷ after
  pub left : shapes after ≡ rest

pub record TakesName (o : Occ) (us : List Token) (rest : List Lexeme) : Type 0 where
  pub value : Occ
  pub after : List Token
  pub here : us ≡ named value ∷ after
  pub left : shapes after ≡ rest
  pub same : bare_occ value ≡ bare_occ o

pub take_key : (k : Keyword) (us : List Token) (rest : List Lexeme) → shapes us ≡ reserved k ∷ rest → TakesKey k us rest
take_key k [] rest e = cc
take_key k (named o ∷ us) rest e = cc
take_key k (key j p ∷ us) rest e = let same : j ≡ k = cc in
    record { place = p; after = us; here = ap (λ i. key i p ∷ us) same; left = cc }
take_key k (sign s p ∷ us) rest e = cc

pub take_sign : (s : Sign) (us : List Token) (rest : List Lexeme) → shapes us ≡ mark s ∷ rest → TakesSign s us rest
take_sign s [] rest e = cc
take_sign s (named o ∷ us) rest e = cc
take_sign s (key j p ∷ us) rest e = cc
take_sign s (sign t p ∷ us) rest e = let same : t ≡ s = cc in
    record { place = p; after = us; here = ap (λ i. sign i p ∷ us) same; left = cc }

pub take_name : (o : Occ) (us : List Token) (rest : List Lexeme) → shapes us ≡ word o.name ∷ rest → TakesName o us rest
take_name o [] rest e = cc
take_name o (named v ∷ us) rest e =
    let same : v.name ≡ o.name = cc in
    record {
      value = v;
      after = us;
      here = refl;
      left = cc;
      same = ap (λ w. bare_occ (record { name = w; span = v.span })) same;
    }
take_name o (key j p ∷ us) rest e = cc
take_name o (sign t p ∷ us) rest e = cc

-- whether a sign of a kind is first
abbrev pub leads : (Sign → Bool) → List Lexeme → Bool
leads f [] = false
leads f (word w ∷ ls) = false
leads f (reserved k ∷ ls) = false
leads f (mark s ∷ ls) = f s

abbrev pub is_dot : Sign → Bool
is_dot sg.Dot = true
is_dot _ = false

abbrev pub is_and : Sign → Bool
is_and sg.And = true
is_and _ = false

abbrev pub is_or : Sign → Bool
is_or sg.Or = true
is_or _ = false

pub no_sign : (f : Sign → Bool) (s : Sign) (us : List Token) (rest : List Lexeme) → f s ≡ true → shapes us ≡ rest
    → leads f rest ≡ false → g.NoSign s us
no_sign f s us rest t e m p after h =
    both_ways (leads f rest) m (subst (λ x. leads f x ≡ true) e (subst (λ u. leads f (shapes u) ≡ true) (sym h) t))

pub operand_again : (us : List Token) (o : Operand) (rest : List Lexeme) → shapes us ≡ operand_shown o ++ rest
    → IsRespelled g.SpellsOperand bare_operand us o rest
operand_again us (operand_is.Null p) rest e =
    let k = take_key kw.Null us rest e in
    record {
      value = operand_is.Null k.place;
      after = k.after;
      spells =
          subst (λ u. g.SpellsOperand u (operand_is.Null k.place) k.after) (sym k.here) g.null_operand;
      left =
          k.left;
      same = refl;
    }
operand_again us (operand_is.Var o) rest e =
    let w = take_name o us rest e in
    record {
      value = operand_is.Var w.value;
      after = w.after;
      spells =
          subst (λ u. g.SpellsOperand u (operand_is.Var w.value) w.after) (sym w.here) g.variable;
      left =
          w.left;
      same = ap operand_is.Var w.same;
    }

read_again : (us : List Token) (o : Occ) (rest : List Lexeme) → shapes us ≡ expr_shown (expr_is.Read o) ++ rest
    → IsRespelled (g.SpellsExpr true) bare_expr us (expr_is.Read o) rest
read_again us o rest e =
    let w = take_name o us (mark sg.Dot ∷ reserved kw.Next ∷ rest) e in
    let d = take_sign sg.Dot w.after (reserved kw.Next ∷ rest) w.left in
    let n = take_key kw.Next d.after rest d.left in
    let here = w.here ∙ ap (λ r. named w.value ∷ r) (d.here ∙ ap (λ r. sign sg.Dot d.place ∷ r) n.here) in
    record {
      value = expr_is.Read w.value;
      after = n.after;
      spells =
          subst (λ u. g.SpellsExpr true u (expr_is.Read w.value) n.after) (sym here) g.read;
      left =
          n.left;
      same = ap expr_is.Read w.same;
    }

pub expr_again : (reads : Bool) (us : List Token) (x : Expr) (rest : List Lexeme) → GoodExpr reads x
    → shapes us ≡ expr_shown x ++ rest → leads is_dot rest ≡ false
    → IsRespelled (g.SpellsExpr reads) bare_expr us x rest
expr_again reads us (expr_is.Plain o) rest h e m =
    let r = operand_again us o rest e in
    record {
      value = expr_is.Plain r.value;
      after = r.after;
      spells =
          g.plain r.spells (no_sign is_dot sg.Dot r.after rest refl r.left m);
      left =
          r.left;
      same = ap expr_is.Plain r.same;
    }
expr_again reads us (expr_is.Read o) rest h e m =
    subst (λ b. IsRespelled (g.SpellsExpr b) bare_expr us (expr_is.Read o) rest) (sym h.0) (read_again us o rest e)

-- how a test reads as a literal
abbrev pub AsLit : Bool → Cond → List Lexeme → Type 0
AsLit reads t shown =
    (us : List Token) (rest : List Lexeme) → shapes us ≡ shown ++ rest → leads is_dot rest ≡ false
    → IsRespelled (g.SpellsLit reads) bare_cond us t rest

pub record EndsTest (rest : List Lexeme) : Type 0 where
  pub dot : leads is_dot rest ≡ false
  pub conj : leads is_and rest ≡ false
  pub disj : leads is_or rest ≡ false

abbrev pub AsTest : Bool → Cond → Type 0
AsTest reads t =
    (us : List Token) (rest : List Lexeme) → shapes us ≡ cond_shown t ++ rest → EndsTest rest
    → IsRespelled (g.SpellsCond reads) bare_cond us t rest

pub record ReadsBoth (reads : Bool) (t : Cond) : Type 0 where
  pub test : AsTest reads t
  pub member : AsLit reads t (bracketed (is_list t) (cond_shown t))

compared : (reads : Bool) (l r : Expr) (eq : Bool) → GoodExpr reads l → GoodExpr reads r
    → AsLit reads (compare l eq r) (cond_shown (compare l eq r))
compared reads l r true gl gr us rest e m =
    let a =
    expr_again reads us l (mark sg.Equal ∷ expr_shown r ++ rest) gl
    (e ∙ append_assoc (expr_shown l) (mark sg.Equal ∷ expr_shown r) rest) refl in
    let q = take_sign sg.Equal a.after (expr_shown r ++ rest) a.left in
    let b = expr_again reads q.after r rest gr q.left m in
    let s = g.equated (subst (λ u. g.SpellsExpr reads us a.value u) q.here a.spells) b.spells in
    record {
      value = compare a.value true b.value;
      after = b.after;
      spells = s;
      left = b.left;
      same = ap (λ x. compare x true (bare_expr b.value)) a.same ∙ ap (λ y. compare (bare_expr l) true y) b.same;
    }
compared reads l r false gl gr us rest e m =
    let a =
    expr_again reads us l (mark sg.Unequal ∷ expr_shown r ++ rest) gl
    (e ∙ append_assoc (expr_shown l) (mark sg.Unequal ∷ expr_shown r) rest) refl in
    let q = take_sign sg.Unequal a.after (expr_shown r ++ rest) a.left in
    let b = expr_again reads q.after r rest gr q.left m in
    let s = g.distinguished (subst (λ u. g.SpellsExpr reads us a.value u) q.here a.spells) b.spells in
    record {
      value = compare a.value false b.value;
      after = b.after;
      spells = s;
      left = b.left;
      same = ap (λ x. compare x false (bare_expr b.value)) a.same ∙ ap (λ y. compare (bare_expr l) false y) b.same;
    }

inner_ends : (rest : List Lexeme) → EndsTest (mark sg.ParenClose ∷ rest)
inner_ends rest = record { dot = refl; conj = refl; disj = refl }

negated_again : (reads : Bool) (t : Cond) → AsTest reads t → AsLit reads (negation t) (cond_shown (negation t))
negated_again reads t inner us rest e m =
    let b = take_sign sg.Bang us ((mark sg.ParenOpen ∷ cond_shown t ++ mark sg.ParenClose ∷ []) ++ rest) e in
    let o = take_sign sg.ParenOpen b.after ((cond_shown t ++ mark sg.ParenClose ∷ []) ++ rest) b.left in
    let r =
    inner o.after (mark sg.ParenClose ∷ rest) (o.left ∙ append_assoc (cond_shown t) (mark sg.ParenClose ∷ []) rest)
    (inner_ends rest) in
    let c = take_sign sg.ParenClose r.after rest r.left in
    let here = b.here ∙ ap (λ x. sign sg.Bang b.place ∷ x) o.here in
    let s = g.negated (subst (λ u. g.SpellsCond reads o.after r.value u) c.here r.spells) in
    record {
      value = negation r.value;
      after = c.after;
      spells =
          subst (λ u. g.SpellsLit reads u (negation r.value) c.after) (sym here) s;
      left =
          c.left;
      same = ap negation r.same;
    }

in_parens : (reads : Bool) (t : Cond) → AsTest reads t
    → AsLit reads t (mark sg.ParenOpen ∷ cond_shown t ++ mark sg.ParenClose ∷ [])
in_parens reads t inner us rest e m =
    let o = take_sign sg.ParenOpen us ((cond_shown t ++ mark sg.ParenClose ∷ []) ++ rest) e in
    let r =
    inner o.after (mark sg.ParenClose ∷ rest) (o.left ∙ append_assoc (cond_shown t) (mark sg.ParenClose ∷ []) rest)
    (inner_ends rest) in
    let c = take_sign sg.ParenClose r.after rest r.left in
    let s = g.bracketed (subst (λ u. g.SpellsCond reads o.after r.value u) c.here r.spells) in
    record {
      value = r.value;
      after = c.after;
      spells = subst (λ u. g.SpellsLit reads u r.value c.after) (sym o.here) s;
      left = c.left;
      same = r.same;
    }

lit_as_test : (reads : Bool) (t : Cond) → AsLit reads t (cond_shown t) → AsTest reads t
lit_as_test reads t lit us rest e ends =
    let r = lit us rest e ends.dot in
    record {
      value = r.value;
      after = r.after;
      spells =
          g.one_conj (g.one_lit r.spells (no_sign is_and sg.And r.after rest refl r.left ends.conj))
          (no_sign is_or sg.Or r.after rest refl r.left ends.disj);
      left = r.left;
      same = r.same;
    }

-- the members of a list, each as a literal
abbrev Members : Bool → Conds → Type 0
Members reads no_conds = Unit {0}
Members reads (cond_first t ts) = AsLit reads t (bracketed (is_list t) (cond_shown t)) × Members reads ts

abbrev shown_member : Cond → List Lexeme
shown_member t = bracketed (is_list t) (cond_shown t)

more_lits : (reads : Bool) (t : Cond) (ts : Conds) → Members reads (cond_first t ts)
    → (us : List Token) (rest : List Lexeme) → shapes us ≡ conds_shown sg.And (cond_first t ts) ++ rest
    → leads is_dot rest ≡ false → leads is_and rest ≡ false
    → IsRespelled (g.SpellsLits reads) bare_conds us (cond_first t ts) rest
more_lits reads t no_conds h us rest e d a =
    let r = h.0 us rest (e ∙ ap (λ x. x ++ rest) (no_more (shown_member t))) d in
    record {
      value = cond_first r.value no_conds;
      after = r.after;
      spells =
          g.last_lit r.spells (no_sign is_and sg.And r.after rest refl r.left a);
      left =
          r.left;
      same = ap (λ x. cond_first x no_conds) r.same;
    }
more_lits reads t (cond_first u ts) h us rest e d a =
    let r =
    h.0 us (conds_followed sg.And (cond_first u ts) ++ rest)
    (e ∙ append_assoc (shown_member t) (conds_followed sg.And (cond_first u ts)) rest) refl in
    let q = take_sign sg.And r.after (conds_shown sg.And (cond_first u ts) ++ rest) r.left in
    let b = more_lits reads u ts h.1 q.after rest q.left d a in
    record {
      value = cond_first r.value b.value;
      after = b.after;
      spells = g.next_lit (subst (λ x. g.SpellsLit reads us r.value x) q.here r.spells) b.spells;
      left = b.left;
      same = ap (λ x. cond_first x (bare_conds b.value)) r.same ∙ ap (cond_first (bare_cond t)) b.same;
    }

more_conjs : (reads : Bool) (t : Cond) (ts : Conds) → Members reads (cond_first t ts)
    → (us : List Token) (rest : List Lexeme) → shapes us ≡ conds_shown sg.Or (cond_first t ts) ++ rest
    → EndsTest rest → IsRespelled (g.SpellsConjs reads) bare_conds us (cond_first t ts) rest
more_conjs reads t no_conds h us rest e ends =
    let r = h.0 us rest (e ∙ ap (λ x. x ++ rest) (no_more (shown_member t))) ends.dot in
    record {
      value = cond_first r.value no_conds;
      after = r.after;
      spells =
          g.last_conj (g.one_lit r.spells (no_sign is_and sg.And r.after rest refl r.left ends.conj))
          (no_sign is_or sg.Or r.after rest refl r.left ends.disj);
      left = r.left;
      same = ap (λ x. cond_first x no_conds) r.same;
    }
more_conjs reads t (cond_first u ts) h us rest e ends =
    let next = conds_followed sg.Or (cond_first u ts) ++ rest in
    let r = h.0 us next (e ∙ append_assoc (shown_member t) (conds_followed sg.Or (cond_first u ts)) rest) refl in
    let q = take_sign sg.Or r.after (conds_shown sg.Or (cond_first u ts) ++ rest) r.left in
    let b = more_conjs reads u ts h.1 q.after rest q.left ends in
    let c = g.one_lit r.spells (no_sign is_and sg.And r.after next refl r.left refl) in
    record {
      value = cond_first r.value b.value;
      after = b.after;
      spells = g.next_conj (subst (λ x. g.SpellsConj reads us r.value x) q.here c) b.spells;
      left = b.left;
      same = ap (λ x. cond_first x (bare_conds b.value)) r.same ∙ ap (cond_first (bare_cond t)) b.same;
    }

conj_again : (reads : Bool) (ts : Conds) → AreManyConds ts → Members reads ts → AsTest reads (conjunction ts)
conj_again reads no_conds many h us rest e ends = absurd many
conj_again reads (cond_first t no_conds) many h us rest e ends = absurd many
conj_again reads (cond_first t (cond_first u ts)) many h us rest e ends =
    let r =
    h.0 us (conds_followed sg.And (cond_first u ts) ++ rest)
    (e ∙ append_assoc (shown_member t) (conds_followed sg.And (cond_first u ts)) rest) refl in
    let q = take_sign sg.And r.after (conds_shown sg.And (cond_first u ts) ++ rest) r.left in
    let b = more_lits reads u ts h.1 q.after rest q.left ends.dot ends.conj in
    record {
      value = conjunction (cond_first r.value b.value);
      after = b.after;
      spells =
          g.one_conj (g.lits (subst (λ x. g.SpellsLit reads us r.value x) q.here r.spells) b.spells)
          (no_sign is_or sg.Or b.after rest refl b.left ends.disj);
      left = b.left;
      same = ap (λ x. conjunction (cond_first x (bare_conds b.value))) r.same
          ∙ ap (λ x. conjunction (cond_first (bare_cond t) x)) b.same;
    }

disj_again : (reads : Bool) (ts : Conds) → AreManyConds ts → Members reads ts → AsTest reads (disjunction ts)
disj_again reads no_conds many h us rest e ends = absurd many
disj_again reads (cond_first t no_conds) many h us rest e ends = absurd many
disj_again reads (cond_first t (cond_first u ts)) many h us rest e ends =
    let next = conds_followed sg.Or (cond_first u ts) ++ rest in
    let r = h.0 us next (e ∙ append_assoc (shown_member t) (conds_followed sg.Or (cond_first u ts)) rest) refl in
    let q = take_sign sg.Or r.after (conds_shown sg.Or (cond_first u ts) ++ rest) r.left in
    let b = more_conjs reads u ts h.1 q.after rest q.left ends in
    let c = g.one_lit r.spells (no_sign is_and sg.And r.after next refl r.left refl) in
    record {
      value = disjunction (cond_first r.value b.value);
      after = b.after;
      spells = g.conjs (subst (λ x. g.SpellsConj reads us r.value x) q.here c) b.spells;
      left = b.left;
      same = ap (λ x. disjunction (cond_first x (bare_conds b.value))) r.same
          ∙ ap (λ x. disjunction (cond_first (bare_cond t) x)) b.same;
    }

of_lit : (reads : Bool) (t : Cond) → is_list t ≡ false → AsLit reads t (cond_shown t) → ReadsBoth reads t
of_lit reads t e lit = record {
  test = lit_as_test reads t lit;
  member = subst (λ b. AsLit reads t (bracketed b (cond_shown t))) (sym e) lit;
}

of_list : (reads : Bool) (t : Cond) → is_list t ≡ true → AsTest reads t → ReadsBoth reads t
of_list reads t e test = record {
  test = test;
  member = subst (λ b. AsLit reads t (bracketed b (cond_shown t))) (sym e) (in_parens reads t test);
}

mutual
  pub test_again : (reads : Bool) (t : Cond) → GoodTest reads t → ReadsBoth reads t
  test_again reads (compare l eq r) h = of_lit reads (compare l eq r) refl (compared reads l r eq h.0 h.1)
  test_again reads (negation t) h = of_lit reads (negation t) refl (negated_again reads t (test_again reads t h).test)
  test_again reads (conjunction ts) h =
      of_list reads (conjunction ts) refl (conj_again reads ts h.0 (members_again reads ts h.1))
  test_again reads (disjunction ts) h =
      of_list reads (disjunction ts) refl (disj_again reads ts h.0 (members_again reads ts h.1))

  members_again : (reads : Bool) (ts : Conds) → GoodTests reads ts → Members reads ts
  members_again reads no_conds h = tt
  members_again reads (cond_first t ts) h = ((test_again reads t h.0).member, members_again reads ts h.1)
