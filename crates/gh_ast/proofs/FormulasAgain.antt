-- Tokens that are those of a printed assertion spell it, but for the places.
use Rattle.std.proofs.Common.{◌≡◌, List, [], ◌∷◌, ◌++◌, Bool, true, false, refl, sym, ◌∙◌, ap, subst, append_assoc}
use Rattle.gh_ast.specs.declared.Occ.{Occ}
use Rattle.gh_ast.specs.declared.Operand.{Operand}
use Rattle.gh_ast.specs.declared.sign.Sign.{Sign}
use Rattle.gh_ast.specs.declared.sign.Sign.TheVariants as sg
use Rattle.gh_ast.specs.declared.sign.Keyword.TheVariants as kw
use Rattle.gh_ast.specs.Plain.{Cond, Assertion, empty, comparison, points_to, cell, segment, star, cases, Assertions}
use Rattle.gh_ast.specs.Plain.{no_assertions, assertion_first}
use Rattle.gh_ast.specs.Tokens.{Token, named, key, sign}
use Rattle.gh_ast.specs.Grammar as g
use Rattle.gh_ast.specs.Printed.{Lexeme, word, reserved, mark, operand_shown, bracketed, is_star, cond_shown}
use Rattle.gh_ast.specs.Printed.{assertion_shown, assertions_shown, assertions_followed}
use Rattle.gh_ast.specs.Bare.{bare_occ, bare_operand, bare_cond, bare_assertion, bare_assertions}
use Rattle.gh_ast.proofs.Printing.{no_more}
use Rattle.gh_ast.specs.WellFormed.{AreManyAssertions}
use Rattle.gh_ast.proofs.Good.{GoodFormula, GoodFormulas}
use Rattle.gh_ast.proofs.Respelling.{shapes, IsRespelled, take_key, take_sign, take_name, leads, no_sign, operand_again}
use Rattle.gh_ast.proofs.Respelling.{AsTest, test_again}

abbrev pub is_sep : Sign → Bool
is_sep sg.Star = true
is_sep _ = false

abbrev pub AsItem : Assertion → List Lexeme → Type 0
AsItem x shown =
    (us : List Token) (rest : List Lexeme) → shapes us ≡ shown ++ rest
    → IsRespelled g.SpellsItem bare_assertion us x rest

abbrev pub AsAssertion : Assertion → Type 0
AsAssertion x =
    (us : List Token) (rest : List Lexeme) → shapes us ≡ assertion_shown x ++ rest → leads is_sep rest ≡ false
    → IsRespelled g.SpellsAssertion bare_assertion us x rest

pub record ReadsAlike (x : Assertion) : Type 0 where
  pub whole : AsAssertion x
  pub member : AsItem x (bracketed (is_star x) (assertion_shown x))

emp_again : AsItem empty (assertion_shown empty)
emp_again us rest e =
    let k = take_key kw.Emp us rest e in
    record {
      value = empty;
      after = k.after;
      spells = subst (λ u. g.SpellsItem u empty k.after) (sym k.here) g.emp;
      left = k.left;
      same = refl;
    }

compared_again : (l : Operand) (eq : Bool) (r : Operand)
    → AsItem (comparison l eq r) (assertion_shown (comparison l eq r))
compared_again l true r us rest e =
    let a =
    operand_again us l (mark sg.Equal ∷ operand_shown r ++ rest)
    (e ∙ append_assoc (operand_shown l) (mark sg.Equal ∷ operand_shown r) rest) in
    let q = take_sign sg.Equal a.after (operand_shown r ++ rest) a.left in
    let b = operand_again q.after r rest q.left in
    record {
      value = comparison a.value true b.value;
      after = b.after;
      spells = g.same (subst (λ u. g.SpellsOperand us a.value u) q.here a.spells) b.spells;
      left = b.left;
      same = ap (λ x. comparison x true (bare_operand b.value)) a.same
          ∙ ap (λ y. comparison (bare_operand l) true y) b.same;
    }
compared_again l false r us rest e =
    let a =
    operand_again us l (mark sg.Unequal ∷ operand_shown r ++ rest)
    (e ∙ append_assoc (operand_shown l) (mark sg.Unequal ∷ operand_shown r) rest) in
    let q = take_sign sg.Unequal a.after (operand_shown r ++ rest) a.left in
    let b = operand_again q.after r rest q.left in
    record {
      value = comparison a.value false b.value;
      after = b.after;
      spells = g.different (subst (λ u. g.SpellsOperand us a.value u) q.here a.spells) b.spells;
      left = b.left;
      same = ap (λ x. comparison x false (bare_operand b.value)) a.same
          ∙ ap (λ y. comparison (bare_operand l) false y) b.same;
    }

pointed_again : (o : Occ) (y : Operand) → AsItem (points_to o y) (assertion_shown (points_to o y))
pointed_again o y us rest e =
    let w = take_name o us (mark sg.Dot ∷ reserved kw.Next ∷ mark sg.Arrow ∷ operand_shown y ++ rest) e in
    let d = take_sign sg.Dot w.after (reserved kw.Next ∷ mark sg.Arrow ∷ operand_shown y ++ rest) w.left in
    let n = take_key kw.Next d.after (mark sg.Arrow ∷ operand_shown y ++ rest) d.left in
    let a = take_sign sg.Arrow n.after (operand_shown y ++ rest) n.left in
    let r = operand_again a.after y rest a.left in
    let here =
    w.here ∙ ap (λ u. named w.value ∷ u)
    (d.here ∙ ap (λ u. sign sg.Dot d.place ∷ u) (n.here ∙ ap (λ u. key kw.Next n.place ∷ u) a.here)) in
    record {
      value = points_to w.value r.value;
      after = r.after;
      spells = subst (λ u. g.SpellsItem u (points_to w.value r.value) r.after) (sym here) (g.pointed r.spells);
      left = r.left;
      same = ap (λ x. points_to x (bare_operand r.value)) w.same ∙ ap (points_to (bare_occ o)) r.same;
    }

cell_again : (o : Occ) → AsItem (cell o) (assertion_shown (cell o))
cell_again o us rest e =
    let k = take_key kw.Acc us (mark sg.ParenOpen ∷ word o.name ∷ mark sg.ParenClose ∷ rest) e in
    let p = take_sign sg.ParenOpen k.after (word o.name ∷ mark sg.ParenClose ∷ rest) k.left in
    let w = take_name o p.after (mark sg.ParenClose ∷ rest) p.left in
    let c = take_sign sg.ParenClose w.after rest w.left in
    let here =
    k.here ∙ ap (λ u. key kw.Acc k.place ∷ u)
    (p.here ∙ ap (λ u. sign sg.ParenOpen p.place ∷ u) (w.here ∙ ap (λ u. named w.value ∷ u) c.here)) in
    record {
      value = cell w.value;
      after = c.after;
      spells =
          subst (λ u. g.SpellsItem u (cell w.value) c.after) (sym here) g.acc;
      left = c.left;
      same = ap cell w.same;
    }

-- three parts and what follows them
pub assoc3 : (a b c d : List Lexeme) → ((a ++ b) ++ c) ++ d ≡ a ++ (b ++ (c ++ d))
assoc3 a b c d = append_assoc (a ++ b) c d ∙ append_assoc a b (c ++ d)

segment_again : (x y : Operand) → AsItem (segment x y) (assertion_shown (segment x y))
segment_again x y us rest e =
    let body = (operand_shown x ++ mark sg.Comma ∷ operand_shown y ++ mark sg.ParenClose ∷ []) ++ rest in
    let k = take_key kw.Lseg us (mark sg.ParenOpen ∷ body) e in
    let p = take_sign sg.ParenOpen k.after body k.left in
    let a = operand_again p.after x (mark sg.Comma ∷ operand_shown y ++ mark sg.ParenClose ∷ rest)
    (p.left ∙ assoc3 (operand_shown x) (mark sg.Comma ∷ operand_shown y) (mark sg.ParenClose ∷ []) rest) in
    let m = take_sign sg.Comma a.after (operand_shown y ++ mark sg.ParenClose ∷ rest) a.left in
    let b = operand_again m.after y (mark sg.ParenClose ∷ rest) m.left in
    let c = take_sign sg.ParenClose b.after rest b.left in
    let here = k.here ∙ ap (λ u. key kw.Lseg k.place ∷ u) p.here in
    let s =
    g.lseg (subst (λ u. g.SpellsOperand p.after a.value u) m.here a.spells)
    (subst (λ u. g.SpellsOperand m.after b.value u) c.here b.spells) in
    record {
      value = segment a.value b.value;
      after = c.after;
      spells = subst (λ u. g.SpellsItem u (segment a.value b.value) c.after) (sym here) s;
      left = c.left;
      same = ap (λ v. segment v (bare_operand b.value)) a.same ∙ ap (segment (bare_operand x)) b.same;
    }

pub assoc4 : (a b c d e : List Lexeme) → (((a ++ b) ++ c) ++ d) ++ e ≡ a ++ (b ++ (c ++ (d ++ e)))
assoc4 a b c d e = append_assoc ((a ++ b) ++ c) d e ∙ assoc3 a b c (d ++ e)

cases_again : (t : Cond) (x y : Assertion) → AsTest false t → AsAssertion x → AsAssertion y
    → AsItem (cases t x y) (assertion_shown (cases t x y))
cases_again t x y rt rx ry us rest e =
    let last = mark sg.BraceClose ∷ rest in
    let second = mark sg.BraceClose ∷ reserved kw.Else ∷ mark sg.BraceOpen ∷ assertion_shown y ++ last in
    let first = mark sg.ParenClose ∷ mark sg.BraceOpen ∷ assertion_shown x ++ second in
    let body = (cond_shown t ++ mark sg.ParenClose ∷ mark sg.BraceOpen ∷ assertion_shown x
    ++ mark sg.BraceClose ∷ reserved kw.Else ∷ mark sg.BraceOpen ∷ assertion_shown y ++ mark sg.BraceClose ∷ [])
    ++ rest in
    let k = take_key kw.If us (mark sg.ParenOpen ∷ body) e in
    let p = take_sign sg.ParenOpen k.after body k.left in
    let a = rt p.after first
    (p.left ∙ assoc4 (cond_shown t) (mark sg.ParenClose ∷ mark sg.BraceOpen ∷ assertion_shown x)
    (mark sg.BraceClose ∷ reserved kw.Else ∷ mark sg.BraceOpen ∷ assertion_shown y) (mark sg.BraceClose ∷ []) rest)
    (record { dot = refl; conj = refl; disj = refl }) in
    let q = take_sign sg.ParenClose a.after (mark sg.BraceOpen ∷ assertion_shown x ++ second) a.left in
    let b = take_sign sg.BraceOpen q.after (assertion_shown x ++ second) q.left in
    let d = rx b.after second b.left refl in
    let c = take_sign sg.BraceClose d.after (reserved kw.Else ∷ mark sg.BraceOpen ∷ assertion_shown y ++ last) d.left in
    let l = take_key kw.Else c.after (mark sg.BraceOpen ∷ assertion_shown y ++ last) c.left in
    let o = take_sign sg.BraceOpen l.after (assertion_shown y ++ last) l.left in
    let f = ry o.after last o.left refl in
    let z = take_sign sg.BraceClose f.after rest f.left in
    let here = k.here ∙ ap (λ u. key kw.If k.place ∷ u) p.here in
    let test_end = q.here ∙ ap (λ u. sign sg.ParenClose q.place ∷ u) b.here in
    let yes_end =
    c.here ∙ ap (λ u. sign sg.BraceClose c.place ∷ u) (l.here ∙ ap (λ u. key kw.Else l.place ∷ u) o.here) in
    let s =
    g.by_cases (subst (λ u. g.SpellsCond false p.after a.value u) test_end a.spells)
    (subst (λ u. g.SpellsAssertion b.after d.value u) yes_end d.spells)
    (subst (λ u. g.SpellsAssertion o.after f.value u) z.here f.spells) in
    record {
      value = cases a.value d.value f.value;
      after = z.after;
      spells = subst (λ u. g.SpellsItem u (cases a.value d.value f.value) z.after) (sym here) s;
      left = z.left;
      same = ap (λ v. cases v (bare_assertion d.value) (bare_assertion f.value)) a.same
          ∙ ap (λ v. cases (bare_cond t) v (bare_assertion f.value)) d.same
          ∙ ap (cases (bare_cond t) (bare_assertion x)) f.same;
    }

enclosed_again : (x : Assertion) → AsAssertion x
    → AsItem x (mark sg.ParenOpen ∷ assertion_shown x ++ mark sg.ParenClose ∷ [])
enclosed_again x inner us rest e =
    let o = take_sign sg.ParenOpen us ((assertion_shown x ++ mark sg.ParenClose ∷ []) ++ rest) e in
    let r =
    inner o.after (mark sg.ParenClose ∷ rest)
    (o.left ∙ append_assoc (assertion_shown x) (mark sg.ParenClose ∷ []) rest) refl in
    let c = take_sign sg.ParenClose r.after rest r.left in
    let s = g.in_brackets (subst (λ u. g.SpellsAssertion o.after r.value u) c.here r.spells) in
    record {
      value = r.value;
      after = c.after;
      spells = subst (λ u. g.SpellsItem u r.value c.after) (sym o.here) s;
      left = c.left;
      same = r.same;
    }

item_as_whole : (x : Assertion) → AsItem x (assertion_shown x) → AsAssertion x
item_as_whole x item us rest e n =
    let r = item us rest e in
    record {
      value = r.value;
      after = r.after;
      spells = g.one_item r.spells (no_sign is_sep sg.Star r.after rest refl r.left n);
      left = r.left;
      same = r.same;
    }

abbrev shown_item : Assertion → List Lexeme
shown_item x = bracketed (is_star x) (assertion_shown x)

abbrev Items : Assertions → Type 0
Items no_assertions = Unit {0}
Items (assertion_first x l) = AsItem x (shown_item x) × Items l

more_items : (x : Assertion) (l : Assertions) → Items (assertion_first x l) → (us : List Token) (rest : List Lexeme)
    → shapes us ≡ assertions_shown (assertion_first x l) ++ rest
    → leads is_sep rest ≡ false → IsRespelled g.SpellsItems bare_assertions us (assertion_first x l) rest
more_items x no_assertions h us rest e n =
    let r = h.0 us rest (e ∙ ap (λ v. v ++ rest) (no_more (shown_item x))) in
    record {
      value = assertion_first r.value no_assertions;
      after = r.after;
      spells =
          g.last_item r.spells (no_sign is_sep sg.Star r.after rest refl r.left n);
      left =
          r.left;
      same = ap (λ v. assertion_first v no_assertions) r.same;
    }
more_items x (assertion_first y l) h us rest e n =
    let r =
    h.0 us (assertions_followed (assertion_first y l) ++ rest)
    (e ∙ append_assoc (shown_item x) (assertions_followed (assertion_first y l)) rest) in
    let q = take_sign sg.Star r.after (assertions_shown (assertion_first y l) ++ rest) r.left in
    let b = more_items y l h.1 q.after rest q.left n in
    record {
      value = assertion_first r.value b.value;
      after = b.after;
      spells = g.next_item (subst (λ u. g.SpellsItem us r.value u) q.here r.spells) b.spells;
      left = b.left;
      same = ap (λ v. assertion_first v (bare_assertions b.value)) r.same
          ∙ ap (assertion_first (bare_assertion x)) b.same;
    }

star_again : (l : Assertions) → AreManyAssertions l → Items l → AsAssertion (star l)
star_again no_assertions many h us rest e n = absurd many
star_again (assertion_first x no_assertions) many h us rest e n = absurd many
star_again (assertion_first x (assertion_first y l)) many h us rest e n =
    let r =
    h.0 us (assertions_followed (assertion_first y l) ++ rest)
    (e ∙ append_assoc (shown_item x) (assertions_followed (assertion_first y l)) rest) in
    let q = take_sign sg.Star r.after (assertions_shown (assertion_first y l) ++ rest) r.left in
    let b = more_items y l h.1 q.after rest q.left n in
    record {
      value = star (assertion_first r.value b.value);
      after = b.after;
      spells = g.items (subst (λ u. g.SpellsItem us r.value u) q.here r.spells) b.spells;
      left = b.left;
      same = ap (λ v. star (assertion_first v (bare_assertions b.value))) r.same
          ∙ ap (λ v. star (assertion_first (bare_assertion x) v)) b.same;
    }

of_item : (x : Assertion) → is_star x ≡ false → AsItem x (assertion_shown x) → ReadsAlike x
of_item x e item = record {
  whole = item_as_whole x item;
  member = subst (λ b. AsItem x (bracketed b (assertion_shown x))) (sym e) item;
}

of_star : (l : Assertions) → AsAssertion (star l) → ReadsAlike (star l)
of_star l whole = record { whole = whole; member = enclosed_again (star l) whole }

mutual
  pub formula_again : (x : Assertion) → GoodFormula x → ReadsAlike x
  formula_again empty h = of_item empty refl emp_again
  formula_again (comparison l eq r) h = of_item (comparison l eq r) refl (compared_again l eq r)
  formula_again (points_to o y) h = of_item (points_to o y) refl (pointed_again o y)
  formula_again (cell o) h = of_item (cell o) refl (cell_again o)
  formula_again (segment x y) h = of_item (segment x y) refl (segment_again x y)
  formula_again (star l) h = of_star l (star_again l h.0 (items_again l h.1))
  formula_again (cases t x y) h =
      of_item (cases t x y) refl
      (cases_again t x y (test_again false t h.0).test (formula_again x h.1).whole (formula_again y h.2).whole)

  items_again : (l : Assertions) → GoodFormulas l → Items l
  items_again no_assertions h = tt
  items_again (assertion_first x l) h = ((formula_again x h.0).member, items_again l h.1)
