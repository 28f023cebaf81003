-- Tokens that are those of a printed program spell it, but for the places.
use Rattle.std.proofs.Common.{◌≡◌, ℕ, List, [], ◌∷◌, ◌++◌, map, Bool, true, false, Option, Some, None, codes, refl, sym}
use Rattle.std.proofs.Common.{◌∙◌, ap, subst, append_assoc, inl, inr}
use Rattle.std.specs.List.{flat_map}
use Rattle.std.specs.Option.{option_map}
use Rattle.std.specs.Str.{bytes_eq}
use Rattle.std.proofs.lemmas.Bool.{false_from_ne_true}
use Rattle.std.proofs.lemmas.Slice.Eq.{bytes_eq-Decides}
use Rattle.gh_base.specs.declared.place.Span.{Span}
use Rattle.gh_ast.specs.declared.Occ.{Occ}
use Rattle.gh_ast.specs.declared.Field.{Field}
use Rattle.gh_ast.specs.declared.sign.Sign.{Sign}
use Rattle.gh_ast.specs.declared.sign.Sign.TheVariants as sg
use Rattle.gh_ast.specs.declared.sign.Keyword.{Keyword}
use Rattle.gh_ast.specs.declared.sign.Keyword.TheVariants as kw
use Rattle.gh_ast.specs.Plain.{Assertion, Statements, Body, Procedure, Program}
use Rattle.gh_ast.specs.Tokens.{Token, named, key, sign, keyword_text, first_place}
use Rattle.gh_ast.specs.TokenLaws.{IsNameWord}
use Rattle.gh_ast.specs.Grammar as g
use Rattle.gh_ast.specs.Printed.{Lexeme, word, reserved, mark, with_signs, name_shown, assertion_shown}
use Rattle.gh_ast.specs.Printed.{statements_shown, word_or, field_shown, parameter_shown, results_shown, locals_shown}
use Rattle.gh_ast.specs.Printed.{body_shown, alternatives_shown, procedure_shown, program_shown}
use Rattle.gh_ast.specs.Bare.{bare_occ, bare_assertion, bare_statements, bare_body, bare_field, bare_procedure}
use Rattle.gh_ast.specs.Bare.{bare_program}
use Rattle.gh_ast.proofs.Printing.{no_more}
use Rattle.gh_ast.proofs.Good.{GoodFormula, GoodStatements, GoodBody, GoodAlternatives, GoodProcedure, GoodWord}
use Rattle.gh_ast.proofs.Good.{GoodField, GoodProgram, AllGood}
use Rattle.gh_ast.proofs.Respelling.{shapes, IsRespelled, take_key, take_sign, take_name, leads, no_sign}
use Rattle.gh_ast.proofs.FormulasAgain.{assoc3, is_sep, formula_again}
use Rattle.gh_ast.proofs.StatementsAgain.{heads, no_key, statements_again}

params_again : (x : Occ) (xs : List Occ) (us : List Token) (rest : List Lexeme)
    → shapes us ≡ with_signs parameter_shown sg.Comma (x ∷ xs) ++ mark sg.ParenClose ∷ rest
    → IsRespelled g.SpellsParams (map bare_occ) us (x ∷ xs) rest
params_again x [] us rest e =
    let w = take_name x us (mark sg.Colon ∷ reserved kw.Node ∷ mark sg.ParenClose ∷ rest) e in
    let c = take_sign sg.Colon w.after (reserved kw.Node ∷ mark sg.ParenClose ∷ rest) w.left in
    let k = take_key kw.Node c.after (mark sg.ParenClose ∷ rest) c.left in
    let p = take_sign sg.ParenClose k.after rest k.left in
    let here =
    w.here ∙ ap (λ u. named w.value ∷ u)
    (c.here ∙ ap (λ u. sign sg.Colon c.place ∷ u) (k.here ∙ ap (λ u. key kw.Node k.place ∷ u) p.here)) in
    record {
      value = w.value ∷ [];
      after = p.after;
      spells =
          subst (λ u. g.SpellsParams u (w.value ∷ []) p.after) (sym here) g.last_param;
      left =
          p.left;
      same = ap (λ v. v ∷ []) w.same;
    }
params_again x (y ∷ xs) us rest e =
    let more = with_signs parameter_shown sg.Comma (y ∷ xs) ++ mark sg.ParenClose ∷ rest in
    let w = take_name x us (mark sg.Colon ∷ reserved kw.Node ∷ mark sg.Comma ∷ more) e in
    let c = take_sign sg.Colon w.after (reserved kw.Node ∷ mark sg.Comma ∷ more) w.left in
    let k = take_key kw.Node c.after (mark sg.Comma ∷ more) c.left in
    let p = take_sign sg.Comma k.after more k.left in
    let r = params_again y xs p.after rest p.left in
    let here =
    w.here ∙ ap (λ u. named w.value ∷ u)
    (c.here ∙ ap (λ u. sign sg.Colon c.place ∷ u) (k.here ∙ ap (λ u. key kw.Node k.place ∷ u) p.here)) in
    record {
      value = w.value ∷ r.value;
      after = r.after;
      spells = subst (λ u. g.SpellsParams u (w.value ∷ r.value) r.after) (sym here) (g.next_param r.spells);
      left = r.left;
      same = ap (λ v. v ∷ map bare_occ r.value) w.same ∙ ap (λ v. bare_occ x ∷ v) r.same;
    }

header_again : (xs : List Occ) (us : List Token) (rest : List Lexeme)
    → shapes us ≡ with_signs parameter_shown sg.Comma xs ++ mark sg.ParenClose ∷ rest
    → IsRespelled g.SpellsHeader (map bare_occ) us xs rest
header_again [] us rest e =
    let p = take_sign sg.ParenClose us rest e in
    record {
      value = [];
      after = p.after;
      spells = subst (λ u. g.SpellsHeader u [] p.after) (sym p.here) g.no_params;
      left = p.left;
      same = refl;
    }
header_again (x ∷ xs) us rest e =
    let r = params_again x xs us rest e in
    record { value = r.value; after = r.after; spells = g.params r.spells; left = r.left; same = r.same }

abbrev is_returns : Keyword → Bool
is_returns kw.Returns = true
is_returns _ = false

results_again : (xs : List Occ) (us : List Token) (rest : List Lexeme) → shapes us ≡ results_shown xs ++ rest
    → heads is_returns rest ≡ false
    → IsRespelled g.SpellsResults (map bare_occ) us xs rest
results_again [] us rest e n =
    record {
      value = [];
      after = us;
      spells = g.no_results (no_key is_returns kw.Returns us rest refl e n);
      left = e;
      same = refl;
    }
results_again (x ∷ xs) us rest e n =
    let list = with_signs parameter_shown sg.Comma (x ∷ xs) in
    let k = take_key kw.Returns us (mark sg.ParenOpen ∷ (list ++ mark sg.ParenClose ∷ []) ++ rest) e in
    let p = take_sign sg.ParenOpen k.after ((list ++ mark sg.ParenClose ∷ []) ++ rest) k.left in
    let r = header_again (x ∷ xs) p.after rest (p.left ∙ append_assoc list (mark sg.ParenClose ∷ []) rest) in
    record {
      value = r.value;
      after = r.after;
      spells =
          subst (λ u. g.SpellsResults u r.value r.after) (sym (k.here ∙ ap (λ u. key kw.Returns k.place ∷ u) p.here))
          (g.results r.spells);
      left = r.left;
      same = r.same;
    }

clause_again : (k : Keyword) (x : Assertion) → GoodFormula x → (us : List Token) (rest : List Lexeme)
    → shapes us ≡ reserved k ∷ assertion_shown x ++ rest → leads is_sep rest ≡ false
    → IsRespelled (g.SpellsClause k) bare_assertion us x rest
clause_again k x h us rest e n =
    let w = take_key k us (assertion_shown x ++ rest) e in
    let r = (formula_again x h).whole w.after rest w.left n in
    record {
      value = r.value;
      after = r.after;
      spells =
          subst (λ u. g.SpellsClause k u r.value r.after) (sym w.here) (g.a_clause r.spells);
      left =
          r.left;
      same = r.same;
    }

abbrev is_or : Sign → Bool
is_or sg.Or = true
is_or _ = false

alternatives_again : (f : Assertion) (fs : List Assertion) → GoodFormula f → AllGood GoodFormula fs
    → (us : List Token) (rest : List Lexeme) → shapes us ≡ alternatives_shown (f ∷ fs) ++ rest
    → leads is_sep rest ≡ false → leads is_or rest ≡ false
    → IsRespelled g.SpellsAlternatives (map bare_assertion) us (f ∷ fs) rest
alternatives_again f [] h hs us rest e n m =
    let r = (formula_again f h).whole us rest (e ∙ ap (λ v. v ++ rest) (no_more (assertion_shown f))) n in
    record {
      value = r.value ∷ [];
      after = r.after;
      spells =
          g.last_alternative r.spells (no_sign is_or sg.Or r.after rest refl r.left m);
      left =
          r.left;
      same = ap (λ v. v ∷ []) r.same;
    }
alternatives_again f (x ∷ fs) h hs us rest e n m =
    let more = alternatives_shown (x ∷ fs) ++ rest in
    let r =
    (formula_again f h).whole us (mark sg.Or ∷ more)
    (e ∙ append_assoc (assertion_shown f) (mark sg.Or ∷ alternatives_shown (x ∷ fs)) rest) refl in
    let q = take_sign sg.Or r.after more r.left in
    let b = alternatives_again x fs hs.0 hs.1 q.after rest q.left n m in
    record {
      value = r.value ∷ b.value;
      after = b.after;
      spells = g.next_alternative (subst (λ u. g.SpellsAssertion us r.value u) q.here r.spells) b.spells;
      left = b.left;
      same = ap (λ v. v ∷ map bare_assertion b.value) r.same ∙ ap (λ l. bare_assertion f ∷ l) b.same;
    }

ensures_again : (fs : List Assertion) → GoodAlternatives fs → (us : List Token) (rest : List Lexeme)
    → shapes us ≡ reserved kw.Ensures ∷ alternatives_shown fs ++ rest
    → leads is_sep rest ≡ false → leads is_or rest ≡ false → IsRespelled g.SpellsEnsures (map bare_assertion) us fs rest
ensures_again [] h us rest e n m = absurd h
ensures_again (f ∷ fs) h us rest e n m =
    let w = take_key kw.Ensures us (alternatives_shown (f ∷ fs) ++ rest) e in
    let r = alternatives_again f fs h.0 h.1 w.after rest w.left n m in
    record {
      value = r.value;
      after = r.after;
      spells =
          subst (λ u. g.SpellsEnsures u r.value r.after) (sym w.here) (g.a_clause r.spells);
      left =
          r.left;
      same = r.same;
    }

locals_again : (x : Occ) (xs : List Occ) (us : List Token) (rest : List Lexeme)
    → shapes us ≡ with_signs name_shown sg.Comma (x ∷ xs) ++ mark sg.Colon ∷ reserved kw.Node ∷ mark sg.Semicolon ∷ rest
    → IsRespelled g.SpellsLocals (map bare_occ) us (x ∷ xs) rest
locals_again x [] us rest e =
    let w = take_name x us (mark sg.Colon ∷ reserved kw.Node ∷ mark sg.Semicolon ∷ rest) e in
    let c = take_sign sg.Colon w.after (reserved kw.Node ∷ mark sg.Semicolon ∷ rest) w.left in
    let k = take_key kw.Node c.after (mark sg.Semicolon ∷ rest) c.left in
    let p = take_sign sg.Semicolon k.after rest k.left in
    let here =
    w.here ∙ ap (λ u. named w.value ∷ u)
    (c.here ∙ ap (λ u. sign sg.Colon c.place ∷ u) (k.here ∙ ap (λ u. key kw.Node k.place ∷ u) p.here)) in
    record {
      value = w.value ∷ [];
      after = p.after;
      spells =
          subst (λ u. g.SpellsLocals u (w.value ∷ []) p.after) (sym here) g.last_local;
      left =
          p.left;
      same = ap (λ v. v ∷ []) w.same;
    }
locals_again x (y ∷ xs) us rest e =
    let more = with_signs name_shown sg.Comma (y ∷ xs) ++ mark sg.Colon ∷ reserved kw.Node ∷ mark sg.Semicolon ∷ rest in
    let w = take_name x us (mark sg.Comma ∷ more) e in
    let c = take_sign sg.Comma w.after more w.left in
    let r = locals_again y xs c.after rest c.left in
    record {
      value = w.value ∷ r.value;
      after = r.after;
      spells =
          subst (λ u. g.SpellsLocals u (w.value ∷ r.value) r.after) (sym (w.here ∙ ap (λ u. named w.value ∷ u) c.here))
          (g.next_local r.spells);
      left = r.left;
      same = ap (λ v. v ∷ map bare_occ r.value) w.same ∙ ap (λ v. bare_occ x ∷ v) r.same;
    }

abbrev inside : List Occ → Statements → Span → Body
inside xs a c = record { locals = xs; statements = a; close = c }

abbrev AsInside : List Occ → Statements → Type 0
AsInside xs a =
    (c : Span) (us : List Token) (rest : List Lexeme)
    → shapes us ≡ (locals_shown xs ++ statements_shown a ++ mark sg.BraceClose ∷ []) ++ rest
    → IsRespelled g.SpellsOpenBody bare_body us (inside xs a c) rest

without_locals : (a : Statements) → GoodStatements a → (c : Span) (us : List Token) (rest : List Lexeme)
    → shapes us ≡ statements_shown a ++ mark sg.BraceClose ∷ rest
    → IsRespelled g.SpellsOpenBody bare_body us (inside [] a c) rest
without_locals a h c us rest e =
    let r = statements_again a h us rest e in
    record {
      value = inside [] r.value r.place;
      after = r.after;
      spells = g.no_locals r.spells;
      left = r.left;
      same = ap (λ x. inside [] x first_place) r.same;
    }

inside_again : (xs : List Occ) (a : Statements) → GoodStatements a → AsInside xs a
inside_again [] a h c us rest e =
    without_locals a h c us rest (e ∙ append_assoc (statements_shown a) (mark sg.BraceClose ∷ []) rest)
inside_again (x ∷ xs) a h c us rest e =
    let names = with_signs name_shown sg.Comma (x ∷ xs) in
    let more = statements_shown a ++ mark sg.BraceClose ∷ rest in
    let k = take_key kw.Var us (names ++ mark sg.Colon ∷ reserved kw.Node ∷ mark sg.Semicolon ∷ more)
    (e ∙ assoc3 (locals_shown (x ∷ xs)) (statements_shown a) (mark sg.BraceClose ∷ []) rest
    ∙ ap (λ v. reserved kw.Var ∷ v)
    (append_assoc names (mark sg.Colon ∷ reserved kw.Node ∷ mark sg.Semicolon ∷ []) more)) in
    let l = locals_again x xs k.after more k.left in
    let r = statements_again a h l.after rest l.left in
    let s = g.some_locals l.spells (g.no_locals r.spells) in
    let all : l.value ++ [] ≡ l.value = no_more l.value in
    record {
      value = inside l.value r.value r.place;
      after = r.after;
      spells = subst (λ v. g.SpellsOpenBody us (inside v r.value r.place) r.after) all
          (subst (λ u. g.SpellsOpenBody u (inside (l.value ++ []) r.value r.place) r.after) (sym k.here) s);
      left = r.left;
      same = ap (λ v. inside v (bare_statements r.value) first_place) l.same
          ∙ ap (λ v. inside (map bare_occ (x ∷ xs)) v first_place) r.same;
    }

record IsBody (us : List Token) (b : Option Body) (rest : List Lexeme) : Type 0 where
  pub value : Option Body
  pub place : Span
  pub after : List Token
  pub spells : g.SpellsBody us value place after
  pub left : shapes after ≡ rest
  pub same : option_map bare_body value ≡ option_map bare_body b

body_again : (b : Option Body) → GoodBody b → (us : List Token) (rest : List Lexeme) → shapes us ≡ body_shown b ++ rest
    → IsBody us b rest
body_again None h us rest e =
    let c = take_sign sg.Semicolon us rest e in
    record {
      value = None;
      place = c.place;
      after = c.after;
      spells = subst (λ u. g.SpellsBody u None c.place c.after) (sym c.here) g.no_body;
      left = c.left;
      same = refl;
    }
body_again (Some b) h us rest e =
    let o =
    take_sign sg.BraceOpen us
    ((locals_shown b.locals ++ statements_shown b.statements ++ mark sg.BraceClose ∷ []) ++ rest) e in
    let r = inside_again b.locals b.statements h.1 b.close o.after rest o.left in
    record {
      value = Some r.value;
      place = r.value.close;
      after = r.after;
      spells =
          subst (λ u. g.SpellsBody u (Some r.value) r.value.close r.after) (sym o.here) (g.a_body r.spells);
      left =
          r.left;
      same = ap Some r.same;
    }

-- six parts and what follows them
assoc6 : (a b c d e f r : List Lexeme)
    → (((((a ++ b) ++ c) ++ d) ++ e) ++ f) ++ r ≡ a ++ (b ++ (c ++ (d ++ (e ++ (f ++ r)))))
assoc6 a b c d e f r =
    append_assoc ((((a ++ b) ++ c) ++ d) ++ e) f r ∙ append_assoc (((a ++ b) ++ c) ++ d) e (f ++ r)
    ∙ append_assoc ((a ++ b) ++ c) d (e ++ (f ++ r)) ∙ assoc3 a b c (d ++ (e ++ (f ++ r)))

abbrev procedure : Occ → List Occ → List Occ → Assertion → List Assertion → Option Body → Span → Procedure
procedure f xs ys n v b c =
    record { name = f; parameters = xs; results = ys; needs = n; gives = v; body = b; close = c }

body_leads : (b : Option Body) (rest : List Lexeme) → leads is_sep (body_shown b ++ rest) ≡ false
body_leads None rest = refl
body_leads (Some b) rest = refl

body_starts : (b : Option Body) (rest : List Lexeme) → leads is_or (body_shown b ++ rest) ≡ false
body_starts None rest = refl
body_starts (Some b) rest = refl

procedure_again : (p : Procedure) → GoodProcedure p → (us : List Token) (rest : List Lexeme)
    → shapes us ≡ procedure_shown p ++ rest → IsRespelled g.SpellsProcedure bare_procedure us p rest
procedure_again p h us rest e =
    let params = with_signs parameter_shown sg.Comma p.parameters in
    let r5 = body_shown p.body ++ rest in
    let r4 = reserved kw.Ensures ∷ alternatives_shown p.gives ++ r5 in
    let r3 = reserved kw.Requires ∷ assertion_shown p.needs ++ r4 in
    let r2 = results_shown p.results ++ r3 in
    let body =
    (params ++ mark sg.ParenClose ∷ []) ++ results_shown p.results ++ reserved kw.Requires ∷ assertion_shown p.needs
    ++ reserved kw.Ensures ∷ alternatives_shown p.gives ++ body_shown p.body ++ rest in
    let k = take_key kw.Procedure us (word p.name.name ∷ mark sg.ParenOpen ∷ body) e in
    let w = take_name p.name k.after (mark sg.ParenOpen ∷ body) k.left in
    let o = take_sign sg.ParenOpen w.after body w.left in
    let a = header_again p.parameters o.after r2
    (o.left ∙ assoc6 params (mark sg.ParenClose ∷ []) (results_shown p.results)
    (reserved kw.Requires ∷ assertion_shown p.needs) (reserved kw.Ensures ∷ alternatives_shown p.gives)
    (body_shown p.body) rest) in
    let b = results_again p.results a.after r3 a.left refl in
    let n = clause_again kw.Requires p.needs h.needs b.after r4 b.left refl in
    let v = ensures_again p.gives h.gives n.after r5 n.left (body_leads p.body rest) (body_starts p.body rest) in
    let d = body_again p.body h.body v.after rest v.left in
    let here = k.here ∙ ap (λ u. key kw.Procedure k.place ∷ u) (w.here ∙ ap (λ u. named w.value ∷ u) o.here) in
    let q = procedure w.value a.value b.value n.value v.value d.value d.place in
    record {
      value = q;
      after = d.after;
      spells =
          subst (λ u. g.SpellsProcedure u q d.after) (sym here)
          (g.a_procedure a.spells b.spells n.spells v.spells d.spells);
      left = d.left;
      same =
          ap (λ x. procedure x (map bare_occ a.value) (map bare_occ b.value) (bare_assertion n.value)
          (map bare_assertion v.value) (option_map bare_body d.value) first_place) w.same
          ∙ ap (λ x. procedure (bare_occ p.name) x (map bare_occ b.value) (bare_assertion n.value)
          (map bare_assertion v.value) (option_map bare_body d.value) first_place) a.same
          ∙ ap (λ x. procedure (bare_occ p.name) (map bare_occ p.parameters) x (bare_assertion n.value)
          (map bare_assertion v.value) (option_map bare_body d.value) first_place) b.same
          ∙ ap (λ x. procedure (bare_occ p.name) (map bare_occ p.parameters) (map bare_occ p.results) x
          (map bare_assertion v.value) (option_map bare_body d.value) first_place) n.same
          ∙ ap (λ x. procedure (bare_occ p.name) (map bare_occ p.parameters) (map bare_occ p.results)
          (bare_assertion p.needs) x (option_map bare_body d.value) first_place) v.same
          ∙ ap (λ x. procedure (bare_occ p.name) (map bare_occ p.parameters) (map bare_occ p.results)
          (bare_assertion p.needs) (map bare_assertion p.gives) x first_place) d.same;
    }

record AreProcedures (us : List Token) (ps : List Procedure) : Type 0 where
  pub value : List Procedure
  pub spells : g.SpellsProcedures us value
  pub same : map bare_procedure value ≡ map bare_procedure ps

no_tokens : (us : List Token) → shapes us ≡ [] → us ≡ []
no_tokens [] e = refl
no_tokens (t ∷ us) e = cc

procedures_again : (ps : List Procedure) → AllGood GoodProcedure ps → (us : List Token)
    → shapes us ≡ flat_map procedure_shown ps → AreProcedures us ps
procedures_again [] h us e =
    record {
      value = [];
      spells = subst (λ u. g.SpellsProcedures u []) (sym (no_tokens us e)) g.no_procedures;
      same = refl;
    }
procedures_again (p ∷ ps) h us e =
    let r = procedure_again p h.0 us (flat_map procedure_shown ps) e in
    let b = procedures_again ps h.1 r.after r.left in
    record {
      value = r.value ∷ b.value;
      spells = g.one_procedure r.spells b.spells;
      same = ap (λ x. x ∷ map bare_procedure b.value) r.same ∙ ap (λ x. bare_procedure p ∷ x) b.same;
    }

record IsWordAgain (k : Keyword) (us : List Token) (w : List ℕ) (rest : List Lexeme) : Type 0 where
  pub value : Occ
  pub after : List Token
  pub spells : g.SpellsWord k (keyword_text k) us value after
  pub left : shapes after ≡ rest
  pub same : value.name ≡ w

pub free_word : (k : Keyword) (w : List ℕ) → IsNameWord w → word_or k w ≡ word w
free_word k w h =
    let no : bytes_eq w (keyword_text k) ≡ false =
    false_from_ne_true (bytes_eq w (keyword_text k)) (λ t. h.free k ((bytes_eq-Decides w (keyword_text k)).0 t)) in
    rw no refl

pub key_word : (k : Keyword) (w : List ℕ) → w ≡ keyword_text k → word_or k w ≡ reserved k
key_word k w h = let t : bytes_eq w (keyword_text k) ≡ true = (bytes_eq-Decides w (keyword_text k)).1 h in rw t refl

word_again : (k : Keyword) (w : List ℕ) → GoodWord k w → (us : List Token) (rest : List Lexeme)
    → shapes us ≡ word_or k w ∷ rest → IsWordAgain k us w rest
word_again k w (inl h) us rest e =
    let o : Occ = record { name = w; span = first_place } in
    let t = take_name o us rest (e ∙ ap (λ l. l ∷ rest) (free_word k w h)) in
    record {
      value = t.value;
      after = t.after;
      spells =
          subst (λ u. g.SpellsWord k (keyword_text k) u t.value t.after) (sym t.here) g.by_name;
      left =
          t.left;
      same = ap (λ x. x.name) t.same;
    }
word_again k w (inr h) us rest e =
    let t = take_key k us rest (e ∙ ap (λ l. l ∷ rest) (key_word k w h)) in
    let o : Occ = record { name = keyword_text k; span = t.place } in
    record {
      value = o;
      after = t.after;
      spells =
          subst (λ u. g.SpellsWord k (keyword_text k) u o t.after) (sym t.here) g.by_key;
      left = t.left;
      same = sym h;
    }

record AreFields (us : List Token) (fs : List Field) (rest : List Lexeme) : Type 0 where
  pub value : List Field
  pub place : Span
  pub after : List Token
  pub spells : g.SpellsFields us value place after
  pub left : shapes after ≡ rest
  pub same : map bare_field value ≡ map bare_field fs

abbrev field : Occ → List ℕ → Field
field o k = record { name = o; kind = k }

fields_again : (fs : List Field) → AllGood GoodField fs → (us : List Token) (rest : List Lexeme)
    → shapes us ≡ flat_map field_shown fs ++ mark sg.BraceClose ∷ rest → AreFields us fs rest
fields_again [] h us rest e =
    let c = take_sign sg.BraceClose us rest e in
    record {
      value = [];
      place = c.place;
      after = c.after;
      spells = subst (λ u. g.SpellsFields u [] c.place c.after) (sym c.here) g.no_fields;
      left = c.left;
      same = refl;
    }
fields_again (f ∷ fs) h us rest e =
    let more = flat_map field_shown fs ++ mark sg.BraceClose ∷ rest in
    let k =
    take_key kw.Var us (word_or kw.Next f.name.name ∷ mark sg.Colon ∷ word_or kw.Node f.kind ∷ mark sg.Semicolon
    ∷ more) e in
    let n =
    word_again kw.Next f.name.name h.0.name k.after
    (mark sg.Colon ∷ word_or kw.Node f.kind ∷ mark sg.Semicolon ∷ more) k.left in
    let c = take_sign sg.Colon n.after (word_or kw.Node f.kind ∷ mark sg.Semicolon ∷ more) n.left in
    let t = word_again kw.Node f.kind h.0.kind c.after (mark sg.Semicolon ∷ more) c.left in
    let s = take_sign sg.Semicolon t.after more t.left in
    let r = fields_again fs h.1 s.after rest s.left in
    let x =
    g.one_field (subst (λ u. g.SpellsWord kw.Next (codes "next") k.after n.value u) c.here n.spells)
    (subst (λ u. g.SpellsWord kw.Node (codes "Node") c.after t.value u) s.here t.spells) r.spells in
    record {
      value = field n.value t.value.name ∷ r.value;
      place = r.place;
      after = r.after;
      spells = subst (λ u. g.SpellsFields u (field n.value t.value.name ∷ r.value) r.place r.after) (sym k.here) x;
      left = r.left;
      same = ap (λ w. field (record { name = w; span = first_place }) t.value.name ∷ map bare_field r.value) n.same
          ∙ ap (λ w. field (bare_occ f.name) w ∷ map bare_field r.value) t.same ∙ ap (λ l. bare_field f ∷ l) r.same;
    }

abbrev program : List Field → Span → List Procedure → Program
program fs c ps = record { fields = fs; close = c; procedures = ps }

pub program_again : (p : Program) → GoodProgram p → (us : List Token) → shapes us ≡ program_shown p
    → (q : Program) × g.SpellsProgram us q × (bare_program q ≡ bare_program p)
program_again p h us e =
    let procedures = flat_map procedure_shown p.procedures in
    let body = flat_map field_shown p.fields ++ mark sg.BraceClose ∷ procedures in
    let s = take_key kw.Struct us (reserved kw.Node ∷ mark sg.BraceOpen ∷ body) e in
    let n = take_key kw.Node s.after (mark sg.BraceOpen ∷ body) s.left in
    let o = take_sign sg.BraceOpen n.after body n.left in
    let f = fields_again p.fields h.fields o.after procedures o.left in
    let r = procedures_again p.procedures h.procedures f.after f.left in
    let q = program f.value f.place r.value in
    let here = s.here ∙ ap (λ u. key kw.Struct s.place ∷ u) (n.here ∙ ap (λ u. key kw.Node n.place ∷ u) o.here) in (
      q,
      subst (λ u. g.SpellsProgram u q) (sym here) (g.a_program f.spells r.spells),
      ap (λ x. program x first_place (map bare_procedure r.value)) f.same
          ∙ ap (program (map bare_field p.fields) first_place) r.same,
    )
