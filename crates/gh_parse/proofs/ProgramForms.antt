-- How fields and programs are made, and their rules as those that are put together.
use Rattle.std.proofs.Common.{◌≡◌, ◌∙◌, ℕ, List, [], ◌∷◌, ◌++◌, map, refl, sym, subst, ap, append_assoc, append-nil}
use Rattle.std.proofs.lemmas.List.{map-append}
use Rattle.std.specs.Prelude.{codes}
use Rattle.gh_base.specs.declared.place.Span.{Span}
use Rattle.gh_ast.specs.declared.Occ.{Occ}
use Rattle.gh_ast.specs.declared.Field.{Field}
use Rattle.gh_ast.specs.declared.Procedure as whole
use Rattle.gh_ast.specs.declared.sign.Sign.TheVariants as sg
use Rattle.gh_ast.specs.declared.sign.Keyword.{Keyword}
use Rattle.gh_ast.specs.declared.sign.Keyword.TheVariants as kw
use Rattle.gh_ast.specs.Plain.{Procedure, Program, procedure_of}
use Rattle.gh_ast.specs.Tokens.{Token, named, key, sign, first_place}
use Rattle.gh_ast.specs.Grammar.{NoSign, NoKey, SpellsWord, by_name, by_key, SpellsFields, no_fields, one_field}
use Rattle.gh_ast.specs.Grammar.{SpellsProcedure, SpellsProcedures, no_procedures, one_procedure, SpellsProgram}
use Rattle.gh_ast.specs.Grammar.{a_program}
use Rattle.gh_ast.specs.Readings.{IsUnique}
use Rattle.gh_ast.proofs.OneProgram.{one_word, one_fields}
use Rattle.gh_parse.specs.Stops.{Tok, tok, Any, any, Seq, seq, EndsHere, IsEnd, SameNext, same, none}
use Rattle.gh_parse.specs.Procedures.{SpellsField, Shape, SpellsShape, SpellsAll, SpellsToEnd}
use Rattle.gh_parse.proofs.Rules.{Exact, exact_tok, exact_seq, exact_by, kept, kept_rest, each, taken_tok, by}
use Rattle.gh_parse.proofs.Rules.{begins_not, next, Ends, ends_tok, ends_seq, ends_by, plain_end}
use Rattle.gh_parse.proofs.Turns.{Goes}
use Rattle.gh_parse.proofs.ValueForms.{a_name}
use Rattle.gh_parse.proofs.ProcedureForms.{exact_procedure}

-- words
pub make_word : {k : Keyword} {text : List ℕ} (xs r : List Token) → Tok named xs r → Any (SpellsWord k text) xs r
make_word _ _ tok = any by_name

pub part_word : {k : Keyword} {text : List ℕ} (xs r : List Token) → NoKey k xs → Any (SpellsWord k text) xs r
    → Tok named xs r
part_word _ _ n (any by_name) = tok
part_word _ _ n (any by_key) = absurd (n _ _ refl)

make_reserved : {k : Keyword} {text : List ℕ} (xs r : List Token) → Tok (key k) xs r → Any (SpellsWord k text) xs r
make_reserved _ _ tok = any by_key

unique_word : (k : Keyword) (text : List ℕ) (ts : List Token) → IsUnique (SpellsWord k text ts)
unique_word k text ts x y r q a b = one_word k text ts r q x y a b

pub exact_word : {k : Keyword} {text : List ℕ} (ts us : List Token) → Any (SpellsWord k text) ts us
    → Exact (Any (SpellsWord k text)) ts us
exact_word {k = k} {text = text} _ _ (any by_name) = kept _ (unique_word k text _) by_name make_word (exact_tok tok)
exact_word {k = k} {text = text} _ _ (any by_key) = kept _ (unique_word k text _) by_key make_reserved (exact_tok tok)

pub ends_word : {k : Keyword} {text : List ℕ} → Ends EndsHere (Any (SpellsWord k text))
ends_word = ends_by make_word (ends_tok a_name refl)

pub word_reserved : {k : Keyword} {text name : List ℕ} {ts rest : List Token} {p : Span} → ts ≡ key k p ∷ rest
    → name ≡ text → SpellsWord k text ts (record { name = name; span = p }) rest
word_reserved {k = k} {text = text} {ts = ts} {rest = rest} {p = p} e d =
    subst (λ z. SpellsWord k text ts (record { name = z; span = p }) rest) (sym d)
    (subst (λ z. SpellsWord k text z (record { name = text; span = p }) rest) (sym e) by_key)

pub word_named : {k : Keyword} {text : List ℕ} {ts : List Token} (o : Occ) (rest : List Token) → ts ≡ named o ∷ rest
    → SpellsWord k text ts o rest
word_named {k = k} {text = text} o rest e = subst (λ z. SpellsWord k text z o rest) (sym e) by_name

-- fields
abbrev pub FieldName : List Token → List Token → Type 0
FieldName = Any (SpellsWord kw.Next (codes "next"))

abbrev pub FieldType : List Token → List Token → Type 0
FieldType = Any (SpellsWord kw.Node (codes "Node"))

abbrev pub AField : List Token → List Token → Type 0
AField = Seq (Tok (key kw.Var)) (Seq FieldName (Seq (Tok (sign sg.Colon)) (Seq FieldType (Tok (sign sg.Semicolon)))))

pub make_field : (xs r : List Token) → AField xs r → Any SpellsField xs r
make_field _ _ (seq tok (seq (any {x = o} a) (seq tok (seq (any {x = k} b) tok)))) =
    any {x = record { name = o; kind = k.name }}
    (record {
      var = _;
      colon = _;
      end = _;
      after_var = _;
      after_name = _;
      after_colon = _;
      after_kind = _;
      kind = k;
      begins = refl;
      name = a;
      middle = refl;
      type = b;
      ends = refl;
      same = refl;
    })

pub part_field : (xs r : List Token) → Any SpellsField xs r → AField xs r
part_field _ _ (any f) =
    seq (taken_tok _ f.begins) (seq (any f.name) (seq (taken_tok _ f.middle) (seq (any f.type) (taken_tok _ f.ends))))

pub exact_field : (ts us : List Token) → Any SpellsField ts us → Exact (Any SpellsField) ts us
exact_field _ _ (any f) =
    exact_by make_field (part_field _)
    (exact_seq (exact_tok (taken_tok _ f.begins))
    (exact_seq (exact_word _ _ (any f.name))
    (exact_seq (exact_tok (taken_tok _ f.middle))
    (exact_seq (exact_word _ _ (any f.type)) (exact_tok (taken_tok _ f.ends))))))

pub ends_after_name : Ends EndsHere (Seq (Tok (sign sg.Colon)) (Seq FieldType (Tok (sign sg.Semicolon))))
ends_after_name = ends_seq (ends_tok first_place refl) (ends_seq ends_word (ends_tok first_place refl))

-- more fields in front
abbrev pub shape_after : List Field → Shape → Shape
shape_after xs s = record { fields = xs ++ s.fields; close = s.close }

abbrev pub AShape : List Token → List Token → Type 0
AShape = Any SpellsShape

a_shape : {l : List Field} {c : Span} {ts rest : List Token} → SpellsFields ts l c rest → AShape ts rest
a_shape {l = l} {c = c} a = any {x = record { fields = l; close = c }} a

fields_at : {ts us rest : List Token} {f : Field} {l : List Field} {c : Span} → SpellsField ts f us
    → SpellsFields us l c rest → SpellsFields ts (f ∷ l) c rest
fields_at {ts = ts} {us = us} {rest = rest} {f = f} {l = l} {c = c} s i =
    let b = s.begins in
    let name : SpellsWord kw.Next (codes "next") s.after_var f.name (sign sg.Colon s.colon ∷ s.after_colon) =
    subst (λ z. SpellsWord kw.Next (codes "next") s.after_var f.name z) s.middle s.name in
    let kind : SpellsWord kw.Node (codes "Node") s.after_colon s.kind (sign sg.Semicolon s.end ∷ us) =
    subst (λ z. SpellsWord kw.Node (codes "Node") s.after_colon s.kind z) s.ends s.type in
    subst (λ z. SpellsFields z (f ∷ l) c rest) (sym s.begins)
    (subst (λ (z : List ℕ). let g : Field = record { name = f.name; kind = z } in
    SpellsFields (key kw.Var s.var ∷ s.after_var) (g ∷ l) c rest) (sym s.same) (one_field name kind i))

make_no_fields : (xs r : List Token) → Tok (sign sg.BraceClose) xs r → AShape xs r
make_no_fields _ _ tok = a_shape no_fields

pub make_fields : (xs r : List Token) → Seq (Any SpellsField) AShape xs r → AShape xs r
make_fields _ _ (seq (any s) (any b)) = a_shape (fields_at s b)

fields_parts : {l : List Field} {c : Span} {ts rest : List Token} → NoSign sg.BraceClose ts → SpellsFields ts l c rest
    → Seq (Any SpellsField) AShape ts rest
fields_parts n no_fields = absurd (n _ _ refl)
fields_parts n (one_field a b i) = seq (make_field _ _ (seq tok (seq (any a) (seq tok (seq (any b) tok))))) (a_shape i)

pub part_fields : (xs r : List Token) → NoSign sg.BraceClose xs → AShape xs r → Seq (Any SpellsField) AShape xs r
part_fields xs r n (any b) = fields_parts n b

rest_shape : {l : List Field} {c : Span} {ts us : List Token} → SpellsFields ts l c us → (y : Shape) (vs : List Token)
    → SpellsShape ts y vs → us ≡ vs
rest_shape {l = l} {c = c} {ts = ts} {us = us} a y vs d = (one_fields ts us vs l y.fields c y.close a d).rest

exact_fields : {l : List Field} {c : Span} {ts us : List Token} → SpellsFields ts l c us → Exact AShape ts us
exact_fields no_fields = kept_rest (rest_shape no_fields) make_no_fields (exact_tok tok)
exact_fields (one_field a b i) =
    kept_rest (rest_shape (one_field a b i)) make_fields
    (exact_seq (exact_field _ _ (make_field _ _ (seq tok (seq (any a) (seq tok (seq (any b) tok)))))) (exact_fields i))

pub exact_shape : (ts us : List Token) → AShape ts us → Exact AShape ts us
exact_shape ts us (any b) = exact_fields b

pub ends_shape : Ends EndsHere AShape
ends_shape = ends_by make_no_fields (ends_tok first_place refl)

pub shape_more : {start ts us : List Token} {f : Field} (xs ys : List Field)
    → Goes EndsHere SpellsShape SpellsShape ts start (shape_after xs) → SpellsField ts f us → NoSign sg.BraceClose ts
    → ys ≡ xs ++ f ∷ []
    → Goes EndsHere SpellsShape SpellsShape us start (shape_after ys)
shape_more {start = start} {ts = ts} {us = us} {f = f} xs ys g s n e =
    let d : (zs : List Field) → ys ++ zs ≡ xs ++ (f ∷ zs) = λ zs. ap (λ z. z ++ zs) e ∙ append_assoc xs (f ∷ []) zs in
    record {
      forth = λ b rest i.
          subst (λ z. SpellsFields start z b.close rest) (sym (d b.fields))
          (g.forth (record { fields = f ∷ b.fields; close = b.close }) rest (fields_at s i));
      back = λ left i. g.back left
          (by make_fields (λ zs q k j. part_fields zs q (begins_not n k) j) (next exact_field (any s) i));
    }

pub shape_spelled : {start ts rest : List Token} {xs : List Field} {p : Span}
    → Goes EndsHere SpellsShape SpellsShape ts start (shape_after xs) → ts ≡ sign sg.BraceClose p ∷ rest
    → SpellsShape start (record { fields = xs; close = p }) rest
shape_spelled {start = start} {rest = rest} {xs = xs} {p = p} g e =
    subst (λ z. SpellsFields start z p rest) (append-nil xs)
    (g.forth (record { fields = []; close = p }) rest (subst (λ z. SpellsFields z [] p rest) (sym e) no_fields))

-- procedures up to the end
abbrev pub AllProcedures : List Token → List Token → Type 0
AllProcedures = Any SpellsAll

pub make_all : (xs r : List Token) → Seq (Any SpellsProcedure) AllProcedures xs r → AllProcedures xs r
make_all _ _ (seq (any a) (any b)) = any (record { spelled = one_procedure a b.spelled; end = b.end })

all_parts : {ts rest : List Token} {ps : List Procedure} → (ts ≡ [] → ⊥) → rest ≡ [] → SpellsProcedures ts ps
    → Seq (Any SpellsProcedure) AllProcedures ts rest
all_parts n e no_procedures = absurd (n refl)
all_parts n e (one_procedure a i) = seq (any a) (any (record { spelled = i; end = e }))

not_end : {us xs : List Token} → (us ≡ [] → ⊥) → SameNext us xs → xs ≡ [] → ⊥
not_end n same e = cc
not_end n none e = n refl

pub part_all : {us : List Token} (xs r : List Token) → (us ≡ [] → ⊥) → SameNext us xs → AllProcedures xs r
    → Seq (Any SpellsProcedure) AllProcedures xs r
part_all xs r n d (any a) = all_parts (not_end n d) a.end a.spelled

pub ends_all : Ends IsEnd AllProcedures
ends_all = record {
  sentence = λ rest h.
      ([], plain_end [] refl, any {x = []} (record { spelled = no_procedures; end = h }));
}

pub all_more : {start ts us : List Token} {p : Procedure} (xs ys : List Procedure)
    → Goes IsEnd SpellsAll SpellsAll ts start (λ ps. xs ++ ps) → SpellsProcedure ts p us → (ts ≡ [] → ⊥)
    → ys ≡ xs ++ p ∷ []
    → Goes IsEnd SpellsAll SpellsAll us start (λ ps. ys ++ ps)
all_more {start = start} {ts = ts} {us = us} {p = p} xs ys g s n e =
    record {
      forth = λ ps rest i.
          let j = g.forth (p ∷ ps) rest (record { spelled = one_procedure s i.spelled; end = i.end }) in
          record {
            spelled = subst (λ z. SpellsProcedures start z)
                (sym (ap (λ z. z ++ ps) e ∙ append_assoc xs (p ∷ []) ps)) j.spelled;
            end = j.end;
          };
      back = λ left i. g.back left
          (by make_all (λ zs q k j. part_all zs q n k j) (next (each exact_procedure) (any s) i));
    }

pub all_spelled : {start ts : List Token} (xs : List Procedure)
    → Goes IsEnd SpellsAll SpellsAll ts start (λ ps. xs ++ ps) → ts ≡ [] → SpellsAll start xs ts
all_spelled {start = start} {ts = ts} xs g e =
    subst (λ z. SpellsAll start z ts) (append-nil xs)
    (g.forth [] ts (record { spelled = subst (λ z. SpellsProcedures z []) (sym e) no_procedures; end = e }))

pub procedure_pushed : (xs ys : List whole.Procedure) (x : whole.Procedure) → ys ≡ xs ++ x ∷ []
    → map procedure_of ys ≡ map procedure_of xs ++ procedure_of x ∷ []
procedure_pushed xs ys x e = ap (λ z. map procedure_of z) e ∙ map-append procedure_of xs (x ∷ [])

-- programs
abbrev pub AProgram : List Token → List Token → Type 0
AProgram =
    Seq (Tok (key kw.Struct)) (Seq (Tok (key kw.Node)) (Seq (Tok (sign sg.BraceOpen)) (Seq AShape AllProcedures)))

pub make_program : (xs r : List Token) → AProgram xs r → Any (SpellsToEnd SpellsProgram) xs r
make_program _ _ (seq tok (seq tok (seq tok (seq (any {x = s} a) (any {x = ps} b))))) =
    any {x = record { fields = s.fields; close = s.close; procedures = ps }}
    (record { spelled = a_program a b.spelled; end = b.end })

program_parts : {ts rest : List Token} {x : Program} → rest ≡ [] → SpellsProgram ts x → AProgram ts rest
program_parts e (a_program a i) = seq tok (seq tok (seq tok (seq (a_shape a) (any (record { spelled = i; end = e })))))

pub part_program : (xs r : List Token) → Any (SpellsToEnd SpellsProgram) xs r → AProgram xs r
part_program _ _ (any w) = program_parts w.end w.spelled

pub ends_after_brace : Ends IsEnd (Seq AShape AllProcedures)
ends_after_brace = ends_seq ends_shape ends_all

pub program_spelled : {ts us vs ws xs rest : List Token} {p q r : Span} {s : Shape} {ps : List Procedure}
    → ts ≡ key kw.Struct p ∷ us → us ≡ key kw.Node q ∷ vs → vs ≡ sign sg.BraceOpen r ∷ ws
    → SpellsShape ws s xs → SpellsAll xs ps rest
    → SpellsToEnd SpellsProgram ts (record { fields = s.fields; close = s.close; procedures = ps }) rest
program_spelled {ts = ts} {ws = ws} {p = p} {q = q} {r = r} {s = s} {ps = ps} a b c d i =
    let e : ts ≡ key kw.Struct p ∷ key kw.Node q ∷ sign sg.BraceOpen r ∷ ws = cc in
    record {
      spelled = subst (λ z. SpellsProgram z (record { fields = s.fields; close = s.close; procedures = ps }))
          (sym e) (a_program d i.spelled);
      end = i.end;
    }
