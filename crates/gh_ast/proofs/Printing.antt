-- Texts of lists of tokens.
use Rattle.std.proofs.Common.{◌≡◌, ℕ, ◌+◌, ◌<◌, List, [], ◌∷◌, ◌++◌, length, take, get_or, ◌≤◌, Bool, true, false}
use Rattle.std.proofs.Common.{nat_eq, cond, map, refl, sym, ◌∙◌, ap, subst, append_assoc}
use Rattle.std.proofs.lemmas.List.{take_more, take_all}
use Rattle.gh_ast.specs.declared.sign.Sign.{Sign}
use Rattle.gh_ast.specs.declared.Cond.{Cond as CodeCond}
use Rattle.gh_ast.specs.declared.Assertion.{Assertion as CodeAssertion}
use Rattle.gh_ast.specs.declared.Stmt.{Stmt}
use Rattle.gh_ast.specs.declared.sign.Sign.TheVariants.{Star, ParenOpen, ParenClose, BraceOpen, BraceClose, Comma}
use Rattle.gh_ast.specs.declared.sign.Sign.TheVariants.{Assign, Colon, Semicolon}
use Rattle.gh_ast.specs.declared.sign.Keyword.{Keyword}
use Rattle.gh_ast.specs.declared.sign.Keyword.TheVariants.{If, Else, While, Invariant, Returns, Var, Node}
use Rattle.gh_ast.specs.declared.Procedure.{Procedure}
use Rattle.std.specs.Str.{bytes_eq}
use Rattle.std.proofs.lemmas.Slice.Eq.{bytes_eq-Decides}
use Rattle.gh_ast.specs.Tokens.{keyword_text}
use Rattle.gh_base.specs.declared.place.Span.{Span}
use Rattle.gh_ast.specs.declared.Occ.{Occ}
use Rattle.gh_ast.specs.Plain.{Cond, Assertion, cases, Statements, while, cond_of, conds_view, assertion_of}
use Rattle.gh_ast.specs.Plain.{assertions_view, statement_of, statements_view, procedure_of}
use Rattle.gh_ast.specs.Printed.{Lexeme, reserved, mark, Adds, name_shown, targets_shown, otherwise_shown, word}
use Rattle.gh_ast.specs.Printed.{word_or, parameter_shown, results_shown, locals_shown, procedure_shown, spaced}
use Rattle.gh_ast.specs.Printed.{followed, with_signs, lexeme_text, bracketed, is_list, cond_shown, conds_shown}
use Rattle.gh_ast.specs.Printed.{conds_followed, is_star, assertion_shown, assertions_shown, assertions_followed}
use Rattle.gh_ast.specs.Printed.{statement_shown, statements_shown}
use Rattle.std.specs.List.{flat_map}
use Rattle.std.proofs.lemmas.Grind.{flat_map-append}

pub spaced_append : (a b : List Lexeme) → spaced (a ++ b) ≡ spaced a ++ spaced b
spaced_append [] b = refl
spaced_append (l ∷ a) b =
    ap (λ t. 32 ∷ lexeme_text l ++ t) (spaced_append a b)
    ∙ ap (λ t. 32 ∷ t) (sym (append_assoc (lexeme_text l) (spaced a) (spaced b)))

pub no_more : {A : Type 0} (a : List A) → a ++ [] ≡ a
no_more [] = refl
no_more (l ∷ a) = ap (λ t. l ∷ t) (no_more a)

pub followed_push : {A : Type 0} (f : A → List Lexeme) (s : Sign) (xs : List A) (x : A)
    → followed f s (xs ++ x ∷ []) ≡ followed f s xs ++ mark s ∷ f x
followed_push f s [] x = ap (λ t. mark s ∷ t) (no_more (f x))
followed_push f s (y ∷ xs) x =
    ap (λ t. mark s ∷ f y ++ t) (followed_push f s xs x)
    ∙ ap (λ t. mark s ∷ t) (sym (append_assoc (f y) (followed f s xs) (mark s ∷ f x)))

pub and_then : {a b c : List ℕ} {xs ys : List Lexeme} → Adds a b xs → Adds b c ys → Adds a c (xs ++ ys)
and_then {a} {b} {c} {xs} {ys} e f =
    record {
      same = f.same ∙ ap (λ t. t ++ spaced ys) e.same ∙ append_assoc a (spaced xs) (spaced ys)
          ∙ ap (λ t. a ++ t) (sym (spaced_append xs ys));
    }

-- nothing was added yet
pub adds_none : (a : List ℕ) → Adds a a []
adds_none a = record { same = sym (no_more a) }

-- a turn of a loop that writes the sign and one member more
pub turn : {A : Type 0} {start before between after : List ℕ} (f : A → List Lexeme) (s : Sign) (xs : List A) (i : ℕ)
    (x : A) → i < length xs → x ≡ get_or xs i x
    → Adds start before (followed f s (take i xs)) → Adds before between (mark s ∷ []) → Adds between after (f x)
    → Adds start after (followed f s (take (i + 1) xs))
turn {A} {start} {before} {between} {after} f s xs i x h e b m a =
    subst (Adds start after)
    (sym (ap (followed f s) (take_more xs i x h ∙ ap (λ y. take i xs ++ y ∷ []) (sym e))
    ∙ followed_push f s (take i xs) x))
    (and_then b (and_then m a))

pub whole_list : {A : Type 0} {start before after : List ℕ} (f : A → List Lexeme) (s : Sign) (xs rest : List A) (x : A)
    (i : ℕ) → xs ≡ x ∷ rest → length rest ≤ i
    → Adds start before (f x) → Adds before after (followed f s (take i rest)) → Adds start after (with_signs f s xs)
whole_list {A} {start} {before} {after} f s xs rest x i e h a b =
    subst (λ l. Adds start after (with_signs f s l)) (sym e)
    (and_then a (subst (λ l. Adds before after (followed f s l)) (take_all i rest h) b))

-- a test as a member of a list
abbrev pub member_shown : CodeCond → List Lexeme
member_shown t = bracketed (is_list (cond_of t)) (cond_shown (cond_of t))

tests_are : (s : Sign) (xs : List CodeCond) → conds_followed s (conds_view xs) ≡ followed member_shown s xs
tests_are s [] = refl
tests_are s (x ∷ xs) = ap (λ t. mark s ∷ member_shown x ++ t) (tests_are s xs)

pub tests_with_signs : (s : Sign) (xs : List CodeCond) → with_signs member_shown s xs ≡ conds_shown s (conds_view xs)
tests_with_signs s [] = refl
tests_with_signs s (x ∷ xs) = ap (λ t. member_shown x ++ t) (sym (tests_are s xs))

-- a formula as a member of a list
abbrev pub item_shown : CodeAssertion → List Lexeme
item_shown x = bracketed (is_star (assertion_of x)) (assertion_shown (assertion_of x))

formulas_are : (xs : List CodeAssertion) → assertions_followed (assertions_view xs) ≡ followed item_shown Star xs
formulas_are [] = refl
formulas_are (x ∷ xs) = ap (λ t. mark Star ∷ item_shown x ++ t) (formulas_are xs)

pub formulas_with_signs : (xs : List CodeAssertion)
    → with_signs item_shown Star xs ≡ assertions_shown (assertions_view xs)
formulas_with_signs [] = refl
formulas_with_signs (x ∷ xs) = ap (λ t. item_shown x ++ t) (sym (formulas_are xs))

-- one after the other
pub each_more : {A : Type 0} {start before after : List ℕ} (f : A → List Lexeme) (xs : List A) (i : ℕ) (x : A)
    → i < length xs → x ≡ get_or xs i x
    → Adds start before (flat_map f (take i xs)) → Adds before after (f x)
    → Adds start after (flat_map f (take (i + 1) xs))
each_more {A} {start} {before} {after} f xs i x h e b a =
    subst (Adds start after) (sym
    (ap (flat_map f) (take_more xs i x h ∙ ap (λ y. take i xs ++ y ∷ []) (sym e))
    ∙ flat_map-append f (take i xs) (x ∷ []) ∙ ap (λ t. flat_map f (take i xs) ++ t) (no_more (f x))))
    (and_then b a)

pub each_all : {A : Type 0} {before after : List ℕ} (f : A → List Lexeme) (xs : List A) (i : ℕ) → length xs ≤ i
    → Adds before after (flat_map f (take i xs)) → Adds before after (flat_map f xs)
each_all {A} {before} {after} f xs i h a = subst (λ l. Adds before after (flat_map f l)) (take_all i xs h) a

pub statements_each : (xs : List Stmt)
    → flat_map (λ s. statement_shown (statement_of s)) xs ≡ statements_shown (statements_view xs)
statements_each [] = refl
statements_each (x ∷ xs) = ap (λ t. statement_shown (statement_of x) ++ t) (statements_each xs)

pub in_brackets : {before after : List ℕ} (b r : Bool) (ls : List Lexeme) → r ≡ b → r ≡ true
    → Adds before after (mark ParenOpen ∷ ls ++ mark ParenClose ∷ []) → Adds before after (bracketed b ls)
in_brackets {before} {after} b r ls e f a = subst (λ x. Adds before after (bracketed x ls)) (sym f ∙ e) a

pub some_targets : {before after : List ℕ} (xs : List Occ) (b : Bool) → b ≡ nat_eq (length xs) 0 → b ≡ false
    → Adds before after (with_signs name_shown Comma xs ++ mark Assign ∷ [])
    → Adds before after (targets_shown xs)
some_targets [] b e f a = cc
some_targets (x ∷ xs) b e f a = a

pub some_otherwise : {before after : List ℕ} (xs : List Stmt) (b : Bool) → b ≡ nat_eq (length xs) 0 → b ≡ false
    → Adds before after (reserved Else ∷ mark BraceOpen ∷ statements_shown (statements_view xs) ++ mark BraceClose ∷ [])
    → Adds before after (otherwise_shown (statements_view xs))
some_otherwise [] b e f a = cc
some_otherwise (x ∷ xs) b e f a = a

-- the same list in the order of the calls
regroup : {before after : List ℕ} (xs ys : List Lexeme) → xs ≡ ys → Adds before after xs → Adds before after ys
regroup {before} {after} xs ys e a = subst (Adds before after) e a

two : (a b : List Lexeme) (p q : Lexeme) → (a ++ p ∷ []) ++ (b ++ q ∷ []) ≡ (a ++ p ∷ b) ++ q ∷ []
two a b p q = sym (append_assoc (a ++ p ∷ []) b (q ∷ [])) ∙ ap (λ t. t ++ q ∷ []) (append_assoc a (p ∷ []) b)

three : (a i b : List Lexeme) (p v q : Lexeme)
    → (((a ++ p ∷ []) ++ v ∷ []) ++ i) ++ (b ++ q ∷ []) ≡ ((a ++ p ∷ v ∷ i) ++ b) ++ q ∷ []
three a i b p v q =
    sym (append_assoc (((a ++ p ∷ []) ++ v ∷ []) ++ i) b (q ∷ []))
    ∙ ap (λ t. (t ++ b) ++ q ∷ []) (append_assoc (a ++ p ∷ []) (v ∷ []) i ∙ append_assoc a (p ∷ []) (v ∷ i))

four : (a b c : List Lexeme) (p q e : Lexeme)
    → (((a ++ p ∷ []) ++ (b ++ q ∷ [])) ++ e ∷ []) ++ (c ++ q ∷ []) ≡ ((a ++ p ∷ b) ++ q ∷ e ∷ c) ++ q ∷ []
four a b c p q e =
    sym (append_assoc (((a ++ p ∷ []) ++ (b ++ q ∷ [])) ++ e ∷ []) c (q ∷ []))
    ∙ ap (λ t. ((t ++ e ∷ []) ++ c) ++ q ∷ []) (two a b p q)
    ∙ ap (λ t. t ++ q ∷ []) (append_assoc ((a ++ p ∷ b) ++ q ∷ []) (e ∷ []) c
    ∙ append_assoc (a ++ p ∷ b) (q ∷ []) (e ∷ c))

pub cases_shown : {v w x y z : List ℕ} (t : Cond) (a b : Assertion)
    → Adds v w (reserved If ∷ mark ParenOpen ∷ cond_shown t ++ mark ParenClose ∷ [])
    → Adds w x (mark BraceOpen ∷ assertion_shown a ++ mark BraceClose ∷ [])
    → Adds x y (reserved Else ∷ []) → Adds y z (mark BraceOpen ∷ assertion_shown b ++ mark BraceClose ∷ [])
    → Adds v z (assertion_shown (cases t a b))
cases_shown t a b d e f g =
    regroup (((reserved If ∷ mark ParenOpen ∷ cond_shown t ++ mark ParenClose ∷ [])
    ++ (mark BraceOpen ∷ assertion_shown a ++ mark BraceClose ∷ [])) ++ reserved Else ∷ []
    ++ (mark BraceOpen ∷ assertion_shown b ++ mark BraceClose ∷ []))
    (assertion_shown (cases t a b))
    (four (reserved If ∷ mark ParenOpen ∷ cond_shown t) (mark BraceOpen ∷ assertion_shown a)
    (mark BraceOpen ∷ assertion_shown b) (mark ParenClose) (mark BraceClose) (reserved Else))
    (and_then (and_then (and_then d e) f) g)

pub choice_head : {v w x : List ℕ} (t : Cond) (a : Statements)
    → Adds v w (reserved If ∷ mark ParenOpen ∷ cond_shown t ++ mark ParenClose ∷ [])
    → Adds w x (mark BraceOpen ∷ statements_shown a ++ mark BraceClose ∷ [])
    → Adds v x (reserved If ∷ mark ParenOpen ∷ cond_shown t ++ mark ParenClose ∷ mark BraceOpen ∷ statements_shown a
    ++ mark BraceClose ∷ [])
choice_head t a d e =
    regroup ((reserved If ∷ mark ParenOpen ∷ cond_shown t ++ mark ParenClose ∷ [])
    ++ (mark BraceOpen ∷ statements_shown a ++ mark BraceClose ∷ []))
    (reserved If ∷ mark ParenOpen ∷ cond_shown t ++ mark ParenClose ∷ mark BraceOpen ∷ statements_shown a
    ++ mark BraceClose ∷ [])
    (two (reserved If ∷ mark ParenOpen ∷ cond_shown t) (mark BraceOpen ∷ statements_shown a) (mark ParenClose)
    (mark BraceClose)) (and_then d e)

pub loop_shown : {v w x y z : List ℕ} (p c : Span) (t : Cond) (i : Assertion) (a : Statements)
    → Adds v w (reserved While ∷ mark ParenOpen ∷ cond_shown t ++ mark ParenClose ∷ [])
    → Adds w x (reserved Invariant ∷ []) → Adds x y (assertion_shown i)
    → Adds y z (mark BraceOpen ∷ statements_shown a ++ mark BraceClose ∷ [])
    → Adds v z (statement_shown (while p t i a c))
loop_shown p c t i a d e f g =
    regroup ((((reserved While ∷ mark ParenOpen ∷ cond_shown t ++ mark ParenClose ∷ []) ++ reserved Invariant ∷ [])
    ++ assertion_shown i) ++ (mark BraceOpen ∷ statements_shown a ++ mark BraceClose ∷ []))
    (statement_shown (while p t i a c))
    (three (reserved While ∷ mark ParenOpen ∷ cond_shown t) (assertion_shown i)
    (mark BraceOpen ∷ statements_shown a) (mark ParenClose) (reserved Invariant) (mark BraceClose))
    (and_then (and_then (and_then d e) f) g)

word_at : (k : Keyword) (w : List ℕ) (b : Bool) → bytes_eq w (keyword_text k) ≡ b
    → w ≡ lexeme_text (cond b (reserved k) (word w))
word_at k w true e = (bytes_eq-Decides w (keyword_text k)).0 e
word_at k w false e = refl

word_is : (k : Keyword) (w : List ℕ) → w ≡ lexeme_text (word_or k w)
word_is k w = word_at k w (bytes_eq w (keyword_text k)) refl

-- a word is written as it is, reserved or not
pub as_word : {before after : List ℕ} (k : Keyword) (w : List ℕ) → Adds before after (word w ∷ [])
    → Adds before after (word_or k w ∷ [])
as_word {before} {after} k w a = record { same = a.same ∙ ap (λ t. before ++ ((32 ∷ t) ++ [])) (word_is k w) }

pub some_results : {before after : List ℕ} (xs : List Occ) (b : Bool) → b ≡ nat_eq (length xs) 0 → b ≡ false
    → Adds before after (reserved Returns ∷ mark ParenOpen ∷ with_signs parameter_shown Comma xs
    ++ mark ParenClose ∷ []) → Adds before after (results_shown xs)
some_results [] b e f a = cc
some_results (x ∷ xs) b e f a = a

pub some_locals : {before after : List ℕ} (xs : List Occ) (b : Bool) → b ≡ nat_eq (length xs) 0 → b ≡ false
    → Adds before after (reserved Var ∷ with_signs name_shown Comma xs
    ++ mark Colon ∷ reserved Node ∷ mark Semicolon ∷ []) → Adds before after (locals_shown xs)
some_locals [] b e f a = cc
some_locals (x ∷ xs) b e f a = a

-- members with a sign between two, by their plain forms
pub with_signs_map : {A B : Type 0} (f : B → List Lexeme) (g : A → B) (s : Sign) (xs : List A)
    → with_signs (λ x. f (g x)) s xs ≡ with_signs f s (map g xs)
with_signs_map f g s [] = refl
with_signs_map {A} f g s (x ∷ xs) = ap (λ t. f (g x) ++ t) (rest xs)
  where
    rest : (ys : List A) → followed (λ x. f (g x)) s ys ≡ followed f s (map g ys)
    rest [] = refl
    rest (y ∷ ys) = ap (λ t. mark s ∷ f (g y) ++ t) (rest ys)

pub procedures_each : (xs : List Procedure)
    → flat_map (λ p. procedure_shown (procedure_of p)) xs ≡ flat_map procedure_shown (map procedure_of xs)
procedures_each [] = refl
procedures_each (x ∷ xs) = ap (λ t. procedure_shown (procedure_of x) ++ t) (procedures_each xs)
