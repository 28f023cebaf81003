-- An answer of `?`, and one that is passed on.
use Rattle.std.proofs.Common.{◌≡◌, List, ◌∷◌, Result, Ok, Err, MatchResult, false, sym, subst}
use Rattle.std.specs.Result.{IsErrAnd, result_and}
use Rattle.std.proofs.lemmas.Result.{err_from_is_err_and}
use Rattle.gh_ast.specs.Tokens.{Token}
use Rattle.gh_parse.specs.declared.error.ReadError.{ReadError}
use Rattle.gh_parse.specs.declared.error.ReadError.TheVariants.{Unexpected, OutOfMemory}
use Rattle.gh_parse.specs.Stops.{NoToken, Tok, Any, goes_on, Stops}
use Rattle.gh_parse.specs.Answers.{IsRuleRefusal, IsRuleRead, IsMissing, TakesKind}
use Rattle.gh_parse.proofs.Rules.{stops_tok}

pub within : {F G : List Token → Type 0} {P Q : List Token → List Token → Type 0} {ts us left : List Token}
    (e : ReadError)
    → (Stops F P us left → Stops G Q ts left) → IsRuleRefusal F P us left e → IsRuleRefusal G Q ts left e
within Unexpected f h = f h
within OutOfMemory f h = tt

-- at the exit of a `?`
pub exit : {Y : Type 0} {F G : List Token → Type 0} {P Q : List Token → List Token → Type 0} {ts us left : List Token}
    (Good : Y → Type 0) (answer : Result Y ReadError) (e : ReadError)
    → (Stops F P us left → Stops G Q ts left) → IsRuleRefusal F P us left e → IsErrAnd answer (λ d. d ≡ e)
    → MatchResult answer Good (IsRuleRefusal G Q ts left)
exit Good answer e f h r =
    let p = err_from_is_err_and answer r in rw (p.1, p.2) (within e f h)

-- an answer that is passed on
pub along : {X Y : Type 0} {F G : List Token → Type 0} {P Q : List Token → X → List Token → Type 0}
    {ts us left : List Token} (view : Y → X) (answer : Result Y ReadError)
    → ((x : X) → P us x left → Q ts x left) → (Stops F (Any P) us left → Stops G (Any Q) ts left)
    → IsRuleRead F P us view answer left → IsRuleRead G Q ts view answer left
along view (Ok y) f g h = f (view y) h
along view (Err e) f g h = within e g h

-- a token that isn't there
pub missing : {X : Type 0} (F : List Token → Type 0) (k : X → Token) (ts left : List Token) (e : ReadError) (p : X)
    → goes_on (k p) ≡ false → IsMissing k ts left e → IsRuleRefusal F (Tok k) ts left e
missing F k ts left Unexpected p f h = subst (λ z. Stops F (Tok k) ts z) (sym h.stays) (stops_tok p f h.none)
missing F k ts left OutOfMemory p f h = tt

-- an answer for one token that is passed on
pub along_token : {X : Type 0} {G : List Token → Type 0} {Q : List Token → X → List Token → Type 0} {k : X → Token}
    {ts left : List Token} (answer : Result X ReadError) (p : X)
    → goes_on (k p) ≡ false → ((x : X) → ts ≡ k x ∷ left → Q ts x left)
    → (Stops G (Tok k) ts left → Stops G (Any Q) ts left) → TakesKind k ts answer left
    → IsRuleRead G Q ts (λ x. x) answer left
along_token (Ok x) p g f s h = f x h
along_token {G = G} {k = k} {ts = ts} {left = left} (Err e) p g f s h = within e s (missing G k ts left e p g h)

-- one by which something could have gone on
within_any : {X : Type 0} {k : X → Token} {G : List Token → Type 0} {Q : List Token → List Token → Type 0}
    {ts us : List Token} (left : List Token) (e : ReadError)
    → (NoToken k us → Stops G Q ts us) → IsMissing k us left e → IsRuleRefusal G Q ts left e
within_any {G = G} {Q = Q} {ts = ts} left Unexpected f h = subst (λ z. Stops G Q ts z) (sym h.stays) (f h.none)
within_any left OutOfMemory f h = tt

pub exit_missing : {X Y : Type 0} {G : List Token → Type 0} {Q : List Token → List Token → Type 0} {k : X → Token}
    {ts us : List Token} (left : List Token) (Good : Y → Type 0) (answer : Result Y ReadError) (e : ReadError)
    → (NoToken k us → Stops G Q ts us) → IsMissing k us left e → IsErrAnd answer (λ d. d ≡ e)
    → MatchResult answer Good (IsRuleRefusal G Q ts left)
exit_missing left Good answer e f h r =
    let p = err_from_is_err_and answer r in rw (p.1, p.2) (within_any left e f h)

-- a token that is taken last, after which the answer stands
pub ending : {X Y Z : Type 0} {F G : List Token → Type 0} {Q : List Token → Z → List Token → Type 0} {k : X → Token}
    {ts us left : List Token} (view : Y → Z) (y : Y) (answer : Result X ReadError) (p : X)
    → goes_on (k p) ≡ false → ((x : X) → us ≡ k x ∷ left → Q ts (view y) left)
    → (Stops F (Tok k) us left → Stops G (Any Q) ts left) → TakesKind k us answer left
    → IsRuleRead G Q ts view (result_and answer (Ok y)) left
ending view y (Ok x) p g f s h = f x h
ending {F = F} {k = k} {us = us} {left = left} view y (Err e) p g f s h = within e s (missing F k us left e p g h)

-- an answer that is known
pub gave : {X Y : Type 0} {y : Y} (F : List Token → Type 0) (P : List Token → X → List Token → Type 0)
    (ts left : List Token) (view : Y → X) (answer : Result Y ReadError)
    → answer ≡ Ok y → IsRuleRead F P ts view answer left → P ts (view y) left
gave F P ts left view answer e h = subst (λ a. IsRuleRead F P ts view a left) e h

pub refused : {X Y : Type 0} {e : ReadError} (F : List Token → Type 0) (P : List Token → X → List Token → Type 0)
    (ts left : List Token) (view : Y → X) (answer : Result Y ReadError)
    → answer ≡ Err e → IsRuleRead F P ts view answer left → IsRuleRefusal F (Any P) ts left e
refused F P ts left view answer e h = subst (λ a. IsRuleRead F P ts view a left) e h

-- a token between a value and what comes after it
pub taken_and : {X Y : Type 0} (k : X → Token) (ts left : List Token) (answer : Result X ReadError) (x y : Y)
    → Ok y ≡ result_and answer (Ok x) → TakesKind k ts answer left
    → (y ≡ x) × (p : X) × (ts ≡ k p ∷ left)
taken_and k ts left (Ok p) x y e h = (cc, p, h)
taken_and k ts left (Err r) x y e h = absurd (cc)

pub missing_and : {X Y : Type 0} (k : X → Token) (ts left : List Token) (answer : Result X ReadError) (x : Y)
    (r : ReadError) → Err r ≡ result_and answer (Ok x) → TakesKind k ts answer left
    → IsMissing k ts left r
missing_and k ts left (Ok p) x r e h = absurd (cc)
missing_and k ts left (Err s) x r e h = let f : s ≡ r = cc in subst (λ z. IsMissing k ts left z) f h
