-- Rules that are put together from others, and where reading by a rule stops.
use Rattle.std.specs.Prelude.{◌≡◌, List, [], ◌∷◌, ◌++◌, Bool, true, false, ⊤}
use Rattle.gh_ast.specs.declared.sign.Sign.TheVariants as sg
use Rattle.gh_ast.specs.declared.sign.Keyword.TheVariants as kw
use Rattle.gh_ast.specs.Tokens.{Token, key, sign}

-- none of these tokens is next
abbrev pub NoToken : {X : Type 0} → (X → Token) → List Token → Type 0
NoToken {X} k ts = (p : X) (rest : List Token) → ts ≡ k p ∷ rest → ⊥

-- one of these tokens
pub data Tok {X : Type 0} (k : X → Token) : List Token → List Token → Type 0 where
  tok : {p : X} {rest : List Token} → Tok k (k p ∷ rest) rest

-- a rule with values, whatever the value
pub data Any {X : Type 0} (P : List Token → X → List Token → Type 0) : List Token → List Token → Type 0 where
  any : {x : X} {ts rest : List Token} → P ts x rest → Any P ts rest

-- one after the other
pub data Seq (A B : List Token → List Token → Type 0) : List Token → List Token → Type 0 where
  seq : {ts us rest : List Token} → A ts us → B us rest → Seq A B ts rest

-- what follows depends on the value
pub data Then {X : Type 0} (A : List Token → X → List Token → Type 0) (B : X → List Token → List Token → Type 0) : List
    Token → List Token → Type 0 where
  and_then : {x : X} {ts us rest : List Token} → A ts x us → B x us rest → Then A B ts rest

-- nothing where none of these tokens is next; else one of them, and then A
pub data Opt {X : Type 0} (k : X → Token) (A : List Token → List Token → Type 0) : List Token → List Token
    → Type 0 where
  without : {rest : List Token} → NoToken k rest → Opt k A rest rest
  with : {p : X} {ts rest : List Token} → A ts rest → Opt k A (k p ∷ ts) rest

-- what ends a list, or a separator and what comes after it
pub data Tail {X : Type 0} (separator : X → Token) (End A : List Token → List Token → Type 0) : List Token → List Token
    → Type 0 where
  ended : {ts rest : List Token} → End ts rest → Tail separator End A ts rest
  further : {p : X} {ts rest : List Token} → A ts rest → Tail separator End A (separator p ∷ ts) rest

-- the tokens by which something goes on that could end before them
abbrev pub goes_on : Token → Bool
goes_on (sign sg.Dot p) = true
goes_on (sign sg.And p) = true
goes_on (sign sg.Or p) = true
goes_on (sign sg.Star p) = true
goes_on (key kw.Else p) = true
goes_on (key kw.Returns p) = true
goes_on (key kw.Requires p) = true
goes_on (key kw.Ensures p) = true
goes_on (key kw.Invariant p) = true
goes_on _ = false

abbrev pub NotNext : Token → List Token → Type 0
NotNext t ts = (rest : List Token) → ts ≡ t ∷ rest → ⊥

-- what may follow: nothing that goes on, anything, or the end alone
abbrev pub EndsHere : List Token → Type 0
EndsHere ts = (t : Token) → goes_on t ≡ true → NotNext t ts

abbrev pub IsAny : List Token → Type 0
IsAny ts = ⊤

abbrev pub IsEnd : List Token → Type 0
IsEnd ts = ts ≡ []

-- what ends before ts ends before us
abbrev pub IsAlike : List Token → List Token → Type 0
IsAlike ts us = (t : Token) → goes_on t ≡ true → NotNext t ts → NotNext t us

-- the next token is the same, or both are at the end
pub data SameNext : List Token → List Token → Type 0 where
  same : {t : Token} {ts us : List Token} → SameNext (t ∷ ts) (t ∷ us)
  none : SameNext [] []

-- reading by the rule P stops where `left` is left: the tokens before it go on to a sentence, before each rest that
-- may follow; with the next token, or as they stand at the end, they are the front of none
pub record Stops (Follows : List Token → Type 0) (P : List Token → List Token → Type 0)
    (ts left : List Token) : Type 0 where
  pub before : List Token
  pub split : ts ≡ before ++ left
  pub viable : (rest : List Token) → Follows rest
      → (us : List Token) × IsAlike ts (before ++ us) × P (before ++ us) rest
  pub stuck : (us rest : List Token) → SameNext left us → P (before ++ us) rest → ⊥
