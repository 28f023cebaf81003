-- The grammar of questions: which tokens spell what. `Spells.. ts x rest` says that the tokens ts are those of x and
-- then the rest.
use Rattle.std.specs.Prelude.{◌≡◌, ℕ, List, [], ◌∷◌}
use Rattle.gh_base.specs.declared.place.Span.{Span}
use Rattle.gh_ast.specs.declared.Occ.{Occ}
use Rattle.gh_ast.specs.declared.sign.Sign.TheVariants as sg
use Rattle.gh_ast.specs.declared.sign.Keyword.TheVariants as kw
use Rattle.gh_ast.specs.Plain.{Assertion}
use Rattle.gh_ast.specs.Questions.{Claim, leaf, denial, every, either, Claims, no_claims, claim_first, Question}
use Rattle.gh_ast.specs.Tokens.{Token, key, sign, HasTokens}
use Rattle.gh_ast.specs.Grammar.{NoSign, SpellsAssertion, SpellsLocals}

-- claims: parts that may be denied, conjunctions of those, disjunctions of conjunctions
mutual
  -- an assertion in braces, or a claim in brackets
  pub data SpellsPart : List Token → Claim → List Token → Type 0 where
    asserted : {p q : Span} {ts rest : List Token} {f : Assertion}
        → SpellsAssertion ts f (sign sg.BraceClose q ∷ rest) → SpellsPart (sign sg.BraceOpen p ∷ ts) (leaf f) rest
    in_brackets : {p q : Span} {ts rest : List Token} {c : Claim}
        → SpellsClaim ts c (sign sg.ParenClose q ∷ rest) → SpellsPart (sign sg.ParenOpen p ∷ ts) c rest

  pub data SpellsDenial : List Token → Claim → List Token → Type 0 where
    affirmed : {ts rest : List Token} {c : Claim} → SpellsPart ts c rest → SpellsDenial ts c rest
    denied : {p : Span} {ts rest : List Token} {c : Claim} → SpellsPart ts c rest
        → SpellsDenial (sign sg.Bang p ∷ ts) (denial c) rest

  pub data SpellsBoth : List Token → Claim → List Token → Type 0 where
    one_denial : {ts rest : List Token} {c : Claim} → SpellsDenial ts c rest → NoSign sg.And rest → SpellsBoth ts c rest
    denials : {p : Span} {ts us rest : List Token} {c : Claim} {cs : Claims}
        → SpellsDenial ts c (sign sg.And p ∷ us) → SpellsDenials us cs rest
        → SpellsBoth ts (every (claim_first c cs)) rest

  pub data SpellsDenials : List Token → Claims → List Token → Type 0 where
    last_denial : {ts rest : List Token} {c : Claim} → SpellsDenial ts c rest → NoSign sg.And rest
        → SpellsDenials ts (claim_first c no_claims) rest
    next_denial : {p : Span} {ts us rest : List Token} {c : Claim} {cs : Claims}
        → SpellsDenial ts c (sign sg.And p ∷ us) → SpellsDenials us cs rest → SpellsDenials ts (claim_first c cs) rest

  pub data SpellsClaim : List Token → Claim → List Token → Type 0 where
    one_both : {ts rest : List Token} {c : Claim} → SpellsBoth ts c rest → NoSign sg.Or rest → SpellsClaim ts c rest
    boths : {p : Span} {ts us rest : List Token} {c : Claim} {cs : Claims}
        → SpellsBoth ts c (sign sg.Or p ∷ us) → SpellsBoths us cs rest → SpellsClaim ts (either (claim_first c cs)) rest

  pub data SpellsBoths : List Token → Claims → List Token → Type 0 where
    last_both : {ts rest : List Token} {c : Claim} → SpellsBoth ts c rest → NoSign sg.Or rest
        → SpellsBoths ts (claim_first c no_claims) rest
    next_both : {p : Span} {ts us rest : List Token} {c : Claim} {cs : Claims}
        → SpellsBoth ts c (sign sg.Or p ∷ us) → SpellsBoths us cs rest → SpellsBoths ts (claim_first c cs) rest

-- `var`, names with commas between them and `: Node ;`, or nothing
pub data SpellsVariables : List Token → List Occ → List Token → Type 0 where
  no_variables : {p : Span} {rest : List Token}
      → SpellsVariables (key kw.Requires p ∷ rest) [] (key kw.Requires p ∷ rest)
  some_variables : {p : Span} {ts rest : List Token} {xs : List Occ} → SpellsLocals ts xs rest
      → SpellsVariables (key kw.Var p ∷ ts) xs rest

-- the variables, `requires` and the left claim, `ensures` and the right claim, and nothing more
pub data SpellsQuestion : List Token → Question → Type 0 where
  a_question : {p q : Span} {ts us vs : List Token} {xs : List Occ} {c d : Claim}
      → SpellsVariables ts xs (key kw.Requires p ∷ us) → SpellsClaim us c (key kw.Ensures q ∷ vs) → SpellsClaim vs d []
      → SpellsQuestion ts (record { variables = xs; span = p; left = c; right = d })

-- the tokens spell some question
abbrev pub IsQuestion : List Token → Type 0
IsQuestion ts = (q : Question) × SpellsQuestion ts q

-- the text poses the question
abbrev pub Poses : List ℕ → Question → Type 0
Poses text q = (ts : List Token) × HasTokens text ts × SpellsQuestion ts q

-- a text poses at most one question, places included
abbrev pub HaveOneQuestion : Type 0
HaveOneQuestion = (text : List ℕ) (p q : Question) → Poses text p → Poses text q → p ≡ q
