-- From where the parser stops to the place of the error.
use Rattle.std.proofs.Common.{◌++◌, ℕ, List, [], ◌∷◌, Bool, true, false, append_assoc, append-nil, refl, sym, subst}
use Rattle.std.proofs.Common.{◌∙◌, Result, Ok, Err, IfOk, IfErr}
use Rattle.gh_base.specs.declared.place.Span.{Span}
use Rattle.gh_ast.specs.Tokens.{Token, HasTokens, cleared, first_place, IsTokens}
use Rattle.gh_ast.specs.Place.{IsPrefix, IsPlace, at_token, at_no_token, at_end}
use Rattle.gh_ast.proofs.TokenLemmas.{one_whole}
use Rattle.gh_parse.specs.Stops.{Any, any, IsEnd, SameNext, same, none, Stops}
use Rattle.gh_parse.specs.declared.error.ParseError.{ParseError}
use Rattle.gh_parse.specs.declared.error.ParseError.TheVariants as parse
use Rattle.gh_parse.specs.declared.error.ReadError.{ReadError}
use Rattle.gh_parse.specs.declared.error.ReadError.TheVariants.{Unexpected, OutOfMemory}
use Rattle.gh_parse.specs.Answers.{IsRuleRead, next_place}
use Rattle.gh_parse.specs.Lexing.{IsLexed}
use Rattle.gh_parse.specs.Procedures.{SpellsToEnd}
use Rattle.gh_parse.specs.Parsing.{IsParsedAs, IsMisspelled, IsRefusalOf, IsScanned, IsScanRefusal, answered}
use Rattle.gh_parse.proofs.Lexing.{lexed_refusal, lexed_whole}

-- the tokens spell some value
abbrev Spelled : {X : Type 0} → (List Token → X → Type 0) → List Token → Type 0
Spelled {X} S ts = (x : X) × S ts x

abbrev IsStopped : {X : Type 0} → (List Token → X → Type 0) → List Token → List Token → Type 0
IsStopped S ts left = Stops IsEnd (Any (SpellsToEnd S)) ts left

is_spelled : {X : Type 0} {S : List Token → X → Type 0} {ts rest : List Token} → Any (SpellsToEnd S) ts rest
    → Spelled S ts
is_spelled (any {x = p} w) = (p, w.spelled)

is_whole : {X : Type 0} {S : List Token → X → Type 0} {ts : List Token} (x : X) → S ts x → Any (SpellsToEnd S) ts []
is_whole x s = any {x = x} (record { spelled = s; end = refl })

before_is_prefix : {X : Type 0} {S : List Token → X → Type 0} {ts left : List Token} (s : IsStopped S ts left)
    → IsPrefix (Spelled S) s.before
before_is_prefix s = let v = s.viable [] refl in (v.0, is_spelled v.2)

-- the next token ends the prefix
no_prefix : {X : Type 0} {S : List Token → X → Type 0} {ts more : List Token} {t : Token}
    (s : IsStopped S ts (t ∷ more)) → IsPrefix (Spelled S) (s.before ++ t ∷ []) → ⊥
no_prefix {S = S} {t = t} s p =
    s.stuck (t ∷ p.0) [] same (is_whole p.1.0 (subst (λ z. S z p.1.0) (append_assoc s.before (t ∷ []) p.0) p.1.1))

next_is_same : (ts : List Token) → SameNext ts ts
next_is_same [] = none
next_is_same (t ∷ ts) = same

stopped_nothing : {X : Type 0} {S : List Token → X → Type 0} {ts left : List Token} → IsStopped S ts left → Spelled S ts
    → ⊥
stopped_nothing {S = S} {left = left} s p =
    s.stuck left [] (next_is_same left) (is_whole p.0 (subst (λ z. S z p.0) s.split p.1))

all_prefix : {X : Type 0} {S : List Token → X → Type 0} {ts : List Token} → IsStopped S ts [] → IsPrefix (Spelled S) ts
all_prefix {S = S} s = subst (λ z. IsPrefix (Spelled S) z) (sym (s.split ∙ append-nil s.before)) (before_is_prefix s)

-- the tokens are all of the text's
place_at_end : {X : Type 0} (S : List Token → X → Type 0) (text : List ℕ) (ts : List Token) (end : Span) (whole : Bool)
    → IsLexed text ts end whole → IsPrefix (Spelled S) ts → (Spelled S ts → ⊥)
    → IsPlace (Spelled S) text end
place_at_end S text ts end true l p n =
    at_end ts end (subst (λ z. IsTokens first_place (cleared text) ts end z) (l.all.0 refl) l.front) p n
place_at_end S text ts end false l p n = at_no_token ts end l.rest l.front l.stuck (λ e. (let h = l.all.1 e in cc)) p

place_of_stop : {X : Type 0} {S : List Token → X → Type 0} (text : List ℕ) (ts : List Token) (end : Span) (whole : Bool)
    (left : List Token) → IsLexed text ts end whole → IsStopped S ts left
    → IsPlace (Spelled S) text (next_place end left)
place_of_stop {S = S} text ts end whole [] l s = place_at_end S text ts end whole l (all_prefix s) (stopped_nothing s)
place_of_stop text ts end whole (t ∷ more) l s =
    at_token s.before t more end l.rest (subst (λ z. IsTokens first_place (cleared text) z end l.rest) s.split l.front)
    (before_is_prefix s) (no_prefix s)

nothing_spelled : {X : Type 0} (S : List Token → X → Type 0) (text : List ℕ) (ts : List Token) (end : Span)
    (whole : Bool) → IsLexed text ts end whole → (Spelled S ts → ⊥)
    → (x : X) → (us : List Token) × HasTokens text us × S us x → ⊥
nothing_spelled S text ts end true l n x s =
    n (x, subst (λ z. S z x) (sym (one_whole text ts s.0 (lexed_whole text ts end true l refl) s.1)) s.2)
nothing_spelled S text ts end false l n x s = (lexed_refusal text ts end false l refl).0 s.0 s.1

refused_at : {X : Type 0} {S : List Token → X → Type 0} {text : List ℕ} {ts : List Token} {end : Span} {whole : Bool}
    (left : List Token) → IsScanned text ts end whole → IsStopped S ts left
    → IsMisspelled S text (next_place end left)
refused_at {S = S} {text = text} {ts = ts} {end = end} {whole = whole} left a s =
    record {
      characters = a.characters;
      shallow = a.shallow;
      none = nothing_spelled S text ts end whole a.lexed (stopped_nothing s);
      place = place_of_stop text ts end whole left a.lexed s;
    }

cut_short : {X : Type 0} {S : List Token → X → Type 0} {text : List ℕ} {ts : List Token} {end : Span} (x : X)
    → IsScanned text ts end false → S ts x → IsMisspelled S text end
cut_short {S = S} {text = text} {ts = ts} {end = end} x a w =
    let l = a.lexed in
    let r = lexed_refusal text ts end false l refl in
    record {
      characters = a.characters;
      shallow = a.shallow;
      none = λ q i. r.0 i.0 i.1;
      place =
          at_no_token ts end l.rest l.front l.stuck (λ g. (let h = l.all.1 g in cc))
          ([], (x, subst (λ z. S z x) (sym (append-nil ts)) w));
    }

-- the answer for a text, by what was read of its tokens
pub answer_spelled : {X Y : Type 0} (S : List Token → X → Type 0) {text : List ℕ} {ts : List Token} (left : List Token)
    {end : Span} (whole : Bool) (view : Y → X) (read : Result Y ReadError)
    → IsScanned text ts end whole → IsRuleRead IsEnd (SpellsToEnd S) ts view read left
    → IfOk (answered whole end left read) (λ y. IsParsedAs S text (view y))
answer_spelled S {text = text} {ts = ts} left {end = end} true view (Ok y) a r =
    record {
      characters = a.characters;
      shallow = a.shallow;
      spelled = (ts, lexed_whole text ts end true a.lexed refl, r.spelled);
    }
answer_spelled S left false view (Ok y) a r = tt
answer_spelled S left true view (Err Unexpected) a r = tt
answer_spelled S left false view (Err Unexpected) a r = tt
answer_spelled S left true view (Err OutOfMemory) a r = tt
answer_spelled S left false view (Err OutOfMemory) a r = tt

pub answer_refused : {X Y : Type 0} (S : List Token → X → Type 0) {text : List ℕ} {ts : List Token} (left : List Token)
    {end : Span} (whole : Bool) (view : Y → X) (read : Result Y ReadError)
    → IsScanned text ts end whole → IsRuleRead IsEnd (SpellsToEnd S) ts view read left
    → IfErr (answered whole end left read) (IsRefusalOf S text)
answer_refused S left true view (Ok y) a r = tt
answer_refused S left false view (Ok y) a r = cut_short (view y) a r.spelled
answer_refused S left true view (Err Unexpected) a r = refused_at left a r
answer_refused S left false view (Err Unexpected) a r = refused_at left a r
answer_refused S left true view (Err OutOfMemory) a r = tt
answer_refused S left false view (Err OutOfMemory) a r = tt

pub scan_refused : {X : Type 0} (S : List Token → X → Type 0) (text : List ℕ) (e : ParseError) → IsScanRefusal text e
    → IsRefusalOf S text e
scan_refused S text (parse.Byte k) h = h
scan_refused S text (parse.Deep p) h = h
scan_refused S text (parse.Syntax p) h = absurd h
scan_refused S text parse.OutOfMemory h = tt

pub answer_keeps : {X Y : Type 0} (S : List Token → X → Type 0) (ts left : List Token) (end : Span) (whole : Bool)
    (view : Y → X) (read : Result Y ReadError) (Q : Y → Type 0)
    → ((y : Y) → S ts (view y) → Q y) → IsRuleRead IsEnd (SpellsToEnd S) ts view read left
    → IfOk (answered whole end left read) Q
answer_keeps S ts left end true view (Ok y) Q keeps r = keeps y r.spelled
answer_keeps S ts left end false view (Ok y) Q keeps r = tt
answer_keeps S ts left end true view (Err Unexpected) Q keeps r = tt
answer_keeps S ts left end false view (Err Unexpected) Q keeps r = tt
answer_keeps S ts left end true view (Err OutOfMemory) Q keeps r = tt
answer_keeps S ts left end false view (Err OutOfMemory) Q keeps r = tt
