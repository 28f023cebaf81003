-- Claims and questions are spelled in one way at most.
use Rattle.std.proofs.Common.{◌≡◌, List, [], ◌∷◌, refl, sym, ap, subst}
use Rattle.gh_base.specs.declared.place.Span.{Span}
use Rattle.gh_ast.specs.declared.sign.Keyword.TheVariants as kw
use Rattle.gh_ast.specs.declared.sign.Sign.TheVariants as sg
use Rattle.gh_ast.specs.Tokens.{Token, key, sign}
use Rattle.gh_ast.specs.Questions.{Claim, leaf, denial, no_claims, claim_first, Question}
use Rattle.gh_ast.specs.QuestionGrammar.{SpellsPart, asserted, in_brackets, SpellsDenial, affirmed, denied, SpellsBoth}
use Rattle.gh_ast.specs.QuestionGrammar.{one_denial, denials, SpellsDenials, last_denial, next_denial, SpellsClaim}
use Rattle.gh_ast.specs.QuestionGrammar.{one_both, boths, SpellsBoths, last_both, next_both, SpellsVariables}
use Rattle.gh_ast.specs.QuestionGrammar.{no_variables, some_variables, SpellsQuestion, a_question}
use Rattle.gh_ast.specs.Readings.{IsUnique}
use Rattle.gh_ast.proofs.OneAssertion.{one_formula}
use Rattle.gh_ast.proofs.OneProgram.{one_locals}

-- no part begins with `!`
no_bang : (p : Span) (ts : List Token) (c : Claim) (rest : List Token) → SpellsPart (sign sg.Bang p ∷ ts) c rest → ⊥
no_bang p ts c rest a = elim a [ ]

mutual
  pub one_part : (ts : List Token) → IsUnique (SpellsPart ts)
  one_part _ _ _ r q (asserted a) (asserted b) =
      let one = one_formula _ _ _ _ _ a b in let w = one.rest in record { value = ap leaf one.value; rest = cc }
  one_part _ _ _ r q (in_brackets a) (in_brackets b) =
      let one = one_claim _ _ _ _ _ a b in let w = one.rest in record { value = one.value; rest = cc }

  pub one_denied : (ts : List Token) → IsUnique (SpellsDenial ts)
  one_denied ts x y r q (affirmed a) (affirmed b) = one_part ts x y r q a b
  one_denied _ _ _ r q (affirmed a) (denied b) = absurd (no_bang _ _ _ _ a)
  one_denied _ _ _ r q (denied a) (affirmed b) = absurd (no_bang _ _ _ _ b)
  one_denied _ _ _ r q (denied a) (denied b) =
      let one = one_part _ _ _ _ _ a b in record { value = ap denial one.value; rest = one.rest }

  pub one_conjunction : (ts : List Token) → IsUnique (SpellsBoth ts)
  one_conjunction ts x y r q (one_denial a n) (one_denial b m) = one_denied ts x y r q a b
  one_conjunction ts x _ r q (one_denial a n) (denials {p = p} {us = us} b m) = let one = one_denied ts _ _ _ _ a b in
      absurd (n p us one.rest)
  one_conjunction ts _ y r q (denials {p = p} {us = us} a m) (one_denial b n) = let one = one_denied ts _ _ _ _ a b in
      absurd (n p us (sym one.rest))
  one_conjunction ts _ _ r q (denials {us = us} {cs = l} a d) (denials {us = vs} {cs = m} b e) =
      let one = one_denied ts _ _ _ _ a b in
      let w = one.rest in
      let o : vs ≡ us = cc in
      let two = one_denials us l m r q d (subst (λ z. SpellsDenials z m q) o e) in
      let u = one.value in let v = two.value in
      record { value = cc; rest = two.rest }

  pub one_denials : (ts : List Token) → IsUnique (SpellsDenials ts)
  one_denials ts _ _ r q (last_denial a n) (last_denial b m) =
      let one = one_denied ts _ _ r q a b in
      record { value = ap (λ c. claim_first c no_claims) one.value; rest = one.rest }
  one_denials ts _ _ r q (last_denial a n) (next_denial {p = p} {us = us} b m) = let one = one_denied ts _ _ _ _ a b in
      absurd (n p us one.rest)
  one_denials ts _ _ r q (next_denial {p = p} {us = us} a m) (last_denial b n) = let one = one_denied ts _ _ _ _ a b in
      absurd (n p us (sym one.rest))
  one_denials ts _ _ r q (next_denial {us = us} {cs = l} a d) (next_denial {us = vs} {cs = m} b e) =
      let one = one_denied ts _ _ _ _ a b in
      let w = one.rest in
      let o : vs ≡ us = cc in
      let two = one_denials us l m r q d (subst (λ z. SpellsDenials z m q) o e) in
      let u = one.value in let v = two.value in
      record { value = cc; rest = two.rest }

  pub one_claim : (ts : List Token) → IsUnique (SpellsClaim ts)
  one_claim ts x y r q (one_both a n) (one_both b m) = one_conjunction ts x y r q a b
  one_claim ts x _ r q (one_both a n) (boths {p = p} {us = us} b m) = let one = one_conjunction ts _ _ _ _ a b in
      absurd (n p us one.rest)
  one_claim ts _ y r q (boths {p = p} {us = us} a m) (one_both b n) = let one = one_conjunction ts _ _ _ _ a b in
      absurd (n p us (sym one.rest))
  one_claim ts _ _ r q (boths {us = us} {cs = l} a d) (boths {us = vs} {cs = m} b e) =
      let one = one_conjunction ts _ _ _ _ a b in
      let w = one.rest in
      let o : vs ≡ us = cc in
      let two = one_disjunctions us l m r q d (subst (λ z. SpellsBoths z m q) o e) in
      let u = one.value in let v = two.value in
      record { value = cc; rest = two.rest }

  pub one_disjunctions : (ts : List Token) → IsUnique (SpellsBoths ts)
  one_disjunctions ts _ _ r q (last_both a n) (last_both b m) =
      let one = one_conjunction ts _ _ r q a b in
      record { value = ap (λ c. claim_first c no_claims) one.value; rest = one.rest }
  one_disjunctions ts _ _ r q (last_both a n) (next_both {p = p} {us = us} b m) =
      let one = one_conjunction ts _ _ _ _ a b in absurd (n p us one.rest)
  one_disjunctions ts _ _ r q (next_both {p = p} {us = us} a m) (last_both b n) =
      let one = one_conjunction ts _ _ _ _ a b in absurd (n p us (sym one.rest))
  one_disjunctions ts _ _ r q (next_both {us = us} {cs = l} a d) (next_both {us = vs} {cs = m} b e) =
      let one = one_conjunction ts _ _ _ _ a b in
      let w = one.rest in
      let o : vs ≡ us = cc in
      let two = one_disjunctions us l m r q d (subst (λ z. SpellsBoths z m q) o e) in
      let u = one.value in let v = two.value in
      record { value = cc; rest = two.rest }

pub one_variables : (ts : List Token) → IsUnique (SpellsVariables ts)
one_variables _ _ _ r q no_variables no_variables = record { value = refl; rest = refl }
one_variables _ xs ys r q (some_variables a) (some_variables b) = one_locals _ r q xs ys a b

pub one_question : (ts : List Token) (x y : Question) → SpellsQuestion ts x → SpellsQuestion ts y → x ≡ y
one_question ts _ _ (a_question {p = p} {q = q} {us = us} {vs = vs} {xs = xs} {c = c} {d = d} f g h)
    (a_question {p = p'} {q = q'} {us = us'} {vs = vs'} {xs = ys} {c = c'} {d = d'} f' g' h') =
    let one = one_variables ts xs ys (key kw.Requires p ∷ us) (key kw.Requires p' ∷ us') f f' in
    let w = one.rest in
    let o : us' ≡ us = cc in
    let at : p ≡ p' = cc in
    let two =
    one_claim us c c' (key kw.Ensures q ∷ vs) (key kw.Ensures q' ∷ vs') g
    (subst (λ z. SpellsClaim z c' (key kw.Ensures q' ∷ vs')) o g') in
    let v = two.rest in
    let l : vs' ≡ vs = cc in
    let three = one_claim vs d d' [] [] h (subst (λ z. SpellsClaim z d' []) l h') in
    let i = one.value in let j = two.value in let k = three.value in
    cc
