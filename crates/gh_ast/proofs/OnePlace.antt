-- A text has one place of a syntax error at most.
use Rattle.std.proofs.Common.{◌≡◌, ℕ, List, [], ◌∷◌, ◌++◌, append_assoc, refl, sym, ap, subst, ◌∙◌}
use Rattle.gh_base.specs.declared.place.Span.{Span}
use Rattle.gh_ast.specs.Tokens.{Token, cleared, first_place, moved_over, IsTokens, nothing, piece, IsStuck}
use Rattle.gh_ast.specs.Place.{begin_of, IsPrefix, IsPlace, at_token, at_no_token, at_end}
use Rattle.gh_ast.proofs.TokenLemmas.{one_piece, one_list, stuck_end}

-- of two lists one goes on with what the other is
data AreNested (ts us : List Token) : Type 0 where
  shorter : (d : List Token) → us ≡ ts ++ d → AreNested ts us
  longer : (d : List Token) → ts ≡ us ++ d → AreNested ts us

on_both : {ks ls ms ts us : List Token} (ns d : List Token) → ts ≡ ks ++ ns → us ≡ ls ++ ms → ks ≡ ls → ms ≡ ns ++ d
    → us ≡ ts ++ d
on_both {ks = ks} {ms = ms} ns d f g o e =
    g ∙ ap (λ x. x ++ ms) (sym o) ∙ ap (λ x. ks ++ x) e ∙ sym (append_assoc ks ns d) ∙ ap (λ x. x ++ d) (sym f)

nested_on : {ks ls ts us : List Token} (ns ms : List Token) → ts ≡ ks ++ ns → us ≡ ls ++ ms → ks ≡ ls → AreNested ns ms
    → AreNested ts us
nested_on ns ms f g o (shorter d e) = shorter d (on_both ns d f g o e)
nested_on ns ms f g o (longer d e) = longer d (on_both ms d g f (sym o) e)

-- tokens at the front of one text
fronts : (p q q' : Span) (text r r' : List ℕ) (ts us : List Token) → IsTokens p text ts q r → IsTokens p text us q' r'
    → AreNested ts us
fronts p q q' text r r' ts us nothing b = shorter us refl
fronts p q q' text r r' ts us (piece e h more f) nothing = longer ts refl
fronts p q q' text r r' ts us (piece {w} {rest} {us = ks} {ts = ns} e h more f)
    (piece {w = v} {rest = rest'} {us = ls} {ts = ms} e' h' more' f') =
    let o = one_piece p w rest v rest' ks ls h h' (sym e ∙ e') in
    let same = subst (λ x. IsTokens (moved_over p x) rest' ms q' r') (sym o.piece) more' in
    let same' = subst (λ x. IsTokens (moved_over p w) x ms q' r') (sym o.rest) same in
    nested_on ns ms f f' o.tokens (fronts (moved_over p w) q q' rest r r' ns ms more same')

-- all tokens of a text go on with those at its front
all_tokens : (p q q' : Span) (text r r' : List ℕ) (ts us : List Token) → IsTokens p text ts q r
    → IsTokens p text us q' r' → IsStuck r' → (d : List Token) × (us ≡ ts ++ d)
all_tokens p q q' text r r' ts us nothing b s = (us, refl)
all_tokens p q q' text r r' ts us (piece {w} {rest} {us = ks} e h more f) nothing s = absurd (s p w rest ks e h)
all_tokens p q q' text r r' ts us (piece {w} {rest} {us = ks} {ts = ns} e h more f)
    (piece {w = v} {rest = rest'} {us = ls} {ts = ms} e' h' more' f') s =
    let o = one_piece p w rest v rest' ks ls h h' (sym e ∙ e') in
    let same = subst (λ x. IsTokens (moved_over p x) rest' ms q' r') (sym o.piece) more' in
    let same' = subst (λ x. IsTokens (moved_over p w) x ms q' r') (sym o.rest) same in
    let d = all_tokens (moved_over p w) q q' rest r r' ns ms more same' s in
    (d.0, on_both ns d.0 f f' o.tokens d.1)

-- what goes on from no prefix is none
no_prefix : (S : List Token → Type 0) (b x c d : List Token) (t : Token) → c ≡ (b ++ t ∷ x) ++ d
    → (IsPrefix S (b ++ t ∷ []) → ⊥) → IsPrefix S c → ⊥
no_prefix S b x c d t e n p =
    let front : c ≡ (b ++ t ∷ []) ++ (x ++ d) = e ∙ append_assoc b (t ∷ x) d ∙ sym (append_assoc b (t ∷ []) (x ++ d)) in
    n ((x ++ d) ++ p.0, subst S (ap (λ z. z ++ p.0) front ∙ append_assoc (b ++ t ∷ []) (x ++ d) p.0) p.1)

-- two tokens of one list are at one place, or one comes after the other
data IsOrder (b c : List Token) (t u : Token) : Type 0 where
  here : t ≡ u → IsOrder b c t u
  left : (d : List Token) → c ≡ b ++ t ∷ d → IsOrder b c t u
  right : (d : List Token) → b ≡ c ++ u ∷ d → IsOrder b c t u

ordered_on : {b c : List Token} {t u : Token} (k l : Token) → k ≡ l → IsOrder b c t u → IsOrder (k ∷ b) (l ∷ c) t u
ordered_on k l e (here f) = here f
ordered_on {b = b} {t = t} k l e (left d f) = left d (ap (λ z. l ∷ z) f ∙ ap (λ z. z ∷ (b ++ t ∷ d)) (sym e))
ordered_on {c = c} {u = u} k l e (right d f) = right d (ap (λ z. k ∷ z) f ∙ ap (λ z. z ∷ (c ++ u ∷ d)) e)

ordered : (b c x y : List Token) (t u : Token) → b ++ t ∷ x ≡ c ++ u ∷ y → IsOrder b c t u
ordered [] [] x y t u e = here cc
ordered [] (l ∷ c) x y t u e = let p : l ≡ t = cc in left c (ap (λ z. z ∷ c) p)
ordered (k ∷ b) [] x y t u e = let p : k ≡ u = cc in right b (ap (λ z. z ∷ b) p)
ordered (k ∷ b) (l ∷ c) x y t u e =
    let p : k ≡ l = cc in
    let f : b ++ t ∷ x ≡ c ++ u ∷ y = cc in
    ordered_on k l p (ordered b c x y t u f)

by_order : (S : List Token → Type 0) (b c : List Token) (t u : Token) → IsPrefix S b → (IsPrefix S (b ++ t ∷ []) → ⊥)
    → IsPrefix S c → (IsPrefix S (c ++ u ∷ []) → ⊥)
    → IsOrder b c t u → t ≡ u
by_order S b c t u p n q m (here e) = e
by_order S b c t u p n q m (left d e) =
    absurd (n (
      d ++ q.0,
      subst S
          (ap (λ z. z ++ q.0) e ∙ append_assoc b (t ∷ d) q.0 ∙ sym (append_assoc b (t ∷ []) (d ++ q.0))) q.1,
    ))
by_order S b c t u p n q m (right d e) =
    absurd (m (
      d ++ p.0,
      subst S
          (ap (λ z. z ++ p.0) e ∙ append_assoc c (u ∷ d) p.0 ∙ sym (append_assoc c (u ∷ []) (d ++ p.0))) p.1,
    ))

order_of : (b c x y : List Token) (t u : Token) → AreNested (b ++ t ∷ x) (c ++ u ∷ y) → IsOrder b c t u
order_of b c x y t u (shorter d e) = ordered b c (x ++ d) y t u (sym (e ∙ append_assoc b (t ∷ x) d))
order_of b c x y t u (longer d e) = ordered b c x (y ++ d) t u (e ∙ append_assoc c (u ∷ y) d)

-- where all tokens are a prefix, none of them is the place
not_within : (S : List Token → Type 0) (text : List ℕ) (b x ts : List Token) (t : Token) (p q : Span) (r rest : List ℕ)
    → IsTokens first_place (cleared text) (b ++ t ∷ x) p r → IsTokens first_place (cleared text) ts q rest
    → IsStuck rest
    → (IsPrefix S (b ++ t ∷ []) → ⊥) → IsPrefix S ts → ⊥
not_within S text b x ts t p q r rest a f s n k =
    let d = all_tokens first_place p q (cleared text) r rest (b ++ t ∷ x) ts a f s in no_prefix S b x ts d.0 t d.1 n k

pub one_place : (S : List Token → Type 0) (text : List ℕ) (p q : Span) → IsPlace S text p → IsPlace S text q → p ≡ q
one_place S text _ _ (at_token b t x p r a k n) (at_token c u y q r' f l m) =
    ap begin_of (by_order S b c t u k n l m
    (order_of b c x y t u (fronts first_place p q (cleared text) r r' (b ++ t ∷ x) (c ++ u ∷ y) a f)))
one_place S text _ q (at_token b t x p r a k n) (at_no_token ts _ rest f s some l) =
    absurd (not_within S text b x ts t p q r rest a f s n l)
one_place S text _ q (at_token b t x p r a k n) (at_end ts _ f l m) =
    absurd (not_within S text b x ts t p q r [] a f stuck_end n l)
one_place S text p _ (at_no_token ts _ rest f s some l) (at_token b t x q r a k n) =
    absurd (not_within S text b x ts t q p r rest a f s n l)
one_place S text p _ (at_end ts _ f l m) (at_token b t x q r a k n) =
    absurd (not_within S text b x ts t q p r [] a f stuck_end n l)
one_place S text p q (at_no_token ts _ r a s some k) (at_no_token us _ r' f s' some' l) =
    (one_list first_place p q (cleared text) r r' ts us a s f s').place
one_place S text p q (at_no_token ts _ r a s some k) (at_end us _ f l m) =
    (one_list first_place p q (cleared text) r [] ts us a s f stuck_end).place
one_place S text p q (at_end ts _ a k n) (at_no_token us _ r' f s some l) =
    (one_list first_place p q (cleared text) [] r' ts us a stuck_end f s).place
one_place S text p q (at_end ts _ a k n) (at_end us _ f l m) =
    (one_list first_place p q (cleared text) [] [] ts us a stuck_end f stuck_end).place
