-- Where reading stops, for rules that are put together from others.
use Rattle.std.proofs.Common.{◌≡◌, List, [], ◌∷◌, ◌++◌, append_assoc, true, false, refl, sym, ap, subst}
use Rattle.gh_ast.specs.Tokens.{Token}
use Rattle.gh_ast.specs.Readings.{IsUnique}
use Rattle.gh_parse.specs.Stops.{NoToken, Tok, tok, Any, any, Seq, seq, Opt, without, with, Then, and_then, Tail, ended}
use Rattle.gh_parse.specs.Stops.{further, goes_on, EndsHere, IsAny, IsEnd, IsAlike, SameNext, same, none, Stops}

pub alike_same : (t : Token) (ts us : List Token) → IsAlike (t ∷ ts) (t ∷ us)
alike_same t ts us k g n rest e = let p : t ∷ ts ≡ k ∷ ts = cc in n ts p

pub alike_plain : (ts us : List Token) → EndsHere us → IsAlike ts us
alike_plain ts us p k g n = p k g

pub alike_after : (a us vs : List Token) → IsAlike us vs → IsAlike (a ++ us) (a ++ vs)
alike_after [] us vs h = h
alike_after (t ∷ a) us vs h = alike_same t (a ++ us) (a ++ vs)

pub alike_next : {ts us : List Token} → SameNext ts us → IsAlike ts us
alike_next (same {t = t} {ts = ts} {us = us}) = alike_same t ts us
alike_next none = λ k g n. n

pub plain_first : (k : Token) (rest : List Token) → goes_on k ≡ false → EndsHere (k ∷ rest)
plain_first k rest f j g more e = let p : k ≡ j = cc in let q = ap goes_on p in cc

pub plain_end : (rest : List Token) → IsEnd rest → EndsHere rest
plain_end rest e k g more f = cc

pub next_after : (a : List Token) {ts us : List Token} → SameNext ts us → SameNext (a ++ ts) (a ++ us)
next_after [] d = d
next_after (x ∷ a) d = same

-- tokens that begin with this one
pub begins : {t : Token} {us vs xs : List Token} → us ≡ t ∷ vs → SameNext us xs → (ys : List Token) × (xs ≡ t ∷ ys)
begins {t = t} e (same {us = ys}) = (ys, cc)
begins e none = cc

pub begins_not : {X : Type 0} {k : X → Token} {us xs : List Token} → NoToken k us → SameNext us xs → NoToken k xs
begins_not {k = k} n (same {t = t} {ts = ts}) q rest e = let p : t ∷ ts ≡ k q ∷ ts = cc in n q ts p
begins_not n none q rest e = n q rest e

pub told : {X : Type 0} {k : X → Token} {us vs : List Token} (x : X) (P Q : List Token → List Token → Type 0)
    → us ≡ k x ∷ vs → ((x : X) (xs r : List Token) → Q (k x ∷ xs) r → P (k x ∷ xs) r)
    → (xs r : List Token) → SameNext us xs → Q xs r → P xs r
told x P Q e part xs r d h = let b = begins e d in
    subst (λ z. P z r) (sym b.1) (part x b.0 r (subst (λ z. Q z r) b.1 h))

-- what was read is read before each rest that is alike, and nothing else is read
pub record Exact (P : List Token → List Token → Type 0) (ts us : List Token) : Type 0 where
  pub taken : List Token
  pub split : ts ≡ taken ++ us
  pub again : (vs : List Token) → IsAlike us vs → P (taken ++ vs) vs
  pub only : (vs : List Token) → P ts vs → us ≡ vs

only_tok : {X : Type 0} {k : X → Token} {ts rest vs : List Token} (p : X) → ts ≡ k p ∷ rest → Tok k ts vs → rest ≡ vs
only_tok p e tok = cc

pub exact_tok : {X : Type 0} {k : X → Token} {ts rest : List Token} → Tok k ts rest → Exact (Tok k) ts rest
exact_tok {k = k} (tok {p = p}) =
    record { taken = k p ∷ []; split = refl; again = λ vs h. tok; only = λ vs h. only_tok p refl h }

only_seq : {A B : List Token → List Token → Type 0} {ts us rest vs : List Token} → Exact A ts us → Exact B us rest
    → Seq A B ts vs → rest ≡ vs
only_seq {B = B} {vs = vs} f g (seq a b) = g.only vs (subst (λ z. B z vs) (sym (f.only _ a)) b)

pub exact_seq : {A B : List Token → List Token → Type 0} {ts us rest : List Token} → Exact A ts us → Exact B us rest
    → Exact (Seq A B) ts rest
exact_seq {A = A} {B = B} {us = us} {rest = rest} f g =
    record {
      taken = f.taken ++ g.taken;
      split = rw (append_assoc, ← g.split) f.split;
      again =
          λ vs h. rw append_assoc (seq
          (f.again (g.taken ++ vs) (subst (λ z. IsAlike z (g.taken ++ vs)) (sym g.split)
          (alike_after g.taken rest vs h))) (g.again vs h));
      only = λ vs h. only_seq f g h;
    }

only_without : {X : Type 0} {k : X → Token} {A : List Token → List Token → Type 0} {ts vs : List Token} → NoToken k ts
    → Opt k A ts vs → ts ≡ vs
only_without n (without m) = refl
only_without n (with a) = absurd (n _ _ refl)

pub exact_without : {X : Type 0} {k : X → Token} {A : List Token → List Token → Type 0} {ts : List Token}
    → ((p : X) → goes_on (k p) ≡ true) → NoToken k ts → Exact (Opt k A) ts ts
exact_without {k = k} g n =
    record {
      taken = [];
      split = refl;
      again = λ vs h. without (λ p. h (k p) (g p) (n p));
      only = λ vs h. only_without n h;
    }

only_with : {X : Type 0} {k : X → Token} {A : List Token → List Token → Type 0} {xs ts us vs : List Token} (p : X)
    → Exact A ts us → xs ≡ k p ∷ ts → Opt k A xs vs → us ≡ vs
only_with p f e (without m) = absurd (m _ _ e)
only_with {A = A} {ts = ts} {vs = vs} p f e (with {ts = ys} a) = let p : ys ≡ ts = cc in
    f.only vs (subst (λ z. A z vs) p a)

pub exact_with : {X : Type 0} {k : X → Token} {A : List Token → List Token → Type 0} {ts us : List Token} (p : X)
    → Exact A ts us → Exact (Opt k A) (k p ∷ ts) us
exact_with {k = k} p f = record {
  taken = k p ∷ f.taken;
  split = ap (λ z. k p ∷ z) f.split;
  again = λ vs h. with (f.again vs h);
  only = λ vs h. only_with p f refl h;
}

-- a rule that is another, for these tokens
pub exact_by : {P Q : List Token → List Token → Type 0} {ts us : List Token}
    → ((xs r : List Token) → P xs r → Q xs r) → ((r : List Token) → Q ts r → P ts r) → Exact P ts us → Exact Q ts us
exact_by make part f = record {
  taken = f.taken;
  split = f.split;
  again = λ vs h. make _ vs (f.again vs h);
  only = λ vs h. f.only vs (part vs h);
}

-- what one derivation gives, by the law that there is one at most
only_any : {X : Type 0} {P : List Token → X → List Token → Type 0} {ts us vs : List Token}
    → ((y : X) (vs : List Token) → P ts y vs → us ≡ vs) → Any P ts vs → us ≡ vs
only_any one (any b) = one _ _ b

pub kept_rest : {X : Type 0} {P : List Token → X → List Token → Type 0} {Q : List Token → List Token → Type 0}
    {ts us : List Token}
    → ((y : X) (vs : List Token) → P ts y vs → us ≡ vs) → ((xs r : List Token) → Q xs r → Any P xs r) → Exact Q ts us
    → Exact (Any P) ts us
kept_rest one make f = record {
  taken = f.taken;
  split = f.split;
  again = λ vs h. make _ vs (f.again vs h);
  only = λ vs b. only_any one b;
}

pub kept : {X : Type 0} {P : List Token → X → List Token → Type 0} {Q : List Token → List Token → Type 0}
    {ts us : List Token} (x : X)
    → IsUnique (P ts) → P ts x us → ((xs r : List Token) → Q xs r → Any P xs r) → Exact Q ts us → Exact (Any P) ts us
kept x one a make f = kept_rest (λ y vs b. (one _ _ _ _ a b).rest) make f

-- a law on derivations, for any of them
pub each : {X : Type 0} {P : List Token → X → List Token → Type 0}
    → ((ts : List Token) (x : X) (us : List Token) → P ts x us → Exact (Any P) ts us)
    → (ts us : List Token) → Any P ts us → Exact (Any P) ts us
each f _ _ (any a) = f _ _ _ a

-- a rule has a sentence before each rest that may follow, and it begins with nothing that goes on
pub record Ends (F : List Token → Type 0) (P : List Token → List Token → Type 0) : Type 0 where
  pub sentence : (rest : List Token) → F rest → (us : List Token) × EndsHere us × P us rest

pub ends_tok : {X : Type 0} {F : List Token → Type 0} {k : X → Token} (p : X) → goes_on (k p) ≡ false → Ends F (Tok k)
ends_tok {k = k} p f = record { sentence = λ rest h. (k p ∷ rest, plain_first (k p) rest f, tok) }

pub ends_seq : {F : List Token → Type 0} {A B : List Token → List Token → Type 0} → Ends EndsHere A → Ends F B
    → Ends F (Seq A B)
ends_seq f g = record {
  sentence = λ rest h.
      (let b = g.sentence rest h in let a = f.sentence b.0 b.1 in (a.0, a.1, seq a.2 b.2));
}

pub ends_opt : {X : Type 0} {k : X → Token} {A : List Token → List Token → Type 0} → ((p : X) → goes_on (k p) ≡ true)
    → Ends EndsHere (Opt k A)
ends_opt {k = k} g = record { sentence = λ rest h. (rest, h, without (λ p. h (k p) (g p))) }

pub ends_by : {F : List Token → Type 0} {P Q : List Token → List Token → Type 0}
    → ((xs r : List Token) → P xs r → Q xs r) → Ends F P → Ends F Q
ends_by make f = record { sentence = λ rest h. (let p = f.sentence rest h in (p.0, p.1, make p.0 rest p.2)) }

-- a token that isn't there
stuck_tok : {X : Type 0} {k : X → Token} {us rest : List Token} → NoToken k us → Tok k us rest → ⊥
stuck_tok n tok = n _ _ refl

pub stops_tok : {X : Type 0} {F : List Token → Type 0} {k : X → Token} {ts : List Token} (p : X) → goes_on (k p) ≡ false
    → NoToken k ts → Stops F (Tok k) ts ts
stops_tok {k = k} {ts = ts} p f n =
    record {
      before = [];
      split = refl;
      viable = λ rest h. (k p ∷ rest, alike_plain ts (k p ∷ rest) (plain_first (k p) rest f), tok);
      stuck = λ us rest d h. stuck_tok (begins_not n d) h;
    }

-- in the first of two
pub stuck_seq : {A B : List Token → List Token → Type 0} {ts rest : List Token} → ((us : List Token) → A ts us → ⊥)
    → Seq A B ts rest → ⊥
stuck_seq n (seq a b) = n _ a

pub first : {F : List Token → Type 0} {A B : List Token → List Token → Type 0} {ts left : List Token} → Ends F B
    → Stops EndsHere A ts left → Stops F (Seq A B) ts left
first f s =
    record {
      before = s.before;
      split = s.split;
      viable = λ rest h. (let b = f.sentence rest h in let a = s.viable b.0 b.1 in (a.0, a.1, seq a.2 b.2));
      stuck = λ us rest d h. stuck_seq (λ vs a. s.stuck us vs d a) h;
    }

-- in what comes after the first
stuck_next : {A B : List Token → List Token → Type 0} {ts us rest : List Token} → Exact A ts us → (B us rest → ⊥)
    → Seq A B ts rest → ⊥
stuck_next {B = B} {rest = rest} f n (seq a b) = n (subst (λ z. B z rest) (sym (f.only _ a)) b)

alike_stop : {F : List Token → Type 0} {B : List Token → List Token → Type 0} {us left : List Token}
    (s : Stops F B us left) (xs : List Token)
    → SameNext left xs → IsAlike us (s.before ++ xs)
alike_stop s xs d = subst (λ z. IsAlike z (s.before ++ xs)) (sym s.split) (alike_after s.before _ xs (alike_next d))

pub next : {F : List Token → Type 0} {A B : List Token → List Token → Type 0} {ts us left : List Token}
    → ((xs ys : List Token) → A xs ys → Exact A xs ys) → A ts us → Stops F B us left → Stops F (Seq A B) ts left
next {A = A} {B = B} {ts = ts} {us = us} exact a s =
    let f = exact ts us a in
    record {
      before = f.taken ++ s.before;
      split = rw (append_assoc, ← s.split) f.split;
      viable = λ rest h. (
          let b = s.viable rest h in
          let l : IsAlike (f.taken ++ us) (f.taken ++ (s.before ++ b.0)) =
          alike_after f.taken us (s.before ++ b.0) b.1 in (
            b.0,
            rw append_assoc (subst (λ z. IsAlike z (f.taken ++ (s.before ++ b.0))) (sym f.split) l),
            rw append_assoc (seq (f.again (s.before ++ b.0) b.1) b.2),
          )
          );
      stuck = λ xs rest d h. (
          let x = exact (f.taken ++ (s.before ++ xs)) (s.before ++ xs) (f.again (s.before ++ xs) (alike_stop s xs d)) in
          let j : Seq A B (f.taken ++ (s.before ++ xs)) rest = rw (← append_assoc) h in
          stuck_next x (s.stuck xs rest d) j
          );
    }

-- after tokens that are the same in all that begin with them
pub through : {F : List Token → Type 0} {P Q : List Token → List Token → Type 0} {us left : List Token} (a : List Token)
    → ((xs r : List Token) → P xs r → Q (a ++ xs) r) → ((xs r : List Token) → SameNext us xs → Q (a ++ xs) r → P xs r)
    → Stops F P us left → Stops F Q (a ++ us) left
through {P = P} {Q = Q} {us = us} a make part s =
    record {
      before = a ++ s.before;
      split = rw (append_assoc, ← s.split) refl;
      viable = λ rest h. (
          let b = s.viable rest h in (
            b.0,
            rw append_assoc (alike_after a us (s.before ++ b.0) b.1),
            rw append_assoc (make (s.before ++ b.0) rest b.2),
          )
          );
      stuck = λ xs rest d h. (
          let j : Q (a ++ (s.before ++ xs)) rest = rw (← append_assoc) h in
          let k : SameNext us (s.before ++ xs) =
          subst (λ z. SameNext z (s.before ++ xs)) (sym s.split) (next_after s.before d) in
          s.stuck xs rest d (part (s.before ++ xs) rest k j)
          );
    }

-- a rule that is another, for tokens that begin as these do
pub by : {F : List Token → Type 0} {P Q : List Token → List Token → Type 0} {us left : List Token}
    → ((xs r : List Token) → P xs r → Q xs r) → ((xs r : List Token) → SameNext us xs → Q xs r → P xs r)
    → Stops F P us left → Stops F Q us left
by make part s = through [] make part s

-- rules that are the same
pub form : {F : List Token → Type 0} {P Q : List Token → List Token → Type 0} {us left : List Token}
    → ((xs r : List Token) → P xs r → Q xs r) → ((xs r : List Token) → Q xs r → P xs r) → Stops F P us left
    → Stops F Q us left
form make part s = by make (λ xs r d h. part xs r h) s

pub opt_rest : {X : Type 0} {k : X → Token} {A : List Token → List Token → Type 0} {xs ts rest : List Token} (p : X)
    → xs ≡ k p ∷ ts → Opt k A xs rest → A ts rest
opt_rest p e (without n) = absurd (n _ _ e)
opt_rest {A = A} {ts = ts} {rest = rest} p e (with {ts = ys} a) = let p : ys ≡ ts = cc in subst (λ z. A z rest) p a

pub in_opt : {X : Type 0} {k : X → Token} {A : List Token → List Token → Type 0} {ts us left : List Token} (p : X)
    → us ≡ k p ∷ ts → Stops EndsHere A ts left → Stops EndsHere (Opt k A) us left
in_opt {k = k} {A = A} {left = left} p e f =
    subst (λ z. Stops EndsHere (Opt k A) z left) (sym e)
    (through (k p ∷ []) (λ xs r h. with h) (λ xs r d h. opt_rest p refl h) f)

-- after a token
pub after : {X : Type 0} {k : X → Token} {F : List Token → Type 0} {B : List Token → List Token → Type 0}
    {ts us left : List Token} (p : X) → ts ≡ k p ∷ us → Stops F B us left → Stops F (Seq (Tok k) B) ts left
after {k = k} {us = us} p e s = next (λ xs ys a. exact_tok a) (subst (λ z. Tok k z us) (sym e) tok) s

-- where what follows depends on the value
pub record ExactAs {X : Type 0} (P : List Token → X → List Token → Type 0) (ts : List Token) (x : X)
    (us : List Token) : Type 0 where
  pub taken : List Token
  pub split : ts ≡ taken ++ us
  pub again : (vs : List Token) → IsAlike us vs → P (taken ++ vs) x vs
  pub value : (y : X) (vs : List Token) → P ts y vs → x ≡ y
  pub only : (y : X) (vs : List Token) → P ts y vs → us ≡ vs

any_only : {X : Type 0} {P : List Token → X → List Token → Type 0} {ts us vs : List Token} {x : X} → ExactAs P ts x us
    → Any P ts vs → us ≡ vs
any_only f (any a) = f.only _ _ a

pub exact_any : {X : Type 0} {P : List Token → X → List Token → Type 0} {ts us : List Token} {x : X} → ExactAs P ts x us
    → Exact (Any P) ts us
exact_any f = record {
  taken = f.taken;
  split = f.split;
  again = λ vs h. any (f.again vs h);
  only = λ vs h. any_only f h;
}

any_then : {X : Type 0} {A : List Token → X → List Token → Type 0} {B : X → List Token → List Token → Type 0}
    {ts us rest : List Token}
    → ((x : X) → B x us rest) → Any A ts us → Then A B ts rest
any_then f (any {x = x} a) = and_then a (f x)

stuck_then : {X : Type 0} {A : List Token → X → List Token → Type 0} {B : X → List Token → List Token → Type 0}
    {ts rest : List Token}
    → ((us : List Token) → Any A ts us → ⊥) → Then A B ts rest → ⊥
stuck_then n (and_then a b) = n _ (any a)

pub first_then : {X : Type 0} {A : List Token → X → List Token → Type 0} {B : X → List Token → List Token → Type 0}
    {ts left : List Token}
    → ((rest : List Token) → EndsHere rest → (us : List Token) × EndsHere us × ((x : X) → B x us rest))
    → Stops EndsHere (Any A) ts left → Stops EndsHere (Then A B) ts left
first_then f s =
    record {
      before = s.before;
      split = s.split;
      viable = λ rest h. (let b = f rest h in let a = s.viable b.0 b.1 in (a.0, a.1, any_then b.2 a.2));
      stuck = λ us rest d h. stuck_then (λ vs a. s.stuck us vs d a) h;
    }

stuck_next_then : {X : Type 0} {A : List Token → X → List Token → Type 0} {B : X → List Token → List Token → Type 0}
    {ts us rest : List Token} {x : X}
    → ExactAs A ts x us → (B x us rest → ⊥) → Then A B ts rest → ⊥
stuck_next_then {B = B} {us = us} {rest = rest} f n (and_then {x = y} {us = ws} a b) =
    n (subst (λ z. B z us rest) (sym (f.value y ws a)) (subst (λ z. B y z rest) (sym (f.only y ws a)) b))

pub next_then : {X : Type 0} {F : List Token → Type 0} {A : List Token → X → List Token → Type 0}
    {B : X → List Token → List Token → Type 0} {ts us left : List Token} {x : X}
    → ((xs : List Token) (y : X) (ys : List Token) → A xs y ys → ExactAs A xs y ys) → A ts x us → Stops F (B x) us left
    → Stops F (Then A B) ts left
next_then {A = A} {B = B} {ts = ts} {us = us} {x = x} exact a s =
    let f = exact ts x us a in
    record {
      before = f.taken ++ s.before;
      split = rw (append_assoc, ← s.split) f.split;
      viable = λ rest h. (
          let b = s.viable rest h in
          let l : IsAlike (f.taken ++ us) (f.taken ++ (s.before ++ b.0)) =
          alike_after f.taken us (s.before ++ b.0) b.1 in (
            b.0,
            rw append_assoc (subst (λ z. IsAlike z (f.taken ++ (s.before ++ b.0))) (sym f.split) l),
            rw append_assoc (and_then (f.again (s.before ++ b.0) b.1) b.2),
          )
          );
      stuck = λ xs rest d h. (
          let y =
          exact (f.taken ++ (s.before ++ xs)) x (s.before ++ xs) (f.again (s.before ++ xs) (alike_stop s xs d)) in
          let j : Then A B (f.taken ++ (s.before ++ xs)) rest = rw (← append_assoc) h in
          stuck_next_then y (s.stuck xs rest d) j
          );
    }

-- here, after tokens with which it could have gone on
pub here : {F : List Token → Type 0} {Q : List Token → List Token → Type 0} {us : List Token} (a : List Token)
    → ((rest : List Token) → F rest → (vs : List Token) × EndsHere vs × Q (a ++ vs) rest)
    → ((xs r : List Token) → SameNext us xs → Q (a ++ xs) r → ⊥) → Stops F Q (a ++ us) us
here {us = us} a more refuse =
    record {
      before = a;
      split = refl;
      viable = λ rest h. (let b = more rest h in (b.0, alike_after a us b.0 (alike_plain us b.0 b.1), b.2));
      stuck = λ xs rest d h. refuse xs rest d h;
    }

-- tokens that stayed
pub at_same : {F : List Token → Type 0} {P : List Token → List Token → Type 0} {ts us left : List Token} → us ≡ ts
    → Stops F P us left → Stops F P ts left
at_same {F = F} {P = P} {left = left} e s = subst (λ z. Stops F P z left) e s

-- after a token that is there
pub past : {F : List Token → Type 0} {P Q : List Token → List Token → Type 0} {t : Token} {ts us left : List Token}
    → ts ≡ t ∷ us
    → ((xs r : List Token) → P xs r → Q (t ∷ xs) r) → ((xs r : List Token) → SameNext us xs → Q (t ∷ xs) r → P xs r)
    → Stops F P us left → Stops F Q ts left
past {F = F} {Q = Q} {t = t} {left = left} e make part s =
    subst (λ z. Stops F Q z left) (sym e) (through (t ∷ []) make part s)

-- no sentence begins as these tokens do
pub nothing_here : {F : List Token → Type 0} {Q : List Token → List Token → Type 0} {us : List Token} → Ends F Q
    → ((xs r : List Token) → SameNext us xs → Q xs r → ⊥) → Stops F Q us us
nothing_here f refuse = here [] (λ rest h. f.sentence rest h) refuse

-- a token that was taken
pub taken_tok : {X : Type 0} {k : X → Token} {ts us : List Token} (p : X) → ts ≡ k p ∷ us → Tok k ts us
taken_tok {k = k} {us = us} p e = subst (λ z. Tok k z us) (sym e) tok

-- lists with separators, and what ends them
apart_at : {X Y : Type 0} {s : X → Token} {k : Y → Token} {xs ts rest : List Token} (p : X)
    → ((x : X) (y : Y) → s x ≡ k y → ⊥) → xs ≡ s p ∷ ts → Tok k xs rest → ⊥
apart_at p n e (tok {p = q}) = n p q cc

pub apart : {X Y : Type 0} {s : X → Token} {k : Y → Token} → ((x : X) (y : Y) → s x ≡ k y → ⊥)
    → (p : X) (ts rest : List Token) → Tok k (s p ∷ ts) rest → ⊥
apart n p ts rest a = apart_at p n refl a

pub apart_seq : {X : Type 0} {A B : List Token → List Token → Type 0} (s : X → Token)
    → ((p : X) (ts rest : List Token) → A (s p ∷ ts) rest → ⊥)
    → (p : X) (ts rest : List Token) → Seq A B (s p ∷ ts) rest → ⊥
apart_seq s n p ts rest (seq a b) = n p ts _ a

tail_rest : {X : Type 0} {s : X → Token} {E A : List Token → List Token → Type 0} {xs ts rest : List Token} (p : X)
    → ((p : X) (ts rest : List Token) → E (s p ∷ ts) rest → ⊥)
    → xs ≡ s p ∷ ts → Tail s E A xs rest → A ts rest
tail_rest {E = E} {ts = ts} {rest = rest} p n e (ended b) = absurd (n p ts rest (subst (λ z. E z rest) e b))
tail_rest {A = A} {ts = ts} {rest = rest} p n e (further {ts = ys} a) = let q : ys ≡ ts = cc in
    subst (λ z. A z rest) q a

pub in_tail : {X : Type 0} {s : X → Token} {F : List Token → Type 0} {E A : List Token → List Token → Type 0}
    {ts us left : List Token} (p : X)
    → ((p : X) (ts rest : List Token) → E (s p ∷ ts) rest → ⊥) → us ≡ s p ∷ ts → Stops F A ts left
    → Stops F (Tail s E A) us left
in_tail p n e f = past e (λ xs r h. further {p = p} h) (λ xs r d h. tail_rest p n refl h) f

make_ended : {X : Type 0} {s : X → Token} {E A : List Token → List Token → Type 0} (xs r : List Token) → E xs r
    → Tail s E A xs r
make_ended _ _ b = ended b

part_ended : {X : Type 0} {s : X → Token} {E A : List Token → List Token → Type 0} (xs r : List Token) → NoToken s xs
    → Tail s E A xs r → E xs r
part_ended _ _ n (ended b) = b
part_ended _ _ n (further a) = absurd (n _ _ refl)

pub no_tail : {X : Type 0} {s : X → Token} {F : List Token → Type 0} {E A : List Token → List Token → Type 0}
    {us left : List Token} → NoToken s us → Stops F E us left → Stops F (Tail s E A) us left
no_tail n f = by make_ended (λ xs r d h. part_ended xs r (begins_not n d) h) f

pub ends_tail : {X : Type 0} {s : X → Token} {F : List Token → Type 0} {E A : List Token → List Token → Type 0}
    → Ends F E → Ends F (Tail s E A)
ends_tail f = ends_by make_ended f

only_ended : {X : Type 0} {s : X → Token} {E A : List Token → List Token → Type 0} {ts us vs : List Token}
    → ((p : X) (ts rest : List Token) → E (s p ∷ ts) rest → ⊥) → E ts us → Exact E ts us
    → Tail s E A ts vs → us ≡ vs
only_ended n b f (ended c) = f.only _ c
only_ended n b f (further a) = absurd (n _ _ _ b)

pub exact_ended : {X : Type 0} {s : X → Token} {E A : List Token → List Token → Type 0} {ts us : List Token}
    → ((p : X) (ts rest : List Token) → E (s p ∷ ts) rest → ⊥) → E ts us → Exact E ts us
    → Exact (Tail s E A) ts us
exact_ended n b f = record {
  taken = f.taken;
  split = f.split;
  again = λ vs h. ended (f.again vs h);
  only = λ vs h. only_ended n b f h;
}

only_further : {X : Type 0} {s : X → Token} {E A : List Token → List Token → Type 0} {xs ts us vs : List Token} (p : X)
    → ((p : X) (ts rest : List Token) → E (s p ∷ ts) rest → ⊥) → Exact A ts us
    → xs ≡ s p ∷ ts → Tail s E A xs vs → us ≡ vs
only_further p n f e h = f.only _ (tail_rest p n e h)

pub exact_further : {X : Type 0} {s : X → Token} {E A : List Token → List Token → Type 0} {ts us : List Token} (p : X)
    → ((p : X) (ts rest : List Token) → E (s p ∷ ts) rest → ⊥) → Exact A ts us
    → Exact (Tail s E A) (s p ∷ ts) us
exact_further {s = s} p n f =
    record {
      taken = s p ∷ f.taken;
      split = ap (λ z. s p ∷ z) f.split;
      again = λ vs h. further (f.again vs h);
      only = λ vs h. only_further p n f refl h;
    }

-- where reading stops, whatever it could go on with
pub record Breaks (F : List Token → Type 0) (P : List Token → List Token → Type 0) (ts left : List Token) : Type 0 where
  pub before : List Token
  pub split : ts ≡ before ++ left
  pub viable : (rest : List Token) → F rest → (us : List Token) × P (before ++ us) rest
  pub stuck : (us rest : List Token) → SameNext left us → P (before ++ us) rest → ⊥

stuck_missing : {X : Type 0} {k : X → Token} {B : List Token → List Token → Type 0} {xs rest : List Token}
    → NoToken k xs → Seq (Tok k) B xs rest → ⊥
stuck_missing n (seq tok b) = n _ _ refl

-- a token that isn't there, and by which something could have gone on
pub breaks_tok : {X : Type 0} {k : X → Token} {F : List Token → Type 0} {B : List Token → List Token → Type 0}
    {ts : List Token} (p : X) → Ends F B → NoToken k ts → Breaks F (Seq (Tok k) B) ts ts
breaks_tok {k = k} p f n =
    record {
      before = [];
      split = refl;
      viable = λ rest h. (let b = f.sentence rest h in (k p ∷ b.0, seq tok b.2));
      stuck = λ us rest d h. stuck_missing (begins_not n d) h;
    }

only_after : {X : Type 0} {k : X → Token} {B : List Token → List Token → Type 0} {xs ys rest : List Token} (p : X)
    → ys ≡ k p ∷ xs → Seq (Tok k) B ys rest → B xs rest
only_after {B = B} {xs = xs} {rest = rest} p e (seq {us = us} a b) = subst (λ z. B z rest) (sym (only_tok p e a)) b

-- after a token that ends what is before it
pub after_any : {X : Type 0} {k : X → Token} {F : List Token → Type 0} {B : List Token → List Token → Type 0}
    {us left : List Token} (p : X) → Breaks F B us left → Stops F (Seq (Tok k) B) (k p ∷ us) left
after_any {k = k} {us = us} p s =
    record {
      before = k p ∷ s.before;
      split = ap (λ z. k p ∷ z) s.split;
      viable = λ rest h. (let b = s.viable rest h in (b.0, alike_same (k p) us (s.before ++ b.0), seq tok b.1));
      stuck = λ xs rest d h. s.stuck xs rest d (only_after p refl h);
    }

-- a rule has a sentence, which may begin with what goes on
pub record Sentences (F : List Token → Type 0) (P : List Token → List Token → Type 0) : Type 0 where
  pub sentence : (rest : List Token) → F rest → (us : List Token) × P us rest

pub sentences_tok : {X : Type 0} {k : X → Token} {F : List Token → Type 0} {B : List Token → List Token → Type 0}
    (p : X) → Ends F B → Sentences F (Seq (Tok k) B)
sentences_tok {k = k} p f = record { sentence = λ rest h. (let b = f.sentence rest h in (k p ∷ b.0, seq tok b.2)) }

pub ends_seq_any : {F : List Token → Type 0} {A B : List Token → List Token → Type 0} → Ends IsAny A → Sentences F B
    → Ends F (Seq A B)
ends_seq_any f g = record {
  sentence = λ rest h.
      (let b = g.sentence rest h in let a = f.sentence b.0 tt in (a.0, a.1, seq a.2 b.1));
}

pub of_any : {F : List Token → Type 0} {P : List Token → List Token → Type 0} {ts left : List Token}
    → Stops IsAny P ts left → Stops F P ts left
of_any s = record { before = s.before; split = s.split; viable = λ rest h. s.viable rest tt; stuck = s.stuck }

pub first_any : {F : List Token → Type 0} {A B : List Token → List Token → Type 0} {ts left : List Token}
    → Sentences F B → Stops IsAny A ts left → Stops F (Seq A B) ts left
first_any f s =
    record {
      before = s.before;
      split = s.split;
      viable = λ rest h. (let b = f.sentence rest h in let a = s.viable b.0 tt in (a.0, a.1, seq a.2 b.1));
      stuck = λ us rest d h. stuck_seq (λ vs a. s.stuck us vs d a) h;
    }

-- what stands between two tokens, and more
split_apart : {X Y : Type 0} {o : X → Token} {k : Y → Token} {A B : List Token → List Token → Type 0}
    (xs r : List Token) → Seq (Seq (Tok o) (Seq A (Tok k))) B xs r → Seq (Tok o) (Seq A (Seq (Tok k) B)) xs r
split_apart _ _ (seq (seq a (seq b c)) d) = seq a (seq b (seq c d))

joined : {X Y : Type 0} {o : X → Token} {k : Y → Token} {A B : List Token → List Token → Type 0} (xs r : List Token)
    → Seq (Tok o) (Seq A (Seq (Tok k) B)) xs r → Seq (Seq (Tok o) (Seq A (Tok k))) B xs r
joined _ _ (seq a (seq b (seq c d))) = seq (seq a (seq b c)) d

pub after_between : {X Y : Type 0} {o : X → Token} {k : Y → Token} {F : List Token → Type 0}
    {A B : List Token → List Token → Type 0} {ts us left : List Token}
    → ((xs ys : List Token) → A xs ys → Exact A xs ys) → Seq (Tok o) (Seq A (Tok k)) ts us → Breaks F B us left
    → Stops F (Seq (Seq (Tok o) (Seq A (Tok k))) B) ts left
after_between exact (seq (tok {p = p}) (seq a (tok {p = q}))) s =
    form joined split_apart (after p refl (next exact a (after_any q s)))

-- the first part is another rule
make_first : {A C B : List Token → List Token → Type 0} → ((xs r : List Token) → A xs r → C xs r) → (xs r : List Token)
    → Seq A B xs r → Seq C B xs r
make_first f _ _ (seq a b) = seq (f _ _ a) b

pub form_first : {F : List Token → Type 0} {A C B : List Token → List Token → Type 0} {ts left : List Token}
    → ((xs r : List Token) → A xs r → C xs r) → ((xs r : List Token) → C xs r → A xs r) → Stops F (Seq A B) ts left
    → Stops F (Seq C B) ts left
form_first make part s = form (make_first make) (make_first part) s
