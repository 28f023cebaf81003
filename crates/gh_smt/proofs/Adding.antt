-- Texts that are added one after the other.
use Rattle.std.proofs.Common.{◌≡◌, ◌≢◌, ℕ, zero, suc, ◌+◌, List, [], ◌∷◌, ◌++◌, length, codes, refl, sym, ◌∙◌, ap}
use Rattle.std.proofs.Common.{arith, append_assoc}
use Rattle.std.specs.List.{flat_map, range_with_len}
use Rattle.std.proofs.lemmas.List.{append-nil}
use Rattle.std.proofs.lemmas.Grind.{flat_map-append}
use Rattle.gh_base.specs.declared.atom.Lit.{Lit}
use Rattle.gh_smt.specs.Texts.{Adds, spaced_lit, assertion_text}

pub two : (a b c x y : List ℕ) → Adds a b x → Adds b c y → Adds a c (x ++ y)
two a b c x y p q = record { same = q.same ∙ ap (λ t. t ++ y) p.same ∙ append_assoc a x y }

pub three : (a b c d x y z : List ℕ) → Adds a b x → Adds b c y → Adds c d z → Adds a d (x ++ (y ++ z))
three a b c d x y z p q r = two a b d x (y ++ z) p (two b c d y z q r)

-- a text that is written in six parts
pub six : (o a b c d e f g h i j k l : List ℕ) → o ≡ [] → Adds o a g → Adds a b h → Adds b c i → Adds c d j → Adds d e k
    → Adds e f l
    → f ≡ g ++ (h ++ (i ++ (j ++ (k ++ l))))
six o a b c d e f g h i j k l none p q r s t u =
    (two o a f g (h ++ (i ++ (j ++ (k ++ l)))) p
    (two a b f h (i ++ (j ++ (k ++ l))) q (three b c d f i j (k ++ l) r s (two d e f k l t u)))).same
    ∙ ap (λ w. w ++ (g ++ (h ++ (i ++ (j ++ (k ++ l)))))) none

-- one number more
pub range_more : (a n : ℕ) → range_with_len a (suc n) ≡ range_with_len a n ++ (a + n) ∷ []
range_more a zero = let e : a ≡ a + 0 = omega arith in ap (λ k. k ∷ []) e
range_more a (suc n) =
    let e : a + 1 + n ≡ a + suc n = omega arith in
    ap (λ l. a ∷ l) (range_more (a + 1) n ∙ ap (λ k. range_with_len (a + 1) n ++ k ∷ []) e)

pub one_more : (f : ℕ → List ℕ) (a b c : List ℕ) (n : ℕ) → Adds a b (flat_map f (range_with_len 0 n)) → Adds b c (f n)
    → Adds a c (flat_map f (range_with_len 0 (n + 1)))
one_more f a b c n p q =
    let e : n + 1 ≡ suc n = omega arith in
    let z : 0 + n ≡ n = omega arith in
    let more : flat_map f (range_with_len 0 (n + 1)) ≡ flat_map f (range_with_len 0 n) ++ f n =
    ap (λ k. flat_map f (range_with_len 0 k)) e ∙ ap (flat_map f) (range_more 0 n)
    ∙ flat_map-append f (range_with_len 0 n) ((0 + n) ∷ [])
    ∙ ap (λ t. flat_map f (range_with_len 0 n) ++ t) (append-nil (f (0 + n)) ∙ ap f z) in
    record { same = (two a b c _ _ p q).same ∙ ap (λ t. a ++ t) (sym more) }

-- as many numbers
pub as_many : (f : ℕ → List ℕ) (a b : List ℕ) (n m : ℕ) → n ≡ m → Adds a b (flat_map f (range_with_len 0 n))
    → Adds a b (flat_map f (range_with_len 0 m))
as_many f a b n m e p = record { same = p.same ∙ ap (λ k. a ++ flat_map f (range_with_len 0 k)) e }

pub all_of : (a b : List ℕ) (xs ys : List (List Lit)) → xs ≡ ys → Adds a b (flat_map assertion_text xs)
    → Adds a b (flat_map assertion_text ys)
all_of a b xs ys e p = record { same = p.same ∙ ap (λ zs. a ++ flat_map assertion_text zs) e }

-- an assertion that isn't of one literal
pub many : (ls : List Lit) → length ls ≢ 1
    → assertion_text ls ≡ codes "(assert (or" ++ (flat_map spaced_lit ls ++ codes "))\n")
many [] h = refl
many (l ∷ []) h = absurd (h refl)
many (l ∷ m ∷ ls) h = refl
